-- `filed_record::judge_call` meets its contract.
use native.Mathlib.Omega.{arith}
use Rattle.filed_record.proofs.Calls.{refuses_bad, refuses_more, refuses_calls, refuses_text, files_call}
use Rattle.filed_record.proofs.call.judge_call.Goals as goal

pub returns-in_default : goal.returns-in_default
returns-in_default c = refuses_bad _ _ c.in_default.ensures

pub returns-then-entry-call : goal.returns-then-entry-call
returns-then-entry-call c = refuses_more _ _ c.in-Some.ensures c.if-entry-call.true

pub returns-then-size-ge-RECORD_CALLS : goal.returns-then-size-ge-RECORD_CALLS
returns-then-size-ge-RECORD_CALLS c = refuses_calls _ _ c.in-Some.ensures c.if-entry-call.false (omega (arith, c.if-size-ge-RECORD_CALLS.true))

pub returns-then-size-entry : goal.returns-then-size-entry
returns-then-size-entry c = refuses_text _ _ c.in-Some.ensures c.if-entry-call.false (omega (arith, c.if-size-entry.true, c.requires))

pub returns : goal.returns
returns c =
    files_call _ _ c.in-Some.ensures c.if-entry-call.false (omega (arith, c.if-size-ge-RECORD_CALLS.false)) (omega (arith, c.if-size-entry.false, c.requires))
