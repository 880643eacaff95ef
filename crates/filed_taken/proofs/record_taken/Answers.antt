-- `filed_taken::record_taken` meets its contract: a record with calls keeps a well-formed desk.
use mathlib.Core.Path.{sym, subst}
use native.Mathlib.Omega.{arith}
use Rattle.filed_taken.specs.Beside.{BesideSays}
use Rattle.filed_taken.proofs.Judging.{says_none, says_not_kept, says_empty}
use Rattle.filed_taken.proofs.record_taken.Goals as goal

pub returns-in_err-size : goal.returns-in_err-size
returns-in_err-size c =
    let a = c.args in
    subst (BesideSays a.source.now a.words.now a.bytes.now) (sym c.from_residual.ensures) (says_none a.source.now a.words.now a.bytes.now c.in_err-size.ensures)

pub returns-then-size-eq0 : goal.returns-then-size-eq0
returns-then-size-eq0 c = let a = c.args in says_empty a.source.now a.words.now a.bytes.now c.in_ok-size.ensures _ c.if-size-eq0.true

pub kept_desk-requires : goal.kept_desk-requires
kept_desk-requires c = let h = c.in_ok-size.ensures in record { words_len = h.words; bytes_len = h.bytes }

pub returns-in_err-kept : goal.returns-in_err-kept
returns-in_err-kept c =
    let a = c.args in
    subst (BesideSays a.source.now a.words.now a.bytes.now) (sym c.from_residual-in_err-kept.ensures)
    (says_not_kept a.source.now a.words.now a.bytes.now c.in_ok-size.ensures c.if-size-eq0.false c.in_err-kept.ensures)

pub returns : goal.returns
returns c = record { holds = c.in_ok-size.ensures; kept = λ _. c.in_ok-kept.ensures }
