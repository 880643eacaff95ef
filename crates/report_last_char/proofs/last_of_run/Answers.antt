-- `last_char::last_of_run` meets its contract.
use mathlib.Core.Path.{ap, ◌∙◌}
use Prim.Native.Nat.{◌-◌}
use native.Mathlib.Omega.{arith}
use Rattle.utf8.specs.Rfc3629.{utf8}
use Rattle.model.specs.MagicString.{last_code}
use Rattle.memory_texts.proofs.Texts.{run_piece}
use Rattle.report_last_char.proofs.Backwards.{run_none, run_valid, run_last}
use Rattle.report_last_char.proofs.last_of_run.Goals as goal

pub returns-then-n-eq0 : goal.returns-then-n-eq0
returns-then-n-eq0 c = run_none _ _ _ _ c.if-n-eq0.true

pub text_of-requires : goal.text_of-requires
text_of-requires c = run_piece _ _ _ _ (c.args.n - 1) c.requires.run_in (omega (arith, c.if-n-eq0.false))

pub last_code-requires : goal.last_code-requires
last_code-requires c = ap utf8 c.text_of.ensures ∙ run_valid _ _ _ _ c.if-n-eq0.false c.requires.all

pub returns : goal.returns
returns c = c.last_code.ensures ∙ ap last_code c.text_of.ensures ∙ run_last _ _ _ _ c.if-n-eq0.false
