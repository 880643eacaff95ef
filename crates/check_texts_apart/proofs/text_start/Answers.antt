use mathlib.Core.Path.{sym, ◌∙◌}
use native.Mathlib.Omega.{arith}
use Rattle.check_texts_apart.proofs.Places.{start_first, start_other}
use Rattle.check_texts_apart.proofs.text_start.Goals as goal

pub returns-then-i-eq0 : goal.returns-then-i-eq0
returns-then-i-eq0 c = (sym (start_first _ _ c.if-i-eq0.true), omega arith)

pub returns : goal.returns
returns c = (c.word.ensures ∙ sym (start_other _ _ c.if-i-eq0.false), omega arith)
