use mathlib.Core.Path.{sym, ◌∙◌}
use Rattle.check_bit_marks.proofs.Marking.{marks_bits}
use Rattle.check_texts_apart.proofs.Places.{replacement_none, replacement_told}
use Rattle.check_texts_apart.proofs.mark_replacement.Goals as goal

pub returns-then-at-eq-NONE_WIDE : goal.returns-then-at-eq-NONE_WIDE
returns-then-at-eq-NONE_WIDE c = replacement_none _ _ (marks_bits _) (sym c.text_start-at.ensures.0 ∙ c.if-at-eq-NONE_WIDE.true)

pub returns : goal.returns
returns c =
    rw (c.text_start-at.ensures.0, c.word-n.ensures) at
    (replacement_told _ _ _ _ _ _ c.if-at-eq-NONE_WIDE.false _ c.mark_text.ensures)
