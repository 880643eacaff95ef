use mathlib.Core.Path.{ap, sym, ◌∙◌}
use lib.ListN.{length}
use Rattle.check_bit_marks.proofs.Marking.{long_words, long_tail, long_first}
use Rattle.check_bit_marks.proofs.mark_long.Goals as goal
use Rattle.check_bit_marks.proofs.mark_long.Goals.{then-mark_part, else-mark_part}

pub returns-then-mark_words : goal.returns-then-mark_words
returns-then-mark_words c =
    elim c.if-mark_part.branch [
      | then-mark_part w ↦
          long_tail _ _ c.args.at c.args.n c.requires.0 c.mark_part.ensures _ w.if-mark_part.true c.mark_part.auto.words
          (rw (w.words-is, w.value-is) w.mark_words.ensures) _ c.if-mark_words.true (ap length w.words-is ∙ w.mark_words.auto.words) c.mark_tail.ensures
      | else-mark_part w ↦ cc
    ]

pub returns-else-mark_words : goal.returns-else-mark_words
returns-else-mark_words c =
    rw c.if-mark_words.false
    (elim c.if-mark_part.branch [
      | then-mark_part w ↦
          long_words _ _ c.args.at c.args.n c.requires.0 c.mark_part.ensures _ w.if-mark_part.true c.mark_part.auto.words
          w.mark_words.ensures _ (sym w.value-is ∙ c.if-mark_words.false)
      | else-mark_part w ↦ long_first _ _ c.args.at c.args.n c.requires.0 c.mark_part.ensures _ w.if-mark_part.false
    ])
