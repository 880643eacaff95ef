use native.Mathlib.Omega.{arith}
use mathlib.Core.Path.{refl}
use Rattle.check_marks.proofs.Marking.{refused}
use Rattle.check_bit_marks.proofs.Marking.{part_marked, part_twice}
use Rattle.check_bit_marks.proofs.mark_part.Goals as goal

pub returns-then-word-mask-ne0 : goal.returns-then-word-mask-ne0
returns-then-word-mask-ne0 c =
    refused (part_twice c.args.words.now c.args.at
    c.args.n _ _ (omega arith) (omega arith) refl c.part-mask.ensures c.if-word-mask-ne0.true)

pub returns : goal.returns
returns c =
    part_marked c.args.words.now c.args.at c.args.n _ _
    (omega arith) (omega arith) refl c.part-mask.ensures c.if-word-mask-ne0.false
