use Rattle.utf8.proofs.Blocks.{width_one}
use mathlib.Core.Path.{◌∙◌}
use Rattle.utf8.proofs.places.width_at.Goals as goal

pub returns-then-s-i-lt128 : goal.returns-then-s-i-lt128
returns-then-s-i-lt128 c =
    let l = c.if-s-i-lt128.true in
    c.width.ensures.one l ∙ width_one c.args.s.now c.args.i c.requires l
