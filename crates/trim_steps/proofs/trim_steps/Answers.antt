use Rattle.trim_text.specs.Patterns.{pattern_number}
use Rattle.trim_steps.proofs.Both.{one_side, side_again, both_sides}
use Rattle.trim_steps.proofs.trim_steps.Goals as goal

pub returns-then-not-both : goal.returns-then-not-both
returns-then-not-both c = one_side c.args.front (pattern_number c.args.pattern) c.args.source.now c.args.t.now c.args.p.now c.args.s.now c.args.top c.args.byte c.requires _ _ _ _ _ c.trim_side-first.ensures c.args.both (c.if-not-both.true)

pub trim_side-requires : goal.trim_side-requires
trim_side-requires c = side_again c.args.front (pattern_number c.args.pattern) c.args.source.now c.args.t.now c.args.p.now c.args.s.now c.args.top c.args.byte c.requires _ _ _ _ _ c.trim_side-first.ensures

pub returns : goal.returns
returns c =
    both_sides c.args.front (pattern_number c.args.pattern) c.args.source.now c.args.t.now c.args.p.now c.args.s.now c.args.top c.args.byte c.requires _ _ _ _ _ c.trim_side-first.ensures c.args.both
    (c.if-not-both.false) _ _ _ _ _ c.trim_side.ensures
