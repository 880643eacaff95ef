-- `slice::slice` meets its contract.
use mathlib.Core.Path.{sym, ◌∙◌}
use native.Mathlib.Omega.{arith}
use Rattle.memory.specs.Layout.{magic_string_of}
use Rattle.memory.proofs.Desks.{short_source}
use Rattle.report_slice.proofs.Giving.{told_3_start, told_3_end, told_end, told_all}
use Rattle.report_slice.proofs.slice.Goals as goal

pub boundary-requires : goal.boundary-requires
unfolding magic_string_of
boundary-requires c = c.requires.desk.formed.source

pub returns-then-not-boundary : goal.returns-then-not-boundary
returns-then-not-boundary c =
    told_3_start _ _ _ _ _ 0 _ c.args.end
    (sym c.boundary.ensures ∙ c.if-not-boundary.true)

pub overflow_cast-desk : goal.overflow_cast-desk
overflow_cast-desk c = omega (arith, short_source c.requires)

pub returns-in_default : goal.returns-in_default
returns-in_default c =
    told_all _ _ _ _ _ 0 _ _ _ _ _ c.in_default.is
    (sym c.boundary.ensures ∙ c.if-not-boundary.false) c.slice_to.ensures

pub boundary-requires-2 : goal.boundary-requires-2
unfolding magic_string_of
boundary-requires-2 c = c.requires.desk.formed.source

pub returns-then-not-boundary-2 : goal.returns-then-not-boundary-2
returns-then-not-boundary-2 c =
    told_3_end _ _ _ _ _ c.in-Some.end _ _ c.in-Some.is (sym c.boundary.ensures ∙ c.if-not-boundary.false)
    (sym c.boundary-2.ensures ∙ c.if-not-boundary-2.true)

pub returns : goal.returns
returns c =
    told_end _ _ _ _ _ c.in-Some.end _ _ _ _ _ c.in-Some.is (sym c.boundary.ensures ∙ c.if-not-boundary.false)
    (sym c.boundary-2.ensures ∙ c.if-not-boundary-2.false) c.slice_to-2.ensures
