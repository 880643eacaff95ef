use mathlib.Core.Path.{◌≡◌, subst}
use native.Mathlib.Omega.{arith}
use Rattle.filed_entries.proofs.Places.{Going, going_start, going_next, going_turn, located}
use Rattle.filed_entries.proofs.place.place_of.Goals as goal

pub loop-init : goal.loop-init
loop-init c = going_start _

pub next_at-at-requires : goal.next_at-at-requires
next_at-at-requires c = going_next c.loop.invariant c.requires (omega (arith, c.loop-test.true))

pub loop-preserved : goal.loop-preserved
loop-preserved c = going_turn c.loop.invariant c.next_at-at.ensures

pub next_at-next-requires : goal.next_at-next-requires
next_at-next-requires c = going_next c.loop.invariant c.requires c.loop.auto.counter-end

pub returns : goal.returns
returns c =
    let all : c.loop.counter ≡ c.args.i = omega (arith, c.loop.auto.counter-end, c.loop-test.false) in
    located (subst (Going _ c.loop.at) all c.loop.invariant) c.next_at-next.ensures
