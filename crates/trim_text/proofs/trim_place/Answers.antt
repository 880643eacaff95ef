use Rattle.trim_text.specs.Patterns.{pattern_number}
use Rattle.trim_text.proofs.Places.{front_place, back_place}
use native.Mathlib.Omega.{arith}
use Prim.Native.Nat.{◌+◌, ◌-◌}
use mathlib.Core.Path.{◌≡◌}
use Rattle.trim_text.proofs.trim_place.Goals as goal

pub returns-then-front : goal.returns-then-front
returns-then-front c =
    let e : c.args.place.at + c.args.place.n - c.args.place.at ≡ c.args.place.n = omega arith in
    let d = rw e at c.trim_start_len-off.ensures in
    rw c.if-front.true (front_place (pattern_number c.args.pattern) c.args.s.now c.args.place.at c.args.place.n c.requires.n_in_bounds.0 _ d.0 d.1)

pub returns : goal.returns
returns c =
    let e : c.args.place.at + c.args.place.n - c.args.place.at ≡ c.args.place.n = omega arith in
    let d = rw e at c.trim_end_len-left.ensures in
    rw c.if-front.false (back_place (pattern_number c.args.pattern) c.args.s.now c.args.place.at c.args.place.n c.requires.n_in_bounds.0 _ d.0 d.1)
