use mathlib.Core.Path.{◌≡◌, ap}
use mathlib.Core.List.{List}
use Prim.Native.Nat.{ℕ, ◌+◌, ◌-◌, ◌≤◌}
use native.Mathlib.Omega.{arith}
use lib.ListN.{length, take, drop, length-take, length-drop}
use Rattle.edit_rebuild.proofs.LayOne.{text_none, text_some, replacement_size, replacement_fits}
use Rattle.memory_texts.proofs.Over.{put_back}
use Rattle.edit_rebuild.proofs.lay_text.Goals as goal

pub returns-then-at-eq-NONE : goal.returns-then-at-eq-NONE
returns-then-at-eq-NONE c = text_none _ _ _ _ _ c.if-at-eq-NONE.true

pub slice_bounds-put-end-2 : goal.slice_bounds-put-end-2
slice_bounds-put-end-2 c = omega (arith, replacement_fits c.args.s.now c.args.at c.args.n c.requires.replacement_in c.if-at-eq-NONE.false)

pub put-requires : goal.put-requires
put-requires c =
    let n = replacement_size c.args.s.now c.args.at c.args.n c.requires.replacement_in c.if-at-eq-NONE.false in
    simp (length-take, length-drop) (omega (arith, c.requires.n_in_bounds.0))

pub returns : goal.returns
returns c =
    let x : List ℕ = take (c.args.at + c.args.n - c.args.at) (drop c.args.at c.args.s.now) in
    let q : c.args.at + c.args.n - c.args.at ≡ c.args.n = omega arith in
    let l : length x ≤ c.args.n = simp length-take (omega arith) in
    let n = replacement_size c.args.s.now c.args.at c.args.n c.requires.replacement_in c.if-at-eq-NONE.false in
    text_some _ _ _ _ _ _ c.if-at-eq-NONE.false c.requires.replacement_in (omega (arith, c.requires.n_in_bounds.0)) c.requires.n_in_bounds.1
    (put_back _ x _ _ _ (omega (arith, l, c.requires.n_in_bounds.0)) c.put.ensures (ap (λ (m : ℕ). take m (drop c.args.at c.args.s.now)) q))
