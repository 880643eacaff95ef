-- Rows copied in one table.
use mathlib.Core.Path.{◌≡◌, ap, sym, ◌∙◌}
use mathlib.Core.List.{List, ◌++◌}
use Prim.Native.Nat.{ℕ, ◌+◌, ◌-◌, ◌≤◌}
use native.Mathlib.Omega.{arith}
use native.Mathlib.Nat.{add-sub_cancel_left}
use lib.ListN.{length, take, drop, length-drop, take-append-drop}
use lib.Seq.{length-take-le, take-append-le, drop-append-le}
use Rattle.std.proofs.lemmas.List.{drop-drop}
use Rattle.memory_texts.specs.Over.{over}

-- what a copy of words before b to the place b leaves
pub above_over : (p : List ℕ) (a b m : ℕ) → a + m ≤ b → b + m ≤ length p
    → take b p ++ (take (a + m - a) (drop a (take b p)) ++ drop (length (take (a + m - a) (drop a (take b p)))) (drop b p)) ≡ over p b (take m (drop a p))
unfolding over
above_over p a b m h k =
    let long : length (take b p) ≡ b = length-take-le b p (omega arith) in
    let same : take m (drop a (take b p)) ≡ take m (drop a p) =
    sym (ap (take m) (drop-append-le a (take b p) (drop b p) (omega (arith, long))) ∙ take-append-le m (drop a (take b p)) (drop b p) (simp length-drop (omega (arith, long))))
    ∙ ap (λ (z : List ℕ). take m (drop a z)) (take-append-drop b p) in
    let l : length (take m (drop a p)) ≡ m = length-take-le m (drop a p) (simp length-drop (omega arith)) in
    rw (add-sub_cancel_left, same, l) (ap (λ (z : List ℕ). take b p ++ (take m (drop a p) ++ z)) (drop-drop m b p))
