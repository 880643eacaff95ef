-- What the tests of one row tell.
use mathlib.Core.Path.{◌≡◌, ap, sym, ◌∙◌}
use mathlib.Core.Bool.{true}
use mathlib.Core.List.{List}
use Prim.Native.Nat.{ℕ, ◌≤◌}
use native.Mathlib.Omega.{arith}
use lib.ListN.{length}
use Rattle.utf8.specs.Rfc3629.{utf8}
use Rattle.utf8.proofs.Boundaries.{between_past}
use Rattle.memory_table.specs.Order.{next_of, prev_of}
use Rattle.check_in_order.specs.Joined.{Joined}

back_is : (t : List ℕ) (i x y : ℕ) → x ≡ next_of t i → y ≡ prev_of t x → y ≡ i → prev_of t (next_of t i) ≡ i
back_is t i x y ex ey back = ap (prev_of t) (sym ex) ∙ sym ey ∙ back

-- x is the row behind i, and y the row before x
module _ {source t : List ℕ} {n i e x y : ℕ} (ex : x ≡ next_of t i) (near : x ≤ n) (ey : y ≡ prev_of t x) (back : y ≡ i) where
  pub joined_last : utf8 source ≡ true → x ≡ 0 → e ≡ length source → Joined source t n i e
  joined_last u z q = record {
    near = omega arith;
    back = back_is t i x y ex ey back;
    start = λ ne. absurd (ne (sym ex ∙ z));
    last = λ w. q;
    inside = omega arith;
    edge = between_past source e u (omega arith);
  }
