-- Laws of what `Emit` in specs/ defines.
use mathlib.Core.Path.{◌≡◌, refl, ap, ◌∙◌}
use mathlib.Core.Bool.{Bool, true, false}
use mathlib.Core.List.{List, [], ◌++◌}
use Prim.Native.Nat.{ℕ, ◌+◌, ◌≤◌}
use native.Mathlib.Omega.{arith}
use lib.ListN.{length, length-append}
use Rattle.memory_texts.proofs.Over.{over_nil, over_over, length_over}
use Rattle.report_slice_chunk.specs.Emit.{over_if, Emitted, Room}

pub emitted_none : (w : Bool) (d : List ℕ) (o : ℕ) → Emitted w d o [] d o
emitted_none w d o = record { out_is = go w; next_is = omega arith }
  where
    go : (w : Bool) → d ≡ over_if w d o []
    go true = over_nil d o
    go false = refl

overs : (w : Bool) (d : List ℕ) (o : ℕ) (x y : List ℕ) → (w ≡ true → o + length x + length y ≤ length d) → over_if w (over_if w d o x) (o + length x) y ≡ over_if w d o (x ++ y)
overs true d o x y h = over_over d o x y (h refl)
overs false d o x y h = refl

lengths : (w : Bool) (d : List ℕ) (o : ℕ) (x : List ℕ) → (w ≡ true → o + length x ≤ length d) → length (over_if w d o x) ≡ length d
lengths true d o x h = length_over d o x (h refl)
lengths false d o x h = refl

module _ {w : Bool} {d : List ℕ} {o : ℕ} {x d' : List ℕ} {r : ℕ} (e : Emitted w d o x d' r) where
  -- what comes next
  pub emitted_then : {y d'' : List ℕ} {r' : ℕ} → Emitted w d' r y d'' r' → Room w d o (length (x ++ y)) → Emitted w d o (x ++ y) d'' r'
  emitted_then {y} f h =
      let l : length (x ++ y) ≡ length x + length y = length-append x y in
      record {
        out_is = f.out_is ∙ ap (λ (k : ℕ). over_if w d' k y) e.next_is ∙ ap (λ (b : List ℕ). over_if w b (o + length x) y) e.out_is
            ∙ overs w d o x y (λ q. let k = h.fits q in omega arith);
        next_is = omega (arith, e.next_is, f.next_is);
      }

  -- and there is room for it
  pub emitted_room : (y : List ℕ) → Room w d o (length (x ++ y)) → Room w d' r (length y)
  emitted_room y h =
      let l : length (x ++ y) ≡ length x + length y = length-append x y in
      record {
        fits = λ q. let k = h.fits q in
            let s : length d' ≡ length d = ap length e.out_is ∙ lengths w d o x (λ q. let k = h.fits q in omega arith) in
            omega (arith, e.next_is);
        small = omega (arith, e.next_is, h.small);
      }

pub room_front : {w : Bool} {d : List ℕ} {o : ℕ} (x y : List ℕ) → Room w d o (length (x ++ y)) → Room w d o (length x)
room_front x y h =
    let l : length (x ++ y) ≡ length x + length y = length-append x y in
    record { fits = λ q. let k = h.fits q in omega arith; small = omega (arith, h.small) }

pub room_le : {w : Bool} {d : List ℕ} {o n n' : ℕ} → n' ≤ n → Room w d o n → Room w d o n'
room_le l h = record { fits = λ q. let k = h.fits q in omega arith; small = omega (arith, h.small) }
