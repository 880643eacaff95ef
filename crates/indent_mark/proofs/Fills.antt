-- Texts put into a buffer one behind the other.
use mathlib.Core.Path.{◌≡◌}
use mathlib.Core.List.{List, [], ◌∷◌, ◌++◌}
use Prim.Native.Nat.{ℕ, ◌+◌, ◌≤◌, ◌<◌}
use native.Mathlib.Omega.{arith}
use native.Mathlib.Numerals.{add-one}
use lib.ListN.{length, set, length-append}
use lib.Seq.{set_split}
use Rattle.std.specs.Prelude.{Option, Some, None}
use Rattle.memory_texts.specs.Over.{over}
use Rattle.memory_texts.proofs.Over.{over_nil, wrote_then, wrote_same}
use Rattle.indent_mark.specs.Bytes.{Filled, Filling}

pub fill_none : (d : List ℕ) (place : ℕ) → place ≤ length d → Filled d place [] d place
fill_none d place h = record { done = record { out_is = over_nil d place; next_is = omega arith }; room = omega arith }

pub fill_byte : (d : List ℕ) (place b : ℕ) → place < length d → Filled d place (b ∷ []) (set d place b) (place + 1)
unfolding over
fill_byte d place b h = record { done = record { out_is = rw add-one (set_split d place b h); next_is = omega arith }; room = omega arith }

-- the buffer is as long as it was, and the place behind the text is in it
pub fill_same : {d : List ℕ} {place : ℕ} {xs d' : List ℕ} {end : ℕ} → Filled d place xs d' end → length d' ≡ length d
fill_same u = wrote_same u.done u.room

pub fill_end : {d : List ℕ} {place : ℕ} {xs d' : List ℕ} {end : ℕ} → Filled d place xs d' end → end ≤ length d'
fill_end u = omega (arith, u.done.next_is, u.room, fill_same u)

-- one behind the other
pub fill_then : {d : List ℕ} {place : ℕ} {xs d₁ : List ℕ} {e₁ : ℕ} → Filled d place xs d₁ e₁ → (ys d₂ : List ℕ) (r : Option ℕ) → Filling d₁ e₁ ys d₂ r → Filling d place (xs ++ ys) d₂ r
fill_then {d} {place} {xs} {d₁} {e₁} u ys d₂ None v =
    let l : length d₁ ≡ length d = fill_same u in
    omega (arith, u.done.next_is, length-append xs ys)
fill_then {d} {place} {xs} {d₁} {e₁} u ys d₂ (Some e) v =
    let l : length d₁ ≡ length d = fill_same u in
    let room : place + length (xs ++ ys) ≤ length d = omega (arith, u.done.next_is, v.room, length-append xs ys) in
    record { done = wrote_then u.done v.done room; room = room }

-- where the front does not fit, the whole does not
pub fill_front : (n place : ℕ) (xs ys : List ℕ) → n < place + length xs → n < place + length (xs ++ ys)
fill_front n place xs ys h = omega (arith, length-append xs ys)
