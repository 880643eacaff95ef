-- The law of document 02's L2: each setting of the switches is the Rust's function of that name.
use Prim.Native.Nat.{ℕ, ◌+◌}
use native.Mathlib.Omega.{arith}
use mathlib.Core.Path.{◌≡◌, refl, ◌∙◌}
use mathlib.Core.Bool.{Bool, true, false}
use mathlib.Core.List.{List, [], ◌∷◌}
use lib.ListN.{length, length-append}
use Rattle.model.specs.Text.{Text, sum}
use Rattle.model.specs.MagicString.{MagicString}
use Rattle.model.specs.Insert.{push, insert, rust_function}
use Rattle.model.proofs.Lists.{sum_append}

pub insert_is : (at : ℕ) (t : Text) (left front : Bool) (m : MagicString) → insert at t left front m ≡ rust_function left front at t m
insert_is at t true true m = refl
insert_is at t true false m = refl
insert_is at t false true m = refl
insert_is at t false false m = refl

-- ── what a piece more counts ──
pub push_length : (front : Bool) (t : Text) (l : List Text) → length (push front t l) ≡ 1 + length l
push_length true t l = omega arith
push_length false t l = length-append l (t ∷ []) ∙ omega arith

pub push_sum : (front : Bool) (t : Text) (l : List Text) → sum length (push front t l) ≡ length t + sum length l
push_sum true t l = refl
push_sum false t l = sum_append length l (t ∷ []) ∙ omega arith
