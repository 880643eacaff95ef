-- Refusals: no number is 0, and what `?` hands back.
use Prim.Native.Nat.{ℕ}
use mathlib.Core.Path.{◌≡◌, refl, ap}
use native.Mathlib.Omega.{arith}
use Rattle.std.specs.Prelude.{Result, Ok, Err, IsErr, IsErrAnd}
use Rattle.memory_layout.specs.declared.refusal.Refusal.{Refusal}
use Rattle.memory_layout.specs.declared.refusal.Refusal.TheVariants.{NotUtf8, NotWellFormed, InsideCharacter, EndBeforeStart, ZeroWidth, CutInReplacement, AcrossMovedEdge, IntoItself, NotTogether, PastSource, SliceStart, SliceEnd, Limit, ShortBuffer, BadOption, BadSheet, NoSuchCall, NotApart, RefusedAlone, Frozen, MarksTooHigh}
use Rattle.memory_layout.specs.Refusals.{code, number_of, value_of}

pub code_above : (r : Refusal) → code r ≡ 0 → ⊥
code_above NotUtf8 e = omega arith
code_above NotWellFormed e = omega arith
code_above InsideCharacter e = omega arith
code_above EndBeforeStart e = omega arith
code_above ZeroWidth e = omega arith
code_above CutInReplacement e = omega arith
code_above AcrossMovedEdge e = omega arith
code_above IntoItself e = omega arith
code_above NotTogether e = omega arith
code_above PastSource e = omega arith
code_above SliceStart e = omega arith
code_above SliceEnd e = omega arith
code_above Limit e = omega arith
code_above ShortBuffer e = omega arith
code_above BadOption e = omega arith
code_above BadSheet e = omega arith
code_above NoSuchCall e = omega arith
code_above NotApart e = omega arith
code_above RefusedAlone e = omega arith
code_above Frozen e = omega arith
code_above MarksTooHigh e = omega arith

-- what `?` hands back of a refusal
pub handed_number : {A : Type 0} (e : Refusal) (r : Result A Refusal) → IsErr r × IsErrAnd r (λ x. x ≡ e) → number_of r ≡ code e
handed_number e (Ok x) h = absurd h.1
handed_number e (Err x) h = ap code h.1

pub handed_back : (e : Refusal) (r : Result ℕ Refusal) → IsErr r × IsErrAnd r (λ x. x ≡ e) → (number_of r ≡ code e) × (value_of r ≡ 0)
handed_back e (Ok x) h = absurd h.1
handed_back e (Err x) h = (ap code h.1, refl)
