-- No refusal has the number 0.
use mathlib.Core.Path.{◌≡◌, refl}
use mathlib.Core.Bool.{true, false}
use native.Mathlib.Omega.{arith}
use Rattle.std.specs.Prelude.{Result, Ok, Err}
use Rattle.std.specs.Result.{is_err}
use Rattle.memory_layout.specs.declared.refusal.Refusal.{Refusal}
use Rattle.memory_layout.specs.declared.refusal.Refusal.TheVariants.{NotUtf8, NotWellFormed, InsideCharacter, EndBeforeStart, ZeroWidth, CutInReplacement, AcrossMovedEdge, IntoItself, NotTogether, PastSource, SliceStart, SliceEnd, Limit, ShortBuffer, BadOption, BadSheet, NoSuchCall, NotApart, RefusedAlone, Frozen, MarksTooHigh}
use Rattle.memory_layout.specs.Refusals.{code, number_of}

pub code_some : (r : Refusal) → code r ≡ 0 → ⊥
code_some NotUtf8 e = absurd (omega (arith, e))
code_some NotWellFormed e = absurd (omega (arith, e))
code_some InsideCharacter e = absurd (omega (arith, e))
code_some EndBeforeStart e = absurd (omega (arith, e))
code_some ZeroWidth e = absurd (omega (arith, e))
code_some CutInReplacement e = absurd (omega (arith, e))
code_some AcrossMovedEdge e = absurd (omega (arith, e))
code_some IntoItself e = absurd (omega (arith, e))
code_some NotTogether e = absurd (omega (arith, e))
code_some PastSource e = absurd (omega (arith, e))
code_some SliceStart e = absurd (omega (arith, e))
code_some SliceEnd e = absurd (omega (arith, e))
code_some Limit e = absurd (omega (arith, e))
code_some ShortBuffer e = absurd (omega (arith, e))
code_some BadOption e = absurd (omega (arith, e))
code_some BadSheet e = absurd (omega (arith, e))
code_some NoSuchCall e = absurd (omega (arith, e))
code_some NotApart e = absurd (omega (arith, e))
code_some RefusedAlone e = absurd (omega (arith, e))
code_some Frozen e = absurd (omega (arith, e))
code_some MarksTooHigh e = absurd (omega (arith, e))

pub refused_number : {A : Type 0} (x : Result A Refusal) → is_err x ≡ true → number_of x ≡ 0 → ⊥
refused_number (Ok y) e = absurd (grind arith)
refused_number (Err r) e = code_some r

pub allowed_number : {A : Type 0} (x : Result A Refusal) → is_err x ≡ false → number_of x ≡ 0
allowed_number (Ok y) e = refl
allowed_number (Err r) e = absurd (grind arith)
