-- What the number of a kind has, and a number that is no kind's.
use Prim.Native.Nat.{ℕ, ◌<◌}
use mathlib.Core.Path.{◌≡◌, refl, ap}
use mathlib.Core.Bool.{true, false}
use mathlib.Core.Logic.{◌⊎◌, inl, inr}
use native.Mathlib.Omega.{arith}
use borrow.Author.Tests.{ne_eqb}
use Rattle.model_sheet.specs.Record.{positions, carries}
use Rattle.model_sheet.specs.Sheet.{inserts_left}
use Rattle.sheet_records.specs.declared.kinds.Kind.{Kind}
use Rattle.sheet_records.specs.declared.kinds.Kind.TheVariants.{Remove, Update, Reset, AppendLeft, AppendRight, PrependLeft, PrependRight, Relocate}
use Rattle.sheet_records.specs.Kinds.{code}

-- a position at least
pub some_positions : (k : Kind) → 0 < positions (code k)
unfolding positions
some_positions Remove = omega arith
some_positions Update = omega arith
some_positions Reset = omega arith
some_positions AppendLeft = omega arith
some_positions AppendRight = omega arith
some_positions PrependLeft = omega arith
some_positions PrependRight = omega arith
some_positions Relocate = omega arith

pub two_positions : (k : Kind) → (k ≡ Remove) ⊎ ((k ≡ Update) ⊎ (k ≡ Reset)) → 2 ≡ positions (code k)
unfolding positions
two_positions k (inl e) = rw e
two_positions k (inr (inl e)) = rw e
two_positions k (inr (inr e)) = rw e

pub one_position : (k : Kind) → (k ≡ AppendLeft) ⊎ ((k ≡ AppendRight) ⊎ ((k ≡ PrependLeft) ⊎ (k ≡ PrependRight))) → 1 ≡ positions (code k)
unfolding positions
one_position k (inl e) = rw e
one_position k (inr (inl e)) = rw e
one_position k (inr (inr (inl e))) = rw e
one_position k (inr (inr (inr e))) = rw e

pub three_positions : (k : Kind) → k ≡ Relocate → 3 ≡ positions (code k)
unfolding positions
three_positions k e = rw e

pub without_text : (k : Kind) → (k ≡ Remove) ⊎ ((k ≡ Reset) ⊎ (k ≡ Relocate)) → false ≡ carries (code k)
unfolding carries
without_text k (inl e) = rw e
without_text k (inr (inl e)) = rw e
without_text k (inr (inr e)) = rw e

pub with_text : (k : Kind) → (k ≡ Remove → ⊥) → (k ≡ Reset → ⊥) → (k ≡ Relocate → ⊥) → true ≡ carries (code k)
unfolding carries
with_text Remove r s m = absurd (r refl)
with_text Update r s m = refl
with_text Reset r s m = absurd (s refl)
with_text AppendLeft r s m = refl
with_text AppendRight r s m = refl
with_text PrependLeft r s m = refl
with_text PrependRight r s m = refl
with_text Relocate r s m = absurd (m refl)

-- another kind has another number
pub not_remove : (k : Kind) → (k ≡ Remove → ⊥) → code k ≡ 1 → ⊥
not_remove Remove h e = h refl
not_remove Update h e = absurd (omega arith)
not_remove Reset h e = absurd (omega arith)
not_remove AppendLeft h e = absurd (omega arith)
not_remove AppendRight h e = absurd (omega arith)
not_remove PrependLeft h e = absurd (omega arith)
not_remove PrependRight h e = absurd (omega arith)
not_remove Relocate h e = absurd (omega arith)

pub not_update : (k : Kind) → (k ≡ Update → ⊥) → code k ≡ 2 → ⊥
not_update Remove h e = absurd (omega arith)
not_update Update h e = h refl
not_update Reset h e = absurd (omega arith)
not_update AppendLeft h e = absurd (omega arith)
not_update AppendRight h e = absurd (omega arith)
not_update PrependLeft h e = absurd (omega arith)
not_update PrependRight h e = absurd (omega arith)
not_update Relocate h e = absurd (omega arith)

pub not_reset : (k : Kind) → (k ≡ Reset → ⊥) → code k ≡ 3 → ⊥
not_reset Remove h e = absurd (omega arith)
not_reset Update h e = absurd (omega arith)
not_reset Reset h e = h refl
not_reset AppendLeft h e = absurd (omega arith)
not_reset AppendRight h e = absurd (omega arith)
not_reset PrependLeft h e = absurd (omega arith)
not_reset PrependRight h e = absurd (omega arith)
not_reset Relocate h e = absurd (omega arith)

pub not_relocate : (k : Kind) → (k ≡ Relocate → ⊥) → code k ≡ 8 → ⊥
not_relocate Remove h e = absurd (omega arith)
not_relocate Update h e = absurd (omega arith)
not_relocate Reset h e = absurd (omega arith)
not_relocate AppendLeft h e = absurd (omega arith)
not_relocate AppendRight h e = absurd (omega arith)
not_relocate PrependLeft h e = absurd (omega arith)
not_relocate PrependRight h e = absurd (omega arith)
not_relocate Relocate h e = h refl

-- a number without positions is no kind's
pub none_is : (q : Kind) (k : ℕ) → positions k ≡ 0 → k ≡ code q → ⊥
none_is q k h e = omega (arith, h, some_positions q, ap positions e)

pub none_left : (k : ℕ) → positions k ≡ 0 → false ≡ inserts_left k
none_left k h = rw (ne_eqb k 4 (none_is AppendLeft k h), ne_eqb k 6 (none_is PrependLeft k h))
