-- Marking: one record, one list after another.
use Prim.Native.Nat.{ℕ, ◌+◌, ◌*◌, ◌≤◌}
use native.Mathlib.Omega.{arith}
use mathlib.Core.Path.{◌≡◌, refl, sym, ap, ◌∙◌}
use mathlib.Core.Bool.{Bool, true, false}
use mathlib.Core.List.{List, [], ◌∷◌, ◌++◌}
use lib.ListN.{length}
use Rattle.model.specs.Text.{all}
use Rattle.model.specs.Call.{Edit}
use Rattle.model.proofs.Lists.{both, and_left, and_right, clash, tests_append, sum_append}
use Rattle.memory_layout.specs.Layout.{SOURCE_BYTES}
use Rattle.memory.specs.WellFormed.{among}
use Rattle.memory_counting.specs.Counts.{Decides}
use Rattle.memory_counting.proofs.Sums.{decides_by}
use Rattle.check_marks.specs.Marks.{Bits, Marked}
use Rattle.check_marks.proofs.Marking.{refused, marked_none, then_on, then_no, marked_by}
use Rattle.join_apart.specs.Places.{place_of, taken, fits_in}
use Rattle.join_apart.specs.Marking.{PLACE_MARKS, Room, Once}
use Rattle.join_apart.proofs.Zones.{place_below}

-- as many words as there are for the longest source
pub room_of : {n : ℕ} {words : List ℕ} → n ≤ SOURCE_BYTES → length words ≡ PLACE_MARKS → Room n words
room_of h e = record { source = h; places = omega arith; small = omega arith }

pub room_kept : {n : ℕ} {words words' : List ℕ} → length words' ≡ length words → Room n words → Room n words'
room_kept e h = record { source = h.source; places = omega (arith, h.places); small = omega (arith, h.small) }

-- what marking edits promises, of any marks
abbrev pub Marks : ℕ → Bool → (ℕ → ℕ) → List Edit → (ℕ → ℕ) → Type 0
Marks n r m L m' = Marked r m (all (fits_in n) L ≡ true) (taken n L) m'

module _ (n : ℕ) where
  -- ── one record ──
  pub room_for : {words : List ℕ} (e : Edit) {at k : ℕ} → Room n words → fits_in n e ≡ true → (at, k) ≡ place_of n e → at + k ≤ length words * 64
  room_for e {at} {k} room fit q = omega (arith, room.places, place_below n e (at, k) fit q)

  module _ (e : Edit) {m m' : ℕ → ℕ} where
    pub record_marked : {words : List ℕ} {at k : ℕ} {r : Bool} → Room n words → fits_in n e ≡ true → (at, k) ≡ place_of n e
        → Marked r m (at + k ≤ length words * 64) (among (at, k)) m' → Marked r m (fits_in n e ≡ true) (among (place_of n e)) m'
    record_marked room fit q d = marked_by d (λ h. fit) (λ h. room_for e room fit q) (among (place_of n e)) (λ b. ap (λ p. among p b) (sym q))

    pub record_misfit : fits_in n e ≡ false → Marked false m (fits_in n e ≡ true) (among (place_of n e)) m'
    record_misfit h = refused (λ f. clash f.fits h)

    pub edits_one : {r : Bool} → Marked r m (fits_in n e ≡ true) (among (place_of n e)) m' → Marks n r m (e ∷ []) m'
    edits_one d = marked_by d (λ h. both h refl) (λ h. and_left (fits_in n e) true h) (taken n (e ∷ [])) (λ b. omega arith)

  -- ── lists ──
  pub edits_none : {m : ℕ → ℕ} → Bits m → Marks n true m [] m
  edits_none h = marked_none h refl (λ b. refl)

  module _ (E F : List Edit) where
    -- all of both fit exactly if all of each do
    to_both : (all (fits_in n) E ≡ true) × (all (fits_in n) F ≡ true) → all (fits_in n) (E ++ F) ≡ true
    to_both h = tests_append (fits_in n) E F ∙ both h.0 h.1

    from_both : all (fits_in n) (E ++ F) ≡ true → (all (fits_in n) E ≡ true) × (all (fits_in n) F ≡ true)
    from_both h =
        let k = sym (tests_append (fits_in n) E F) ∙ h in
        (and_left (all (fits_in n) E) (all (fits_in n) F) k, and_right (all (fits_in n) E) (all (fits_in n) F) k)

    sums : (b : ℕ) → taken n (E ++ F) b ≡ taken n E b + taken n F b
    sums b = sum_append (λ e. among (place_of n e) b) E F

    module _ {r : Bool} {m m₁ : ℕ → ℕ} (d : Marks n r m E m₁) where
      pub edits_on : {q : Bool} {m₂ : ℕ → ℕ} → r ≡ true → Marks n q m₁ F m₂ → Marks n q m (E ++ F) m₂
      edits_on t c = marked_by (then_on d t c) to_both from_both (taken n (E ++ F)) sums

      pub edits_no : {m₂ : ℕ → ℕ} → r ≡ false → Marks n false m (E ++ F) m₂
      edits_no t = marked_by (then_no d (all (fits_in n) F ≡ true) (taken n F) t) to_both from_both (taken n (E ++ F)) sums

  -- on marks that are clear
  pub once_decided : {r : Bool} {m m' : ℕ → ℕ} (L : List Edit) → ((b : ℕ) → m b ≡ 0) → Marks n r m L m' → Decides r (Once n L)
  once_decided L clear d =
      decides_by (λ f. record { fits = f.fits; once = λ b. omega (arith, f.free b) })
      (λ o. record { fits = o.fits; free = λ b. omega (arith, clear b, o.once b) }) d.decides
