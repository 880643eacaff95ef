-- A join, number by number; that it keeps a desk well formed, and gives 0 or one of its numbers.
use Prim.Native.Nat.{ℕ, zero, suc}
use mathlib.Core.Path.{◌≡◌, refl, subst}
use mathlib.Core.Bool.{true, false}
use mathlib.Core.List.{List, [], ◌∷◌, ◌++◌}
use mathlib.Core.Option.{none, some}
use lib.ListN.{length}
use Rattle.model.specs.MagicString.{MagicString}
use Rattle.model.specs.Limits.{Limits}
use Rattle.model.specs.Call.{Edit, run, after, Outcome}
use Rattle.model.specs.WellFormed.{WellFormed}
use Rattle.model_preservation.specs.Refusals.{among}
use Rattle.model_preservation.proofs.Lists.{of_option, of_number, of_guard}
use Rattle.model_preservation.proofs.Calls.{after_keeps}
use Rattle.model_sheet.specs.Sheet.{refused_by}
use Rattle.model_join.specs.Tests.{edits_apart, each_alone, has_space}
use Rattle.model_join.specs.Join.{both_lists, refused_join, joined, join_read, join, join_numbers}

-- ── calls one list behind the other ──
pub after_append : (k : Limits) (L L' : List Edit) (m : MagicString) → after k (L ++ L') m ≡ after k L' (after k L m)
after_append k [] L' m = refl
after_append k (e ∷ L) L' m = after_append k L L' (run k e m).desk

-- ── by cases ──
module _ (k : Limits) (m : MagicString) where
  pub join_none : (first second : List ℕ) → both_lists first second ≡ none → join k first second m ≡ refused_by 16 m
  unfolding join
  join_none first second e = rw (e, join) refl

  pub join_some : (first second : List ℕ) {L : List Edit} → both_lists first second ≡ some L → join k first second m ≡ join_read k m L
  unfolding join
  join_some first second e = rw (e, join) refl

  module _ (L : List Edit) where
    pub read_refused : (n : ℕ) → refused_join k m L ≡ suc n → join_read k m L ≡ refused_by (suc n) m
    unfolding join_read
    read_refused n e = rw (e, join_read) refl

    pub read_joined : refused_join k m L ≡ 0 → join_read k m L ≡ joined k L m
    unfolding join_read
    read_joined e = rw (e, join_read) refl

    pub read_number : (join_read k m L).shown.number ≡ refused_join k m L
    unfolding join_read
    read_number = go (refused_join k m L)
      where
        go : (n : ℕ) → (elim n as (λ _. Outcome) [ suc i ↦ refused_by (suc i) m | zero ↦ joined k L m ]).shown.number ≡ n
        go zero = refl
        go (suc n) = refl

    pub refused_18 : edits_apart (length m.source) L ≡ false → refused_join k m L ≡ 18
    unfolding refused_join
    refused_18 a = rw a refl

    pub refused_19 : edits_apart (length m.source) L ≡ true → each_alone k m L ≡ false → refused_join k m L ≡ 19
    unfolding refused_join
    refused_19 a b = rw (a, b) refl

    pub refused_13 : edits_apart (length m.source) L ≡ true → each_alone k m L ≡ true → has_space k m L ≡ false → refused_join k m L ≡ 13
    unfolding refused_join
    refused_13 a b c = rw (a, b, c) refl

    pub not_refused : edits_apart (length m.source) L ≡ true → each_alone k m L ≡ true → has_space k m L ≡ true → refused_join k m L ≡ 0
    unfolding refused_join
    not_refused a b c = rw (a, b, c) refl

-- ── what every join keeps ──
read_keeps : (k : Limits) (m : MagicString) (L : List Edit) → WellFormed k m → WellFormed k (join_read k m L).desk
unfolding join_read
read_keeps k m L w = of_number (λ (o : Outcome). WellFormed k o.desk) (refused_join k m L) (λ _. after_keeps k L m w) (λ _ _. w)

pub join_keeps : (k : Limits) (first second : List ℕ) (m : MagicString) → WellFormed k m → WellFormed k (join k first second m).desk
unfolding join
join_keeps k first second m w = of_option (λ (o : Outcome). WellFormed k o.desk) (both_lists first second) (λ _. w) (λ L _. read_keeps k m L w)

refused_listed : (k : Limits) (m : MagicString) (L : List Edit) → among (refused_join k m L) join_numbers ≡ true
unfolding refused_join
refused_listed k m L =
    let P : ℕ → Type 0 = λ n. among n join_numbers ≡ true in
    of_guard P (edits_apart (length m.source) L) (λ _. refl)
    (λ _. of_guard P (each_alone k m L) (λ _. refl)
    (λ _. of_guard P (has_space k m L) (λ _. refl) (λ _. refl)))

read_listed : (k : Limits) (m : MagicString) (L : List Edit) → among (join_read k m L).shown.number join_numbers ≡ true
unfolding join_read
read_listed k m L =
    of_number (λ (o : Outcome). among o.shown.number join_numbers ≡ true) (refused_join k m L) (λ _. refl)
    (λ n e. subst (λ (i : ℕ). among i join_numbers ≡ true) e (refused_listed k m L))

pub join_listed : (k : Limits) (first second : List ℕ) (m : MagicString) → among (join k first second m).shown.number join_numbers ≡ true
unfolding join
join_listed k first second m =
    of_option (λ (o : Outcome). among o.shown.number join_numbers ≡ true) (both_lists first second) (λ _. refl) (λ L _. read_listed k m L)

-- ── outside the desk ──
read_writes_none : (k : Limits) (m : MagicString) (L : List Edit) → (join_read k m L).shown.written ≡ []
unfolding join_read
read_writes_none k m L = of_number (λ (o : Outcome). o.shown.written ≡ []) (refused_join k m L) (λ _. refl) (λ _ _. refl)

-- a join fills no buffer
pub join_writes_none : (k : Limits) (first second : List ℕ) (m : MagicString) → (join k first second m).shown.written ≡ []
unfolding join
join_writes_none k first second m =
    of_option (λ (o : Outcome). o.shown.written ≡ []) (both_lists first second) (λ _. refl) (λ L _. read_writes_none k m L)
