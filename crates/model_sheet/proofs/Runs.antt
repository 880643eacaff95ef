-- A run case by case, and its numbers: which it may give, and that each answer is at most 20.
use Prim.Native.Nat.{ℕ, zero, suc, ◌≤◌, ◌<◌}
use mathlib.Core.Path.{◌≡◌, refl, sym, ap, ◌∙◌}
use mathlib.Core.Bool.{Bool, true, false, ◌||◌, cond}
use mathlib.Core.List.{List, [], ◌∷◌}
use mathlib.Core.Option.{Option, none, some}
use mathlib.Core.Logic.{inl, inr}
use lib.Dec.{leb, eqb}
use lib.ListN.{length}
use borrow.Author.Tests.{eqb-true, leb-true, le-leb, lt-leb}
use native.Mathlib.Omega.{arith}
use Rattle.utf8.specs.Chars.{All, nil, cons}
use Rattle.model.specs.Text.{any, all}
use Rattle.model.specs.MagicString.{MagicString}
use Rattle.model.specs.Limits.{Limits}
use Rattle.model.specs.WellFormed.{Formed, WellFormed}
use Rattle.model.specs.Call.{Edit, run, answers, opened, edit_numbers, Outcome, remove, update_with, reset, insert}
use Rattle.model.specs.Call.{append, prepend, relocate, trim, trim_start, trim_end, trim_lines, indent_with, freeze}
use Rattle.model.proofs.Lists.{and_left, and_right, or_cases, no_tf}
use Rattle.model_preservation.specs.Refusals.{among}
use Rattle.model_preservation.proofs.Refusals.{answer_listed}
use Rattle.model_preservation.proofs.Numbers.{opened_listed}
use Rattle.model_preservation.proofs.Calls.{run_keeps}
use Rattle.model_sheet.specs.Record.{Recorded}
use Rattle.model_sheet.specs.Sheet.{Sheet, sheet, call_of, recorded_calls, all_made, refused_by, run_read, run_sheet, sheet_numbers}

-- ── an answer is at most 20 ──
any_below : (k n : ℕ) (l : List ℕ) → all (λ x. leb x k) l ≡ true → any (eqb n) l ≡ true → n ≤ k
any_below k n [] h e = absurd (no_tf (sym e))
any_below k n (x ∷ l) h e =
    let below : ℕ → Bool = λ y. leb y k in
    elim (or_cases (eqb n x) (any (eqb n) l) e) [
      | inl q ↦ let same : n ≡ x = eqb-true n x q in let low : x ≤ k = leb-true x k (and_left (below x) (all below l) h) in omega arith
      | inr q ↦ any_below k n l (and_right (below x) (all below l) h) q
    ]

-- the largest number of an edit
abbrev small : ℕ → Bool
small n = leb n 20

numbers_small : (e : Edit) → all small (edit_numbers e) ≡ true
numbers_small (remove a b) = refl
numbers_small (update_with a b t o) = refl
numbers_small (reset a b) = refl
numbers_small (insert p t left front) = refl
numbers_small (append t) = refl
numbers_small (prepend t) = refl
numbers_small (relocate a b to) = refl
numbers_small (trim p) = refl
numbers_small (trim_start p) = refl
numbers_small (trim_end p) = refl
numbers_small trim_lines = refl
numbers_small (indent_with i l) = refl
numbers_small (freeze a b) = refl

pub answer_small : (k : Limits) (e : Edit) (m : MagicString) → Formed m → (run k e m).number ≤ 20
answer_small k e m f = any_below 20 (run k e m).number (0 ∷ edit_numbers e) (numbers_small e) (answer_listed k e m f)

pub answers_small : (k : Limits) (l : List Recorded) (m : MagicString) → WellFormed k m → All (λ x. x < 100) (answers k (recorded_calls l) m)
answers_small k [] m w = nil
answers_small k (r ∷ l) m w = cons {x = (run k (call_of r) m).number} (omega (arith, answer_small k (call_of r) m w.formed)) (answers_small k l _ (run_keeps k (call_of r) m w))

-- ── a run gives one of its numbers ──
pub sheet_listed : (k : Limits) (room : ℕ) (before : MagicString) (s : List ℕ) → among (run_sheet k room before s).shown.number sheet_numbers ≡ true
unfolding run_sheet run_read
sheet_listed k room before s = read (sheet s)
  where
    -- a number that an opening gives is one of the run's
    wider : (n : ℕ) → among n (13 ∷ 1 ∷ []) ≡ true → among n sheet_numbers ≡ true
    wider n h = go (eqb n 0) (eqb n 2) (eqb n 16) (eqb n 13) (eqb n 1) (eqb n 14) h
      where
        go : (a b c d e f : Bool) → (a || (d || (e || false))) ≡ true → (a || (b || (c || (d || (e || (f || false)))))) ≡ true
        go true b c d e f h = refl
        go false true c d e f h = refl
        go false false true d e f h = refl
        go false false false true e f h = refl
        go false false false false true f h = refl
        go false false false false false f h = absurd (no_tf (sym h))

    made : (b : Bool) (w : Sheet) (m : MagicString) → among (cond b (all_made k w.list m) (refused_by 14 before)).shown.number sheet_numbers ≡ true
    made true w m = refl
    made false w m = refl

    numbered : (w : Sheet) (n : ℕ) → (opened k w.source before).number ≡ n
        → among (elim n as (λ _. Outcome) [
          | suc i ↦ refused_by (suc i) before
          | zero ↦ cond (leb (length w.list) room) (all_made k w.list (opened k w.source before).desk) (refused_by 14 before)
        ]).shown.number sheet_numbers ≡ true
    numbered w zero e = made (leb (length w.list) room) w (opened k w.source before).desk
    numbered w (suc n) e = wider (suc n) (ap (λ (x : ℕ). among x (13 ∷ 1 ∷ [])) (sym e) ∙ opened_listed k w.source before)

    read : (o : Option Sheet) → among (elim o as (λ _. Outcome) [ none ↦ refused_by 16 before | some w ↦ run_read k room before w ]).shown.number sheet_numbers ≡ true
    read none = refl
    read (some w) = numbered w (opened k w.source before).number refl

pub sheet_small : (k : Limits) (room : ℕ) (before : MagicString) (s : List ℕ) → (run_sheet k room before s).shown.number ≤ 16
sheet_small k room before s = any_below 16 (run_sheet k room before s).shown.number (0 ∷ sheet_numbers) refl (sheet_listed k room before s)

-- ── a run, case by case ──
module _ (k : Limits) (room : ℕ) (before : MagicString) where
  pub run_none : (s : List ℕ) → sheet s ≡ none → run_sheet k room before s ≡ refused_by 16 before
  unfolding run_sheet
  run_none s e = rw (e, run_sheet) refl

  pub run_some : (s : List ℕ) {w : Sheet} → sheet s ≡ some w → run_sheet k room before s ≡ run_read k room before w
  unfolding run_sheet
  run_some s e = rw (e, run_sheet) refl

  module _ (w : Sheet) where
    pub run_refused : (n : ℕ) → (opened k w.source before).number ≡ suc n → run_read k room before w ≡ refused_by (suc n) before
    unfolding run_read
    run_refused n e = rw (e, run_read) refl

    pub run_short : (opened k w.source before).number ≡ 0 → room < length w.list → run_read k room before w ≡ refused_by 14 before
    unfolding run_read
    run_short e h = rw (e, run_read) (rw (lt-leb (length w.list) room h) refl)

    pub run_made : (opened k w.source before).number ≡ 0 → length w.list ≤ room → run_read k room before w ≡ all_made k w.list (opened k w.source before).desk
    unfolding run_read
    run_made e h = rw (e, run_read) (rw (le-leb (length w.list) room h) refl)

-- as many answers as calls
pub answers_length : (k : Limits) (l : List Recorded) (m : MagicString) → length (answers k (recorded_calls l) m) ≡ length l
answers_length k [] m = refl
answers_length k (r ∷ l) m = ap suc (answers_length k l _)
