-- Marks written and entries read, case by case; the total, and what filing and withdrawing do to it.
use Prim.Native.Nat.{ℕ, zero, suc, ◌+◌, ◌-◌, ◌≤◌, ◌<◌}
use mathlib.Core.Path.{◌≡◌, refl, sym, ap, ap₂, ◌∙◌}
use mathlib.Core.Bool.{Bool, true, false}
use mathlib.Core.List.{List, [], ◌∷◌, ◌++◌, map, map-append, nil≢cons, head-eq_of_cons-eq}
use mathlib.Core.Option.{none, some, some-injective, none-ne-some}
use lib.Dec.{leb}
use lib.ListN.{length, get_or, take, drop, length-map}
use borrow.Author.Tests.{leb-true, leb-false, le-leb, lt-leb}
use native.Mathlib.Omega.{arith}
use Rattle.model.specs.Text.{sum}
use Rattle.model.specs.Call.{refusal, into, answers}
use Rattle.model.proofs.Lists.{sum_append, sum_map}
use Rattle.model_sheet.specs.Record.{Recorded, parsed}
use Rattle.model_sheet.specs.Sheet.{recorded_calls}
use Rattle.model_filed.specs.Filed.{Entry, calls, marks_of, entries_with, Answered, refused_filing, filed, file, without, no_such_call, withdraw}
use Rattle.model_filed.specs.Marks.{HIGHEST_MARKS, mark_behind, refused_marks, set_marks, entry_at, show_entry, total, FilingLeavesTotal, WithdrawalTakesMarks}
use Rattle.model_filed.proofs.Filing.{behind_first, marks_taken, marks_with, file_refused, file_filed, withdraw_done, withdrawn, found, found_range}

-- ── marks written ──
module _ (n m : ℕ) (l : List Entry) where
  pub marks_17 : no_such_call n l ≡ 17 → refused_marks n m l ≡ 17
  unfolding refused_marks
  marks_17 e = rw (e, refused_marks) refl

  pub marks_21 : no_such_call n l ≡ 0 → HIGHEST_MARKS < m → refused_marks n m l ≡ 21
  unfolding refused_marks
  marks_21 e h = rw (e, refused_marks, lt-leb m HIGHEST_MARKS h) refl

  pub marks_0 : no_such_call n l ≡ 0 → m ≤ HIGHEST_MARKS → refused_marks n m l ≡ 0
  unfolding refused_marks
  marks_0 e h = rw (e, refused_marks, le-leb m HIGHEST_MARKS h) refl

  pub set_refused : (i : ℕ) → refused_marks n m l ≡ suc i → set_marks n m l ≡ l
  unfolding set_marks
  set_refused i e = rw (e, set_marks) refl

  pub set_done : refused_marks n m l ≡ 0 → set_marks n m l ≡ mark_behind (n - 1) m l
  unfolding set_marks
  set_done e = rw (e, set_marks) refl

-- ── the entry with a number ──
entry_past : (n : ℕ) (l : List Entry) → length l < n → entry_at n l ≡ none
entry_past zero l h = refl
entry_past (suc n) [] h = refl
entry_past (suc zero) (e ∷ l) h = absurd (omega arith)
entry_past (suc (suc n)) (e ∷ l) h = entry_past (suc n) l (omega arith)

pub entry_none : (n : ℕ) (l : List Entry) → no_such_call n l ≡ 17 → entry_at n l ≡ none
entry_none zero l e = refl
entry_none (suc n) l e = go (leb (suc n) (length l)) refl
  where
    go : (b : Bool) → leb (suc n) (length l) ≡ b → entry_at (suc n) l ≡ none
    go true q = let there = found (suc n) l (omega arith) (leb-true (suc n) (length l) q) in absurd (omega arith)
    go false q = entry_past (suc n) l (leb-false (suc n) (length l) q)

entry_behind : (i : ℕ) (l : List Entry) (e : Entry) → take 1 (drop i l) ≡ e ∷ [] → entry_at (suc i) l ≡ some e
entry_behind zero [] e q = absurd (nil≢cons q)
entry_behind zero (x ∷ l) e q = ap some (head-eq_of_cons-eq q)
entry_behind (suc i) [] e q = absurd (nil≢cons q)
entry_behind (suc i) (x ∷ l) e q = entry_behind i l e q

pub entry_some : (n : ℕ) (l : List Entry) (e : Entry) → no_such_call n l ≡ 0 → take 1 (drop (n - 1) l) ≡ e ∷ [] → entry_at n l ≡ some e
entry_some zero l e h q = let r = found_range 0 l h in absurd (omega (arith, r.0))
entry_some (suc n) l e h q = entry_behind n l e (ap (λ (i : ℕ). take 1 (drop i l)) (let s : n ≡ suc n - 1 = omega arith in s) ∙ q)

-- an entry of calls with answers and marks
pub one_with : (l : List Recorded) (ns ms : List ℕ) (i : ℕ) (r : Recorded) → take 1 (drop i l) ≡ r ∷ []
    → take 1 (drop i (entries_with l ns ms)) ≡ record { call = r; answer = get_or ns i 0; marks = get_or ms i 0 } ∷ []
one_with [] ns ms zero r q = absurd (nil≢cons q)
one_with [] ns ms (suc i) r q = absurd (nil≢cons q)
one_with (c ∷ l) ns ms zero r q = ap (λ (c : Recorded). record { call = c; answer = get_or ns 0 0; marks = get_or ms 0 0 } ∷ []) (head-eq_of_cons-eq q)
one_with (c ∷ l) ns ms (suc i) r q =
    one_with l (drop 1 ns) (drop 1 ms) i r q
    ∙ ap₂ (λ (n m : ℕ). record { call = r; answer = n; marks = m } ∷ []) (behind_first ns i) (behind_first ms i)

module _ (reading : Entry → List ℕ) (n room : ℕ) (l : List Entry) where
  pub show_none : entry_at n l ≡ none → show_entry reading n room l ≡ refusal 17
  unfolding show_entry
  show_none e = rw (e, show_entry) refl

  pub show_some : (e : Entry) → entry_at n l ≡ some e → show_entry reading n room l ≡ into room (reading e)
  unfolding show_entry
  show_some e q = rw (q, show_entry) refl

-- ── the total ──
total_marks : (l : List Entry) → total l ≡ sum (λ m. m) (marks_of l)
total_marks l = sym (sum_map (λ (e : Entry). e.marks) (λ m. m) l)

pub total_with : (l : List Recorded) (ns ms : List ℕ) → length l ≤ length ms → total (entries_with l ns ms) ≡ sum (λ m. m) (take (length l) ms)
total_with l ns ms h = total_marks (entries_with l ns ms) ∙ ap (sum (λ m. m)) (marks_taken l ns ms h)

pub filing_leaves_total : FilingLeavesTotal
filing_leaves_total k s x = go (refused_filing s (calls x.entries)) refl
  where
    go : (n : ℕ) → refused_filing s (calls x.entries) ≡ n → total (file k s x).left.entries ≡ total x.entries
    go (suc n) e = ap (λ (o : Answered). total o.left.entries) (file_refused k s x n e)
    go zero e =
        let o = filed k (parsed s) x in
        let added : total o.left.entries ≡ total x.entries + 0 = sum_append (λ (e : Entry). e.marks) x.entries _ in
        ap (λ (o : Answered). total o.left.entries) (file_filed k s x e) ∙ omega arith

-- ── a withdrawal ──
module _ {A B : Type 0} (f : A → B) where
  map_take : (n : ℕ) (l : List A) → map f (take n l) ≡ take n (map f l)
  map_take zero l = refl
  map_take (suc n) [] = refl
  map_take (suc n) (x ∷ l) = ap (λ y. f x ∷ y) (map_take n l)

  map_drop : (n : ℕ) (l : List A) → map f (drop n l) ≡ drop n (map f l)
  map_drop zero l = refl
  map_drop (suc n) [] = refl
  map_drop (suc n) (x ∷ l) = map_drop n l

  pub map_without : (n : ℕ) (l : List A) → map f (without n l) ≡ without n (map f l)
  map_without n l = map-append f (take (n - 1) l) (drop n l) ∙ ap₂ ◌++◌ (map_take (n - 1) l) (map_drop n l)

-- the total without an entry
term_behind : (i : ℕ) (l : List Entry) (e : Entry) → entry_at (suc i) l ≡ some e → total l ≡ e.marks + total (take i l ++ drop (suc i) l)
term_behind zero [] e q = absurd (none-ne-some e q)
term_behind zero (x ∷ l) e q = ap (λ (y : Entry). y.marks + total l) (some-injective x e q)
term_behind (suc i) [] e q = absurd (none-ne-some e q)
term_behind (suc i) (x ∷ l) e q = omega (arith, term_behind i l e q)

term : (n : ℕ) (l : List Entry) (e : Entry) → entry_at n l ≡ some e → total l ≡ e.marks + total (without n l)
term zero l e q = absurd (none-ne-some e q)
term (suc i) l e q =
    term_behind i l e q ∙ ap (λ (j : ℕ). e.marks + total (take j l ++ drop (suc i) l)) (let s : i ≡ suc i - 1 = omega arith in s)

-- as many marks as calls are left
as_many : (n : ℕ) (l : List Entry) → length (without n (marks_of l)) ≡ length (without n (calls l))
as_many n l =
    ap length (sym (map_without (λ (e : Entry). e.marks) n l)) ∙ length-map (without n l) (λ (e : Entry). e.marks)
    ∙ sym (length-map (without n l) (λ (e : Entry). e.call)) ∙ ap length (map_without (λ (e : Entry). e.call) n l)

pub withdrawal_takes_marks : WithdrawalTakesMarks
withdrawal_takes_marks k n x e =
    let l = x.entries in
    let c = without n (calls l) in
    let others : marks_of (withdraw k n x).left.entries ≡ without n (marks_of l) =
    ap (λ (o : Answered). marks_of o.left.entries) (withdraw_done k n x (withdrawn k n x e))
    ∙ marks_with c (answers k (recorded_calls c) x.kept) (without n (marks_of l)) (as_many n l) in
    let left : total (withdraw k n x).left.entries ≡ total (without n l) =
    total_marks (withdraw k n x).left.entries ∙ ap (sum (λ m. m)) (others ∙ sym (map_without (λ (e : Entry). e.marks) n l)) ∙ sym (total_marks (without n l)) in
    record { others = others; term = λ a q. term n l a q ∙ ap (λ (i : ℕ). a.marks + i) (sym left) }
