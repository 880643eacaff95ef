-- The member learns nothing of the marks: sittings that differ in nothing but marks are answered alike.
use Prim.Native.Nat.{ℕ, zero, suc}
use mathlib.Core.Path.{◌≡◌, refl, sym, ap, ap₂, subst₂, ◌∙◌}
use mathlib.Core.List.{List, [], ◌∷◌, ◌++◌, map-append, map-map, nil≢cons}
use lib.ListN.{length, get_or, drop, length-map}
use native.Mathlib.Omega.{arith}
use Rattle.model.specs.MagicString.{MagicString}
use Rattle.model.specs.Limits.{Limits}
use Rattle.model.specs.Call.{after, answers, edited, freeze}
use Rattle.model_sheet.specs.Record.{Recorded, parsed}
use Rattle.model_sheet.specs.Sheet.{recorded_calls}
use Rattle.model_filed.specs.Filed.{Entry, calls, answers_of, marks_of, entries_with, Sitting, before_first, start_of, core_call, unchanged, refused_filing, filed, file}
use Rattle.model_filed.specs.Filed.{without, no_such_call, withdraw, freeze_beside}
use Rattle.model_filed.specs.Marks.{with_marks, mark_behind, refused_marks, set_marks, member_bytes, show_entry, unmarked, SameButMarks, AnsweredAlike, MarksUnseen}
use Rattle.model_filed.specs.Kept.{marked_beside}
use Rattle.model_filed.proofs.Filing.{file_refused, file_filed, withdraw_refused, withdraw_done, found_range, freeze_empty, freeze_filed}
use Rattle.model_filed.proofs.Marks.{set_refused, set_done}

-- ── entries without their marks ──
calls_unmarked : (l : List Entry) → calls (unmarked l) ≡ calls l
calls_unmarked l = map-map (λ (e : Entry). e.call) (with_marks 0) l

answers_unmarked : (l : List Entry) → answers_of (unmarked l) ≡ answers_of l
answers_unmarked l = map-map (λ (e : Entry). e.answer) (with_marks 0) l

unmarked_with : (l : List Recorded) (ns ms : List ℕ) → unmarked (entries_with l ns ms) ≡ entries_with l ns []
unmarked_with [] ns ms = refl
unmarked_with (r ∷ l) ns ms = ap (λ (x : List Entry). record { call = r; answer = get_or ns 0 0; marks = 0 } ∷ x) (unmarked_with l (drop 1 ns) (drop 1 ms))

shown_unmarked : (n room : ℕ) (l : List Entry) → show_entry member_bytes n room (unmarked l) ≡ show_entry member_bytes n room l
unfolding show_entry
shown_unmarked zero room l = refl
shown_unmarked (suc n) room [] = refl
shown_unmarked (suc zero) room (e ∷ l) = refl
shown_unmarked (suc (suc n)) room (e ∷ l) = shown_unmarked (suc n) room l

-- marks that are written
unmarked_behind : (i m : ℕ) (l : List Entry) → unmarked (mark_behind i m l) ≡ unmarked l
unmarked_behind i m [] = refl
unmarked_behind zero m (e ∷ l) = refl
unmarked_behind (suc i) m (e ∷ l) = ap (λ (x : List Entry). with_marks 0 e ∷ x) (unmarked_behind i m l)

pub unmarked_set : (n m : ℕ) (l : List Entry) → unmarked (set_marks n m l) ≡ unmarked l
unmarked_set n m l = go (refused_marks n m l) refl
  where
    go : (i : ℕ) → refused_marks n m l ≡ i → unmarked (set_marks n m l) ≡ unmarked l
    go (suc i) e = ap unmarked (set_refused n m l i e)
    go zero e = ap unmarked (set_done n m l e) ∙ unmarked_behind _ m l

-- ── what two such sittings have in common ──
start_same : (l l' : List Entry) {desk desk' kept kept' : MagicString} → length l ≡ length l' → desk ≡ desk' → ((l ≡ [] → ⊥) → kept ≡ kept')
    → before_first l desk kept ≡ before_first l' desk' kept'
start_same [] [] h p q = p
start_same [] (e ∷ l') h p q = absurd (omega arith)
start_same (e ∷ l) [] h p q = absurd (omega arith)
start_same (e ∷ l) (e' ∷ l') h p q = q (λ z. nil≢cons (sym z))

module _ {x y : Sitting} (s : SameButMarks x y) where
  pub same_calls : calls x.entries ≡ calls y.entries
  same_calls = sym (calls_unmarked x.entries) ∙ ap calls s.entries ∙ calls_unmarked y.entries

  pub same_answers : answers_of x.entries ≡ answers_of y.entries
  same_answers = sym (answers_unmarked x.entries) ∙ ap answers_of s.entries ∙ answers_unmarked y.entries

  pub same_count : length x.entries ≡ length y.entries
  same_count = sym (length-map x.entries (with_marks 0)) ∙ ap length s.entries ∙ length-map y.entries (with_marks 0)

  pub same_start : start_of x ≡ start_of y
  same_start = start_same x.entries y.entries same_count s.desk s.kept

-- marks that are written leave all else
pub marked_same : (n m : ℕ) (x : Sitting) → SameButMarks x (marked_beside n m x).left
marked_same n m x = record { desk = refl; entries = sym (unmarked_set n m x.entries); kept = λ _. refl }

-- ── each of the member's calls ──
module _ (k : Limits) {x y : Sitting} (s : SameButMarks x y) where
  unchanged_alike : (n : ℕ) → AnsweredAlike (unchanged n x) (unchanged n y)
  unchanged_alike n = record { number = refl; value = refl; left = s }

  filed_alike : (r : Recorded) → AnsweredAlike (filed k r x) (filed k r y)
  filed_alike r =
      let one : MagicString → List Entry = λ m. record { call = r; answer = (core_call k r m).shown.number; marks = 0 } ∷ [] in
      let entries_are : (z : Sitting) → unmarked (filed k r z).left.entries ≡ unmarked z.entries ++ one z.desk =
      λ z. map-append (with_marks 0) z.entries (one z.desk) in
      record {
        number = ap (λ m. (core_call k r m).shown.number) s.desk;
        value = ap (λ m. (core_call k r m).shown.value) s.desk;
        left = record {
          desk = ap (λ m. (core_call k r m).desk) s.desk;
          entries = entries_are x ∙ ap₂ (λ l m. l ++ one m) s.entries s.desk ∙ sym (entries_are y);
          kept = λ _. same_start s;
        };
      }

  file_alike : (b : List ℕ) → AnsweredAlike (file k b x) (file k b y)
  file_alike b = go (refused_filing b (calls x.entries)) refl
    where
      of_y : refused_filing b (calls y.entries) ≡ refused_filing b (calls x.entries)
      of_y = ap (refused_filing b) (sym (same_calls s))

      go : (n : ℕ) → refused_filing b (calls x.entries) ≡ n → AnsweredAlike (file k b x) (file k b y)
      go (suc n) e = subst₂ AnsweredAlike (sym (file_refused k b x n e)) (sym (file_refused k b y n (of_y ∙ e))) (unchanged_alike (suc n))
      go zero e = subst₂ AnsweredAlike (sym (file_filed k b x e)) (sym (file_filed k b y (of_y ∙ e))) (filed_alike (parsed b))

  withdraw_alike : (n : ℕ) → AnsweredAlike (withdraw k n x) (withdraw k n y)
  unfolding no_such_call
  withdraw_alike n = go (no_such_call n x.entries) refl
    where
      of_y : no_such_call n y.entries ≡ no_such_call n x.entries
      of_y = rw (same_count s)

      go : (i : ℕ) → no_such_call n x.entries ≡ i → AnsweredAlike (withdraw k n x) (withdraw k n y)
      go (suc i) e = subst₂ AnsweredAlike (sym (withdraw_refused k n x i e)) (sym (withdraw_refused k n y i (of_y ∙ e))) (unchanged_alike (suc i))
      go zero e =
          let r = found_range n x.entries e in
          let kept_is : x.kept ≡ y.kept = s.kept (λ q. omega (arith, r.0, r.1, ap length q)) in
          let calls_are : without n (calls x.entries) ≡ without n (calls y.entries) = ap (without n) (same_calls s) in
          let run : MagicString → List Recorded → List Entry = λ m l. entries_with l (answers k (recorded_calls l) m) [] in
          let run_is : (z : Sitting) → _ ≡ run z.kept (without n (calls z.entries)) =
          λ z. let l = without n (calls z.entries) in unmarked_with l (answers k (recorded_calls l) z.kept) (without n (marks_of z.entries)) in
          subst₂ AnsweredAlike (sym (withdraw_done k n x e)) (sym (withdraw_done k n y (of_y ∙ e)))
          (record {
            number = refl;
            value = refl;
            left = record {
              desk = ap₂ (λ m l. after k (recorded_calls l) m) kept_is calls_are;
              entries = run_is x ∙ ap₂ run kept_is calls_are ∙ sym (run_is y);
              kept = λ _. kept_is;
            };
          })

  freeze_alike : (a b : ℕ) → AnsweredAlike (freeze_beside k a b x) (freeze_beside k a b y)
  freeze_alike a b = go x.entries refl y.entries refl
    where
      go : (l : List Entry) → x.entries ≡ l → (l' : List Entry) → y.entries ≡ l' → AnsweredAlike (freeze_beside k a b x) (freeze_beside k a b y)
      go [] p [] q =
          subst₂ AnsweredAlike (sym (freeze_empty k a b x p)) (sym (freeze_empty k a b y q))
          (record {
            number = ap (λ m. (edited k (freeze a b) m).shown.number) s.desk;
            value = ap (λ m. (edited k (freeze a b) m).shown.value) s.desk;
            left = record { desk = ap (λ m. (edited k (freeze a b) m).desk) s.desk; entries = s.entries; kept = s.kept };
          })
      go [] p (e ∷ l) q = absurd (omega (arith, same_count s, ap length p, ap length q))
      go (e ∷ l) p [] q = absurd (omega (arith, same_count s, ap length p, ap length q))
      go (e ∷ l) p (e' ∷ l') q = subst₂ AnsweredAlike (sym (freeze_filed k a b x p)) (sym (freeze_filed k a b y q)) (unchanged_alike 20)

  entry_alike : (n room : ℕ) → show_entry member_bytes n room x.entries ≡ show_entry member_bytes n room y.entries
  entry_alike n room = sym (shown_unmarked n room x.entries) ∙ ap (show_entry member_bytes n room) s.entries ∙ shown_unmarked n room y.entries

pub marks_unseen : MarksUnseen
marks_unseen k x y s = record { file = file_alike k s; withdraw = withdraw_alike k s; freeze = freeze_alike k s; entry = entry_alike k s }
