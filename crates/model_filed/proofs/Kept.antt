-- Whatever is filed, withdrawn and marked, the desk is what the record gives when run.
use Prim.Native.Nat.{ℕ, zero, suc}
use mathlib.Core.Path.{◌≡◌, refl, sym, ap, ap₂, subst, ◌∙◌}
use mathlib.Core.List.{List, [], ◌∷◌, ◌++◌, map-append}
use lib.ListN.{length}
use native.Mathlib.Omega.{arith}
use Rattle.model.specs.MagicString.{MagicString}
use Rattle.model.specs.Limits.{Limits}
use Rattle.model.specs.Call.{run, after, answers}
use Rattle.model_sheet.specs.Record.{Recorded, parsed}
use Rattle.model_sheet.specs.Sheet.{call_of, recorded_calls}
use Rattle.model_sheet.proofs.Runs.{answers_length}
use Rattle.model_filed.specs.Filed.{Entry, calls, marks_of, Sitting, before_first, start_of, Answered, refused_filing, filed, file, without, run_anew, no_such_call, withdraw}
use Rattle.model_filed.specs.Marks.{SameButMarks}
use Rattle.model_filed.specs.Kept.{Action, filing, withdrawing, marking, marked_beside, act, acts, begun, Agrees, AlwaysAgrees, LeavesOthers}
use Rattle.model_filed.proofs.Filing.{calls_with, answers_with, found_range, file_refused, file_filed, withdraw_refused, withdraw_done, withdrawn}
use Rattle.model_filed.proofs.Unseen.{same_calls, same_answers, same_start, marked_same}

-- ── a call more at the end of a run ──
after_snoc : (k : Limits) (l : List Recorded) (r : Recorded) (m : MagicString) → after k (recorded_calls (l ++ (r ∷ []))) m ≡ (run k (call_of r) (after k (recorded_calls l) m)).desk
after_snoc k [] r m = refl
after_snoc k (q ∷ l) r m = after_snoc k l r (run k (call_of q) m).desk

answers_snoc : (k : Limits) (l : List Recorded) (r : Recorded) (m : MagicString)
    → answers k (recorded_calls (l ++ (r ∷ []))) m ≡ answers k (recorded_calls l) m ++ ((run k (call_of r) (after k (recorded_calls l) m)).number ∷ [])
answers_snoc k [] r m = refl
answers_snoc k (q ∷ l) r m = ap (λ (ns : List ℕ). (run k (call_of q) m).number ∷ ns) (answers_snoc k l r (run k (call_of q) m).desk)

-- ── what agrees with a start desk ──
-- what is run from a list of calls, beside the start desk that is kept
pub anew_agrees : (k : Limits) (start : MagicString) (l : List Recorded) (ms : List ℕ) → Agrees k start (run_anew k start l ms)
anew_agrees k start l ms =
    let ns = answers k (recorded_calls l) start in
    let same = sym (calls_with l ns ms) in
    record {
      begins = go l;
      desk = ap (λ c. after k (recorded_calls c) start) same;
      answers = answers_with l ns ms (answers_length k l start) ∙ ap (λ c. answers k (recorded_calls c) start) same;
    }
  where
    go : (c : List Recorded) → start_of (run_anew k start c ms) ≡ start
    go [] = refl
    go (r ∷ c) = refl

-- a call behind others is no longer the first
begins_snoc : (l : List Entry) (e : Entry) (m kept : MagicString) → before_first (l ++ (e ∷ [])) m kept ≡ kept
begins_snoc [] e m kept = refl
begins_snoc (q ∷ l) e m kept = refl

module _ (k : Limits) (start : MagicString) (x : Sitting) (g : Agrees k start x) where
  -- filing the next call is running the list with it
  filed_agrees : (r : Recorded) → Agrees k start (filed k r x).left
  filed_agrees r =
      let l = calls x.entries in
      let n = (run k (call_of r) x.desk).number in
      let e : Entry = record { call = r; answer = n; marks = 0 } in
      let calls_are : calls (x.entries ++ (e ∷ [])) ≡ l ++ (r ∷ []) = map-append (λ (e : Entry). e.call) x.entries (e ∷ []) in
      let n-is : (run k (call_of r) (after k (recorded_calls l) start)).number ≡ n = ap (λ m. (run k (call_of r) m).number) (sym g.desk) in
      record {
        begins = begins_snoc x.entries e (run k (call_of r) x.desk).desk (start_of x) ∙ g.begins;
        desk =
            ap (λ m. (run k (call_of r) m).desk) g.desk ∙ sym (after_snoc k l r start)
            ∙ sym (ap (λ c. after k (recorded_calls c) start) calls_are);
        answers =
            map-append (λ (e : Entry). e.answer) x.entries (e ∷ [])
            ∙ ap₂ (λ (y : List ℕ) (i : ℕ). y ++ (i ∷ [])) g.answers (sym n-is)
            ∙ sym (answers_snoc k l r start)
            ∙ sym (ap (λ c. answers k (recorded_calls c) start) calls_are);
      }

  pub file_agrees : (s : List ℕ) → Agrees k start (file k s x).left
  file_agrees s = go (refused_filing s (calls x.entries)) refl
    where
      go : (n : ℕ) → refused_filing s (calls x.entries) ≡ n → Agrees k start (file k s x).left
      go (suc n) e = subst (λ (a : Answered). Agrees k start a.left) (sym (file_refused k s x n e)) g
      go zero e = subst (λ (a : Answered). Agrees k start a.left) (sym (file_filed k s x e)) (filed_agrees (parsed s))

  -- where a call is filed the start desk is the kept one
  kept_is : (n : ℕ) → no_such_call n x.entries ≡ 0 → x.kept ≡ start
  kept_is n e = go x.entries refl
    where
      go : (l : List Entry) → x.entries ≡ l → x.kept ≡ start
      go [] q = let r = found_range n x.entries e in absurd (omega (arith, r.0, r.1, ap length q))
      go (c ∷ l) q = sym (ap (λ y. before_first y x.desk x.kept) q) ∙ g.begins

  pub withdraw_agrees : (n : ℕ) → Agrees k start (withdraw k n x).left
  withdraw_agrees n = go (no_such_call n x.entries) refl
    where
      go : (i : ℕ) → no_such_call n x.entries ≡ i → Agrees k start (withdraw k n x).left
      go (suc i) e = subst (λ (a : Answered). Agrees k start a.left) (sym (withdraw_refused k n x i e)) g
      go zero e =
          let l = without n (calls x.entries) in
          let ms = without n (marks_of x.entries) in
          subst (λ (a : Answered). Agrees k start a.left) (sym (withdraw_done k n x e))
          (subst (λ m. Agrees k start (run_anew k m l ms)) (sym (kept_is n e)) (anew_agrees k start l ms))

-- marks are not looked at
agrees_same : {k : Limits} {start : MagicString} {x y : Sitting} → SameButMarks x y → Agrees k start x → Agrees k start y
agrees_same {k} {start} s g =
    record {
      begins = sym (same_start s) ∙ g.begins;
      desk = sym s.desk ∙ g.desk ∙ ap (λ c. after k (recorded_calls c) start) (same_calls s);
      answers = sym (same_answers s) ∙ g.answers ∙ ap (λ c. answers k (recorded_calls c) start) (same_calls s);
    }

pub mark_agrees : {k : Limits} {start : MagicString} (x : Sitting) → Agrees k start x → (n m : ℕ) → Agrees k start (marked_beside n m x).left
mark_agrees x g n m = agrees_same (marked_same n m x) g

act_agrees : (k : Limits) (start : MagicString) (a : Action) (x : Sitting) → Agrees k start x → Agrees k start (act k a x).left
act_agrees k start (filing s) x g = file_agrees k start x g s
act_agrees k start (withdrawing n) x g = withdraw_agrees k start x g n
act_agrees k start (marking n m) x g = mark_agrees x g n m

acts_agree : (k : Limits) (start : MagicString) (l : List Action) (x : Sitting) → Agrees k start x → Agrees k start (acts k l x)
acts_agree k start [] x g = g
acts_agree k start (a ∷ l) x g = acts_agree k start l (act k a x).left (act_agrees k start a x g)

pub always_agrees : AlwaysAgrees
always_agrees k start kept l = acts_agree k start l (begun start kept) (record { begins = refl; desk = refl; answers = refl })

pub leaves_others : LeavesOthers
leaves_others k n x e =
    let l = without n (calls x.entries) in
    ap (λ (a : Answered). calls a.left.entries) (withdraw_done k n x (withdrawn k n x e))
    ∙ calls_with l (answers k (recorded_calls l) x.kept) (without n (marks_of x.entries))
