-- The numbers that the record's calls give: those of the call, and no others.
use Prim.Native.Nat.{ℕ, zero, suc}
use mathlib.Core.Path.{◌≡◌, refl, sym, ap, ◌∙◌}
use mathlib.Core.Bool.{Bool, true, false, ◌&&◌, not, cond}
use mathlib.Core.List.{List, [], ◌∷◌, ◌++◌}
use mathlib.Core.Option.{Option, none, some}
use lib.Dec.{ltb, leb}
use lib.ListN.{length}
use Rattle.model.specs.Limits.{Limits}
use Rattle.model.specs.WellFormed.{Formed}
use Rattle.model.specs.Call.{freeze, edit_numbers, run, Shown, refusal, into}
use Rattle.model_preservation.specs.Refusals.{among}
use Rattle.model_preservation.proofs.Lists.{of_cond}
use Rattle.model_preservation.proofs.Refusals.{answer_listed}
use Rattle.model_preservation.proofs.Numbers.{listed_behind}
use Rattle.model_sheet.specs.Record.{Recorded, parsed}
use Rattle.model_sheet.specs.Sheet.{call_of}
use Rattle.model_filed.specs.Filed.{Entry, Sitting, Answered, calls, within_bounds, is_record, refused_filing, file, no_such_call, withdraw, freeze_beside}
use Rattle.model_filed.specs.Marks.{HIGHEST_MARKS, refused_marks, entry_at, show_entry}
use Rattle.model_filed.proofs.Filing.{file_refused, file_filed, withdraw_refused, withdraw_done, freeze_empty, freeze_filed}

-- 16 and 13, before any of these
refused_listed : (s : List ℕ) (l : List Recorded) (ns : List ℕ) → among (refused_filing s l) (16 ∷ 13 ∷ ns) ≡ true
unfolding refused_filing
refused_listed s l ns = go (is_record s) (within_bounds (l ++ (parsed s ∷ [])))
  where
    go : (a b : Bool) → among (cond (not a) 16 (cond (not b) 13 0)) (16 ∷ 13 ∷ ns) ≡ true
    go false b = refl
    go true false = refl
    go true true = refl

pub file_listed : (k : Limits) (s : List ℕ) (x : Sitting) → Formed x.desk → among (file k s x).number (16 ∷ 13 ∷ edit_numbers (call_of (parsed s))) ≡ true
file_listed k s x f = go (refused_filing s (calls x.entries)) refl
  where
    go : (n : ℕ) → refused_filing s (calls x.entries) ≡ n → among (file k s x).number (16 ∷ 13 ∷ edit_numbers (call_of (parsed s))) ≡ true
    go (suc n) e =
        ap (λ (a : Answered). among a.number (16 ∷ 13 ∷ edit_numbers (call_of (parsed s)))) (file_refused k s x n e)
        ∙ sym (ap (λ (i : ℕ). among i (16 ∷ 13 ∷ edit_numbers (call_of (parsed s)))) e)
        ∙ refused_listed s (calls x.entries) (edit_numbers (call_of (parsed s)))
    go zero e =
        ap (λ (a : Answered). among a.number (16 ∷ 13 ∷ edit_numbers (call_of (parsed s)))) (file_filed k s x e)
        ∙ listed_behind (run k (call_of (parsed s)) x.desk).number 16 (13 ∷ edit_numbers (call_of (parsed s)))
        (listed_behind (run k (call_of (parsed s)) x.desk).number 13 (edit_numbers (call_of (parsed s))) (answer_listed k (call_of (parsed s)) x.desk f))

pub withdraw_listed : (k : Limits) (n : ℕ) (x : Sitting) → among (withdraw k n x).number (17 ∷ []) ≡ true
unfolding withdraw no_such_call
withdraw_listed k n x = go (ltb 0 n && leb n (length x.entries)) refl
  where
    go : (b : Bool) → (ltb 0 n && leb n (length x.entries)) ≡ b → among (withdraw k n x).number (17 ∷ []) ≡ true
    go true e = ap (λ (a : Answered). among a.number (17 ∷ [])) (withdraw_done k n x (rw e refl))
    go false e = ap (λ (a : Answered). among a.number (17 ∷ [])) (withdraw_refused k n x 16 (rw e refl))

pub freeze_listed : (k : Limits) (a b : ℕ) (x : Sitting) → Formed x.desk → among (freeze_beside k a b x).number (20 ∷ edit_numbers (freeze a b)) ≡ true
freeze_listed k a b x f = go x.entries refl
  where
    go : (l : List Entry) → x.entries ≡ l → among (freeze_beside k a b x).number (20 ∷ edit_numbers (freeze a b)) ≡ true
    go [] e =
        ap (λ (o : Answered). among o.number (20 ∷ edit_numbers (freeze a b))) (freeze_empty k a b x e)
        ∙ listed_behind (run k (freeze a b) x.desk).number 20 (edit_numbers (freeze a b)) (answer_listed k (freeze a b) x.desk f)
    go (c ∷ l) e = ap (λ (o : Answered). among o.number (20 ∷ edit_numbers (freeze a b))) (freeze_filed k a b x e)

pub marks_listed : (n m : ℕ) (l : List Entry) → among (refused_marks n m l) (17 ∷ 21 ∷ []) ≡ true
unfolding refused_marks no_such_call
marks_listed n m l = go (ltb 0 n && leb n (length l)) (leb m HIGHEST_MARKS)
  where
    go : (a b : Bool) → among (elim (cond {A = ℕ} a 0 17) as (λ _. ℕ) [ suc i ↦ suc i | zero ↦ cond b 0 21 ]) (17 ∷ 21 ∷ []) ≡ true
    go false b = refl
    go true false = refl
    go true true = refl

pub entry_listed : (reading : Entry → List ℕ) (n room : ℕ) (l : List Entry) → among (show_entry reading n room l).number (17 ∷ 14 ∷ []) ≡ true
unfolding show_entry
entry_listed reading n room l = go (entry_at n l)
  where
    go : (o : Option Entry) → among (elim o as (λ _. Shown) [ none ↦ refusal 17 | some e ↦ into room (reading e) ]).number (17 ∷ 14 ∷ []) ≡ true
    go none = refl
    go (some e) = of_cond (λ (x : Shown). among x.number (17 ∷ 14 ∷ []) ≡ true) (leb (length (reading e)) room) (λ _. refl) (λ _. refl)
