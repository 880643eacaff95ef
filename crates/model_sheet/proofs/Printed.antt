-- What is printed, by the number of the run.
use Prim.Native.Nat.{ℕ, zero, suc, ◌<◌}
use mathlib.Core.Path.{◌≡◌, refl, sym, ap, subst, ◌∙◌}
use mathlib.Core.Bool.{Bool, true, false}
use mathlib.Core.List.{List, [], ◌++◌}
use mathlib.Core.Option.{Option, none, some}
use lib.Dec.{leb}
use borrow.Author.Tests.{leb-true, leb-false}
use lib.ListN.{length}
use native.Mathlib.Omega.{arith}
use Rattle.utf8.specs.Chars.{All}
use Rattle.model.specs.MagicString.{new, to_string}
use Rattle.model.specs.Limits.{full}
use Rattle.model.specs.Call.{opened, Outcome}
use Rattle.model_preservation.proofs.Calls.{opened_keeps}
use Rattle.model_sheet.specs.Sheet.{MOST_RECORDS, Sheet, sheet, all_made, refused_by, line, lines, printed_run, run_of, list_of, printed}
use Rattle.model_sheet.proofs.Runs.{run_none, run_some, run_refused, run_short, run_made, answers_length, answers_small}

pub printed_refused : (s : List ℕ) (n : ℕ) → (run_of s).shown.number ≡ suc n → printed s ≡ line 0 (suc n)
unfolding printed printed_run
printed_refused s n e = rw (e, printed_run) refl

-- a run that was accepted: its sheet, how many answers there are, what they are, and what is printed
pub record Accepted (s : List ℕ) : Type 0 where
  pub read : Sheet
  pub is : sheet s ≡ some read
  pub value : (run_of s).shown.value ≡ length read.list
  pub count : length (run_of s).shown.written ≡ length read.list
  pub small : All (λ x. x < 100) (run_of s).shown.written
  pub prints : printed s ≡ lines read.list (run_of s).shown.written ++ to_string (run_of s).desk

printed_accepted : (s : List ℕ) (w : Sheet) → sheet s ≡ some w → (run_of s).shown.number ≡ 0 → printed s ≡ lines w.list (run_of s).shown.written ++ to_string (run_of s).desk
unfolding printed printed_run
printed_accepted s w q z = rw (z, printed_run) (ap (λ (o : Option Sheet). lines (list_of o) (run_of s).shown.written ++ to_string (run_of s).desk) q)

accepted_run : (s : List ℕ) (w : Sheet) → sheet s ≡ some w → (run_of s).shown.number ≡ 0 → (opened full w.source (new [])).number ≡ 0
    → run_of s ≡ all_made full w.list (opened full w.source (new [])).desk → Accepted s
accepted_run s w q z o e =
    let m = (opened full w.source (new [])).desk in
    record {
      read = w;
      is = q;
      value = ap (λ (x : Outcome). x.shown.value) e;
      count = ap (λ (x : Outcome). length x.shown.written) e ∙ answers_length full w.list m;
      small = subst (λ (x : Outcome). All (λ n. n < 100) x.shown.written) (sym e) (answers_small full w.list m (opened_keeps full w.source (new []) (omega arith) o));
      prints = printed_accepted s w q z;
    }

pub accepted : (s : List ℕ) → (run_of s).shown.number ≡ 0 → Accepted s
accepted s z = go (sheet s) refl
  where
    none_zero : {X : Type 0} (n : ℕ) → run_of s ≡ refused_by (suc n) (new []) → X
    none_zero n e = let same : ◌≡◌ {A = ℕ} 0 (suc n) = sym z ∙ ap (λ (o : Outcome). o.shown.number) e in absurd (omega arith)

    roomy : (w : Sheet) → sheet s ≡ some w → (opened full w.source (new [])).number ≡ 0 → (b : Bool) → leb (length w.list) MOST_RECORDS ≡ b → Accepted s
    roomy w q o true h =
        accepted_run s w q z o (run_some full MOST_RECORDS (new []) s q ∙ run_made full MOST_RECORDS (new []) w o (leb-true (length w.list) MOST_RECORDS h))
    roomy w q o false h =
        none_zero 13 (run_some full MOST_RECORDS (new []) s q ∙ run_short full MOST_RECORDS (new []) w o (leb-false (length w.list) MOST_RECORDS h))

    numbered : (w : Sheet) → sheet s ≡ some w → (n : ℕ) → (opened full w.source (new [])).number ≡ n → Accepted s
    numbered w q zero o = roomy w q o (leb (length w.list) MOST_RECORDS) refl
    numbered w q (suc n) o = none_zero n (run_some full MOST_RECORDS (new []) s q ∙ run_refused full MOST_RECORDS (new []) w n o)

    go : (o : Option Sheet) → sheet s ≡ o → Accepted s
    go none q = none_zero 15 (run_none full MOST_RECORDS (new []) s q)
    go (some w) q = numbered w q (opened full w.source (new [])).number refl
