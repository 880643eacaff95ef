-- Document 02, L5: "Keep a record of up to 200 calls of L1's kinds with their answers, accepted or not, and at most 32,768 bytes of text." And L8: the record keeps the desk that its
-- calls began on. And L9: each entry has marks. The record, and what filing a call, withdrawing one and freezing beside it do to it and to the desk. The Rust has no such calls.
use Rattle.std.specs.Prelude.{ℕ, zero, suc, ◌-◌, Bool, ◌&&◌, not, cond, List, [], ◌∷◌, ◌++◌, map, ltb, leb, eqb, length, get_or, take, drop}
use Rattle.model.specs.MagicString.{MagicString}
use Rattle.model.specs.Limits.{Limits}
use Rattle.model.specs.Call.{Edit, freeze, after, answers, edited, edit_numbers, Outcome}
use Rattle.model_sheet.specs.Record.{Recorded, fits, extent, parsed, text_size}
use Rattle.model_sheet.specs.Sheet.{call_of, recorded_calls}

-- ── the record ──
-- a call that is filed, its answer, and its marks
pub record Entry : Type 0 where
  pub call : Recorded
  pub answer : ℕ
  pub marks : ℕ

abbrev pub calls : List Entry → List Recorded
calls l = map (λ (e : Entry). e.call) l

abbrev pub answers_of : List Entry → List ℕ
answers_of l = map (λ (e : Entry). e.answer) l

abbrev pub marks_of : List Entry → List ℕ
marks_of l = map (λ (e : Entry). e.marks) l

-- calls with answers and marks, one of each for each call
abbrev pub entries_with : List Recorded → List ℕ → List ℕ → List Entry
entries_with [] ns ms = []
entries_with (r ∷ l) ns ms = record { call = r; answer = get_or ns 0 0; marks = get_or ms 0 0 } ∷ entries_with l (drop 1 ns) (drop 1 ms)

-- a desk, and the record beside it: the calls that are filed, and the desk that it keeps
pub record Sitting : Type 0 where
  pub desk : MagicString
  pub kept : MagicString
  pub entries : List Entry

-- L8: "the desk as it stood before the first filed call". With calls it is the kept one; without, whatever is kept is not looked at
abbrev pub before_first : List Entry → MagicString → MagicString → MagicString
before_first [] desk kept = desk
before_first (e ∷ l) desk kept = kept

abbrev pub start_of : Sitting → MagicString
start_of x = before_first x.entries x.desk x.kept

-- "up to 200 calls .. and at most 32,768 bytes of text"
abbrev pub MOST_CALLS : ℕ
MOST_CALLS = 200

abbrev pub MOST_TEXT : ℕ
MOST_TEXT = 32768

unfoldable pub within_bounds : List Recorded → Bool
within_bounds l = leb (length l) MOST_CALLS && leb (text_size l) MOST_TEXT

-- ── what a call on a sitting answers and leaves ──
pub record Answered : Type 0 where
  pub number : ℕ
  pub value : ℕ
  pub left : Sitting

abbrev pub unchanged : ℕ → Sitting → Answered
unchanged n x = record { number = n; value = 0; left = x }

-- ── filing ──
-- whether bytes are exactly one record, its length field included
unfoldable pub is_record : List ℕ → Bool
is_record s = eqb (extent s) (length s) && fits (get_or s 2 0) (extent s)

-- "Filing a call that breaks L1's record rules gives 16 right after 2, and filing beyond either bound then gives 13 .. before the desk is touched"; 0 where it is filed
unfoldable pub refused_filing : List ℕ → List Recorded → ℕ
refused_filing s l =
    cond (not (is_record s)) 16
    (cond (not (within_bounds (l ++ (parsed s ∷ [])))) 13
    0)

-- the core call of a record, on a desk
abbrev pub core_call : Limits → Recorded → MagicString → Outcome
core_call k r m = edited k (call_of r) m

-- a call behind the others, "accepted or not": its core call's number is its answer, and that call's number and value are the filing's. The first keeps the desk that it begins on.
-- L9: its marks are "0 on filing"
abbrev pub filed : Limits → Recorded → Sitting → Answered
filed k r x =
    let o = core_call k r x.desk in
    record {
      number = o.shown.number;
      value = o.shown.value;
      left = record { desk = o.desk; kept = start_of x; entries = x.entries ++ (record { call = r; answer = o.shown.number; marks = 0 } ∷ []) };
    }

-- "a call so refused .. isn't filed"
unfoldable pub file : Limits → List ℕ → Sitting → Answered
file k s x = elim (refused_filing s (calls x.entries)) [ suc n ↦ unchanged (suc n) x | zero ↦ filed k (parsed s) x ]

-- ── withdrawing ──
-- "Calls are counted from 1 among those still filed": a list without its n-th
abbrev pub without : {A : Type 0} → ℕ → List A → List A
without n l = take (n - 1) l ++ drop n l

-- calls with these marks, run in order from a desk, which is kept: what is left of it, and each call with its answer
abbrev pub run_anew : Limits → MagicString → List Recorded → List ℕ → Sitting
run_anew k start l ms = record { desk = after k (recorded_calls l) start; kept = start; entries = entries_with l (answers k (recorded_calls l) start) ms }

-- "17, no call with that number"
unfoldable pub no_such_call : ℕ → List Entry → ℕ
no_such_call n l = cond (ltb 0 n && leb n (length l)) 0 17

-- "Withdrawing the k-th reports no cuts and leaves desk, text and remaining answers as if the others had been run in order on a fresh desk"; L8: "Withdrawing a call starts from now on
-- from the desk as it stood before the first filed call, marks included"; L9: "a withdrawn call takes its marks with it"
unfoldable pub withdraw : Limits → ℕ → Sitting → Answered
withdraw k n x =
    elim (no_such_call n x.entries) [
      | suc i ↦ unchanged (suc i) x
      | zero ↦ record { number = 0; value = 0; left = run_anew k x.kept (without n (calls x.entries)) (without n (marks_of x.entries)) }
    ]

-- ── freezing beside a record ──
-- an edit of the desk alone
abbrev pub edited_beside : Limits → Edit → Sitting → Answered
edited_beside k e x =
    let o = edited k e x.desk in
    record { number = o.shown.number; value = o.shown.value; left = record { desk = o.desk; kept = x.kept; entries = x.entries } }

abbrev pub if_filed : List Entry → Answered → Answered → Answered
if_filed [] filed none = none
if_filed (e ∷ l) filed none = filed

-- L8: "Freezing with calls already filed gets 20 after 2"; without calls it is the edit
unfoldable pub freeze_beside : Limits → ℕ → ℕ → Sitting → Answered
freeze_beside k a b x = if_filed x.entries (unchanged 20 x) (edited_beside k (freeze a b) x)

-- ── numbers ──
-- those that filing this call, withdrawing and freezing may give beside 0, in order; 13 is the record's own, and again one of the call's. 2 is judged on the memory
abbrev pub file_numbers : Edit → List ℕ
file_numbers e = 2 ∷ 16 ∷ 13 ∷ edit_numbers e

abbrev pub withdraw_numbers : List ℕ
withdraw_numbers = 2 ∷ 17 ∷ []

abbrev pub freeze_numbers : ℕ → ℕ → List ℕ
freeze_numbers a b = 2 ∷ 20 ∷ edit_numbers (freeze a b)
