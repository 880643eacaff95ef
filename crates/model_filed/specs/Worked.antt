-- Worked sittings, as a table: what is filed, withdrawn and marked on a desk, what each action answers, and the record and the text behind them; and readings of entries.
-- proofs/Example.antt computes each.
use Rattle.std.specs.Prelude.{ℕ, List, [], ◌∷◌, ◌++◌, length, replicate}
use Rattle.model.specs.Text.{Text}
use Rattle.model.specs.MagicString.{MagicString, new, to_string}
use Rattle.model.specs.Limits.{full}
use Rattle.model.specs.Call.{remove, freeze, after, Shown, refusal}
use Rattle.model_sheet.specs.Record.{Recorded, encode}
use Rattle.model_sheet.specs.Worked.{fields}
use Rattle.model_filed.specs.Filed.{Entry, Sitting, refused_filing}
use Rattle.model_filed.specs.Marks.{member_bytes, examiner_bytes, show_entry, total}
use Rattle.model_filed.specs.Kept.{Action, filing, withdrawing, marking, act, acts, begun}

-- the number and the value of each action
abbrev pub told : List Action → Sitting → List (ℕ × ℕ)
told [] x = []
told (a ∷ l) x = ((act full a x).number, (act full a x).value) ∷ told l (act full a x).left

pub record Worked : Type 0 where
  pub start : MagicString
  pub actions : List Action
  pub answers : List (ℕ × ℕ)
  pub entries : List Entry
  pub text : Text

abbrev pub marked : Recorded → ℕ → ℕ → Entry
marked r n m = record { call = r; answer = n; marks = m }

abbrev pub entry : Recorded → ℕ → Entry
entry r n = marked r n 0

abbrev pub filing_of : Recorded → Action
filing_of r = filing (encode r)

-- "abcdef"
abbrev pub source : Text
source = 0x61 ∷ 0x62 ∷ 0x63 ∷ 0x64 ∷ 0x65 ∷ 0x66 ∷ []

-- update 1 to 4 by "XY"; relocate 2 to 3 to 5; update 1 to 4 by "Q"; prepend_right at 6 of a text that is not UTF-8
abbrev pub replaced : Recorded
replaced = fields 2 1 4 0 (0x58 ∷ 0x59 ∷ [])

abbrev pub moved : Recorded
moved = fields 8 2 3 5 []

abbrev pub again : Recorded
again = fields 2 1 4 0 (0x51 ∷ [])

abbrev pub not_text : Recorded
not_text = fields 7 6 0 0 (0xFF ∷ [])

-- append_left at 1 of "X"; update 4 to 6 by "Q"
abbrev pub inserted : Recorded
inserted = fields 5 1 0 0 (0x58 ∷ [])

abbrev pub late : Recorded
late = fields 2 4 6 0 (0x51 ∷ [])

-- edits that are made before the first call is filed, and are not filed
abbrev pub begun_on : MagicString
begun_on = after full (remove 1 2 ∷ freeze 3 6 ∷ []) (new source)

abbrev pub filed_three : List Action
filed_three = filing_of replaced ∷ filing_of moved ∷ filing_of again ∷ []

-- behind the withdrawal of the first of them, where the second had 45 marks and the third 100
abbrev pub marks_moved : List Entry
marks_moved = marked moved 0 45 ∷ marked again 7 100 ∷ []

abbrev pub worked : List Worked
worked =
    -- a refused call is filed too; the text is "aQef"
    record {
      start = new source;
      actions = filed_three;
      answers = (0, 2) ∷ (6, 0) ∷ (0, 0) ∷ [];
      entries = entry replaced 0 ∷ entry moved 6 ∷ entry again 0 ∷ [];
      text = 0x61 ∷ 0x51 ∷ 0x65 ∷ 0x66 ∷ [];
    }
    -- the first withdrawn: the move is accepted now, and the replacement across the moved edge refused; the text is "abdecf"
    ∷ record {
      start = new source;
      actions = filed_three ++ (withdrawing 1 ∷ []);
      answers = (0, 2) ∷ (6, 0) ∷ (0, 0) ∷ (0, 0) ∷ [];
      entries = entry moved 0 ∷ entry again 7 ∷ [];
      text = 0x61 ∷ 0x62 ∷ 0x64 ∷ 0x65 ∷ 0x63 ∷ 0x66 ∷ [];
    }
    -- the last withdrawn: "aXYef"; then there is no third
    ∷ record {
      start = new source;
      actions = filed_three ++ (withdrawing 3 ∷ withdrawing 3 ∷ withdrawing 0 ∷ []);
      answers = (0, 2) ∷ (6, 0) ∷ (0, 0) ∷ (0, 0) ∷ (17, 0) ∷ (17, 0) ∷ [];
      entries = entry replaced 0 ∷ entry moved 6 ∷ [];
      text = 0x61 ∷ 0x58 ∷ 0x59 ∷ 0x65 ∷ 0x66 ∷ [];
    }
    -- no bytes, no such kind and two records are 16; a text that is not UTF-8 is filed with 1; then all is withdrawn
    ∷ record {
      start = new source;
      actions = filing [] ∷ filing (0 ∷ 1 ∷ 9 ∷ []) ∷ filing (encode moved ++ encode moved) ∷ filing_of not_text ∷ withdrawing 1 ∷ withdrawing 1 ∷ [];
      answers = (16, 0) ∷ (16, 0) ∷ (16, 0) ∷ (1, 0) ∷ (0, 0) ∷ (17, 0) ∷ [];
      entries = [];
      text = source;
    }
    -- a desk with "b" removed and "def" frozen, neither of them filed: a replacement in the frozen part is filed with 20, the cut that it made counted; what was filed before it is withdrawn,
    -- and then it: removal and mark are still there, so that the next is refused too
    ∷ record {
      start = begun_on;
      actions = filing_of inserted ∷ filing_of late ∷ withdrawing 1 ∷ withdrawing 1 ∷ filing_of late ∷ [];
      answers = (0, 0) ∷ (20, 1) ∷ (0, 0) ∷ (0, 0) ∷ (20, 1) ∷ [];
      entries = entry late 20 ∷ [];
      text = 0x61 ∷ 0x63 ∷ 0x64 ∷ 0x65 ∷ 0x66 ∷ [];
    }
    -- marks for the second and the third; there is no fourth, whatever its marks, and 101 are too many. Then the first is withdrawn: marks go with their entries, and answers are written anew
    ∷ record {
      start = new source;
      actions = filed_three ++ (marking 2 45 ∷ marking 3 100 ∷ marking 4 1 ∷ marking 4 101 ∷ marking 2 101 ∷ withdrawing 1 ∷ []);
      answers = (0, 2) ∷ (6, 0) ∷ (0, 0) ∷ (0, 0) ∷ (0, 0) ∷ (17, 0) ∷ (17, 0) ∷ (21, 0) ∷ (0, 0) ∷ [];
      entries = marks_moved;
      text = 0x61 ∷ 0x62 ∷ 0x64 ∷ 0x65 ∷ 0x63 ∷ 0x66 ∷ [];
    }
    ∷ []

-- the sitting as it is computed
abbrev pub computed : Worked → Worked
computed w =
    let x = begun w.start w.start in
    let y = acts full w.actions x in
    record { start = w.start; actions = w.actions; answers = told w.actions x; entries = y.entries; text = to_string y.desk }

-- ── readings of these two entries, as a table: by number, into a buffer, and what is shown ──
pub record Read : Type 0 where
  pub reading : Entry → List ℕ
  pub n : ℕ
  pub room : ℕ
  pub shown : Shown

abbrev pub whole : List ℕ → Shown
whole t = record { number = 0; value = length t; written = t }

-- the second: update 1 to 4 by "Q", answered by 7, with 100 marks
abbrev pub second_bytes : List ℕ
second_bytes = 0x00 ∷ 0x0A ∷ 0x02 ∷ 0x00 ∷ 0x00 ∷ 0x00 ∷ 0x01 ∷ 0x00 ∷ 0x00 ∷ 0x00 ∷ 0x04 ∷ 0x51 ∷ 7 ∷ []

abbrev pub readings : List Read
readings =
    record { reading = member_bytes; n = 2; room = 13; shown = whole second_bytes }
    ∷ record { reading = member_bytes; n = 2; room = 12; shown = refusal 14 }
    ∷ record { reading = examiner_bytes; n = 2; room = 14; shown = whole (second_bytes ++ (100 ∷ [])) }
    ∷ record { reading = examiner_bytes; n = 2; room = 13; shown = refusal 14 }
    -- calls are counted from 1, and 17 comes first
    ∷ record { reading = member_bytes; n = 0; room = 0; shown = refusal 17 }
    ∷ record { reading = examiner_bytes; n = 3; room = 0; shown = refusal 17 }
    ∷ []

abbrev pub read_computed : Read → Read
read_computed q = record { reading = q.reading; n = q.n; room = q.room; shown = show_entry q.reading q.n q.room marks_moved }

-- totals
abbrev pub totals : List (List Entry × ℕ)
totals = ([], 0) ∷ (entry replaced 0 ∷ [], 0) ∷ (marks_moved, 145) ∷ []

abbrev pub total_computed : List Entry × ℕ → List Entry × ℕ
total_computed q = (q.0, total q.0)

-- ── bounds, as a table: calls that are filed, the bytes of one more, and the number that refuses it ──
abbrev pub text_of : ℕ → Recorded
text_of n = fields 4 0 0 0 (replicate n 0x61)

abbrev pub bounds : List ((List Recorded × List ℕ) × ℕ)
bounds =
    -- "up to 200 calls"
    ((replicate 199 moved, encode moved), 0)
    ∷ ((replicate 200 moved, encode moved), 13)
    -- "at most 32,768 bytes of text"
    ∷ ((text_of 32767 ∷ [], encode (text_of 1)), 0)
    ∷ ((text_of 32767 ∷ [], encode (text_of 2)), 13)
    ∷ ((text_of 32768 ∷ [], encode (text_of 0)), 0)
    ∷ (([], encode (text_of 32768)), 0)
    ∷ (([], encode (text_of 32769)), 13)
    -- 16 comes first
    ∷ ((replicate 200 moved, []), 16)
    ∷ []

abbrev pub bound_computed : (List Recorded × List ℕ) × ℕ → (List Recorded × List ℕ) × ℕ
bound_computed q = (q.0, refused_filing q.0.1 q.0.0)
