-- The record of filed calls in two lent slices (docs/LAYOUT.md). `words` says how many bytes the calls have; `bytes` holds them one behind the other, as document 02's L1 has records, and
-- behind their room the answers, and then L9's marks, a byte each. Behind these the record keeps a desk, L8's "desk as it stood before the first filed call": its tables in `words`, its
-- store in `bytes`.
use Rattle.std.specs.Prelude.{ℕ, ◌+◌, ◌≤◌, ◌<◌, ◌≡◌, Bool, ◌&&◌, cond, List, [], ◌∷◌, leb, eqb, length, get_or, take, drop}
use Rattle.std.proofs.Math.Option.{Option, none, some, bind}
use Rattle.memory_layout.specs.Layout.{RECORD_ANSWERS, RECORD_MARKS, RECORD_BYTES_LEN, RECORD_WORDS_LEN, RECORD_USED, CHUNKS_LEN, PIECES_LEN, STORE_LEN, KEPT_CHUNKS, KEPT_PIECES, KEPT_STORE}
use Rattle.memory.specs.Layout.{magic_string_of}
use Rattle.memory.specs.WellFormed.{Taken}
use Rattle.model.specs.MagicString.{MagicString}
use Rattle.model_sheet.specs.Record.{Recorded, records, text_size}
use Rattle.model_filed.specs.Filed.{Entry, entries_with, MOST_CALLS, MOST_TEXT, within_bounds}
use Rattle.model_filed.specs.Marks.{HIGHEST_MARKS, marks_fit}
use Rattle.filed_record.specs.declared.Size.{Size}

-- how many bytes the calls have
abbrev pub used_of : List ℕ → ℕ
used_of w = get_or w RECORD_USED 0

-- the bytes of the calls; those from the first answer on; and those from the first marks on
abbrev pub calls_of : List ℕ → List ℕ → List ℕ
calls_of w b = take (used_of w) b

abbrev pub record_answers_of : List ℕ → List ℕ
record_answers_of b = drop RECORD_ANSWERS b

abbrev pub record_marks_of : List ℕ → List ℕ
record_marks_of b = drop RECORD_MARKS b

-- the tables of the desk that is kept
abbrev pub kept_chunks : List ℕ → List ℕ
kept_chunks w = take CHUNKS_LEN (drop KEPT_CHUNKS w)

abbrev pub kept_pieces : List ℕ → List ℕ
kept_pieces w = take PIECES_LEN (drop KEPT_PIECES w)

abbrev pub kept_store : List ℕ → List ℕ
kept_store b = take STORE_LEN (drop KEPT_STORE b)

-- that desk, over the source of the desk beside the record
abbrev pub kept_of : List ℕ → List ℕ → List ℕ → MagicString
kept_of source w b = magic_string_of source (kept_chunks w) (kept_pieces w) (kept_store b)

-- slices of a record's lengths, and calls that end inside their room: what stands behind it are answers
unfoldable pub shaped : List ℕ → List ℕ → Bool
shaped w b = eqb (length w) RECORD_WORDS_LEN && (eqb (length b) RECORD_BYTES_LEN && leb (used_of w) RECORD_ANSWERS)

-- a list, if it keeps the bounds
abbrev pub bounded : List Recorded → Option (List Recorded)
bounded l = cond (within_bounds l) (some l) none

-- the calls with their answers and marks, if these fit
abbrev pub marked : List ℕ → List Recorded → Option (List Entry)
marked b l = let entries = entries_with l (record_answers_of b) (record_marks_of b) in cond (marks_fit entries) (some entries) none

-- the entries of the record that two slices hold, whatever it keeps; none where they hold no well-formed one: "A record that breaks these bounds or L1's record rules gets 2", and "a
-- record with higher marks gets 2"
unfoldable pub entries_of : List ℕ → List ℕ → Option (List Entry)
entries_of w b = cond (shaped w b) (bind (bind (records (calls_of w b)) bounded) (marked b)) none

-- "one with calls whose kept desk isn't well formed over the same source gets 2"; without calls what is kept is not looked at
abbrev pub KeptTaken : List ℕ → List ℕ → List ℕ → List Entry → Type 0
KeptTaken source w b [] = Unit {0}
KeptTaken source w b (e ∷ l) = Taken source (kept_chunks w) (kept_pieces w) (kept_store b)

-- two slices hold a well-formed record of this size, and the calls that it has, whatever it keeps
pub record Holds (w b : List ℕ) (z : Size) : Type 0 where
  pub words : length w ≡ RECORD_WORDS_LEN
  pub bytes : length b ≡ RECORD_BYTES_LEN
  pub used : used_of w ≡ z.used
  pub room : z.used ≤ RECORD_ANSWERS
  pub list : List Recorded
  pub are : records (take z.used b) ≡ some list
  pub count : length list ≡ z.count
  pub few : z.count ≤ MOST_CALLS
  pub text : text_size list ≡ z.text
  pub short : z.text ≤ MOST_TEXT
  pub marks : (i : ℕ) → i < z.count → get_or b (RECORD_MARKS + i) 0 ≤ HIGHEST_MARKS
