-- Document 02, L1: "A sheet is a version byte 1, a 16-bit source length, the source, then records." What a sheet is, what a run of it answers and leaves, and what the
-- sheet program prints. The Rust has no such call.
use Rattle.std.specs.Prelude.{ℕ, zero, suc, ◌+◌, ◌*◌, ◌/◌, ◌%◌, Bool, true, ◌&&◌, ◌||◌, cond, List, [], ◌∷◌, ◌++◌, map, length, get_or, take, drop, ltb, leb, eqb}
use Rattle.std.proofs.Math.Option
use Rattle.std.proofs.Math.Option.{Option, none, some, bind}
use Rattle.model.specs.Text.{Text}
use Rattle.model.specs.MagicString.{MagicString, new, to_string}
use Rattle.model.specs.Limits.{Limits, full}
use Rattle.model.specs.Call.{Edit, remove, update_with, reset, insert, relocate, opened, after, answers, refusal, Outcome}
use Rattle.model_sheet.specs.BigEndian.{number, bytes}
use Rattle.model_sheet.specs.Record.{Recorded, encode_all, records}

-- "A sheet has at most 200 records and 57,344 bytes"
abbrev pub MOST_RECORDS : ℕ
MOST_RECORDS = 200

abbrev pub MOST_BYTES : ℕ
MOST_BYTES = 57344

pub record Sheet : Type 0 where
  pub source : Text
  pub list : List Recorded

abbrev pub VERSION : ℕ
VERSION = 1

-- ── writing ──
unfoldable pub encode_sheet : Sheet → List ℕ
encode_sheet w = VERSION ∷ (bytes 2 (length w.source) ++ (w.source ++ encode_all w.list))

-- ── reading ──
-- the bytes before the source: the version and the source's length
abbrev pub FRONT : ℕ
FRONT = 3

unfoldable pub source_size : List ℕ → ℕ
source_size s = number (take 2 (drop 1 s))

abbrev pub source_of : List ℕ → Text
source_of s = take (source_size s) (drop FRONT s)

-- the bytes behind the source
abbrev pub records_of : List ℕ → List ℕ
records_of s = drop (FRONT + source_size s) s

-- the size, the version, and as many bytes of source as the length says
unfoldable pub front_fits : List ℕ → Bool
front_fits s = leb (length s) MOST_BYTES && (eqb (get_or s 0 0) VERSION && leb (FRONT + source_size s) (length s))

-- a list, if it has not too many records
abbrev pub few : List Recorded → Option (List Recorded)
few l = cond (leb (length l) MOST_RECORDS) (some l) none

-- none where "the version, a length, a kind, the record count or the size breaks these rules"
unfoldable pub sheet : List ℕ → Option Sheet
sheet s = cond (front_fits s) (Option.map (λ l. record { source = source_of s; list = l }) (bind (records (records_of s)) few)) none

-- ── running ──
-- the settings of an insertion, by its kind: "4 append_left, 5 append_right, 6 prepend_left, 7 prepend_right"
abbrev pub inserts_left : ℕ → Bool
inserts_left kind = eqb kind 4 || eqb kind 6

abbrev pub inserts_front : ℕ → Bool
inserts_front kind = leb 6 kind

-- the core call of a record, by its kind; a kind that no record has is given the last line
unfoldable pub call_of : Recorded → Edit
call_of r =
    cond (eqb r.kind 1) (remove r.a r.b)
    (cond (eqb r.kind 2) (update_with r.a r.b r.text true)
    (cond (eqb r.kind 3) (reset r.a r.b)
    (cond (eqb r.kind 8) (relocate r.a r.b r.c)
    (insert r.a r.text (inserts_left r.kind) (inserts_front r.kind)))))

abbrev pub recorded_calls : List Recorded → List Edit
recorded_calls l = map call_of l

abbrev pub refused_by : ℕ → MagicString → Outcome
refused_by n before = record { shown = refusal n; desk = before }

-- "a run, once opened, makes exactly one core call per record": the value is how many answers there are, and they are what is written
abbrev pub all_made : Limits → List Recorded → MagicString → Outcome
all_made k l m =
    record {
      shown = record { number = 0; value = length l; written = answers k (recorded_calls l) m };
      desk = after k (recorded_calls l) m;
    }

-- of a sheet that keeps the rules: 13 and 1 as an opening gives them, 14 where fewer bytes are lent than there are records; else every call is made
unfoldable pub run_read : Limits → ℕ → MagicString → Sheet → Outcome
run_read k room before w =
    let o = opened k w.source before in
    elim o.number [ suc n ↦ refused_by (suc n) before | zero ↦ cond (leb (length w.list) room) (all_made k w.list o.desk) (refused_by 14 before) ]

-- of any bytes: "16 .. comes before opening, leaves the desk untouched"
unfoldable pub run_sheet : Limits → ℕ → MagicString → List ℕ → Outcome
run_sheet k room before s = elim (sheet s) [ none ↦ refused_by 16 before | some w ↦ run_read k room before w ]

-- the numbers that a run of a sheet may give beside 0, in order. 2 is judged on the memory
abbrev pub sheet_numbers : List ℕ
sheet_numbers = 2 ∷ 16 ∷ 13 ∷ 1 ∷ 14 ∷ []

-- ── printing ──
-- the character of a digit
abbrev pub digit : ℕ → ℕ
digit n = 0x30 + n

-- a number below 100 in decimal: every kind and every answer is one
abbrev pub decimal : ℕ → Text
decimal n = cond (ltb n 10) (digit n ∷ []) (digit (n / 10) ∷ digit (n % 10) ∷ [])

-- "prints kind, space, answer (0 if accepted) and a line feed"
abbrev pub line : ℕ → ℕ → Text
line kind answer = decimal kind ++ (0x20 ∷ (decimal answer ++ (0x0A ∷ [])))

-- ".. per record"
unfoldable pub lines : List Recorded → List ℕ → Text
lines [] ns = []
lines (r ∷ l) [] = []
lines (r ∷ l) (n ∷ ns) = line r.kind n ++ lines l ns

-- ".. then the text with nothing after it". "If opening is refused, it prints "0", space, the answer and a line feed only"
unfoldable pub printed_run : List Recorded → Outcome → Text
printed_run l o = elim o.shown.number [ suc n ↦ line 0 (suc n) | zero ↦ lines l o.shown.written ++ to_string o.desk ]

-- the most bytes of a line (a kind of one digit, an answer of two), and of the text: the store and the source
abbrev pub MOST_LINE : ℕ
MOST_LINE = 5

abbrev pub MOST_TEXT : ℕ
MOST_TEXT = full.most_bytes + full.most_source

abbrev pub MOST_PRINTED : ℕ
MOST_PRINTED = MOST_LINE * MOST_RECORDS + MOST_TEXT

-- the run of the program, with as many answer bytes as a sheet may have records
abbrev pub run_of : List ℕ → Outcome
run_of s = run_sheet full MOST_RECORDS (new []) s

abbrev pub list_of : Option Sheet → List Recorded
list_of none = []
list_of (some w) = w.list

-- what the sheet program prints for its input; 16 "is printed as an opening refusal"
unfoldable pub printed : List ℕ → Text
printed s = printed_run (list_of (sheet s)) (run_of s)
