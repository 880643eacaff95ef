-- Document 01's calls on a desk, by name, and what each gives: `run` for those that change it, `show` for those that report on it. Crate `model_calls` has the list of all calls.
use Rattle.std.specs.Prelude.{ℕ, zero, suc, ◌-◌, ◌%◌, Bool, true, false, ◌&&◌, ◌||◌, not, cond, List, [], ◌∷◌, ◌++◌, leb, eqb, length}
use Rattle.std.proofs.Math.Option.{Option, none, some}
use Rattle.utf8.specs.Rfc3629.{utf8, between}
use Rattle.model.specs.Text.{Text, unwrap_or, any, all}
use Rattle.model.specs.MagicString.{MagicString, Result, ok, err, new}
use Rattle.model.specs.MagicString as mod_rs
use Rattle.model.specs.Frozen.{Guard, unguarded, has_frozen, any_frozen}
use Rattle.model.specs.Frozen as frozen_parts
use Rattle.model.specs.Append as append_rs
use Rattle.model.specs.Prepend as prepend_rs
use Rattle.model.specs.Insert as insertion
use Rattle.model.specs.Update as update_rs
use Rattle.model.specs.Movement as movement_rs
use Rattle.model.specs.Reset as reset_rs
use Rattle.model.specs.Slice.{Sliced, text, refused}
use Rattle.model.specs.Slice as slice_rs
use Rattle.model.specs.Trim as trim_rs
use Rattle.model.specs.Indent.{is_empty_indentor}
use Rattle.model.specs.Indent as indent_rs
use Rattle.model.specs.Limits.{Limits, within}

-- the calls that change a desk
pub data Edit : Type 0 where
  remove : ℕ → ℕ → Edit
  update_with : ℕ → ℕ → Text → Bool → Edit
  reset : ℕ → ℕ → Edit
  -- at a position; left of it or right, at the front of the piece list or the back
  insert : ℕ → Text → Bool → Bool → Edit
  append prepend : Text → Edit
  relocate : ℕ → ℕ → ℕ → Edit
  trim trim_start trim_end : ℕ → Edit
  trim_lines : Edit
  indent_with : Option Text → List ℕ → Edit
  -- document 02, L8
  freeze : ℕ → ℕ → Edit

-- the calls that report on a desk. The last number of `to_string`, `slice`, `last_line` and `get_indent_string` is the length of the lent buffer; the end of a slice may be absent
pub data Report : Type 0 where
  to_string : ℕ → Report
  slice : ℕ → Option ℕ → ℕ → Report
  last_line : ℕ → Report
  get_indent_string : ℕ → Report
  len len_utf16 line_count : Report
  is_empty has_changed : Report
  is_range_within_edited_chunk : ℕ → ℕ → Report
  last_char : Report

-- ── a call that changes a desk ──
abbrev pub given : Option Text → List Text
given none = []
given (some t) = t ∷ []

-- What an edit is given, the Rust's function of its name, and the numbers that it may give
pub record Asked : Type 0 where
  -- 15: "pattern above 1, or an exclude list of odd count"
  pub options_valid : Bool
  -- 1: the texts
  pub texts : List Text
  -- 3: the positions
  pub positions : List ℕ
  -- 20 on any desk with a marked chunk
  pub whole : Bool
  -- whether the Rust accepts it without a step: zero width, or an empty indentor
  pub idle : Bool
  pub steps : MagicString → Result
  -- which of 15, 1, 3 and the whole desk's 20 it may give, and "the module's own" numbers, in the order of its tests
  pub before : List ℕ
  pub own : List ℕ
  -- of its own: "6, 7, 9 and `update_with`'s 10 leave the desk as the Rust does: cuts made stay, so do chunks cleared before 7. All others change nothing"; document 02 of 20: "cuts
  -- made stay"
  pub leaving : List ℕ

abbrev pub addition : Text → (MagicString → Result) → Asked
addition t f =
    record { options_valid = true; texts = t ∷ []; positions = []; whole = false; idle = false; steps = f; before = 1 ∷ []; own = []; leaving = [] }

abbrev pub trimming : Bool → List ℕ → (MagicString → MagicString) → Asked
trimming valid before f =
    record { options_valid = valid; texts = []; positions = []; whole = true; idle = false; steps = λ m. ok (f m); before = before; own = []; leaving = [] }

abbrev pub asked_by : Guard → Edit → Asked
asked_by g (remove a b) =
    record {
      options_valid = true;
      texts = [];
      positions = a ∷ b ∷ [];
      whole = false;
      idle = eqb a b;
      steps = movement_rs.remove g a b;
      before = 3 ∷ [];
      own = 4 ∷ 6 ∷ 20 ∷ [];
      leaving = 6 ∷ 20 ∷ [];
    }
asked_by g (update_with a b t o) =
    record {
      options_valid = true;
      texts = t ∷ [];
      positions = a ∷ b ∷ [];
      whole = false;
      idle = false;
      steps = update_rs.update_with g a b t o;
      before = 1 ∷ 3 ∷ [];
      own = 5 ∷ 4 ∷ 6 ∷ 10 ∷ 20 ∷ 7 ∷ [];
      leaving = 6 ∷ 10 ∷ 20 ∷ 7 ∷ [];
    }
asked_by g (reset a b) =
    record {
      options_valid = true;
      texts = [];
      positions = a ∷ b ∷ [];
      whole = false;
      idle = eqb a b;
      steps = reset_rs.reset g a b;
      before = 3 ∷ [];
      own = 4 ∷ 10 ∷ 6 ∷ 20 ∷ [];
      leaving = 6 ∷ 20 ∷ [];
    }
-- the one cut is made or refused, so that 6 leaves nothing
asked_by g (insert p t left front) =
    record {
      options_valid = true;
      texts = t ∷ [];
      positions = p ∷ [];
      whole = false;
      idle = false;
      steps = insertion.insert p t left front;
      before = 1 ∷ 3 ∷ [];
      own = 6 ∷ [];
      leaving = [];
    }
asked_by g (append t) = addition t (append_rs.append t)
asked_by g (prepend t) = addition t (prepend_rs.prepend t)
asked_by g (relocate a b to) =
    record {
      options_valid = true;
      texts = [];
      positions = a ∷ b ∷ to ∷ [];
      whole = false;
      idle = eqb a b;
      steps = movement_rs.relocate a b to;
      before = 3 ∷ [];
      own = 8 ∷ 4 ∷ 10 ∷ 6 ∷ 9 ∷ [];
      leaving = 6 ∷ 9 ∷ [];
    }
asked_by g (trim p) = trimming (leb p 1) (15 ∷ 20 ∷ []) (trim_rs.trim p)
asked_by g (trim_start p) = trimming (leb p 1) (15 ∷ 20 ∷ []) (trim_rs.trim_start p)
asked_by g (trim_end p) = trimming (leb p 1) (15 ∷ 20 ∷ []) (trim_rs.trim_end p)
asked_by g trim_lines = trimming true (20 ∷ []) trim_rs.trim_lines
asked_by g (indent_with i l) =
    record {
      options_valid = eqb (length l % 2) 0;
      texts = given i;
      positions = l;
      whole = true;
      idle = is_empty_indentor i;
      steps = indent_rs.indent_with i l;
      before = 15 ∷ 1 ∷ 3 ∷ 20 ∷ [];
      own = [];
      leaving = [];
    }
asked_by g (freeze a b) =
    record {
      options_valid = true;
      texts = [];
      positions = a ∷ b ∷ [];
      whole = false;
      idle = eqb a b;
      steps = frozen_parts.freeze a b;
      before = 3 ∷ [];
      own = 4 ∷ 10 ∷ 6 ∷ [];
      leaving = 6 ∷ [];
    }

-- by the marks
abbrev pub asked : Edit → Asked
asked = asked_by has_frozen

abbrev pub options_valid : Edit → Bool
options_valid e = (asked e).options_valid

abbrev pub texts : Edit → List Text
texts e = (asked e).texts

abbrev pub positions : Edit → List ℕ
positions e = (asked e).positions

abbrev pub whole : Edit → Bool
whole e = (asked e).whole

abbrev pub idle : Edit → Bool
idle e = (asked e).idle

abbrev pub steps : Edit → MagicString → Result
steps e = (asked e).steps

-- "Order: 2, 15, 1, 3, then the module's own". 2 is judged on the memory, before there is a desk to speak of. "For trim and indent [20] comes after 3", where a chunk is marked
abbrev pub refused_by : Bool → MagicString → Edit → ℕ
refused_by marked m e =
    cond (not (options_valid e)) 15
    (cond (not (all utf8 (texts e))) 1
    (cond (not (all (between m.source) (positions e))) 3
    (cond (whole e && marked) 20
    0)))

unfoldable pub refused_before : MagicString → Edit → ℕ
refused_before m e = refused_by (any_frozen m) m e

-- "13 stands after 3 and replaces any answer after it: .. given if and only if the desk that the Rust would leave .., accepted or refused, breaks a desk limit"; then nothing is changed
unfoldable pub judged : Limits → MagicString → Result → Result
judged k before r = cond (not (within k r.desk)) (err 13 before) r

unfoldable pub run : Limits → Edit → MagicString → Result
run k e m = elim (refused_before m e) [ suc n ↦ err (suc n) m | zero ↦ judged k m (steps e m) ]

-- the same as the Rust has it, which knows no marks: what document 01 says. crates/model_preservation proves that on a desk without marks it is `run`
unfoldable pub rust_run : Limits → Edit → MagicString → Result
rust_run k e m = elim (refused_by false m e) [ suc n ↦ err (suc n) m | zero ↦ judged k m ((asked_by unguarded e).steps m) ]

-- document 02, L4: "On a refusal the number counts the cuts that remain. It equals the growth in chunks." An edit's value
abbrev pub cuts_left : Limits → Edit → MagicString → ℕ
cuts_left k e m = length (run k e m).desk.chunks - length m.chunks

-- edits one after the other, behind refusals too: "each edit gets the desk that the one before it left". The desk after the last one, and the number of each
abbrev pub after : Limits → List Edit → MagicString → MagicString
after k [] m = m
after k (e ∷ L) m = after k L (run k e m).desk

abbrev pub answers : Limits → List Edit → MagicString → List ℕ
answers k [] m = []
answers k (e ∷ L) m = (run k e m).number ∷ answers k L (run k e m).desk

-- the numbers that an edit may give beside 0 and 2, in document 01's order
abbrev pub edit_numbers : Edit → List ℕ
edit_numbers e = (asked e).before ++ (13 ∷ (asked e).own)

-- the numbers with which an edit may change the desk
abbrev pub may_change : Edit → ℕ → Bool
may_change e n = eqb n 0 || any (eqb n) (asked e).leaving

-- ── a call that reports ──
-- the number, the value (0 where nothing is reported) and the bytes written at the front of the lent buffer; what lies behind them stays
pub record Shown : Type 0 where
  pub number : ℕ
  pub value : ℕ
  pub written : Text

abbrev pub refusal : ℕ → Shown
refusal k = record { number = k; value = 0; written = [] }

abbrev pub value_of : ℕ → Shown
value_of v = record { number = 0; value = v; written = [] }

-- a bool as 0 or 1
abbrev pub bit : Bool → ℕ
bit b = cond b 1 0

-- 14 comes last: "output buffer too short"
abbrev pub into : ℕ → Text → Shown
into room t = cond (leb (length t) room) (record { number = 0; value = length t; written = t }) (refusal 14)

abbrev pub sliced_into : ℕ → Sliced → Shown
sliced_into room (text t) = into room t
sliced_into room (refused k) = refusal k

abbrev pub slice_positions : ℕ → Option ℕ → List ℕ
slice_positions start none = start ∷ []
slice_positions start (some e) = start ∷ e ∷ []

-- `last_char`'s value where there is no last character
abbrev pub NO_CHAR : ℕ
NO_CHAR = 0xFFFF_FFFF

-- `place`'s value where the byte is replaced, or the source has no such byte
abbrev pub NO_PLACE : ℕ
NO_PLACE = 0xFFFF_FFFF

-- "An absent end is the source's end"
unfoldable pub show : Report → MagicString → Shown
show (to_string room) m = into room (mod_rs.to_string m)
show (slice start end room) m =
    cond (not (all (between m.source) (slice_positions start end))) (refusal 3)
    (sliced_into room (slice_rs.slice start (unwrap_or end (length m.source)) m))
show (last_line room) m = into room (mod_rs.last_line m)
show (get_indent_string room) m = into room (indent_rs.get_indent_string m.source)
show len m = value_of (mod_rs.len m)
show len_utf16 m = value_of (mod_rs.len_utf16 m)
show line_count m = value_of (mod_rs.line_count m)
show is_empty m = value_of (bit (mod_rs.is_empty m))
show has_changed m = value_of (bit (mod_rs.has_changed m))
show (is_range_within_edited_chunk a b) m = value_of (bit (mod_rs.is_range_within_edited_chunk a b m))
show last_char m = value_of (unwrap_or (mod_rs.last_char m) NO_CHAR)

-- the numbers that a report may give beside 0 and 2
abbrev pub report_numbers : Report → List ℕ
report_numbers (to_string room) = 14 ∷ []
report_numbers (slice start end room) = 3 ∷ 11 ∷ 12 ∷ 14 ∷ []
report_numbers (last_line room) = 14 ∷ []
report_numbers (get_indent_string room) = 14 ∷ []
report_numbers len = []
report_numbers len_utf16 = []
report_numbers line_count = []
report_numbers is_empty = []
report_numbers has_changed = []
report_numbers (is_range_within_edited_chunk a b) = []
report_numbers last_char = []

-- ── opening: "13 for the source's length, then 1" ──
unfoldable pub opened : Limits → Text → MagicString → Result
opened k source before =
    cond (not (leb (length source) k.most_source)) (err 13 before)
    (cond (not (utf8 source)) (err 1 before)
    (ok (new source)))

-- ── what any call gives ──
-- the number, the value, the bytes written outside the desk, and the desk after
pub record Outcome : Type 0 where
  pub shown : Shown
  pub desk : MagicString

abbrev pub changed : ℕ → Result → Outcome
changed value r = record { shown = record { number = r.number; value = value; written = [] }; desk = r.desk }

-- an edit: its number, its cuts and the desk after
abbrev pub edited : Limits → Edit → MagicString → Outcome
edited k e m = changed (cuts_left k e m) (run k e m)

-- "The edits of L are `remove`, `update_with`, `reset`, the left and right insertions at front or back, `prepend`, `append` and `relocate`"
abbrev pub listed : Edit → Bool
listed (remove a b) = true
listed (update_with a b t o) = true
listed (reset a b) = true
listed (insert p t left front) = true
listed (append t) = true
listed (prepend t) = true
listed (relocate a b to) = true
listed (trim p) = false
listed (trim_start p) = false
listed (trim_end p) = false
listed trim_lines = false
listed (indent_with i l) = false
listed (freeze a b) = false
