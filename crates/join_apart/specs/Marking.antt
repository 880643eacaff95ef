-- What marking the places of records promises.
use Rattle.std.specs.Prelude.{ℕ, ◌+◌, ◌*◌, ◌≤◌, ◌<◌, ◌≡◌, Bool, true, List, ◌++◌, length}
use Rattle.std.proofs.Math.Option.{some}
use Rattle.model.specs.Text.{Text, all}
use Rattle.model.specs.Call.{Edit}
use Rattle.model_sheet.specs.Record.{Recorded, records}
use Rattle.model_sheet.specs.Sheet.{call_of, recorded_calls}
use Rattle.memory_layout.specs.Layout.{SOURCE_BYTES, SOURCE_MARKS}
use Rattle.memory.specs.WellFormed.{among}
use Rattle.memory_counting.specs.Counts.{Decides}
use Rattle.check_marks.specs.Marks.{Marked}
use Rattle.check_bit_marks.specs.BitMarks.{bit_at}
use Rattle.join_apart.specs.declared.places.Stretch.{Stretch}
use Rattle.join_apart.specs.Places.{place_of, taken, fits_in}

-- the words of 64 marks over the longest source: its bytes, and one more for the head, the tail and the move
abbrev pub PLACE_MARKS : ℕ
PLACE_MARKS = SOURCE_MARKS + 1

-- words with a mark for each place over a source of n bytes
pub record Room (n : ℕ) (words : List ℕ) : Type 0 where
  pub source : n ≤ SOURCE_BYTES
  pub places : n + 3 ≤ length words * 64
  pub small : length words < 0x400_0000_0000_0000

-- the call of a record with these fields. Its places, width and positions are the same with any text
abbrev pub call : ℕ → ℕ → ℕ → ℕ → Text → Edit
call kind a b c t = call_of (record { kind = kind; a = a; b = b; c = c; text = t })

-- whether a record with these fields fits, and the stretch of its places
abbrev pub Fits : ℕ → ℕ → ℕ → ℕ → ℕ → Bool → Type 0
Fits n kind a b c r = (t : Text) → r ≡ fits_in n (call kind a b c t)

abbrev pub Takes : ℕ → ℕ → ℕ → ℕ → ℕ → Stretch → Type 0
Takes n kind a b c r = (t : Text) → (r.at, r.n) ≡ place_of n (call kind a b c t)

-- true exactly if edits fit and take no place twice, nor one that is marked; their places are marked then
abbrev pub EditsMarked : Bool → ℕ → List ℕ → List Edit → List ℕ → Type 0
EditsMarked r n words L words' = Marked r (bit_at words) (all (fits_in n) L ≡ true) (taken n L) (bit_at words')

abbrev pub RecordMarked : Bool → ℕ → Recorded → List ℕ → List ℕ → Type 0
RecordMarked r n e words words' = Marked r (bit_at words) (fits_in n (call_of e) ≡ true) (among (place_of n (call_of e))) (bit_at words')

-- of the records of a list of bytes
abbrev pub ListMarked : Bool → ℕ → List ℕ → List ℕ → List ℕ → Type 0
ListMarked r n s words words' = (l : List Recorded) → records s ≡ some l → EditsMarked r n words (recorded_calls l) words'

-- edits that fit, and take no place twice
pub record Once (n : ℕ) (L : List Edit) : Type 0 where
  pub fits : all (fits_in n) L ≡ true
  pub once : (b : ℕ) → taken n L b ≤ 1

-- whether the records of two lists do
abbrev pub PlacesApart : ℕ → List ℕ → List ℕ → Bool → Type 0
PlacesApart n first second r =
    (l l' : List Recorded) → records first ≡ some l → records second ≡ some l' → Decides r (Once n (recorded_calls l ++ recorded_calls l'))
