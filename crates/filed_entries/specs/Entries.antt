-- What putting an entry behind the others and taking one out leave of the record's slices.
use Rattle.std.specs.Prelude.{ℕ, ◌+◌, ◌-◌, ◌≡◌, List, length, set, take, drop}
use Rattle.memory_layout.specs.Layout.{RECORD_ANSWERS, RECORD_MARKS, KEPT_CHUNKS}
use Rattle.memory_texts.specs.Over.{over}
use Rattle.filed_record.specs.Record.{used_of}
use Rattle.filed_record.specs.declared.Size.{Size}
use Rattle.filed_entries.specs.Places.{Located}

-- the call behind the others, its answer behind theirs, 0 behind their marks, and the bytes in use; no other word is written
pub record EntryPut (call : List ℕ) (answer : ℕ) (z : Size) (w b w' b' : List ℕ) : Type 0 where
  pub used : used_of w' ≡ z.used + length call
  pub tables : drop KEPT_CHUNKS w' ≡ drop KEPT_CHUNKS w
  pub bytes : b' ≡ set (set (over b z.used call) (RECORD_ANSWERS + z.count) answer) (RECORD_MARKS + z.count) 0

-- from at up to next nothing is left, up to an end: what stood behind has moved there
abbrev pub Closed : ℕ → ℕ → ℕ → List ℕ → List ℕ → Type 0
Closed at next end b b' = b' ≡ over b at (take (end - next) (drop next b))

-- the call behind the first i and its marks are taken out, one after the other, and u bytes are in use; no other word is written
pub record EntryOut (i : ℕ) (z : Size) (w b w' b' : List ℕ) (u : ℕ) : Type 0 where
  pub at : ℕ
  pub next : ℕ
  pub located : Located (take z.used b) i at next
  pub middle : List ℕ
  pub closed : Closed at next z.used b middle
  pub marks : Closed (RECORD_MARKS + i) (RECORD_MARKS + (i + 1)) (RECORD_MARKS + z.count) middle b'
  pub used : used_of w' ≡ u
  pub tables : drop KEPT_CHUNKS w' ≡ drop KEPT_CHUNKS w
  pub left : u ≡ z.used - (next - at)
