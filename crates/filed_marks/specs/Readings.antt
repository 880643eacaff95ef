-- A reading of an entry, from the bytes of a record.
use Rattle.std.specs.Prelude.{ℕ, ◌+◌, ◌-◌, ◌≤◌, ◌<◌, ◌≡◌, Bool, cond, List, [], ◌∷◌, ◌++◌, length, get_or, take, drop}
use Rattle.memory_layout.specs.Layout.{RECORD_ANSWERS, RECORD_MARKS}
use Rattle.memory.specs.declared.Answer.{Answer}
use Rattle.model_filed.specs.Filed.{Entry}
use Rattle.model_filed.specs.Marks.{member_bytes, examiner_bytes}
use Rattle.filed_entries.specs.Places.{Located}

-- the examiner's reading, which has the marks, or the member's
abbrev pub reading_of : Bool → Entry → List ℕ
reading_of marked = cond marked examiner_bytes member_bytes

-- the bytes from a place up to the next
abbrev pub from_to : ℕ → ℕ → List ℕ → List ℕ
from_to at next b = take (next - at) (drop at b)

-- the bytes of a reading: the call from at up to next, the answer behind the first i, and their marks
abbrev pub read_bytes : Bool → ℕ → ℕ → ℕ → List ℕ → List ℕ
read_bytes marked at next i b =
    from_to at next b ++ (get_or b (RECORD_ANSWERS + i) 0 ∷ cond marked (get_or b (RECORD_MARKS + i) 0 ∷ []) [])

-- how many they are
abbrev pub size_of : Bool → ℕ → ℕ → ℕ
size_of marked at next = next - at + cond marked 2 1

-- the reading at the front of a buffer, and what stood behind
abbrev pub ReadingPut : Bool → ℕ → ℕ → ℕ → List ℕ → List ℕ → List ℕ → Type 0
ReadingPut marked at next i b out out' = out' ≡ read_bytes marked at next i b ++ drop (size_of marked at next) out

-- the reading of the entry behind the first i, of those whose calls have so many bytes; 14 where the buffer is shorter than it
pub record ShownAt (marked : Bool) (used i : ℕ) (b out out' : List ℕ) (r : Answer) : Type 0 where
  pub at : ℕ
  pub next : ℕ
  pub located : Located (take used b) i at next
  pub short : length out < size_of marked at next → (r.number ≡ 14) × (r.value ≡ 0) × (out' ≡ out)
  pub whole : size_of marked at next ≤ length out → (r.number ≡ 0) × (r.value ≡ size_of marked at next) × ReadingPut marked at next i b out out'
