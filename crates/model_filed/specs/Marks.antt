-- Document 02, L9: "Each entry of L5's record gains marks, a whole number of tenths of a point from 0 to 100, which is 0 on filing and written by the examiner only." What the
-- examiner writes, what the member and the examiner read, and what is proved of it in proofs/Marks.antt and proofs/Unseen.antt. The Rust has no such calls.
use Rattle.std.specs.Prelude.{ℕ, zero, suc, ◌+◌, ◌-◌, ◌≡◌, Bool, cond, List, [], ◌∷◌, ◌++◌, map, leb}
use Rattle.std.proofs.Math.Option.{Option, none, some}
use Rattle.model.specs.Text.{sum, all}
use Rattle.model.specs.Limits.{Limits}
use Rattle.model.specs.Call.{Shown, refusal, into}
use Rattle.model_sheet.specs.Record.{encode}
use Rattle.model_filed.specs.Filed.{Entry, marks_of, Sitting, Answered, no_such_call, file, without, withdraw, freeze_beside}

-- "tenths of a point from 0 to 100"
abbrev pub HIGHEST_MARKS : ℕ
HIGHEST_MARKS = 100

-- whether all marks are such; "a record with higher marks gets 2"
unfoldable pub marks_fit : List Entry → Bool
marks_fit l = all (λ m. leb m HIGHEST_MARKS) (marks_of l)

-- ── the examiner writes ──
abbrev pub with_marks : ℕ → Entry → Entry
with_marks m e = record { call = e.call; answer = e.answer; marks = m }

-- the marks of the entry behind the first i
abbrev pub mark_behind : ℕ → ℕ → List Entry → List Entry
mark_behind i m [] = []
mark_behind zero m (e ∷ l) = with_marks m e ∷ l
mark_behind (suc i) m (e ∷ l) = e ∷ mark_behind i m l

-- "21, marks above 100, given after 17"; 0 where they are written
unfoldable pub refused_marks : ℕ → ℕ → List Entry → ℕ
refused_marks n m l = elim (no_such_call n l) [ suc i ↦ suc i | zero ↦ cond (leb m HIGHEST_MARKS) 0 21 ]

-- the marks of the n-th entry, from 1 on; with a number "nothing changes"
unfoldable pub set_marks : ℕ → ℕ → List Entry → List Entry
set_marks n m l = elim (refused_marks n m l) [ suc i ↦ l | zero ↦ mark_behind (n - 1) m l ]

-- ── both read ──
-- "The member's reading of an entry shows kind, positions, text and answer, as L1's record and then a byte"
abbrev pub member_bytes : Entry → List ℕ
member_bytes e = encode e.call ++ (e.answer ∷ [])

-- "the examiner's has the marks as one byte more"
abbrev pub examiner_bytes : Entry → List ℕ
examiner_bytes e = member_bytes e ++ (e.marks ∷ [])

-- the n-th, from 1 on
abbrev pub entry_at : ℕ → List Entry → Option Entry
entry_at zero l = none
entry_at (suc n) [] = none
entry_at (suc zero) (e ∷ l) = some e
entry_at (suc (suc n)) (e ∷ l) = entry_at (suc n) l

-- a reading of the n-th entry into a buffer: "Both give 17 after 2, and 14 last"
unfoldable pub show_entry : (Entry → List ℕ) → ℕ → ℕ → List Entry → Shown
show_entry reading n room l = elim (entry_at n l) [ none ↦ refusal 17 | some e ↦ into room (reading e) ]

-- "The examiner's total is the exact sum of the entries still filed"
abbrev pub total : List Entry → ℕ
total l = sum (λ (e : Entry). e.marks) l

-- ── numbers, in order; 2 is judged on the memory ──
abbrev pub set_marks_numbers : List ℕ
set_marks_numbers = 2 ∷ 17 ∷ 21 ∷ []

abbrev pub entry_numbers : List ℕ
entry_numbers = 2 ∷ 17 ∷ 14 ∷ []

abbrev pub total_numbers : List ℕ
total_numbers = 2 ∷ []

-- ── laws of the total ──
-- a filing, refused or not, leaves it
abbrev pub FilingLeavesTotal : Type 0
FilingLeavesTotal = (k : Limits) (s : List ℕ) (x : Sitting) → total (file k s x).left.entries ≡ total x.entries

-- "a withdrawn call takes its marks with it": the other calls keep theirs, and the total loses exactly this term
pub record TakesMarks (k : Limits) (n : ℕ) (x : Sitting) : Type 0 where
  pub others : marks_of (withdraw k n x).left.entries ≡ without n (marks_of x.entries)
  pub term : (e : Entry) → entry_at n x.entries ≡ some e → total x.entries ≡ e.marks + total (withdraw k n x).left.entries

abbrev pub WithdrawalTakesMarks : Type 0
WithdrawalTakesMarks = (k : Limits) (n : ℕ) (x : Sitting) → (withdraw k n x).number ≡ 0 → TakesMarks k n x

-- ── the member learns nothing of the marks ──
-- what the member may see of entries
abbrev pub unmarked : List Entry → List Entry
unmarked l = map (with_marks 0) l

-- two sittings that differ in nothing but marks. Without calls what is kept does not matter
pub record SameButMarks (x y : Sitting) : Type 0 where
  pub desk : x.desk ≡ y.desk
  pub entries : unmarked x.entries ≡ unmarked y.entries
  pub kept : (x.entries ≡ [] → ⊥) → x.kept ≡ y.kept

-- the same number and value, and sittings that differ in nothing but marks
pub record AnsweredAlike (o o' : Answered) : Type 0 where
  pub number : o.number ≡ o'.number
  pub value : o.value ≡ o'.value
  pub left : SameButMarks o.left o'.left

-- filing, withdrawing, freezing and the member's reading do not tell them apart
pub record MemberAlike (k : Limits) (x y : Sitting) : Type 0 where
  pub file : (s : List ℕ) → AnsweredAlike (file k s x) (file k s y)
  pub withdraw : (n : ℕ) → AnsweredAlike (withdraw k n x) (withdraw k n y)
  pub freeze : (a b : ℕ) → AnsweredAlike (freeze_beside k a b x) (freeze_beside k a b y)
  pub entry : (n room : ℕ) → show_entry member_bytes n room x.entries ≡ show_entry member_bytes n room y.entries

abbrev pub MarksUnseen : Type 0
MarksUnseen = (k : Limits) (x y : Sitting) → SameButMarks x y → MemberAlike k x y
