-- A member's calls: every exported call but the examiner's three (`set_marks`, `marked_entry`, `total`), by the contracts of the exported functions, on a box's memory. Each lends what
-- source and buffer it likes.
use Rattle.std.specs.Prelude.{ℕ, ◌≡◌, List, [], ◌∷◌}
use Rattle.model.specs.Call.{Edit, Report}
use Rattle.memory.specs.WellFormed.{Lengths}
use Rattle.memory.specs.Calls.{Same, Opened, Checked, Edited, Reported}
use Rattle.memory.specs.declared.Answer.{Answer}
use Rattle.sheet_run.specs.SheetRan.{SheetRan}
use Rattle.join_lists.specs.Promises.{Joined}
use Rattle.filed_record.specs.Promises.{SameRecord, CallFiled, CallWithdrawn, CallFrozen}
use Rattle.filed_record.specs.Marks.{EntryRead}
use Rattle.filed_exported.specs.Sittings.{Lent}

-- a call with its arguments, and the buffer that it lends where it takes one
pub data MemberCall : Type 0 where
  «open» : (source : List ℕ) → MemberCall
  check : (source : List ℕ) → MemberCall
  change : (source : List ℕ) → Edit → MemberCall
  report : (source : List ℕ) → Report → (out : List ℕ) → MemberCall
  join : (source first second : List ℕ) → MemberCall
  run_sheet : (sheet answers : List ℕ) → MemberCall
  freeze : (source : List ℕ) (from to : ℕ) → MemberCall
  file : (source call : List ℕ) → MemberCall
  withdraw : (source : List ℕ) (k : ℕ) → MemberCall
  entry : (source : List ℕ) (k : ℕ) (out : List ℕ) → MemberCall

-- what a member sees of a call: the number, the value, and every byte of the lent buffer after the call; no bytes where it takes none
pub record Seen : Type 0 where
  pub number : ℕ
  pub value : ℕ
  pub buffer : List ℕ

abbrev pub answer : Seen → Answer
answer x = record { number = x.number; value = x.value }

-- the tables of the desk, or the slices of the record, are as they were: they are not lent, or only for reading
abbrev pub SameDesk : Lent → Lent → Type 0
SameDesk M M' = Same M.chunks M.pieces M.store M'.chunks M'.pieces M'.store

abbrev pub SameFiled : Lent → Lent → Type 0
SameFiled M M' = SameRecord M.words M.bytes M'.words M'.bytes

-- a slice keeps its length, whatever is written
abbrev pub SameLengths : Lent → Lent → Type 0
SameLengths M M' = Lengths M.chunks M.pieces M.store M'.chunks M'.pieces M'.store

-- one call, as the contract of its exported function has it (crates/magic_string/src): on any memory, what is seen of it, and the memory after
abbrev pub Made : MemberCall → Lent → Seen → Lent → Type 0
Made («open» source) M x M' =
    Opened source M.chunks M.pieces M.store M'.chunks M'.pieces M'.store x.number × (x.value ≡ 0) × (x.buffer ≡ []) × SameLengths M M' × SameFiled M M'
Made (check source) M x M' =
    Checked source M.chunks M.pieces M.store x.number × (x.value ≡ 0) × (x.buffer ≡ []) × SameDesk M M' × SameFiled M M'
Made (change source e) M x M' =
    Edited e source M.chunks M.pieces M.store M'.chunks M'.pieces M'.store x.number x.value × (x.buffer ≡ []) × SameFiled M M'
Made (report source q out) M x M' =
    Reported q source M.chunks M.pieces M.store out x.buffer x.number x.value × SameDesk M M' × SameFiled M M'
Made (join source first second) M x M' =
    Joined first second source M.chunks M.pieces M.store M'.chunks M'.pieces M'.store (answer x) × (x.buffer ≡ []) × SameFiled M M'
Made (run_sheet sheet answers) M x M' =
    SheetRan sheet M.chunks M.pieces M.store answers M'.chunks M'.pieces M'.store x.buffer (answer x) × SameLengths M M' × SameFiled M M'
Made (freeze source from to) M x M' =
    CallFrozen from to source M.chunks M.pieces M.store M.words M.bytes M'.chunks M'.pieces M'.store (answer x) × (x.buffer ≡ []) × SameFiled M M'
Made (file source call) M x M' =
    CallFiled call source M.chunks M.pieces M.store M.words M.bytes M'.chunks M'.pieces M'.store M'.words M'.bytes (answer x) × (x.buffer ≡ [])
Made (withdraw source k) M x M' =
    CallWithdrawn k source M.chunks M.pieces M.store M.words M.bytes M'.chunks M'.pieces M'.store M'.words M'.bytes (answer x) × (x.buffer ≡ [])
Made (entry source k out) M x M' =
    EntryRead k source M.words M.bytes out x.buffer (answer x) × SameDesk M M' × SameFiled M M'

-- calls one after the other, refused ones too: what is seen of each, and the memory after the last
pub data MemberRun : List MemberCall → Lent → List Seen → Lent → Type 0 where
  done : {M : Lent} → MemberRun [] M [] M
  next : {c : MemberCall} {calls : List MemberCall} {M M₁ M₂ : Lent} {x : Seen} {seen : List Seen}
      → Made c M x M₁ → MemberRun calls M₁ seen M₂ → MemberRun (c ∷ calls) M (x ∷ seen) M₂
