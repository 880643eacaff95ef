-- Sittings of the exported functions, by their contracts: a desk stands beside a record without calls, and calls are filed, withdrawn and given marks, in any order, refused ones too. The desk is
-- always what the record gives when run from the desk that the sitting began on, and the answers are those of that run. proofs/Sittings.antt proves it.
use Rattle.std.specs.Prelude.{ℕ, ◌≡◌, List, []}
use Rattle.std.proofs.Math.Option.{some}
use Rattle.model.specs.MagicString.{MagicString}
use Rattle.model_filed.specs.Filed.{Entry}
use Rattle.model_filed.specs.Kept.{Agrees}
use Rattle.memory.specs.Layout.{magic_string_of}
use Rattle.memory.specs.WellFormed.{limits_of, Taken}
use Rattle.memory.specs.Calls.{Same}
use Rattle.memory.specs.declared.Answer.{Answer}
use Rattle.filed_record.specs.Record.{entries_of, KeptTaken}
use Rattle.filed_record.specs.Promises.{sitting_of, CallFiled, CallWithdrawn}
use Rattle.filed_record.specs.Marks.{CallMarked}

-- the slices that a sitting is lent beside the source
pub record Lent : Type 0 where
  pub chunks : List ℕ
  pub pieces : List ℕ
  pub store : List ℕ
  pub words : List ℕ
  pub bytes : List ℕ

-- one call, as the contract of its exported function has it (crates/magic_string/src/exported_filed.rt, exported_marks.rt): on any memory, with its answer, and the memory after
abbrev pub FileCall : List ℕ → List ℕ → Lent → Answer → Lent → Type 0
FileCall source call M r M' =
    CallFiled call source M.chunks M.pieces M.store M.words M.bytes M'.chunks M'.pieces M'.store M'.words M'.bytes r

abbrev pub WithdrawCall : List ℕ → ℕ → Lent → Answer → Lent → Type 0
WithdrawCall source k M r M' =
    CallWithdrawn k source M.chunks M.pieces M.store M.words M.bytes M'.chunks M'.pieces M'.store M'.words M'.bytes r

-- marks are written into the record's bytes alone
pub record MarkCall (source : List ℕ) (k marks : ℕ) (M : Lent) (r : Answer) (M' : Lent) : Type 0 where
  pub called : CallMarked k marks source M.words M.bytes M'.bytes r
  pub desk : Same M.chunks M.pieces M.store M'.chunks M'.pieces M'.store
  pub words : M'.words ≡ M.words

-- the memory of a sitting over a source that began on a desk, after any filings, withdrawals and markings
pub data Sat (source : List ℕ) (start : MagicString) : Lent → Type 0 where
  -- a well-formed desk, fresh or edited and frozen before, and a record without calls, whatever it keeps
  begun : {M : Lent} → Taken source M.chunks M.pieces M.store → magic_string_of source M.chunks M.pieces M.store ≡ start
      → entries_of M.words M.bytes ≡ some [] → Sat source start M
  filed : {M M' : Lent} {r : Answer} (call : List ℕ) → Sat source start M → FileCall source call M r M' → Sat source start M'
  withdrawn : {M M' : Lent} {r : Answer} (k : ℕ) → Sat source start M → WithdrawCall source k M r M' → Sat source start M'
  marked : {M M' : Lent} {r : Answer} (k marks : ℕ) → Sat source start M → MarkCall source k marks M r M' → Sat source start M'

-- it holds a well-formed desk and a well-formed record, and they agree: the desk is what the record's calls leave when they are run from the start desk, and the answers are those
-- of that run
pub record Holds (source : List ℕ) (start : MagicString) (M : Lent) : Type 0 where
  pub desk : Taken source M.chunks M.pieces M.store
  pub entries : List Entry
  pub are : entries_of M.words M.bytes ≡ some entries
  pub kept : KeptTaken source M.words M.bytes entries
  pub agrees : Agrees (limits_of M.chunks M.pieces M.store) start (sitting_of source M.chunks M.pieces M.store M.words M.bytes entries)

abbrev pub AlwaysHolds : Type 0
AlwaysHolds = (source : List ℕ) (start : MagicString) (M : Lent) → Sat source start M → Holds source start M
