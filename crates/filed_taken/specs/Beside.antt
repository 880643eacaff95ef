-- What the check of a record answers, by cases.
use Rattle.std.specs.Prelude.{ℕ, ◌≡◌, List, Option, Some, None}
use Rattle.std.proofs.Math.Option.{some}
use Rattle.memory.specs.WellFormed.{Taken}
use Rattle.memory_used.specs.declared.Used.{Used}
use Rattle.memory_used.specs.Above.{Above}
use Rattle.model_filed.specs.Filed.{Entry}
use Rattle.filed_record.specs.declared.Size.{Size}
use Rattle.filed_record.specs.Record.{kept_chunks, kept_pieces, kept_store, entries_of, KeptTaken, Holds}
use Rattle.filed_taken.specs.declared.Beside.{Beside}

-- a record of this size; with calls, its kept desk, which uses no more than this
pub record RecordTaken (source w b : List ℕ) (z : Size) (u : Used) : Type 0 where
  pub holds : Holds w b z
  pub kept : (z.count ≡ 0 → ⊥) → Taken source (kept_chunks w) (kept_pieces w) (kept_store b) × Above (kept_chunks w) (kept_pieces w) (kept_store b) u

abbrev pub BesideSays : List ℕ → List ℕ → List ℕ → Option Beside → Type 0
BesideSays source w b None = (l : List Entry) → entries_of w b ≡ some l → KeptTaken source w b l → ⊥
BesideSays source w b (Some x) = RecordTaken source w b x.size x.kept
