-- What keeping a desk in a record, and putting it back, leave.
use Rattle.std.specs.Prelude.{ℕ, ◌≡◌, List, take}
use Rattle.memory_layout.specs.Layout.{KEPT_STORE}
use Rattle.filed_record.specs.Record.{used_of, kept_chunks, kept_pieces, kept_store}
use Rattle.filed_record.specs.Promises.{SameRecord}

-- the record keeps these tables, and its calls and answers are as they were
pub record Keeps (t p s w b w' b' : List ℕ) : Type 0 where
  pub chunks : kept_chunks w' ≡ t
  pub pieces : kept_pieces w' ≡ p
  pub store : kept_store b' ≡ s
  pub used : used_of w' ≡ used_of w
  pub bytes : take KEPT_STORE b' ≡ take KEPT_STORE b

-- the first call keeps the desk, a later one writes nothing
pub record KeepsFirst (count : ℕ) (t p s w b w' b' : List ℕ) : Type 0 where
  pub first : count ≡ 0 → Keeps t p s w b w' b'
  pub later : (count ≡ 0 → ⊥) → SameRecord w b w' b'

-- the tables are those that are kept
pub record PutBack (w b t' p' s' : List ℕ) : Type 0 where
  pub chunks : t' ≡ kept_chunks w
  pub pieces : p' ≡ kept_pieces w
  pub store : s' ≡ kept_store b
