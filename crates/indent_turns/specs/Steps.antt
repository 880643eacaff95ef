-- The steps of `indent_with`: the head, then the rest, from a desk loaded into scratch tables.
use Rattle.std.specs.Prelude.{◌≡◌, false, List, ◌++◌, ◌⊎◌, ℕ, ◌-◌, ◌≤◌, length}
use Rattle.memory_layout.specs.Layout.{PIECES_LEN, STORE_LEN, SCRATCH_LEN, INDENT_PIECES_LEN, INDENT_STORE_LEN}
use Rattle.memory_table.specs.Order.{count_of}
use Rattle.model.specs.Limits.{full, within}
use Rattle.model.specs.Indent.{indent_by}
use Rattle.model.specs.WellFormed as model
use Rattle.memory.specs.Layout.{magic_string_of}
use Rattle.memory.specs.WellFormed.{Readable}
use Rattle.edit_scratch.specs.Tables.{Did}

-- a desk in the rows t and the lent pieces and store; these stand at the front of the scratch ones, p1 and s1
pub record StepsReady (source t p s p1 s1 : List ℕ) : Type 0 where
  pub readable : Readable t p s
  pub desk : model.WellFormed full (magic_string_of source t p s)
  pub chunks : length t ≡ SCRATCH_LEN
  pub pieces : length p ≤ PIECES_LEN
  pub store : length s ≤ STORE_LEN
  pub behind : List ℕ
  pub after : List ℕ
  pub pieces_is : p1 ≡ p ++ behind
  pub store_is : s1 ≡ s ++ after
  pub long_pieces : length p1 ≡ INDENT_PIECES_LEN
  pub long_store : length s1 ≡ INDENT_STORE_LEN

-- what the steps leave: the model's desk, or 13 where that passes the limits
pub record IndentSteps (indentor exclude source t p s t2 p2 s2 : List ℕ) (r : ℕ) : Type 0 where
  pub zero_or : (r ≡ 0) ⊎ (r ≡ 13)
  pub did : r ≡ 0 → Did (indent_by indentor exclude) source t p s t2 p2 s2 0 (count_of t2 - count_of t)
  pub past : r ≡ 13 → within full (indent_by indentor exclude (magic_string_of source t p s)).desk ≡ false
