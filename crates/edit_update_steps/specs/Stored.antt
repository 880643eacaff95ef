-- The steps of `update_with` on a table of rows and a store, with the text behind all texts in use.
use Rattle.std.specs.Prelude.{◌≡◌, Bool, true, false, cond, List, [], ◌++◌, ℕ, ◌+◌, ◌≤◌, eqb, length}
use Rattle.memory_layout.specs.Layout.{STORE_LEN}
use Rattle.memory_table.specs.Order.{count_of}
use Rattle.model.specs.Limits.{full, within}
use Rattle.model.specs.Call.{update_with}
use Rattle.memory.specs.Layout.{magic_string_of}
use Rattle.memory.specs.WellFormed.{Readable}
use Rattle.memory.specs.Calls.{may_write}
use Rattle.memory_texts.specs.Over.{over}
use Rattle.edit_scratch.specs.Tables.{Did}
use Rattle.edit_split_at.specs.Cuts.{Spans}
use Rattle.edit_update_steps.specs.Replaced.{Replaced}
use Rattle.edit_update_steps.specs.Steps.{update_past}

-- what the steps add to the store: the text where their number is 0, else nothing
abbrev pub stored : ℕ → List ℕ → List ℕ
stored r text = cond (eqb r 0) text []

-- all texts in use stand in s, and what is stored goes to the byte behind it; y and z stand behind all that is in use
pub record UpdateSteps (a b : ℕ) (text : List ℕ) (o : Bool) (n at : ℕ) (t s1 t' s1' : List ℕ) (r c : ℕ) : Type 0 where
  pub leave : (r ≡ 13 → ⊥) → (source p s y z : List ℕ) → length source ≡ n → Readable t p s → Spans source t p s → length s ≡ at
      → Did (update_past a b text o) source t p s t' (p ++ y) (s ++ (stored r text ++ z)) r c
  pub long : r ≡ 13 → (source p s : List ℕ) → length source ≡ n → Readable t p s → Spans source t p s
      → within full (update_past a b text o (magic_string_of source t p s)).desk ≡ false
  pub no_cuts : r ≡ 13 → c ≡ 0
  pub writes : (r ≡ 13 → ⊥) → may_write (update_with a b text o) r ≡ true
  pub short : length text ≤ STORE_LEN → r ≡ 13 → ⊥
  pub replaced : Replaced t t' (at, length text)
  pub count : count_of t' ≤ count_of t + 2
  pub store : s1' ≡ over s1 at (stored r text)
