-- `update_with` past its tests: two cuts, 10, 20, the walk, and the edit of the first chunk.
use Rattle.std.specs.Prelude.{◌≡◌, Bool, cond, List, [], ◌∷◌, ℕ, ltb, length}
use Rattle.memory_table.specs.declared.Row.{Row}
use Rattle.memory_table.specs.Table.{row_at, Put}
use Rattle.memory_table.specs.Order.{Entry, entry_of}
use Rattle.model.specs.Text.{Text}
use Rattle.model.specs.MagicString.{MagicString, Result, err}
use Rattle.model.specs.Frozen.{has_frozen, unless_guarded}
use Rattle.model.specs.Update.{update_chunks}
use Rattle.memory_texts.specs.Over.{over}
use Rattle.model_closed_forms.specs.SplitAt.{cuts_then}

-- ── the model's steps ──
abbrev pub update_step : ℕ → ℕ → Text → Bool → MagicString → Result
update_step a b t o m = cond (ltb (length m.source) b) (err 10 m) (unless_guarded has_frozen a b m (update_chunks a b t o m))

abbrev pub update_past : ℕ → ℕ → Text → Bool → MagicString → Result
update_past a b t o m = cuts_then (a ∷ b ∷ []) (update_step a b t o) m

-- ── the first chunk, edited last ──
-- the replacement stands at a byte above all texts in use
abbrev pub edited_entry : Bool → ℕ → ℕ → Entry → Entry
edited_entry o at n e = record { start = e.start; end = e.end; frozen = e.frozen; intro = cond o (0, 0) e.intro; outro = cond o (0, 0) e.outro; text = (at, n) }

pub record EditedRow (o : Bool) (at n : ℕ) (c r : Row) : Type 0 where
  pub entry_is : entry_of r ≡ edited_entry o at n (entry_of c)
  pub next : r.next ≡ c.next
  pub prev : r.prev ≡ c.prev

pub record FirstEdited (o : Bool) (at : ℕ) (text t s t' s' : List ℕ) (i : ℕ) : Type 0 where
  pub row : Row
  pub edited : EditedRow o at (length text) (row_at t i) row
  pub put : Put t t' i row
  pub store : s' ≡ over s at text
