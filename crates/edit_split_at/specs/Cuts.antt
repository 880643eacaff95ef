-- Cuts of a chunk table: what they leave, in the model's words, with any pieces and store.
use Rattle.std.specs.Prelude.{◌≡◌, Bool, List, ◌⊎◌, ℕ, ◌+◌, ◌≤◌, length}
use Rattle.memory_table.specs.Order.{Entry, count_of, Linked}
use Rattle.model.specs.MagicString.{MagicString, Result, err, and_then}
use Rattle.memory.specs.Layout.{magic_string_of}
use Rattle.memory.specs.WellFormed.{Readable}
use Rattle.model_closed_forms.specs.Plan.{cut_all}
use Rattle.model_closed_forms.specs.Spans.{Cover}
use Rattle.model_closed_forms.specs.SplitAt.{cuts_then}
use Rattle.edit_row_laws.specs.Kept.{Kept}
use Rattle.edit_split_at.specs.Lift.{DeskSmall}
use Rattle.edit_split_at.specs.Lift as lift

abbrev pub filled : Entry → Bool
filled e = lift.filled e

-- the desk that the rows hold with pieces p and store s: its spans cover the source
abbrev pub Spans : List ℕ → List ℕ → List ℕ → List ℕ → Type 0
Spans source t p s = Cover source (magic_string_of source t p s).chunks

-- the cuts at ps, one after another, with whatever is done behind them: r is 0 where none is refused, or 6
pub record CutsLeave (ps : List ℕ) (source t p s t' : List ℕ) (r : ℕ) : Type 0 where
  pub readable : Readable t' p s
  pub result : (step : MagicString → Result) → cuts_then ps step (magic_string_of source t p s) ≡ and_then (err r (magic_string_of source t' p s)) step
  pub chunks : r ≡ 0 → (magic_string_of source t' p s).chunks ≡ cut_all ps (magic_string_of source t p s).chunks

-- c is how many of them made two chunks
pub record CutsDone (ps : List ℕ) (t t' : List ℕ) (r c : ℕ) : Type 0 where
  pub leave : (source p s : List ℕ) → Readable t p s → Spans source t p s → CutsLeave ps source t p s t' r
  pub readable : (p s : List ℕ) → Readable t p s → Readable t' p s
  pub small : (p s : List ℕ) → DeskSmall t p s → DeskSmall t' p s
  pub number : (r ≡ 0) ⊎ (r ≡ 6)
  pub linked : Linked t'
  pub count : count_of t' ≡ count_of t + c
  pub few : c ≤ length ps
  pub kept : Kept t t'
  -- where there is nothing to cut nothing is refused, and a single cut that is refused writes nothing
  pub none : length ps ≡ 0 → r ≡ 0
  pub alone : length ps ≡ 1 → (r ≡ 0 → ⊥) → t' ≡ t
