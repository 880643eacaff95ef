-- `relocate` on rows: what its parts ask and leave.
use Rattle.std.specs.Prelude.{◌≡◌, false, ◌&&◌, List, [], ◌∷◌, ◌⊎◌, ℕ, ◌<◌, leb, length}
use Rattle.memory_table.specs.Ring.{Each}
use Rattle.memory_table.specs.Order.{entry_at, order}
use Rattle.model.specs.MagicString.{MagicString, Result}
use Rattle.model.specs.Movement.{segment, move_segment}
use Rattle.memory.specs.WellFormed.{Readable}
use Rattle.model_closed_forms.specs.SplitAt.{cuts_then}
use Rattle.memory_list.specs.declared.Key.TheVariants.{Start}
use Rattle.memory_list.specs.Find.{meets, First}
use Rattle.edit_row_laws.specs.Kept.{Kept}
use Rattle.edit_scratch.specs.Tables.{Did}
use Rattle.edit_split_at.specs.Cuts.{Spans}

-- row n is that of the chunk that starts at `to`; or there is none, and n is 0
abbrev pub PlaceIn : List ℕ → ℕ → ℕ → Type 0
PlaceIn t to n = First (meets Start to) t n ⊎ ((n ≡ 0) × Each (λ x. meets Start to (entry_at t x) ≡ false) (order t))

-- the rows hold, with some pieces and store, a desk whose spans cover a source that is not empty
pub record Spanned (t : List ℕ) : Type 0 where
  pub source : List ℕ
  pub pieces : List ℕ
  pub store : List ℕ
  pub readable : Readable t pieces store
  pub spans : Spans source t pieces store
  pub filled : 0 < length source

-- a range with a place outside it: neither 8, nor zero width, nor 4
pub record Movable (a b to : ℕ) : Type 0 where
  pub ascends : a < b
  pub outside : leb a to && leb to b ≡ false

-- behind the cuts
abbrev pub move_step : ℕ → ℕ → ℕ → MagicString → Result
move_step a b to m = move_segment to m (segment a b m.chunks)

pub record RangeMoved (a b to : ℕ) (t t' : List ℕ) (r : ℕ) : Type 0 where
  pub leave : (source p s : List ℕ) → Readable t p s → Did (move_step a b to) source t p s t' p s r 0
  pub number : (r ≡ 0) ⊎ (r ≡ 9)
  pub kept : Kept t t'

-- the cuts too
pub record RelocateDone (a b to : ℕ) (t t' : List ℕ) (r c : ℕ) : Type 0 where
  pub leave : (source p s : List ℕ) → Readable t p s → Spans source t p s → Did (cuts_then (a ∷ b ∷ to ∷ []) (move_step a b to)) source t p s t' p s r c
  pub readable : (p s : List ℕ) → Readable t p s → Readable t' p s
  pub number : (r ≡ 0) ⊎ ((r ≡ 6) ⊎ (r ≡ 9))
  pub kept : Kept t t'
