-- The insertions past their tests: the cut, the search and the piece, and the call that they make.
use Rattle.std.specs.Prelude.{◌≡◌, Bool, false, List, ◌⊎◌, ℕ}
use Rattle.model.specs.MagicString.{err}
use Rattle.model.specs.Limits.{full, within}
use Rattle.memory.specs.Layout.{magic_string_of}
use Rattle.edit_scratch.specs.Tables.{Did, StepsRan}
use Rattle.edit_split_at.specs.Cuts.{Spans}
use Rattle.edit_insert_side.specs.declared.Spot.{Spot}
use Rattle.edit_insert_side.specs.Spot.{adding, piece_step}

-- ── the piece behind the cut ──
abbrev pub Inserted : Spot → Bool → List ℕ → List ℕ → List ℕ → List ℕ → List ℕ → List ℕ → List ℕ → Type 0
Inserted spot front text t p s t' p' s' = (source : List ℕ) → Did (piece_step spot front text) source t p s t' p' s' 0 0

-- the cut and the piece. Where the cut is refused the desk is as it was; 13 where the text alone is longer than the store
pub record InsertSteps (spot : Spot) (front : Bool) (text p s t t' p' s' : List ℕ) (r c : ℕ) : Type 0 where
  pub leave : r ≡ 0 → (source : List ℕ) → Spans source t p s → Did (adding spot front text) source t p s t' p' s' 0 c
  pub refused : r ≡ 6 → (source : List ℕ) → Spans source t p s → adding spot front text (magic_string_of source t p s) ≡ err 6 (magic_string_of source t p s)
  pub long : r ≡ 13 → (source : List ℕ) → Spans source t p s → within full (adding spot front text (magic_string_of source t p s)).desk ≡ false
  pub number : (r ≡ 0) ⊎ ((r ≡ 6) ⊎ (r ≡ 13))
  pub no_cuts : (r ≡ 0 → ⊥) → c ≡ 0

-- ── the calls ──
abbrev pub InsertRan : Spot → Bool → List ℕ → List ℕ → List ℕ → List ℕ → List ℕ → List ℕ → List ℕ → List ℕ → ℕ → ℕ → Type 0
InsertRan spot front text = StepsRan (adding spot front text)
