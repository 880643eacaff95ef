-- The insertions on top of the lent tables: the limits that they keep, and the calls that they make.
use Rattle.std.specs.Prelude.{Bool, List, ℕ, ◌+◌, ◌*◌, ◌≤◌, length, take}
use Rattle.memory.specs.WellFormed.{Readable}
use Rattle.edit_scratch.specs.Tables.{Did}
use Rattle.memory_used.specs.declared.Used.{Used}
use Rattle.edit_insert_side.specs.declared.Spot.{Spot}
use Rattle.edit_insert_side.specs.Spot.{piece_step}
use Rattle.edit_insert_in_place.specs.Added.{OnTop}

-- ── the limits ──
-- what a desk uses behind an insertion: a piece, and its text
abbrev pub grown : Used → ℕ → ℕ → Used
grown l row n = record { pieces = l.pieces + 1; row = row; byte = l.byte + n }

-- ── the piece behind the cut ──
pub record InsertedTop (spot : Spot) (front : Bool) (text : List ℕ) (row byte : ℕ) (t P S t' P' S' : List ℕ) (row' : ℕ) : Type 0 where
  pub did : (source : List ℕ) → Did (piece_step spot front text) source t (take (row * 2) P) (take byte S) t' P' S' 0 0
  pub top : OnTop t P t' P'
  pub low : Readable t' (take (row' * 2) P') (take (byte + length text) S')
  pub to : row' * 2 ≤ length P'
