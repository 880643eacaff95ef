-- One side of a desk trimmed, or one after the other.
use Rattle.std.specs.Prelude.{◌≡◌, Bool, List, ℕ, ◌+◌, ◌*◌, ◌≤◌, length}
use Rattle.memory.specs.Layout.{magic_string_of}
use Rattle.memory.specs.WellFormed.{HoldsEach, Disjoint}
use Rattle.memory_texts.specs.Low.{DeskLow}
use Rattle.trim_steps.specs.Model.{trim_sides}
use Rattle.trim_steps.specs.Side.{desk_pieces, SideReady}

-- what is asked: room for all pieces of the desk, twice
pub record SidesReady (source t p s : List ℕ) (top byte : ℕ) : Type 0 where
  pub ready : SideReady source t p s top (desk_pieces source t p s) byte
  pub room : (top + desk_pieces source t p s + desk_pieces source t p s) * 2 ≤ length p

-- the row and the byte are behind all that the desk uses
pub record SidesTrimmed (both front : Bool) (pattern : ℕ) (source t p s t' p' s' : List ℕ) (row byte : ℕ) : Type 0 where
  pub low : DeskLow t' p' row byte
  pub row_in : row * 2 ≤ length p'
  pub byte_in : byte ≤ length s'
  pub desk : magic_string_of source t' p' s' ≡ trim_sides both front pattern (magic_string_of source t p s)
  pub rows_len : length t' ≡ length t
  pub pieces_len : length p' ≡ length p
  pub store_len : length s' ≡ length s
  pub each : HoldsEach t → HoldsEach t'
  pub apart : Disjoint t p → Disjoint t' p'
