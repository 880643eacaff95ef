-- One side of a desk trimmed: the head or the tail, then the chunks.
use Rattle.std.specs.Prelude.{◌≡◌, Bool, true, List, ℕ, ◌+◌, ◌*◌, ◌≤◌, ◌<◌, length}
use Rattle.memory_layout.specs.Layout.{TRIM_STORE_LEN}
use Rattle.memory_table.specs.Order.{entry_at, entries, Linked}
use Rattle.model.specs.Text.{all}
use Rattle.model.specs.Limits.{piece_count}
use Rattle.model.specs.WellFormed.{Formed}
use Rattle.memory.specs.Layout.{Place, run_of, magic_string_of}
use Rattle.memory.specs.WellFormed.{Disjoint}
use Rattle.memory_used.specs.Below.{Below}
use Rattle.trim_text.specs.Sides.{blank}
use Rattle.trim_run.specs.Deque.{trim_deque}
use Rattle.memory_texts.specs.Low.{RowsKept, DeskLow}
use Rattle.trim_run.specs.Run.{RunReady}
use Rattle.trim_chunk.specs.Plain.{plain_bytes}
use Rattle.trim_chunk.specs.Row.{near_of, far_of, with_side_places}
use Rattle.trim_chunk.specs.Uses.{NoMore}
use Rattle.trim_steps.specs.Model.{trim_side}

-- all pieces of a desk
unfoldable pub desk_pieces : List ℕ → List ℕ → List ℕ → List ℕ → ℕ
desk_pieces source t p s = piece_count (magic_string_of source t p s)

-- ---- what a trim asks: the desk lies below a row and a byte, with room behind them for all its pieces (at most wide) and for the bytes of source that it shows

pub record SideReady (source t p s : List ℕ) (top wide byte : ℕ) : Type 0 where
  pub low : DeskLow t p top byte
  pub formed : Formed (magic_string_of source t p s)
  pub few : piece_count (magic_string_of source t p s) ≤ wide
  pub rows : (top + wide) * 2 ≤ length p
  pub narrow : length p ≤ 4294967296
  pub bytes : byte + plain_bytes (magic_string_of source t p s) ≤ length s
  pub small : length s ≤ TRIM_STORE_LEN

-- the row and the byte b are behind all that the desk uses; what b lies further on is no longer plain
pub record SideTrimmed (front : Bool) (pattern : ℕ) (source t p s : List ℕ) (top wide byte : ℕ) (t' p' s' : List ℕ) (row b : ℕ) : Type 0 where
  pub low : DeskLow t' p' row b
  pub most : row ≤ top + wide
  pub desk : magic_string_of source t' p' s' ≡ trim_side front pattern (magic_string_of source t p s)
  pub least : byte ≤ b
  pub spent : b + plain_bytes (magic_string_of source t' p' s') ≤ byte + plain_bytes (magic_string_of source t p s)
  pub len : length t' ≡ length t
  pub pieces : length p' ≡ length p
  pub store : length s' ≡ length s
  pub apart : Disjoint t p → Disjoint t' p'

-- the head or the tail alone
pub record OwnReady (front : Bool) (p s : List ℕ) (top : ℕ) (t : List ℕ) : Type 0 where
  pub linked : Linked t
  pub run : RunReady p s (near_of front (entry_at t 0))
  pub below : (k : ℕ) → k < (near_of front (entry_at t 0)).1 → (near_of front (entry_at t 0)).0 + k < top
  pub rows : (top + (near_of front (entry_at t 0)).1) * 2 ≤ length p
  pub narrow : length p ≤ 4294967296
  pub small : length s ≤ TRIM_STORE_LEN

-- gone: nothing is left of it
pub record OwnTrimmed (front : Bool) (pattern : ℕ) (p s : List ℕ) (top : ℕ) (t p' t' : List ℕ) (gone : Bool) : Type 0 where
  pub linked : Linked t'
  pub len : length t' ≡ length t
  pub entries_are : entries t' ≡ entries t
  pub near : Place
  pub row : entry_at t' 0 ≡ with_side_places front (entry_at t 0) near (far_of front (entry_at t 0)) (entry_at t 0).text
  pub rows : RowsKept top p p'
  pub text : run_of p' s near ≡ trim_deque front pattern (run_of p s (near_of front (entry_at t 0)))
  pub low : (byte : ℕ) → Below p byte top (near_of front (entry_at t 0)) → Below p' byte (top + (near_of front (entry_at t 0)).1) near
  pub no_more : NoMore p p' top near (near_of front (entry_at t 0))
  pub gone_is : gone ≡ all (blank pattern) (run_of p s (near_of front (entry_at t 0)))
  pub same : gone ≡ true → p' ≡ p
