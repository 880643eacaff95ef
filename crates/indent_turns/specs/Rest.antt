-- Behind the head: the chunks along the list, then the tail.
use Rattle.std.specs.Prelude.{◌≡◌, Bool, List, ◌⊎◌, ℕ, ◌+◌, ◌≤◌, ◌<◌, length}
use Rattle.memory_layout.specs.Layout.{CHUNKS, PIECES, PIECE_ROWS, INDENT_PIECES_LEN, INDENT_STORE_LEN}
use Rattle.utf8.specs.Chars.{All, concat}
use Rattle.memory_table.specs.Order.{entry_at}
use Rattle.model.specs.Text.{sum}
use Rattle.model.specs.MagicString.{MagicString}
use Rattle.model.specs.Limits.{chunk_pieces, chunk_bytes}
use Rattle.model.specs.Indent.{Pieces, indent_pieces}
use Rattle.model.specs.WellFormed.{Valid}
use Rattle.memory.specs.Layout.{run_of, magic_string_of}
use Rattle.memory.specs.WellFormed.{RunIn, Readable}
use Rattle.memory_used.specs.Below.{Below}
use Rattle.indent_chunks.specs.Walk.{chunks_of, closed_of, WalkReady}

-- the head lies below a row and a byte; the tail stands in the lent tables; there is room
pub record RestReady (source pieces store t p s : List ℕ) (top byte : ℕ) : Type 0 where
  pub walk : WalkReady source store t p s top byte
  pub head : Below p byte top (entry_at t 0).intro
  pub inside : RunIn pieces store (entry_at t 0).outro
  pub valid : All Valid (run_of pieces store (entry_at t 0).outro)
  pub few : (top + sum chunk_pieces (chunks_of t p s)) + (entry_at t 0).outro.1 ≤ PIECE_ROWS + PIECES
  pub long_pieces : length p ≡ INDENT_PIECES_LEN
  pub long_store : length s ≡ INDENT_STORE_LEN

-- the tail, with the mark that the chunks leave
abbrev pub tail_part_of : List ℕ → List ℕ → List ℕ → List ℕ → List ℕ → List ℕ → List ℕ → List ℕ → Bool → Pieces
tail_part_of indentor exclude source pieces store t p s mark = indent_pieces indentor (closed_of indentor exclude source t p s mark).mark (run_of pieces store (entry_at t 0).outro)

-- the desk left: the head as it is, the chunks and the tail indented
abbrev pub desk_left_of : List ℕ → List ℕ → List ℕ → List ℕ → List ℕ → List ℕ → List ℕ → List ℕ → Bool → MagicString
desk_left_of indentor exclude source pieces store t p s mark =
    record {
      source = source;
      intro = run_of p s (entry_at t 0).intro;
      outro = (tail_part_of indentor exclude source pieces store t p s mark).pieces;
      chunks = (closed_of indentor exclude source t p s mark).chunks;
    }

pub record RestLeft (source t' p' s' : List ℕ) (m : MagicString) : Type 0 where
  pub readable : Readable t' p' s'
  pub desk : magic_string_of source t' p' s' ≡ m

pub record RestDone (indentor exclude source pieces store t p s : List ℕ) (mark : Bool) (byte : ℕ) (t' p' s' : List ℕ) (r : ℕ) : Type 0 where
  pub zero_or : (r ≡ 0) ⊎ (r ≡ 13)
  pub done : r ≡ 0 → RestLeft source t' p' s' (desk_left_of indentor exclude source pieces store t p s mark)
  pub past : r ≡ 13 → (CHUNKS < length (closed_of indentor exclude source t p s mark).chunks)
      ⊎ (length s < byte + (sum chunk_bytes (closed_of indentor exclude source t p s mark).chunks + length (concat (tail_part_of indentor exclude source pieces store t p s mark).pieces)))
