-- The head's or the tail's pieces in turn, each with the indentor put in: its bytes behind the texts in use, its place in a row behind those in use.
use Rattle.std.specs.Prelude.{◌≡◌, Bool, true, Option, MatchOption, List, ℕ, ◌+◌, ◌*◌, ◌^◌, ◌≤◌, ◌<◌, length}
use Rattle.utf8.specs.Rfc3629.{utf8}
use Rattle.utf8.specs.Chars.{All, concat}
use Rattle.model.specs.Text.{Text}
use Rattle.model.specs.Indent.{indent_frag, Pieces, indent_pieces}
use Rattle.model.specs.WellFormed.{Valid}
use Rattle.memory.specs.Layout.{bytes_at, piece_at, tabulate, run_of}
use Rattle.memory.specs.WellFormed.{RunIn, PieceIn}
use Rattle.memory_texts.specs.Carry.{Pushed, Carried}
use Rattle.indent_mark.specs.Bytes.{mark_behind}
use Rattle.indent_head_tail.specs.declared.Indented.{Indented}

-- ---- one text

pub record PieceRoom (p s : List ℕ) (row byte : ℕ) : Type 0 where
  pub row_in : row * 2 + 2 ≤ length p
  pub byte_in : byte ≤ length s
  pub narrow : length s < 2 ^ 32

-- the text xs is put at a byte and a row, where it fits
pub record PieceIndented (xs p s : List ℕ) (byte row : ℕ) (p' s' : List ℕ) (end : ℕ) : Type 0 where
  pub done : Pushed xs p s byte row p' s' end
  pub room : byte + length xs ≤ length s

-- ---- a text of the lent tables

pub record TextReady (pieces store p s : List ℕ) (from row byte : ℕ) : Type 0 where
  pub inside : PieceIn pieces store from
  pub valid : utf8 (bytes_at store (piece_at pieces from)) ≡ true
  pub room : PieceRoom p s row byte

-- the text t with the indentor put in, and the mark behind it; or it does not fit
abbrev pub TextIndented : Text → Bool → Text → List ℕ → List ℕ → ℕ → ℕ → List ℕ → List ℕ → Option Indented → Type 0
TextIndented indentor mark t p s byte row p' s' r =
    MatchOption r (length s < byte + length (indent_frag indentor mark t).text)
    (λ w. PieceIndented (indent_frag indentor mark t).text p s byte row p' s' w.byte × (w.mark ≡ mark_behind mark t))

-- ---- a run

-- a run of the lent tables, and room for as many rows
pub record RunReady (pieces store : List ℕ) (at n : ℕ) (p s : List ℕ) (top byte : ℕ) : Type 0 where
  pub inside : RunIn pieces store (at, n)
  pub valid : All Valid (run_of pieces store (at, n))
  pub rows : (top + n) * 2 ≤ length p
  pub rows_narrow : length p < 2 ^ 32
  pub byte_in : byte ≤ length s
  pub narrow : length s < 2 ^ 32

-- the first i texts of f 0, f 1, ..
abbrev pub first_ones : Text → Bool → (ℕ → Text) → ℕ → Pieces
first_ones indentor mark f i = indent_pieces indentor mark (tabulate f i)

-- the texts of a run, by number
abbrev pub texts : List ℕ → List ℕ → ℕ → ℕ → Text
texts p s at k = bytes_at s (piece_at p (at + k))

pub record Running (indentor : Text) (mark : Bool) (f : ℕ → Text) (p s : List ℕ) (byte top i : ℕ) (p' s' : List ℕ) (next : ℕ) (m : Bool) : Type 0 where
  pub mark_is : m ≡ (first_ones indentor mark f i).mark
  pub carried : Carried (first_ones indentor mark f i).pieces p s byte top p' s' next (top + i)
  pub room : byte + length (concat (first_ones indentor mark f i).pieces) ≤ length s
  pub same_rows : length p' ≡ length p
  pub same_bytes : length s' ≡ length s
