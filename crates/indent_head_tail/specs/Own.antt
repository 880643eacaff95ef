-- The head or the tail indented, with row 0 naming the new run; and the indentor laid in the store.
use Rattle.std.specs.Prelude.{◌≡◌, Bool, Option, MatchOption, IfSome, List, ℕ, ◌+◌, ◌^◌, ◌≤◌, ◌<◌, length}
use Rattle.utf8.specs.Chars.{concat}
use Rattle.memory_table.specs.declared.Row.{Row}
use Rattle.memory_table.specs.Table.{row_at}
use Rattle.memory_table.specs.Order.{entry_of, entry_at, Linked}
use Rattle.memory_table.specs.Sides.{side, with_side}
use Rattle.model.specs.Text.{Text}
use Rattle.model.specs.Indent.{indent_pieces}
use Rattle.memory.specs.Layout.{bytes_at, run_of}
use Rattle.memory_used.specs.Below.{Below}
use Rattle.memory_list.specs.Insert.{runs_of}
use Rattle.memory_list.specs.Split.{DeskSet}
use Rattle.memory_texts.specs.Low.{RowsKept, BytesKept}
use Rattle.indent_head_tail.specs.declared.LaidAt.{LaidAt}
use Rattle.indent_head_tail.specs.Run.{RunReady}

-- ---- a run put into tables that only grow

pub record RunPut (ts : List Text) (p s : List ℕ) (byte top : ℕ) (p' s' : List ℕ) (byte' : ℕ) : Type 0 where
  pub rows : RowsKept top p p'
  pub bytes : BytesKept byte s s'
  pub run : run_of p' s' (top, length ts) ≡ ts
  pub low : Below p' byte' (top + length ts) (top, length ts)
  pub byte_is : byte' ≡ byte + length (concat ts)
  pub byte_in : byte' ≤ length s'

-- ---- row 0's runs

abbrev pub Runs : Type 0
Runs = (ℕ × ℕ) × (ℕ × ℕ)

-- the row with its outro, or its intro, from another row on
abbrev pub moved : Bool → ℕ → Row → Row
moved outro at r = with_side outro (at, (side outro (entry_of r)).1) r

-- ---- the head or the tail

pub record OwnReady (outro : Bool) (pieces store t p s : List ℕ) (top byte : ℕ) : Type 0 where
  pub linked : Linked t
  pub run : RunReady pieces store (side outro (entry_at t 0)).0 (side outro (entry_at t 0)).1 p s top byte

pub record OwnDone (outro : Bool) (indentor : Text) (mark : Bool) (ts : List Text) (t p s : List ℕ) (top byte : ℕ) (t' p' s' : List ℕ) (mark' : Bool) (byte' : ℕ) : Type 0 where
  pub desk : DeskSet t t' (runs_of (moved outro top (row_at t 0)))
  pub len : length t' ≡ length t
  pub put : RunPut (indent_pieces indentor mark ts).pieces p s byte top p' s' byte'
  pub mark_is : mark' ≡ (indent_pieces indentor mark ts).mark

-- ---- the indentor

-- it lies in the store from byte `laid` on, and ends at or before a byte
pub record IndentorAt (indentor s : List ℕ) (byte laid : ℕ) : Type 0 where
  pub text : bytes_at s (laid, length indentor) ≡ indentor
  pub low : laid + length indentor ≤ byte

-- it lies there, if it is laid
pub record LayReady (indentor s : List ℕ) (byte : ℕ) (laid : Option ℕ) : Type 0 where
  pub before : IfSome laid (IndentorAt indentor s byte)
  pub byte_in : byte ≤ length s
  pub narrow : length s < 2 ^ 32

pub record LaidText (indentor s : List ℕ) (byte : ℕ) (s' : List ℕ) (byte' laid' : ℕ) : Type 0 where
  pub bytes : BytesKept byte s s'
  pub byte_up : byte ≤ byte'
  pub byte_in : byte' ≤ length s'
  pub at : IndentorAt indentor s' byte' laid'
  pub bytes_used : byte' ≤ byte + length indentor

abbrev pub Laid : List ℕ → List ℕ → ℕ → List ℕ → Option LaidAt → Type 0
Laid indentor s byte s' r = MatchOption r (length s < byte + length indentor) (λ w. LaidText indentor s byte s' w.byte w.laid)
