-- The walk of `indent_with` text by text: the pieces of the head, the chunks, the pieces of the tail. Between two turns it stands at a place, with the mark behind the last text.
use Rattle.std.specs.Prelude.{◌≡◌, ⊤, Bool, true, false, Option, Some, None, Result, Ok, Err, MatchResult, List, ◌⊎◌, ℕ, ◌+◌, ◌*◌, ◌-◌, ◌≤◌, ◌<◌, length}
use Rattle.utf8.specs.Chars.{concat}
use Rattle.memory_table.specs.declared.Row.{Row}
use Rattle.memory_table.specs.Table.{row_at, Put}
use Rattle.memory_table.specs.Order.{entry_at}
use Rattle.memory_table.specs.Sides.{side}
use Rattle.model.specs.Indent.{indent_frag, indent_pieces}
use Rattle.memory_layout.specs.declared.refusal.Refusal.{Refusal}
use Rattle.memory_layout.specs.Refusals.{code}
use Rattle.indent_mark.specs.Bytes.{mark_behind}
use Rattle.memory.specs.Layout.{Place, bytes_at, piece_at, run_of}
use Rattle.indent_head_tail.specs.Run.{PieceIndented, TextReady, Running, texts}
use Rattle.indent_head_tail.specs.Own.{moved, OwnReady, OwnDone}
use Rattle.indent_chunks.specs.Row.{RowReady, RowIndented, RowDone}
use Rattle.indent_chunks.specs.Chunks.{WalkAt}
use Rattle.indent_turns.specs.declared.Part.{Part}
use Rattle.indent_turns.specs.declared.Part.TheVariants.{Head, Chunks, Tail}
use Rattle.indent_turns.specs.declared.TextAt.{TextAt}
use Rattle.indent_turns.specs.declared.Texted.{Texted}
use Rattle.indent_turns.specs.Rest.{RestReady, RestDone}
use Rattle.indent_turns.specs.Steps.{IndentSteps}
use Rattle.memory_layout.specs.Layout.{ROW, PIECES_LEN}

-- ---- places

abbrev pub onward_at : TextAt Part → ℕ → ℕ → ℕ → Option ℕ → TextAt Part
onward_at at row top byte laid = record { part = at.part; row = row; n = at.n; i = at.i + 1; top = top; byte = byte; laid = laid }

-- the part may be named in any way
abbrev pub run_from : {P : Type 0} → P → Place → ℕ → ℕ → TextAt P
run_from part q top byte = record { part = part; row = q.0; n = q.1; i = 0; top = top; byte = byte; laid = None }

abbrev pub chunks_from : Row → ℕ → ℕ → TextAt Part
chunks_from z top byte = record { part = Chunks; row = z.next; n = z.start; i = 0; top = top; byte = byte; laid = None }

-- how much is left, for the end of the walk
abbrev pub parts_left : Part → ℕ
parts_left Head = 3
parts_left Chunks = 2
parts_left Tail = 1

abbrev pub left : TextAt Part → ℕ
left at = parts_left at.part * PIECES_LEN + (at.n - at.i)

-- ---- what the turns do

pub record RunEnded (outro : Bool) (top : ℕ) (t t' : List ℕ) : Type 0 where
  pub put : Put t t' 0 (moved outro top (row_at t 0))
  pub len : length t' ≡ length t

pub record PieceReady (pieces store p s : List ℕ) (at : TextAt Part) : Type 0 where
  pub inside : at.i < at.n
  pub text : TextReady pieces store p s (at.row + at.i) (at.top + at.i) at.byte

pub record PieceDone (indentor pieces store : List ℕ) (at : TextAt Part) (mark : Bool) (p s p' s' : List ℕ) (x : Texted) : Type 0 where
  pub text : PieceIndented (indent_frag indentor mark (bytes_at store (piece_at pieces (at.row + at.i)))).text p s at.byte (at.top + at.i) p' s' x.at.byte
  pub mark_is : x.mark ≡ mark_behind mark (bytes_at store (piece_at pieces (at.row + at.i)))
  pub at_is : x.at ≡ onward_at at at.row at.top x.at.byte at.laid
  pub rows : length p' ≡ length p
  pub bytes : length s' ≡ length s

-- the piece is written; or 13, where it does not fit
abbrev pub PieceTurned : List ℕ → List ℕ → List ℕ → TextAt Part → Bool → List ℕ → List ℕ → List ℕ → List ℕ → Result Texted Refusal → Type 0
PieceTurned indentor pieces store at mark p s p' s' r =
    MatchResult r (PieceDone indentor pieces store at mark p s p' s')
    (λ e. (code e ≡ 13) × (length s < at.byte + length (indent_frag indentor mark (bytes_at store (piece_at pieces (at.row + at.i)))).text))

pub record ChunkReady (indentor source store t p s : List ℕ) (at : TextAt Part) : Type 0 where
  pub inside : at.i < at.n
  pub room : at.row * ROW + ROW ≤ length t
  pub row : RowReady indentor source store t p s at.row at.top at.byte at.laid

pub record ChunkDone (indentor exclude source : List ℕ) (at : TextAt Part) (mark : Bool) (t p s t' p' s' : List ℕ) (x : Texted) : Type 0 where
  pub row : RowIndented indentor exclude source t p s at.row mark at.top at.byte t' p' s' x.mark x.at.top x.at.byte x.at.laid
  pub at_is : x.at ≡ onward_at at (row_at t at.row).next x.at.top x.at.byte x.at.laid

-- the chunk is indented; or 13, where the chunks pass a limit
abbrev pub ChunkTurned : List ℕ → List ℕ → List ℕ → TextAt Part → Bool → List ℕ → List ℕ → List ℕ → List ℕ → List ℕ → List ℕ → Result Texted Refusal → Type 0
ChunkTurned indentor exclude source at mark t p s t' p' s' r =
    MatchResult r (ChunkDone indentor exclude source at mark t p s t' p' s') (λ e. (code e ≡ 13) × RowDone indentor exclude source t p s at.row mark at.top at.byte t' p' s' None)

pub record PartReady (t : List ℕ) (at : TextAt Part) : Type 0 where
  pub room : ROW ≤ length t
  pub narrow : at.part ≡ Head → at.top + at.n < 4294967296

pub record PartTurned (at : TextAt Part) (t t' : List ℕ) (r : Option (TextAt Part)) : Type 0 where
  pub chunks : at.part ≡ Head → RunEnded false at.top t t' × (r ≡ Some (chunks_from (row_at t' 0) (at.top + at.n) at.byte))
  pub tail : at.part ≡ Chunks → (t' ≡ t) × (r ≡ Some (run_from Tail (side true (entry_at t 0)) at.top at.byte))
  pub end : at.part ≡ Tail → RunEnded true at.top t t' × (r ≡ None)

-- ---- where the walk stands

-- in the head or the tail: some of its pieces are written. Short is what follows where they are too long, Next what follows where they fit and row 0 names them
pub record RunAt (outro : Bool) (indentor pieces store : List ℕ) (Short : Type 0) (Next : List ℕ → List ℕ → List ℕ → Bool → ℕ → Type 0)
    (at : TextAt Part) (mark : Bool) (t p s : List ℕ) : Type 0 where
  pub few : at.n ≤ 4000
  pub p₀ : List ℕ
  pub s₀ : List ℕ
  pub mark₀ : Bool
  pub byte₀ : ℕ
  pub own : OwnReady outro pieces store t p₀ s₀ at.top byte₀
  pub run_is : (at.row, at.n) ≡ side outro (entry_at t 0)
  pub inside : at.i ≤ at.n
  pub run : Running indentor mark₀ (texts pieces store at.row) p₀ s₀ byte₀ at.top at.i p s at.byte mark
  pub short : length s₀ < byte₀ + length (concat (indent_pieces indentor mark₀ (run_of pieces store (side outro (entry_at t 0)))).pieces) → Short
  pub next : (t' p' s' : List ℕ) (mark' : Bool) (byte' : ℕ)
      → OwnDone outro indentor mark₀ (run_of pieces store (side outro (entry_at t 0))) t p₀ s₀ at.top byte₀ t' p' s' mark' byte' → Next t' p' s' mark' byte'

-- behind the head: the rest is ready, and what it leaves is what the steps leave of the rows t₀
pub record RestFrom (indentor exclude source pieces store t₀ : List ℕ) (top : ℕ) (t p s : List ℕ) (mark : Bool) (byte : ℕ) : Type 0 where
  pub ready : RestReady source pieces store t p s top byte
  pub then : (t' p' s' : List ℕ) (r : ℕ) → RestDone indentor exclude source pieces store t p s mark byte t' p' s' r → IndentSteps indentor exclude source t₀ pieces store t' p' s' r

-- the steps end with 13, whatever the tables hold
abbrev pub Ends : List ℕ → List ℕ → List ℕ → List ℕ → List ℕ → List ℕ → Type 0
Ends indentor exclude source pieces store t₀ = (t' p' s' : List ℕ) → IndentSteps indentor exclude source t₀ pieces store t' p' s' 13

pub record HeadAt (indentor exclude source pieces store t₀ : List ℕ) (at : TextAt Part) (mark : Bool) (t p s : List ℕ) : Type 0 where
  pub part : at.part ≡ Head
  pub run : RunAt false indentor pieces store (Ends indentor exclude source pieces store t₀) (RestFrom indentor exclude source pieces store t₀ (at.top + at.n)) at mark t p s

pub record ChunksAt (indentor exclude source pieces store t₀ : List ℕ) (at : TextAt Part) (mark : Bool) (t p s : List ℕ) : Type 0 where
  pub part : at.part ≡ Chunks
  pub t₁ : List ℕ
  pub p₁ : List ℕ
  pub s₁ : List ℕ
  pub mark₁ : Bool
  pub top₁ : ℕ
  pub byte₁ : ℕ
  pub rest : RestFrom indentor exclude source pieces store t₀ top₁ t₁ p₁ s₁ mark₁ byte₁
  pub inside : at.i ≤ at.n
  pub walk : WalkAt indentor exclude source store t₁ p₁ s₁ mark₁ top₁ byte₁ at.n t p s at.i at.row mark at.top at.byte at.laid

pub record TailAt (indentor exclude source pieces store t₀ : List ℕ) (at : TextAt Part) (mark : Bool) (t p s : List ℕ) : Type 0 where
  pub part : at.part ≡ Tail
  pub run : RunAt true indentor pieces store (Ends indentor exclude source pieces store t₀)
      (λ t' p' s' mark' byte'. IndentSteps indentor exclude source t₀ pieces store t' p' s' 0) at mark t p s

abbrev pub Walking : List ℕ → List ℕ → List ℕ → List ℕ → List ℕ → List ℕ → TextAt Part → Bool → List ℕ → List ℕ → List ℕ → Type 0
Walking indentor exclude source pieces store t₀ at mark t p s =
    HeadAt indentor exclude source pieces store t₀ at mark t p s
    ⊎ (ChunksAt indentor exclude source pieces store t₀ at mark t p s ⊎ TailAt indentor exclude source pieces store t₀ at mark t p s)

-- behind a turn: on the walk, or at its end
abbrev pub Onward : List ℕ → List ℕ → List ℕ → List ℕ → List ℕ → List ℕ → Result (Option Texted) Refusal → List ℕ → List ℕ → List ℕ → Type 0
Onward indentor exclude source pieces store t₀ (Ok (Some x)) t p s = Walking indentor exclude source pieces store t₀ x.at x.mark t p s
Onward indentor exclude source pieces store t₀ (Ok None) t p s = IndentSteps indentor exclude source t₀ pieces store t p s 0
Onward indentor exclude source pieces store t₀ (Err e) t p s = IndentSteps indentor exclude source t₀ pieces store t p s (code e)

-- a place that a turn leads to is nearer to the end
abbrev pub Nearer : TextAt Part → Result (Option Texted) Refusal → Type 0
Nearer at (Ok (Some x)) = left x.at < left at
Nearer at (Ok None) = ⊤
Nearer at (Err e) = ⊤

pub record TurnReady (indentor exclude source pieces store : List ℕ) (at : TextAt Part) (mark : Bool) (t p s : List ℕ) : Type 0 where
  pub t₀ : List ℕ
  pub walking : Walking indentor exclude source pieces store t₀ at mark t p s

-- a turn leads to a place on the same walk, nearer to the end, or ends it
pub record Turned (indentor exclude source pieces store : List ℕ) (at : TextAt Part) (mark : Bool) (t p s : List ℕ) (r : Result (Option Texted) Refusal) (t' p' s' : List ℕ) : Type 0 where
  pub next : (t₀ : List ℕ) → Walking indentor exclude source pieces store t₀ at mark t p s → Onward indentor exclude source pieces store t₀ r t' p' s'
  pub less : Nearer at r

-- what a turn answers, with the mark apart
abbrev pub with_mark : Bool → Result (Option (TextAt Part)) Refusal → Result (Option Texted) Refusal
with_mark mark (Ok (Some at)) = Ok (Some (record { at = at; mark = mark }))
with_mark mark (Ok None) = Ok None
with_mark mark (Err e) = Err e
