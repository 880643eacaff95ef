-- What a desk uses of its tables, as a bound: callers hand it on, so that an edit needs no pass over the rows to learn where there is room.
use Rattle.std.specs.Prelude.{ℕ, ◌*◌, ◌/◌, ◌≤◌, List, [], length, take}
use Rattle.memory_layout.specs.Layout.{PIECE_ROOM}
use Rattle.memory_layout.specs.Refusals.{number_of}
use Rattle.model.specs.Limits.{piece_count}
use Rattle.model.specs.Call.{Edit}
use Rattle.memory.specs.Layout.{magic_string_of}
use Rattle.memory.specs.WellFormed.{Readable, WellFormed}
use Rattle.memory.specs.Calls.{Ran}
use Rattle.memory_used.specs.declared.Used.{Used}
use Rattle.memory_used.specs.declared.Outcome.{Outcome}

-- no fewer than the desk's pieces, and inside the limit; and the desk is read from the rows and bytes below the two places alone
pub record Above (t p s : List ℕ) (l : Used) : Type 0 where
  pub pieces : piece_count (magic_string_of [] t p s) ≤ l.pieces
  pub few : l.pieces ≤ length p / PIECE_ROOM
  pub readable : Readable t (take (l.row * 2) p) (take l.byte s)
  pub row : l.row * 2 ≤ length p
  pub byte : l.byte ≤ length s

-- what an inner edit asks: a well-formed desk, and what it uses
pub record Desk (source t p s : List ℕ) (l : Used) : Type 0 where
  pub well_formed : WellFormed source t p s
  pub above : Above t p s l

-- what it leaves: the desk that the model says, and what that uses
pub record Leaves (e : Edit) (source t p s t' p' s' : List ℕ) (o : Outcome) : Type 0 where
  pub ran : Ran e source t p s t' p' s' (number_of o.status) o.cuts
  pub above : Above t' p' s' o.used
