-- What a list of records is said to need, and whether a desk has as much space.
use Rattle.std.specs.Prelude.{ℕ, ◌+◌, ◌*◌, ◌≤◌, ◌≡◌, Bool, ◌&&◌, List, [], ◌++◌, leb, length}
use Rattle.std.proofs.Math.Option.{some}
use Rattle.model.specs.Text.{sum}
use Rattle.model.specs.Limits.{piece_count, byte_count}
use Rattle.model_sheet.specs.Record.{Recorded, records}
use Rattle.model_sheet.specs.Sheet.{call_of, recorded_calls}
use Rattle.model_join.specs.Tests.{new_pieces, new_bytes, has_space}
use Rattle.memory.specs.Layout.{magic_string_of}
use Rattle.memory.specs.WellFormed.{limits_of}
use Rattle.memory_view.specs.declared.DeskView.{DeskView}
use Rattle.join_space.specs.declared.Needs.{Needs}

-- n is the new pieces of any call of this kind
pub record NewPieces (kind n : ℕ) : Type 0 where
  pub is : (r : Recorded) → r.kind ≡ kind → n ≡ new_pieces (call_of r)
  pub few : n ≤ 1

-- n is the new bytes of any call of this kind whose record has so many bytes of text
pub record NewBytes (kind size n : ℕ) : Type 0 where
  pub is : (r : Recorded) → r.kind ≡ kind → length r.text ≡ size → n ≡ new_bytes (call_of r)
  pub few : n ≤ size

-- what the calls of these records need
pub record NeededBy (l : List Recorded) (n : Needs) : Type 0 where
  pub calls : n.calls ≡ length l
  pub pieces : n.pieces ≡ sum new_pieces (recorded_calls l)
  pub bytes : n.bytes ≡ sum new_bytes (recorded_calls l)

-- the same of the records that bytes are; and no count is above the number of bytes
pub record Needed (r : List ℕ) (n : Needs) : Type 0 where
  pub are : (l : List Recorded) → records r ≡ some l → NeededBy l n
  pub calls : n.calls ≤ length r
  pub pieces : n.pieces ≤ length r
  pub bytes : n.bytes ≤ length r

-- b says whether the desk of t p s keeps the limits of these tables with three chunks more for each call, and as many pieces and bytes more
abbrev pub Reckoned : List ℕ → List ℕ → List ℕ → Needs → Bool → Type 0
Reckoned t p s n b =
    let k = limits_of t p s in
    let m = magic_string_of [] t p s in
    b
    ≡ leb (length m.chunks + 3 * n.calls) k.most_chunks
    && (leb (piece_count m + n.pieces) k.most_pieces && leb (byte_count m + n.bytes) k.most_bytes)

-- b says whether the desk has the reckoned space for the calls of both lists
abbrev pub Spaced : List ℕ → List ℕ → List ℕ → List ℕ → List ℕ → Bool → Type 0
Spaced t p s first second b =
    (source : List ℕ) (l l' : List Recorded) → records first ≡ some l → records second ≡ some l'
    → b ≡ has_space (limits_of t p s) (magic_string_of source t p s) (recorded_calls l ++ recorded_calls l')

-- both said of a desk's view
abbrev pub ReckonedOn : DeskView → Needs → Bool → Type 0
ReckonedOn d = Reckoned d.chunks.now d.pieces.now d.store.now

abbrev pub SpacedOn : DeskView → List ℕ → List ℕ → Bool → Type 0
SpacedOn d = Spaced d.chunks.now d.pieces.now d.store.now
