-- The rule at work on memory: two sittings that open the same source, make the same edits and then file the worked list of crates/any_order/specs/Example.antt, every kind of edit
-- in it, one from the first edit to the last and one from the last to the first. proofs/Worked.antt proves it.
use Rattle.std.specs.Prelude.{List, reverse}
use Rattle.model.specs.Call.{Edit}
use Rattle.memory.specs.WellFormed.{Full}
use Rattle.memory.specs.Calls.{Opened}
use Rattle.any_order.specs.Example.{source, prepared, edits, text}
use Rattle.any_order_exported.specs.Runs.{Tables, Answer, EditRun}
use Rattle.any_order_exported.specs.Claim.{FinalText, Alike}

-- the exported functions, called one after the other on lent tables, whatever these held before
pub record Sitting (order : List Edit) : Type 0 where
  pub lent : Tables
  pub fresh : Tables
  pub start : Tables
  pub left : Tables
  pub answers_before : List Answer
  pub answers : List Answer
  -- an accepted opening, on tables of the full sizes
  pub opening : Opened source lent.chunks lent.pieces lent.store fresh.chunks fresh.pieces fresh.store 0
  pub sizes : Full fresh.chunks fresh.pieces fresh.store
  -- the edits that bring the desk into use, then the list
  pub before : EditRun source prepared fresh answers_before start
  pub filed : EditRun source order start answers left

-- the rule holds of the two sittings, and both leave "uhiYqghsiXefpt"
pub record WorkedAlike (x : Sitting edits) (y : Sitting (reverse edits)) : Type 0 where
  pub alike : Alike source x.answers y.answers x.left y.left
  pub final : FinalText source x.left text
  pub final' : FinalText source y.left text
