-- The walk over a list of records that counts what their calls need.
use Prim.Native.Nat.{ℕ, ◌+◌, ◌≤◌, ◌<◌}
use mathlib.Core.Path.{◌≡◌, refl, ap}
use mathlib.Core.List.{List}
use mathlib.Core.Option.{none, some}
use lib.ListN.{length, drop}
use native.Mathlib.Omega.{arith}
use Rattle.model.specs.Text.{sum}
use Rattle.model_sheet.specs.Record.{Recorded, next_record, records}
use Rattle.model_sheet.specs.Sheet.{recorded_calls}
use Rattle.model_join.specs.Tests.{new_pieces, new_bytes}
use Rattle.sheet_records.specs.Found.{Taken}
use Rattle.join_space.specs.Space.{NewPieces, NewBytes, Needed}
use Rattle.sheet_records.proofs.Behind.{behind, behind_end, behind_bad}

-- of the records l of s those from a place on are left, and what the others need is counted
pub record Left (s : List ℕ) (at calls pieces bytes : ℕ) (l : List Recorded) : Type 0 where
  pub rest : List Recorded
  pub are : records (drop at s) ≡ some rest
  pub calls_are : length l ≡ calls + length rest
  pub pieces_are : sum new_pieces (recorded_calls l) ≡ pieces + sum new_pieces (recorded_calls rest)
  pub bytes_are : sum new_bytes (recorded_calls l) ≡ bytes + sum new_bytes (recorded_calls rest)

-- the same of any records that s is; and no count is above the bytes that are passed
pub record Counting (s : List ℕ) (at calls pieces bytes : ℕ) : Type 0 where
  pub left : (l : List Recorded) → records s ≡ some l → Left s at calls pieces bytes l
  pub few_calls : calls ≤ at
  pub few_pieces : pieces ≤ calls
  pub few_bytes : bytes ≤ at
  pub within : at ≤ length s

pub counting_start : (s : List ℕ) → Counting s 0 0 0 0
counting_start s =
    record {
      left = λ l e. record { rest = l; are = e; calls_are = omega arith; pieces_are = omega arith; bytes_are = omega arith };
      few_calls = omega arith;
      few_pieces = omega arith;
      few_bytes = omega arith;
      within = omega arith;
    }

module _ {s : List ℕ} {at calls pieces bytes : ℕ} (w : Counting s at calls pieces bytes) where
  pub counting_turn : {r : Recorded} {next x y : ℕ} → Taken s at r next → NewPieces r.kind x → NewBytes r.kind (length r.text) y
      → Counting s next (calls + 1) (pieces + x) (bytes + y)
  counting_turn {r} {next} {x} {y} g h k =
      let inside = g.text_inside in
      record {
        left = λ l e.
            let m = w.left l e in
            let f = behind s at m.are g in
            record {
              rest = f.rest;
              are = f.onward;
              calls_are = omega (arith, m.calls_are, ap length f.first);
              pieces_are = omega (arith, m.pieces_are, ap (λ q. sum new_pieces (recorded_calls q)) f.first, h.is r refl);
              bytes_are = omega (arith, m.bytes_are, ap (λ q. sum new_bytes (recorded_calls q)) f.first, k.is r refl refl);
            };
        few_calls = omega (arith, w.few_calls);
        few_pieces = omega (arith, w.few_pieces, h.few);
        few_bytes = omega (arith, w.few_bytes, k.few);
        within = g.there;
      }

  -- every record is passed
  pub counting_end : length s ≤ at → Needed s (record { calls = calls; pieces = pieces; bytes = bytes })
  counting_end h =
      record {
        are = λ l e.
            let m = w.left l e in
            let nothing = behind_end s at m.are h in
            record {
              calls = omega (arith, m.calls_are, ap length nothing);
              pieces = omega (arith, m.pieces_are, ap (λ q. sum new_pieces (recorded_calls q)) nothing);
              bytes = omega (arith, m.bytes_are, ap (λ q. sum new_bytes (recorded_calls q)) nothing);
            };
        calls = omega (arith, w.few_calls, w.within);
        pieces = omega (arith, w.few_calls, w.few_pieces, w.within);
        bytes = omega (arith, w.few_bytes, w.within);
      }

  -- of bytes that are no records nothing is said but that no count is above their number
  pub counting_bad : at < length s → next_record (drop at s) ≡ none → Needed s (record { calls = calls; pieces = pieces; bytes = bytes })
  counting_bad h q =
      record {
        are = λ l e. behind_bad s at (w.left l e).are h q;
        calls = omega (arith, w.few_calls, w.within);
        pieces = omega (arith, w.few_calls, w.few_pieces, w.within);
        bytes = omega (arith, w.few_bytes, w.within);
      }
