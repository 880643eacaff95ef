-- The walk over a list of records that tries each alone.
use Prim.Native.Nat.{ℕ, ◌≤◌, ◌<◌}
use mathlib.Core.Path.{◌≡◌, refl, sym, ap, ◌∙◌}
use mathlib.Core.Bool.{Bool, true, false}
use mathlib.Core.List.{List}
use mathlib.Core.Option.{none, some}
use lib.ListN.{length, drop}
use Rattle.model.specs.MagicString.{MagicString}
use Rattle.model.specs.Limits.{Limits}
use Rattle.model_sheet.specs.Record.{Recorded, next_record, records}
use Rattle.model_sheet.specs.Sheet.{recorded_calls}
use Rattle.model_join.specs.Tests.{each_alone}
use Rattle.memory.specs.Layout.{magic_string_of}
use Rattle.memory.specs.WellFormed.{limits_of}
use Rattle.sheet_records.specs.Found.{Taken}
use Rattle.sheet_records.proofs.Behind.{behind, behind_end, behind_bad}
use Rattle.join_alone.specs.Alone.{Accepted, AllAlone}

-- of the records l those from a place on are left, and those before it are accepted alone
record Onward (k : Limits) (m : MagicString) (r : List ℕ) (at : ℕ) (l : List Recorded) : Type 0 where
  rest : List Recorded
  are : records (drop at r) ≡ some rest
  alone_is : each_alone k m (recorded_calls l) ≡ each_alone k m (recorded_calls rest)

-- the same of any records that r is
pub record Trying (source t p s r : List ℕ) (at : ℕ) : Type 0 where
  left : (l : List Recorded) → records r ≡ some l → Onward (limits_of t p s) (magic_string_of source t p s) r at l

pub trying_start : (source t p s r : List ℕ) → Trying source t p s r 0
trying_start source t p s r = record { left = λ l e. record { rest = l; are = e; alone_is = refl } }

module _ (source t p s r : List ℕ) {at : ℕ} (w : Trying source t p s r at) where
  abbrev alone : List Recorded → Bool
  alone l = each_alone (limits_of t p s) (magic_string_of source t p s) (recorded_calls l)

  module _ {one : Recorded} {next : ℕ} (g : Taken r at one next) {ok : Bool} (e : Accepted source t p s one ok) where
    -- accepted, and on to the next
    pub trying_turn : ok ≡ true → Trying source t p s r next
    unfolding each_alone
    trying_turn q =
        record {
          left = λ l h.
              let f = w.left l h in
              let b = behind r at f.are g in
              record { rest = b.rest; are = b.onward; alone_is = f.alone_is ∙ ap alone b.first ∙ rw (sym e, q) };
        }

    -- refused
    pub trying_stop : ok ≡ false → AllAlone source t p s r false
    unfolding each_alone
    trying_stop q l h =
        let f = w.left l h in let b = behind r at f.are g in sym (f.alone_is ∙ ap alone b.first ∙ rw (sym e, q))

  -- no record stands there
  pub trying_bad : {ok : Bool} → at < length r → next_record (drop at r) ≡ none → AllAlone source t p s r ok
  trying_bad h e l q = behind_bad r at (w.left l q).are h e

  -- none is left
  pub trying_end : length r ≤ at → AllAlone source t p s r true
  unfolding each_alone
  trying_end h l q = let f = w.left l q in sym (f.alone_is ∙ ap alone (behind_end r at f.are h))
