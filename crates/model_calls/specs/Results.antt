-- What is proved of every call: the statements. proofs/Calls.antt has each under the same name in small letters.
use Rattle.std.specs.Prelude.{◌≤◌, ◌≡◌, true}
use Rattle.model.specs.MagicString.{MagicString}
use Rattle.model.specs.Limits.{Limits}
use Rattle.model.specs.WellFormed.{Formed, WellFormed}
use Rattle.model_preservation.specs.Refusals.{among}
use Rattle.model_calls.specs.Call.{Call, numbers_of, perform}

-- "Either does the call or gives one of the table's numbers", each call its own
abbrev pub CallListed : Type 0
CallListed = (k : Limits) (c : Call) (m : MagicString) → Formed m → among (perform k c m).shown.number (numbers_of c) ≡ true

-- every call keeps a desk well formed
abbrev pub PerformKeeps : Type 0
PerformKeeps = (k : Limits) (c : Call) (m : MagicString) → 1 ≤ k.most_chunks → WellFormed k m → WellFormed k (perform k c m).desk
