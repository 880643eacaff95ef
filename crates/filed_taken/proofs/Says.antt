-- What the check of a record has seen, and what an answer says by its two fields.
use Prim.Native.Nat.{ℕ}
use mathlib.Core.Path.{◌≡◌, ap, subst}
use mathlib.Core.List.{List}
use mathlib.Core.Option.{some}
use Rattle.std.specs.Prelude.{Option, Some, None}
use Rattle.memory.specs.declared.Answer.{Answer}
use Rattle.memory_used.specs.declared.Used.{Used}
use Rattle.model_filed.specs.Filed.{Entry}
use Rattle.filed_record.specs.declared.Size.{Size}
use Rattle.filed_record.specs.Record.{entries_of, KeptTaken}
use Rattle.filed_taken.specs.declared.Beside.{Beside}
use Rattle.filed_taken.specs.Beside.{RecordTaken, BesideSays}

-- no record, or one, its size and what its kept desk uses
module _ (source w b : List ℕ) {r : Option Beside} where
  pub beside_none : r ≡ None → BesideSays source w b r → (l : List Entry) → entries_of w b ≡ some l → KeptTaken source w b l → ⊥
  beside_none e h = subst (BesideSays source w b) e h

  pub beside_record : (z : Size) (u : Used) → r ≡ Some (record { size = z; kept = u }) → BesideSays source w b r → RecordTaken source w b z u
  beside_record z u e h = subst (BesideSays source w b) e h

pub said : {n v : ℕ} {r : Answer} → r ≡ record { number = n; value = v } → (r.number ≡ n) × (r.value ≡ v)
said e = (ap (λ (a : Answer). a.number) e, ap (λ (a : Answer). a.value) e)
