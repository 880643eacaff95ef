-- What an opening promises in tables of any size that a desk may have.
use Rattle.std.specs.Prelude.{◌≡◌, ℕ, ◌≤◌, true, length, List, []}
use Rattle.utf8.specs.Rfc3629.{utf8}
use Rattle.model.specs.MagicString.{new}
use Rattle.model.specs.Limits.{full}
use Rattle.model.specs.Call.{opened}
use Rattle.memory_layout.specs.Refusals.{number_of}
use Rattle.memory.specs.Layout.{magic_string_of}
use Rattle.memory.specs.WellFormed.{limits_of}
use Rattle.memory_used.specs.declared.Used.{Used}
use Rattle.memory_used.specs.declared.Outcome.{Outcome}
use Rattle.memory_used.specs.Above.{Desk}

-- The number of `opened` over a source, which is the same in tables of all sizes; after 0 the source is short enough and UTF-8
pub record Opens (source : List ℕ) (number : ℕ) : Type 0 where
  pub number_is : number ≡ (opened full source (new [])).number
  pub fits : number ≡ 0 → length source ≤ full.most_source
  pub text : number ≡ 0 → utf8 source ≡ true

-- The tables hold the desk `MagicString::new`, and u is what it uses
pub record NewDesk (source t p s : List ℕ) (u : Used) : Type 0 where
  pub desk_is : magic_string_of source t p s ≡ new source
  pub desk : Desk source t p s u

-- Over any earlier content: the number of `opened`, and for 0 the new desk with what it uses. Pieces and store are not written, and a refusal writes nothing
pub record OpenedWith (source t p s t' : List ℕ) (o : Outcome) : Type 0 where
  pub number_is : number_of o.status ≡ (opened (limits_of t p s) source (new [])).number
  pub no_cuts : o.cuts ≡ 0
  pub desk : number_of o.status ≡ 0 → NewDesk source t' p s o.used
  pub refused : (number_of o.status ≡ 0 → ⊥) → t' ≡ t
