-- What an exported call promises of every input. `Edited` for the calls that change a desk, `Reported` for the reports, `Opened` for the opening.
use Rattle.std.specs.Prelude.{ℕ, ◌+◌, ◌≡◌, Bool, false, ◌&&◌, not, true, cond, List, [], ◌++◌, eqb, length, drop}
use Rattle.model.specs.MagicString.{MagicString, new}
use Rattle.model.specs.Call.{Edit, Report, may_change, run, show, opened, idle}
use Rattle.memory.specs.Layout.{magic_string_of}
use Rattle.memory.specs.WellFormed.{limits_of, Full, Lengths, WellFormed, Taken}
use Rattle.std.proofs.Math.Option.{Option, none, some}
use Rattle.model.specs.Text.{Text}

-- every byte of the lent tables is as it was
pub record Same (t p s t' p' s' : List ℕ) : Type 0 where
  pub chunks : t' ≡ t
  pub pieces : p' ≡ p
  pub store : s' ≡ s

-- whether a call with this answer may write the tables: where it may change the desk, and does not accept without a step
unfoldable pub may_write : Edit → ℕ → Bool
may_write e n = may_change e n && not (eqb n 0 && idle e)

-- A call that changes a well-formed desk: its number, its value and the desk after are the model's. Numbering, places in the store and unused bytes are the program's choice;
-- every choice is a well-formed desk that reads as the model's
pub record Ran (e : Edit) (source t p s t' p' s' : List ℕ) (number value : ℕ) : Type 0 where
  pub number_is : number ≡ (run (limits_of t p s) e (magic_string_of source t p s)).number
  -- document 02, L4: the value "equals the growth in chunks"
  pub value_is : length (run (limits_of t p s) e (magic_string_of source t p s)).desk.chunks ≡ length (magic_string_of source t p s).chunks + value
  pub desk_is : magic_string_of source t' p' s' ≡ (run (limits_of t p s) e (magic_string_of source t p s)).desk
  pub well_formed : WellFormed source t' p' s'
  pub lengths : Lengths t p s t' p' s'
  pub same : may_write e number ≡ false → Same t p s t' p' s'

-- the same on any memory: 2 and nothing written where it holds no well-formed desk
pub record Edited (e : Edit) (source t p s t' p' s' : List ℕ) (number value : ℕ) : Type 0 where
  pub not_well_formed : (Taken source t p s → ⊥) → (number ≡ 2) × (value ≡ 0) × Same t p s t' p' s'
  pub well_formed : Taken source t p s → Ran e source t p s t' p' s' number value

-- A report on a desk: the number, the value, and the buffer `out` after the call, `out'`, with the model's bytes at its front. Where a call takes no buffer both are empty
pub record Told (q : Report) (m : MagicString) (out out' : List ℕ) (number value : ℕ) : Type 0 where
  pub number_is : number ≡ (show q m).number
  pub value_is : value ≡ (show q m).value
  pub written : out' ≡ (show q m).written ++ drop (length (show q m).written) out

-- the same on any memory
pub record Reported (q : Report) (source t p s out out' : List ℕ) (number value : ℕ) : Type 0 where
  pub not_well_formed : (Taken source t p s → ⊥) → (number ≡ 2) × (value ≡ 0) × (out' ≡ out)
  pub well_formed : Taken source t p s → Told q (magic_string_of source t p s) out out' number value

-- Opening, over any earlier content: 2 for tables of other lengths, then what `opened` says. A refusal writes nothing
pub record Opened (source t p s t' p' s' : List ℕ) (number : ℕ) : Type 0 where
  pub not_sized : (Full t p s → ⊥) → number ≡ 2
  pub number_is : Full t p s → number ≡ (opened (limits_of t p s) source (new [])).number
  pub desk_is : number ≡ 0 → magic_string_of source t' p' s' ≡ new source
  pub well_formed : number ≡ 0 → WellFormed source t' p' s'
  pub refused : (number ≡ 0 → ⊥) → Same t p s t' p' s'

-- the indentor, if one is given
abbrev pub indentor_of : Bool → Text → Option Text
indentor_of has t = cond has (some t) none

-- an option: any number but 0 is yes
abbrev pub flag : ℕ → Bool
flag n = not (eqb n 0)

-- the check as a call: 0 exactly if the memory holds a well-formed desk, else 2
pub record Checked (source t p s : List ℕ) (number : ℕ) : Type 0 where
  pub well_formed : Taken source t p s → number ≡ 0
  pub not_well_formed : (Taken source t p s → ⊥) → number ≡ 2

-- the end of a slice, given or absent
abbrev pub end_of : Bool → ℕ → Option ℕ
end_of true e = some e
end_of false e = none
