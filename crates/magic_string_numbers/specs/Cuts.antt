-- Document 02, L4, of the exported edits on any memory: the statement, proved in proofs/Cuts.antt.
use Rattle.std.specs.Prelude.{ℕ, ◌+◌, ◌≤◌, ◌≡◌, false, List, length}
use Rattle.model.specs.Call.{Edit, may_change}
use Rattle.model_cuts.specs.Cuts.{cuts_made, cuts_at_most}
use Rattle.memory.specs.Layout.{magic_string_of}
use Rattle.memory.specs.WellFormed.{limits_of, Taken}
use Rattle.memory.specs.Calls.{Edited}

-- the value is the number of cuts that the edit made and that remain, and by how many chunks the desk has grown; with a number that changes nothing it is 0
pub record CutsRemain (e : Edit) (source t p s t' p' s' : List ℕ) (number value : ℕ) : Type 0 where
  pub made : value ≡ cuts_made (limits_of t p s) e (magic_string_of source t p s)
  pub few : value ≤ cuts_at_most e (magic_string_of source t p s)
  pub growth : length (magic_string_of source t' p' s').chunks ≡ length (magic_string_of source t p s).chunks + value
  pub unchanged : may_change e number ≡ false → value ≡ 0

abbrev pub EditedCuts : Type 0
EditedCuts = (e : Edit) (source t p s t' p' s' : List ℕ) (number value : ℕ) → Edited e source t p s t' p' s' number value → Taken source t p s → CutsRemain e source t p s t' p' s' number value
