-- What makes a call on a well-formed desk what `Ran` asks, for any edit: a refusal before the steps, a desk that stays, or steps on scratch tables and their end.
use Rattle.std.specs.Prelude.{◌≡◌, false, List, ℕ, ◌+◌, ◌*◌, ◌≤◌, length, get_or}
use Rattle.memory_layout.specs.Layout.{ROW, PIECES_LEN, STORE_LEN, SCRATCH_LEN}
use Rattle.memory_table.specs.Order.{Linked, count_of}
use Rattle.model.specs.MagicString.{MagicString, Result, err}
use Rattle.model.specs.Call.{Edit, idle, steps, refused_before}
use Rattle.memory.specs.Layout.{magic_string_of}
use Rattle.memory.specs.WellFormed.{Readable}
use Rattle.memory.specs.Calls.{Ran}

-- ── scratch tables ──
-- chunk rows for three chunks more, and clear; pieces and store as long as the lent ones, or longer
pub record Scratch (t p s : List ℕ) : Type 0 where
  pub chunks : length t ≡ SCRATCH_LEN
  pub clear : (k : ℕ) → get_or t k 0 ≡ 0
  pub pieces : PIECES_LEN ≤ length p
  pub store : STORE_LEN ≤ length s

-- rows with room for n chunks more
pub record Roomy (n : ℕ) (t : List ℕ) : Type 0 where
  pub linked : Linked t
  pub room : (count_of t + n) * ROW + ROW ≤ length t
  pub narrow : length t ≤ 4294967296

-- ── 1 and 3 ──
-- what steps show: the desk of t p s before, the desk of t2 p2 s2 after, and r, their number, are the model's; c is by how many the chunks grow
pub record Did (f : MagicString → Result) (source t p s t2 p2 s2 : List ℕ) (r c : ℕ) : Type 0 where
  pub readable : Readable t2 p2 s2
  pub result : f (magic_string_of source t p s) ≡ err r (magic_string_of source t2 p2 s2)
  pub cuts : count_of t2 ≡ count_of t + c

-- a call whose steps are f, past its tests
abbrev pub StepsRan : (MagicString → Result) → List ℕ → List ℕ → List ℕ → List ℕ → List ℕ → List ℕ → List ℕ → ℕ → ℕ → Type 0
StepsRan f source t p s t' p' s' r c =
    (e : Edit) → refused_before (magic_string_of source t p s) e ≡ 0
    → ((m : MagicString) → steps e m ≡ f m) → idle e ≡ false
    → Ran e source t p s t' p' s' r c
