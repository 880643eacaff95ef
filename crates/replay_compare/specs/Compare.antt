-- What the tests of src/compare.rt decide.
use Rattle.std.specs.Prelude.{◌≡◌, List, [], ◌∷◌, ◌++◌, ℕ, zero, suc, ◌-◌, length}

-- a buffer of n bytes before a call
abbrev pub filled : ℕ → List ℕ
filled zero = []
filled (suc n) = 0xA5 ∷ filled n

-- a buffer after a call that wrote these bytes: they stand at its front, and the bytes behind them are as before the call
pub record Written (out bytes : List ℕ) : Type 0 where
  pub out_is : out ≡ bytes ++ filled (length out - length bytes)

-- every byte of the tables is as it was
pub record Kept (t p s t' p' s' : List ℕ) : Type 0 where
  pub chunks : t ≡ t'
  pub pieces : p ≡ p'
  pub store : s ≡ s'
