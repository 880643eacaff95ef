-- What the check answers: what the desk uses, or that there is none.
use Rattle.std.specs.Prelude.{Option, Some, None, List, ℕ}
use Rattle.memory_used.specs.declared.Used.{Used}
use Rattle.memory_used.specs.Above.{Above}

-- P says what was asked of the memory: a desk that is well formed, in tables of any size or of the full ones
abbrev pub Sees : Type 0 → List ℕ → List ℕ → List ℕ → Option Used → Type 0
Sees P t p s None = P → ⊥
Sees P t p s (Some u) = P × Above t p s u
