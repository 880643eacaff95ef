-- `split_at` is the cut, refused with 6 where a chunk is not splittable; the cuts that an edit makes one after another; and a plan as its cuts and what is left to do.
use Rattle.std.specs.Prelude.{ℕ, List, [], ◌∷◌}
use Rattle.model.specs.MagicString.{MagicString, Result, and_then, split_at}

-- ── cuts one after another, then a step ──
abbrev pub cuts_then : List ℕ → (MagicString → Result) → MagicString → Result
cuts_then [] step m = step m
cuts_then (p ∷ ps) step m = and_then (split_at p m) (cuts_then ps step)
