-- `trim_start` and `trim_end` as one function of the side, and what they leave of the piece count.
use Rattle.std.specs.Prelude.{Bool, true, false, cond, ℕ}
use Rattle.model.specs.MagicString.{MagicString}
use Rattle.model.specs.Trim.{trim_start, trim_end}

-- `trim_start` (from the front) or `trim_end`
abbrev pub trim_side : Bool → ℕ → MagicString → MagicString
trim_side true p m = trim_start p m
trim_side false p m = trim_end p m

-- one side, and after it the end where both are trimmed
abbrev pub trim_sides : Bool → Bool → ℕ → MagicString → MagicString
trim_sides both front p m = cond both (trim_end p (trim_side front p m)) (trim_side front p m)
