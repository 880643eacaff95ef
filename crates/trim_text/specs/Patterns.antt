-- The patterns by the numbers that the model and C have for them.
use Rattle.std.specs.Prelude.{◌≡◌, ◌<◌, ℕ, Result, Ok, Err}
use Rattle.trim_text.specs.declared.NoPattern.{NoPattern}
use Rattle.trim_text.specs.declared.Pattern.{Pattern}
use Rattle.trim_text.specs.declared.Pattern.TheVariants.{WhiteSpace, LineEnds}

abbrev pub pattern_number : Pattern → ℕ
pattern_number WhiteSpace = 0
pattern_number LineEnds = 1

-- the pattern with this number; no pattern has a number above 1
abbrev pub PatternOf : ℕ → Result Pattern NoPattern → Type 0
PatternOf number (Ok p) = pattern_number p ≡ number
PatternOf number (Err e) = 1 < number
