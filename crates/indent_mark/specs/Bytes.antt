-- indent.rs byte by byte, on any list of bytes. On valid texts this is the model's way, by characters (proofs/ByCharacters.antt).
use Rattle.std.specs.Prelude.{ℕ, Option, MatchOption, ◌+◌, ◌-◌, ◌≤◌, ◌<◌, Bool, true, false, ◌&&◌, ◌||◌, not, cond, List, [], ◌∷◌, ◌++◌, eqb, length, take, drop}
use Rattle.utf8.specs.Rfc3629.{follows}
use Rattle.model.specs.Text.{Text, LF, CR}
use Rattle.model.specs.Indent.{excluded, Starts, then_start}
use Rattle.memory_texts.specs.Over.{Wrote}

-- ---- `indent_frag`

-- `should_indent_next_char` behind a byte: a line feed sets it, a carriage return leaves it, any other byte takes it
abbrev pub mark_on : Bool → ℕ → Bool
mark_on mark b = cond (eqb b LF) true (eqb b CR && mark)

-- `should_indent_next_char` behind a text
unfoldable pub mark_behind : Bool → Text → Bool
mark_behind mark [] = mark
mark_behind mark (b ∷ s) = mark_behind (mark_on mark b) s

-- whether the indentor stands before a byte: `char != '\r' && should_indent_next_char`, of a byte that is no line feed
abbrev pub takes : Bool → ℕ → Bool
takes mark b = mark && (not (eqb b LF) && not (eqb b CR))

abbrev pub indented_byte : Text → Bool → ℕ → Text
indented_byte indentor mark b = cond (takes mark b) (indentor ++ (b ∷ [])) (b ∷ [])

-- a text was put into a buffer at a place, where it fits
pub record Filled (d : List ℕ) (place : ℕ) (xs d' : List ℕ) (end : ℕ) : Type 0 where
  pub done : Wrote d place xs d' end
  pub room : place + length xs ≤ length d

-- what putting it there gives: the place behind it, or nothing where it does not fit
abbrev pub Filling : List ℕ → ℕ → List ℕ → List ℕ → Option ℕ → Type 0
Filling d place xs d' r = MatchOption r (length d < place + length xs) (Filled d place xs d')

-- ---- the line starts of `indent_with`

-- whether a line begins with the byte at i. A following byte (80 to BF) begins no character
abbrev pub begins_line : List ℕ → Bool → ℕ → ℕ → Bool
begins_line exclude mark i b = takes mark b && (not (follows b) && not (excluded exclude i))

-- the mark behind the byte at i, where no line begins with it
abbrev pub mark_past : List ℕ → Bool → ℕ → ℕ → Bool
mark_past exclude mark i b = mark || (eqb b LF && not (excluded exclude i))

-- `line_starts` of the bytes from i on, and the mark behind them
unfoldable pub starts_from : List ℕ → Bool → ℕ → Text → Starts
starts_from exclude mark i [] = record { mark = mark; starts = [] }
starts_from exclude mark i (b ∷ s) =
    cond (begins_line exclude mark i b) (then_start i (starts_from exclude false (i + 1) s)) (starts_from exclude (mark_past exclude mark i b) (i + 1) s)

-- the bytes from a up to b
abbrev pub part : Text → ℕ → ℕ → Text
part text a b = take (b - a) (drop a text)
