-- What `next_start` finds.
use Rattle.std.specs.Prelude.{ℕ, ◌+◌, ◌≤◌, ◌<◌, ◌≡◌, Bool, true, false, List, []}
use Rattle.model.specs.Indent.{then_start}
use Rattle.indent_mark.specs.Bytes.{starts_from, part}
use Rattle.indent_line_starts.specs.declared.Next.{Next}
use Rattle.indent_line_starts.specs.declared.Next.TheVariants.{Start, End}

-- a line start r from a place on, which takes the mark, and those behind it
pub record StartAt (text exclude : List ℕ) (mark : Bool) (at end r : ℕ) : Type 0 where
  pub from_on : at ≤ r
  pub below : r < end
  pub found : starts_from exclude mark at (part text at end) ≡ then_start r (starts_from exclude false (r + 1) (part text (r + 1) end))
  pub again : starts_from exclude true r (part text r end) ≡ then_start r (starts_from exclude false (r + 1) (part text (r + 1) end))

-- the next one; or there is no other up to the end
abbrev pub NextStart : List ℕ → List ℕ → Bool → ℕ → ℕ → Next → Type 0
NextStart text exclude mark at end (Start r) = StartAt text exclude mark at end r
NextStart text exclude mark at end (End m) = starts_from exclude mark at (part text at end) ≡ record { mark = m; starts = [] }
