-- The lines of a text one by one, and what each adds to a tally.
use Rattle.std.specs.Prelude.{ℕ, ◌+◌, ◌≤◌, ◌<◌, min, ◌≡◌, cond, [], ◌∷◌, eqb, length, get_or, drop}
use Rattle.model.specs.Text.{Text, TAB, LF}
use Rattle.model.specs.Indent.{tabbed, spaced, leading_spaces}
use Rattle.report_indent_string.specs.declared.Tally.{Tally}

-- what stands behind the first line feed
abbrev pub behind_line : Text → Text
behind_line [] = []
behind_line (a ∷ s) = let r : Text = behind_line s in cond (eqb a LF) s r

-- no line feed stands in the n bytes of s from i on
abbrev pub NoFeeds : Text → ℕ → ℕ → Type 0
NoFeeds s i n = (j : ℕ) → j < n → get_or s (i + j) 0 ≡ LF → ⊥

-- the line that goes on at `at` goes on at i
abbrev pub Seeking : Text → ℕ → ℕ → Type 0
Seeking s at i = (at ≤ i) × (i ≤ length s) × (behind_line (drop i s) ≡ behind_line (drop at s))

-- r is where the next line begins in s, or the end
pub record NextLine (s : Text) (at r : ℕ) : Type 0 where
  pub left : drop r s ≡ behind_line (drop at s)
  pub inside : r ≤ length s
  pub from : at ≤ r
  pub ahead : at < length s → at < r

-- r is t with one line more
pub record Adds (t : Tally) (l : Text) (r : Tally) : Type 0 where
  pub tabs : r.tabbed ≡ cond (tabbed l) 1 0 + t.tabbed
  pub spaces : r.spaced ≡ cond (spaced l) 1 0 + t.spaced
  pub fewest : r.least ≡ cond (spaced l) (min (leading_spaces l) t.least) t.least

-- so it is for each line that begins with n spaces, and with a tab exactly if `first` is one
abbrev pub Counts : Tally → ℕ → ℕ → Tally → Type 0
Counts t first n r = (l : Text) → tabbed l ≡ eqb first TAB → leading_spaces l ≡ n → Adds t l r

-- the line of which t has the place: it begins with the fewest spaces; before the first, these are as many as s has bytes
pub record Held (s : Text) (t : Tally) : Type 0 where
  pub none : t.spaced ≡ 0 → t.least ≡ length s
  pub inside : t.at ≤ length s
  pub some : 0 < t.spaced → t.least ≤ leading_spaces (drop t.at s)

-- so it is behind a line that begins with n spaces at `at`
abbrev pub Places : Tally → ℕ → ℕ → Tally → Type 0
Places t n at r = (s : Text) → at ≤ length s → leading_spaces (drop at s) ≡ n → Held s t → Held s r
