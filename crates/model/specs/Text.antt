-- Texts, and what the crate uses of Rust's `str` and `VecDeque`. A name that Rust writes with `_` has `-` here.
use Rattle.std.specs.Prelude.{ℕ, ◌+◌, ◌-◌, Bool, true, false, ◌&&◌, ◌||◌, cond, List, [], ◌∷◌, ◌++◌, reverse, eqb, get_or, take, drop}
use Rattle.std.proofs.Math.Option.{Option, none, some}
use Rattle.utf8.specs.WhiteSpace.{white_space}
use Rattle.utf8.specs.Chars.{chars, concat, code}

-- a text: its bytes. A piece of document 01 is one text
abbrev pub Text : Type 0
Text = List ℕ

-- the three bytes that the crate names: tab, line feed, carriage return
abbrev pub TAB : ℕ
TAB = 9

abbrev pub LF : ℕ
LF = 10

abbrev pub CR : ℕ
CR = 13

abbrev pub SPACE : ℕ
SPACE = 32

-- `&s[a..b]`, empty where the range is reversed
abbrev pub part : ℕ → ℕ → Text → Text
part a b s = take (b - a) (drop a s)

-- `==` of two strings
abbrev pub same : Text → Text → Bool
same [] [] = true
same [] (b ∷ t) = false
same (a ∷ s) [] = false
same (a ∷ s) (b ∷ t) = eqb a b && same s t

module _ {A : Type 0} where
  -- `is_empty` of a string or a deque
  abbrev pub is_nil : List A → Bool
  is_nil [] = true
  is_nil (x ∷ l) = false

  -- `push_back` of a deque
  abbrev pub push_back : A → List A → List A
  push_back x l = l ++ (x ∷ [])

  -- `Option::is_some`, `Option::unwrap_or`
  abbrev pub is_some : Option A → Bool
  is_some none = false
  is_some (some x) = true

  abbrev pub unwrap_or : Option A → A → A
  unwrap_or none d = d
  unwrap_or (some x) d = x

  -- `VecDeque::back`, and `next_back` of an iterator
  abbrev pub back : List A → Option A
  back [] = none
  back (x ∷ l) = elim (back l) [ none ↦ some x | some y ↦ some y ]

  -- `Iterator::any` and `all`
  abbrev pub any : (A → Bool) → List A → Bool
  any f [] = false
  any f (x ∷ l) = f x || any f l

  abbrev pub all : (A → Bool) → List A → Bool
  all f [] = true
  all f (x ∷ l) = f x && all f l

  -- what is left behind the first elements that f takes
  abbrev pub skip_while : (A → Bool) → List A → List A
  skip_while f [] = []
  skip_while f (x ∷ l) = let r : List A = skip_while f l in cond (f x) r (x ∷ l)

  -- `Iterator::map(..).sum()`
  abbrev pub sum : (A → ℕ) → List A → ℕ
  sum f [] = 0
  sum f (x ∷ l) = f x + sum f l

-- `str::trim_start_matches` and `trim_end_matches`, with a test of a character's code
unfoldable pub trim_start_matches : (ℕ → Bool) → Text → Text
trim_start_matches f s = concat (skip_while (λ c. f (code c)) (chars s))

unfoldable pub trim_end_matches : (ℕ → Bool) → Text → Text
trim_end_matches f s = concat (reverse (skip_while (λ c. f (code c)) (reverse (chars s))))

-- `str::trim`: white space at both ends
unfoldable pub trim_white_space : Text → Text
trim_white_space s = trim_end_matches white_space (trim_start_matches white_space s)

-- a byte more at the front of the first line
abbrev pub onto_first : ℕ → List Text → List Text
onto_first a [] = (a ∷ []) ∷ []
onto_first a (l ∷ ls) = (a ∷ l) ∷ ls

-- `str::lines`: split at line feeds, a carriage return right before one dropped, no line after a final one
abbrev pub lines : Text → List Text
lines [] = []
lines (a ∷ s) =
    let ls : List Text = lines s in
    cond (eqb a LF) ([] ∷ ls) (cond (eqb a CR && eqb (get_or s 0 0) LF) ls (onto_first a ls))

-- `memrchr(b'\n', ..)` and the part behind it: what stands behind the last line feed, if there is one
abbrev pub behind_last_line_feed : Text → Option Text
behind_last_line_feed [] = none
behind_last_line_feed (a ∷ s) =
    elim (behind_last_line_feed s) [ none ↦ cond (eqb a LF) (some s) none | some t ↦ some t ]

-- how many bytes of a text are line feeds
abbrev pub line_feeds : Text → ℕ
line_feeds [] = 0
line_feeds (a ∷ s) = cond (eqb a LF) 1 0 + line_feeds s

-- `str::ends_with` of one byte
abbrev pub ends_with : ℕ → Text → Bool
ends_with b s = elim (back s) [ none ↦ false | some a ↦ eqb a b ]
