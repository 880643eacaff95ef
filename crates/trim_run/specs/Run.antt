-- Runs of piece rows: where the blank pieces at their ends lie, and a run written anew with one piece trimmed.
use Rattle.std.specs.Prelude.{◌≡◌, Bool, true, false, List, ◌∷◌, ◌++◌, ℕ, suc, ◌+◌, ◌*◌, ◌-◌, ◌^◌, ◌≤◌, ◌<◌, length}
use Rattle.utf8.specs.Chars.{All}
use Rattle.model.specs.Text.{Text, all}
use Rattle.model.specs.WellFormed.{Valid}
use Rattle.memory.specs.Layout.{Place, bytes_at, piece_at, run_of}
use Rattle.memory.specs.WellFormed.{RunIn}
use Rattle.memory_used.specs.Below.{Below}
use Rattle.trim_text.specs.Sides.{trim_text, blank}
use Rattle.trim_run.specs.Deque.{trim_deque}
use Rattle.memory_texts.specs.Low.{RowsKept}

-- the text of a row
abbrev pub stored_text_at : List ℕ → List ℕ → ℕ → Text
stored_text_at p s j = bytes_at s (piece_at p j)

-- ---- what the functions ask and give

-- a run whose texts can be read and are valid
pub record RunReady (p s : List ℕ) (r : Place) : Type 0 where
  pub inside : RunIn p s r
  pub valid : All Valid (run_of p s r)

-- the first k pieces are blank, and no more
pub record BlankFront (pattern : ℕ) (p s : List ℕ) (at n k : ℕ) : Type 0 where
  pub most : k ≤ n
  pub blanks : all (blank pattern) (run_of p s (at, k)) ≡ true
  pub stop : k < n → blank pattern (stored_text_at p s (at + k)) ≡ false

-- the pieces from k on are blank, and no more
pub record BlankBack (pattern : ℕ) (p s : List ℕ) (at n k : ℕ) : Type 0 where
  pub most : k ≤ n
  pub blanks : all (blank pattern) (run_of p s (at + k, n - k)) ≡ true
  pub stop : 0 < k → blank pattern (stored_text_at p s (at + (k - 1))) ≡ false

-- room for count rows more from row top on, behind the rows that are copied
pub record RowRoom (p s : List ℕ) (at n top : ℕ) : Type 0 where
  pub below : at + n ≤ top
  pub room : (top + n) * 2 ≤ length p
  pub narrow : length p ≤ 4294967296
  pub narrow_store : length s < 2 ^ 32

-- a place that is a part of another
pub record Within (a r : Place) : Type 0 where
  pub first : r.0 ≤ a.0
  pub last : a.0 + a.1 ≤ r.0 + r.1

-- a copy of a run with its piece k trimmed
pub record PutTrimmed (front : Bool) (pattern : ℕ) (p s : List ℕ) (at n k top : ℕ) (p' : List ℕ) : Type 0 where
  pub kept : RowsKept top p p'
  pub text : (m : ℕ) → n ≡ k + suc m → run_of p' s (top, n) ≡ run_of p s (at, k) ++ trim_text front pattern (stored_text_at p s (at + k)) ∷ run_of p s (at + k + 1, m)
  pub low : (byte : ℕ) → Below p byte top (at, n) → Below p' byte (top + n) (top, n)
  pub part : (j : ℕ) → j < n → Within (piece_at p' (top + j)) (piece_at p (at + j))

-- what is left of a run, written from row top on: each row names a part of a piece of the run, those at its front left out
pub record RunTrimmed (front : Bool) (pattern : ℕ) (p s : List ℕ) (at n top : ℕ) (p' : List ℕ) (r : Place) : Type 0 where
  pub kept : RowsKept top p p'
  pub text : run_of p' s r ≡ trim_deque front pattern (run_of p s (at, n))
  pub low : (byte : ℕ) → Below p byte top (at, n) → Below p' byte (top + n) r
  pub place : r.0 ≡ top
  pub out : ℕ
  pub inside : out + r.1 ≤ n
  pub part : (j : ℕ) → j < r.1 → Within (piece_at p' (top + j)) (piece_at p (at + out + j))
