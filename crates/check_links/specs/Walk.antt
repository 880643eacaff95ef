-- A walk along the chunk list from both of its ends: what a step promises. Spans that follow one another are pending until one does not; then their bytes are marked at once.
use Rattle.std.specs.Prelude.{◌≡◌, Option, Some, None, List, ℕ, ◌+◌, ◌-◌, ◌≤◌, length}
use Rattle.memory_table.specs.Ring.{Ring}
use Rattle.memory_table.specs.Order.{next_of, prev_of}
use Rattle.memory_counting.specs.Counts.{indicator}
use Rattle.check_spans.specs.Spans.{start_of, end_of, Edged, Empty}
use Rattle.check_row.specs.Row.{Joint, Behind, Proper}
use Rattle.check_links.specs.declared.Side.{Side}

-- how often byte b is marked or pending; how many bytes are pending
abbrev pub held : (ℕ → ℕ) → Side → ℕ → ℕ
held m s b = m b + indicator s.from s.to b

abbrev pub pending_size : Side → ℕ
pending_size s = s.to - s.from

-- no byte is held twice, and no more are pending than are left
pub record Fits (m : ℕ → ℕ) (s : Side) : Type 0 where
  pub once : (b : ℕ) → held m s b ≤ 1
  pub within : pending_size s ≤ s.left

-- what is pending lies inside, between characters, and can be marked
pub record Sound (source : List ℕ) (s : Side) : Type 0 where
  pub started : s.from ≤ s.to
  pub inside : s.to ≤ length source
  pub edged : Edged source s.from s.to

-- the span from a up to e is held, too; what is pending stays sound if the span is
pub record Grown (a e : ℕ) (m : ℕ → ℕ) (s : Side) (m' : ℕ → ℕ) (s' : Side) : Type 0 where
  pub bytes : (b : ℕ) → held m' s' b ≡ held m s b + indicator a e b
  pub size : pending_size s' + s.left ≡ pending_size s + (e - a) + s'.left
  pub sound : (source : List ℕ) → e ≤ length source → Edged source a e → Sound source s → Sound source s'

-- it is, at row i; none if what was pending did not fit
pub record Passed (i a e : ℕ) (m : ℕ → ℕ) (s : Side) (m' : ℕ → ℕ) (s' : Side) : Type 0 where
  pub row : s'.row ≡ i
  pub grown : Grown a e m s m' s'

abbrev pub Turned : ℕ → ℕ → ℕ → (ℕ → ℕ) → Side → (ℕ → ℕ) → Option Side → Type 0
Turned i a e m s m' (Some s') = Passed i a e m s m' s'
Turned i a e m s m' None = Fits m s → ⊥

-- a step by word k, to a row whose span is proper and held
pub record Went (source t : List ℕ) (n k : ℕ) (m : ℕ → ℕ) (s : Side) (m' : ℕ → ℕ) (s' : Side) : Type 0 where
  pub behind : Behind t n k s.row s'.row
  pub proper : Proper source t s'.row
  pub grown : Grown (start_of t s'.row) (end_of t s'.row) m s m' s'

-- or none
abbrev pub Stepped : List ℕ → List ℕ → ℕ → ℕ → (ℕ → ℕ) → Side → (ℕ → ℕ) → Option Side → Type 0
Stepped source t n k m s m' (Some s') = Went source t n k m s m' s'
Stepped source t n k m s m' None = (y : ℕ) → Behind t n k s.row y → Proper source t y → Fits m s → ⊥

-- the two sides meet, and what is pending is all that is left
pub record Ended (t : List ℕ) (k : ℕ) (m : ℕ → ℕ) (near far : Side) : Type 0 where
  pub edge : Joint t k near.row far.row
  pub once : (b : ℕ) → held m near b + indicator far.from far.to b ≤ 1
  pub all : pending_size near + pending_size far ≡ near.left

-- the one chunk of an empty source
pub record Alone (t : List ℕ) (n : ℕ) : Type 0 where
  pub span : Empty t n
  pub ring : Ring (next_of t) (prev_of t) n
