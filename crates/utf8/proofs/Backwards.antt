-- Backwards over following bytes, to where the last character begins.
use mathlib.Core.Path.{◌≡◌, sym, ap, ◌∙◌}
use mathlib.Core.Bool.{true, false, not, true≢false}
use mathlib.Core.List.{List}
use Prim.Native.Nat.{ℕ, ◌<◌}
use lib.ListN.{length, get_or}
use Rattle.std.specs.Prelude.{Option, Some, None, MatchOption, unwrap_or}
use Rattle.utf8.specs.Rfc3629.{follows, utf8, LastStart}
use Rattle.utf8.proofs.Boundaries.{between_at, starts}

-- the bytes behind p follow, and p's byte does not; or all follow
abbrev pub LastLead : List ℕ → Option ℕ → Type 0
LastLead s r =
    MatchOption r ((k : ℕ) → k < length s → follows (get_or s k 0) ≡ true)
    (λ p. (p < length s) × (follows (get_or s p 0) ≡ false) × ((k : ℕ) → p < k → k < length s → follows (get_or s k 0) ≡ true))

-- in a text the first byte does not follow
pub last_start_of : (s : List ℕ) (r : Option ℕ) → utf8 s ≡ true → 0 < length s → LastLead s r → LastStart s (unwrap_or r 0)
last_start_of s None t h a = absurd (true≢false (sym (a 0 h) ∙ starts s t))
last_start_of s (Some p) t h a = record { inside = a.0; starts = between_at s p t a.0 ∙ ap not a.1; last = λ k l m. between_at s k t m ∙ ap not (a.2 k l m) }
