-- Laws of `covers`: which bytes a chunk's span has, and that the two halves of a cut have those of the whole.
use Prim.Native.Nat.{ℕ, ◌+◌, ◌≤◌, ◌<◌}
use native.Mathlib.Omega.{arith}
use native.Mathlib.Decide.{dec_lt}
use mathlib.Core.Path.{◌≡◌}
use borrow.Author.Tests.{lt-ltb, le-ltb, le-leb, lt-leb}
use Rattle.model.specs.Chunk.{Chunk, start_of, end_of, first_half, second_half}
use Rattle.model.specs.WellFormed.{covers}

pub covers_in : (x : ℕ) (c : Chunk) → (start_of c ≤ x) × (x < end_of c) → covers x c ≡ 1
unfolding covers
covers_in x c h = rw (le-leb (start_of c) x h.0, lt-ltb x (end_of c) h.1)

pub covers_out : (x : ℕ) (c : Chunk) → ((start_of c ≤ x) × (x < end_of c) → ⊥) → covers x c ≡ 0
unfolding covers
covers_out x c n =
    elim (dec_lt x (start_of c)) [
      | yes h ↦ rw (lt-leb (start_of c) x h)
      | no h ↦ elim (dec_lt x (end_of c)) [
        | yes k ↦ absurd (n (omega arith, k))
        | no k ↦ rw (le-leb (start_of c) x (omega arith), le-ltb x (end_of c) (omega arith))
      ]
    ]

pub covers_key : (x : ℕ) (c d : Chunk) → d.span ≡ c.span → covers x d ≡ covers x c
unfolding covers
covers_key x c d e = rw e

pub covers_halves : (x p : ℕ) (c : Chunk) → (start_of c < p) × (p < end_of c) → covers x (first_half p c) + covers x (second_half p c) ≡ covers x c
covers_halves x p c i =
    elim (dec_lt x (start_of c)) [
      | yes h ↦ rw (out_first (λ j. omega arith), out_second (λ j. omega arith), covers_out x c (λ j. omega arith))
      | no h ↦ elim (dec_lt x (end_of c)) [
        | yes k ↦ elim (dec_lt x p) [
          | yes l ↦ rw (covers_in x (first_half p c) (omega arith, l), out_second (λ j. omega arith), covers_in x c (omega arith, k))
          | no l ↦ rw (out_first (λ j. omega arith), covers_in x (second_half p c) (omega arith, k), covers_in x c (omega arith, k))
        ]
        | no k ↦ rw (out_first (λ j. omega arith), out_second (λ j. omega arith), covers_out x c (λ j. omega arith))
      ]
    ]
  where
    out_first : ((start_of c ≤ x) × (x < p) → ⊥) → covers x (first_half p c) ≡ 0
    out_first n = covers_out x (first_half p c) n

    out_second : ((p ≤ x) × (x < end_of c) → ⊥) → covers x (second_half p c) ≡ 0
    out_second n = covers_out x (second_half p c) n
