-- A reading: its size, and how it is written byte by byte behind the call.
use Prim.Native.Nat.{ℕ, suc, ◌+◌, ◌-◌, ◌≤◌, ◌<◌}
use mathlib.Core.Path.{◌≡◌, ap, ◌∙◌}
use mathlib.Core.Bool.{Bool, true, false}
use mathlib.Core.List.{List, [], ◌∷◌, ◌++◌, append_assoc}
use native.Mathlib.Numerals.{add-one}
use native.Mathlib.Omega.{arith}
use lib.ListN.{length, get_or, drop, set, length-append, length-drop}
use lib.Seq.{drop-cons, set_at, append_snoc, length-take-le}
use Rattle.memory_layout.specs.Layout.{RECORD_ANSWERS, RECORD_MARKS}
use Rattle.model.proofs.Lists.{bool-elim}
use Rattle.filed_marks.specs.Readings.{from_to, read_bytes, size_of, ReadingPut}

-- ── sizes ──
-- how many bytes lie from a place up to the next
from_to_length : (at next : ℕ) (b : List ℕ) → next ≤ length b → length (from_to at next b) ≡ next - at
from_to_length at next b h = length-take-le (next - at) (drop at b) (omega (arith, length-drop at b))

-- how many bytes a reading has
module _ (marked : Bool) (at next : ℕ) where
  pub size_marked : marked ≡ true → size_of marked at next ≡ next - at + 2
  size_marked e = rw e

  pub size_unmarked : marked ≡ false → size_of marked at next ≡ next - at + 1
  size_unmarked e = rw e

  pub size_least : next - at + 1 ≤ size_of marked at next
  size_least = bool-elim marked (λ e. omega (arith, size_marked e)) (λ e. omega (arith, size_unmarked e))

  pub size_most : size_of marked at next ≤ next - at + 2
  size_most = bool-elim marked (λ e. omega (arith, size_marked e)) (λ e. omega (arith, size_unmarked e))

pub reading_length : (marked : Bool) (at next i : ℕ) (b : List ℕ) → next ≤ length b → length (read_bytes marked at next i b) ≡ size_of marked at next
reading_length false at next i b h =
    omega (arith, from_to_length at next b h, length-append (from_to at next b) (get_or b (RECORD_ANSWERS + i) 0 ∷ []))
reading_length true at next i b h =
    omega (arith, from_to_length at next b h, length-append (from_to at next b) (get_or b (RECORD_ANSWERS + i) 0 ∷ get_or b (RECORD_MARKS + i) 0 ∷ []))

-- ── what is written ──
-- a byte behind those at the front of a buffer
byte_behind : (xs out d : List ℕ) (n v : ℕ) → d ≡ xs ++ drop n out → length xs ≡ n → n < length out → set d n v ≡ (xs ++ (v ∷ [])) ++ drop (n + 1) out
byte_behind xs out d n v e l h = rw (e, add-one, drop-cons out n 0, set_at xs (get_or out n 0) (drop (suc n) out) v n, append_snoc)

module _ (marked : Bool) (at next i : ℕ) (b out d : List ℕ) (within : next ≤ length b) (room : size_of marked at next ≤ length out) where
  call_length : length (from_to at next b) ≡ next - at
  call_length = from_to_length at next b within

  module _ (put : d ≡ from_to at next b ++ drop (length (from_to at next b)) out) where
    with_answer : set d (next - at) (get_or b (RECORD_ANSWERS + i) 0) ≡ (from_to at next b ++ (get_or b (RECORD_ANSWERS + i) 0 ∷ [])) ++ drop (next - at + 1) out
    with_answer =
        byte_behind (from_to at next b) out d (next - at) (get_or b (RECORD_ANSWERS + i) 0) (put ∙ ap (λ n. from_to at next b ++ drop n out) call_length) call_length
        (omega (arith, size_least marked at next))

    pub member_put : marked ≡ false → ReadingPut marked at next i b out (set d (next - at) (get_or b (RECORD_ANSWERS + i) 0))
    member_put e = rw e with_answer

    pub examiner_put : marked ≡ true → ReadingPut marked at next i b out (set (set d (next - at) (get_or b (RECORD_ANSWERS + i) 0)) (next - at + 1) (get_or b (RECORD_MARKS + i) 0))
    examiner_put e =
        let call = from_to at next b in
        let answer = get_or b (RECORD_ANSWERS + i) 0 in
        let marks = get_or b (RECORD_MARKS + i) 0 in
        let l : length (call ++ (answer ∷ [])) ≡ next - at + 1 = omega (arith, length-append call (answer ∷ []), call_length) in
        let two : next - at + 1 + 1 ≡ next - at + 2 = omega arith in
        rw (
          e,
          byte_behind (call ++ (answer ∷ [])) out (set d (next - at) answer) (next - at + 1) marks with_answer l (omega (arith, size_marked marked at next e)),
          two,
          append_assoc call (answer ∷ []) (marks ∷ []),
        )
