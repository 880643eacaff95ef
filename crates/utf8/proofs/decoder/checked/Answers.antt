-- Each answer by the tests that led to it.
use mathlib.Core.Path.{◌≡◌, sym, ap, ◌∙◌}
use mathlib.Core.Logic.{inl, inr}
use mathlib.Core.Bool.{true, false, not, and-false, true≢false}
use Prim.Native.Nat.{ℕ, ◌<◌, ◌≤◌}
use native.Mathlib.Omega.{arith}
use borrow.Author.Tests.{lt-ltb, le-ltb, le-leb, lt-leb}
use Rattle.std.specs.Prelude.{Option, Some, None, MatchOption, is_some}
use Rattle.std.specs.Char.{InScalarRange, OutOfScalarRange}
use Rattle.utf8.specs.Rfc3629.{scalar}
use Rattle.utf8.specs.declared.Decoded.TheVariants.{Char, Invalid}
use Rattle.utf8.proofs.decoder.checked.Goals as goal
use Rattle.utf8.proofs.decoder.checked.Goals.{then-code-low-via-then-code-low, then-code-low-via-else-code-low+then-is_none}

module _ (low v w : ℕ) where
  overlong : v < low → Invalid ≡ scalar low v w
  unfolding scalar
  overlong h = simp (lt-leb _ _ h)

  outside : OutOfScalarRange v → Invalid ≡ scalar low v w
  unfolding scalar
  outside h =
      elim h [
        | inl k ↦ simp (le-leb 0xD800 v (omega arith), lt-ltb v 0xE000 (omega arith), and-false)
        | inr k ↦ simp (le-ltb v 0x110000 k, and-false)
      ]

  inside : low ≤ v → InScalarRange v → Char v w ≡ scalar low v w
  unfolding scalar
  inside h k =
      elim k [
        | inl l ↦ simp (le-leb _ v h, lt-leb 0xD800 v l, lt-ltb v 0x110000 (omega arith))
        | inr l ↦ simp (le-leb _ v h, le-ltb v 0xE000 (omega arith), lt-ltb v 0x110000 (omega arith), and-false)
      ]

-- what `from_u32` answers, by `is_none`
none_by : (v : ℕ) (r : Option ℕ) → MatchOption r (OutOfScalarRange v) (λ _. InScalarRange v) → is_some r ≡ false → OutOfScalarRange v
none_by v None m e = m
none_by v (Some x) m e = absurd (true≢false e)

some_by : (v : ℕ) (r : Option ℕ) → MatchOption r (OutOfScalarRange v) (λ _. InScalarRange v) → is_some r ≡ true → InScalarRange v
some_by v None m e = absurd (true≢false (sym e))
some_by v (Some x) m e = m

pub returns-then-code-low : goal.returns-then-code-low
returns-then-code-low c =
    elim c.then-code-low.branch [
      | then-code-low-via-then-code-low w ↦ overlong _ _ _ w.if-code-low.true
      | then-code-low-via-else-code-low+then-is_none w ↦ outside _ _ _ (none_by _ w.from_u32.result w.from_u32.ensures.cases (w.is_none.ensures ∙ ap not w.if-is_none.true))
    ]

pub returns : goal.returns
returns c = inside _ _ _ c.if-code-low.false (some_by _ c.from_u32.result c.from_u32.ensures.cases (c.is_none.ensures ∙ ap not c.if-is_none.false))
