-- A turn of each loop.
use mathlib.Core.Path.{◌≡◌, refl, ap, sym, ◌∙◌}
use mathlib.Core.Bool.{Bool, true, false, ◌&&◌, ◌||◌, cond}
use mathlib.Core.List.{List, [], ◌∷◌}
use mathlib.Core.Logic.{◌⊎◌, inl, inr}
use borrow.Author.Tests.{lt-leb, le-ltb}
use Prim.Native.Nat.{ℕ, suc, ◌+◌, ◌-◌, ◌≤◌, ◌<◌}
use native.Mathlib.Omega.{arith}
use native.Mathlib.Numerals.{add-one}
use lib.Dec.{eqb, leb}
use lib.ListN.{length, get_or, take, drop}
use lib.Seq.{drop-cons, take-length}
use Rattle.model.specs.Text.{Text, LF, CR}
use Rattle.model.proofs.Lists.{no_tf}
use Rattle.model.specs.Indent.{excluded, Starts, then_start}
use Rattle.indent_mark.specs.Bytes.{mark_on, begins_line, mark_past, starts_from, part}
use Rattle.indent_line_starts.specs.Next.{StartAt}

-- ---- `is_excluded`: a pair that does not hold i is passed over

and_false : (x y : Bool) → ((x && false) || y) ≡ y
and_false true y = refl
and_false false y = refl

pub pair_passed : (l : List ℕ) (i : ℕ) → 2 ≤ length l → (i < get_or l 0 0) ⊎ (get_or l 1 0 ≤ i) → excluded l i ≡ excluded (take (length l - 2) (drop 2 l)) i
pair_passed [] i h o = absurd (omega arith)
pair_passed (a ∷ []) i h o = absurd (omega arith)
pair_passed (a ∷ b ∷ l) i h (inl k) = let n : suc (suc (length l)) - 2 ≡ length l = omega arith in rw (lt-leb a i k, n, take-length l)
pair_passed (a ∷ b ∷ l) i h (inr k) = let n : suc (suc (length l)) - 2 ≡ length l = omega arith in rw (le-ltb i b k, n, take-length l) (and_false (leb a i) (excluded l i))

-- ---- `next_start`: no line begins in the bytes before i

pub record Seeking (text exclude : List ℕ) (mark : Bool) (at end : ℕ) (m : Bool) (i : ℕ) : Type 0 where
  pub from_on : at ≤ i
  pub up_to : i ≤ end
  pub left : starts_from exclude mark at (part text at end) ≡ starts_from exclude m i (part text i end)

pub seek_none : (text exclude : List ℕ) (mark : Bool) (at end : ℕ) → at ≤ end → Seeking text exclude mark at end mark at
seek_none text exclude mark at end h = record { from_on = omega arith; up_to = h; left = refl }

part_cons : (text : Text) (i end : ℕ) → i < end → end ≤ length text → part text i end ≡ get_or text i 0 ∷ part text (i + 1) end
part_cons text i end h k =
    let n : end - i ≡ suc (end - suc i) = omega arith in
    rw (add-one, n) (ap (take (suc (end - suc i))) (drop-cons text i 0 (omega arith)))

-- what is left at i, with the test of its byte as a variable
abbrev at_byte : List ℕ → List ℕ → ℕ → ℕ → Bool → Bool → Starts
at_byte text exclude end i m b = cond b (then_start i (starts_from exclude false (i + 1) (part text (i + 1) end))) (starts_from exclude m (i + 1) (part text (i + 1) end))

-- the byte at i
turn : (text exclude : List ℕ) (mark : Bool) (at end : ℕ) (m : Bool) (i : ℕ) → Seeking text exclude mark at end m i → i < end → end ≤ length text
    → starts_from exclude mark at (part text at end) ≡ at_byte text exclude end i (mark_past exclude m i (get_or text i 0)) (begins_line exclude m i (get_or text i 0))
unfolding starts_from
turn text exclude mark at end m i s h k = s.left ∙ ap (starts_from exclude m i) (part_cons text i end h k)

-- a line begins where the mark is set
set_begins : (m x y : Bool) → ((m && x) && y) ≡ true → (x && y) ≡ true
set_begins true x y h = h
set_begins false x y h = no_tf (sym h)

pub seek_met : (text exclude : List ℕ) (mark : Bool) (at end : ℕ) (m : Bool) (i : ℕ) (r : Bool) → Seeking text exclude mark at end m i → i < end → end ≤ length text
    → r ≡ begins_line exclude m i (get_or text i 0) → r ≡ true → StartAt text exclude mark at end i
seek_met text exclude mark at end m i r s h k b t =
    record {
      from_on = s.from_on;
      below = h;
      found = turn text exclude mark at end m i s h k ∙ ap (at_byte text exclude end i (mark_past exclude m i (get_or text i 0))) (sym b ∙ t);
      again =
          turn text exclude true i end true i (seek_none text exclude true i end (omega arith)) h k
          ∙ ap (at_byte text exclude end i (mark_past exclude true i (get_or text i 0))) (set_begins m _ _ (sym b ∙ t));
    }

pub seek_more : (text exclude : List ℕ) (mark : Bool) (at end : ℕ) (m : Bool) (i : ℕ) (r m' : Bool) → Seeking text exclude mark at end m i → i < end → end ≤ length text
    → r ≡ begins_line exclude m i (get_or text i 0) → r ≡ false → m' ≡ mark_past exclude m i (get_or text i 0) → Seeking text exclude mark at end m' (i + 1)
seek_more text exclude mark at end m i r m' s h k b t n =
    record {
      from_on = omega (arith, s.from_on);
      up_to = omega arith;
      left = turn text exclude mark at end m i s h k ∙ ap (at_byte text exclude end i (mark_past exclude m i (get_or text i 0))) (sym b ∙ t)
          ∙ ap (λ (b : Bool). starts_from exclude b (i + 1) (part text (i + 1) end)) (sym n);
    }

pub seek_all : (text exclude : List ℕ) (mark : Bool) (at end : ℕ) (m : Bool) (i : ℕ) → Seeking text exclude mark at end m i → end ≤ i → starts_from exclude mark at (part text at end) ≡ record { mark = m; starts = [] }
unfolding starts_from
seek_all text exclude mark at end m i s h = let n : end - i ≡ 0 = omega arith in s.left ∙ ap (λ (j : ℕ). starts_from exclude m i (take j (drop i text))) n

-- ---- `mark_past_byte`: where the mark is not set, a line feed alone sets it

pub mark_clear : (m : Bool) (b : ℕ) → m ≡ false → mark_on m b ≡ eqb b LF
mark_clear m b e = ap (λ (x : Bool). mark_on x b) e ∙ go (eqb b LF) (eqb b CR)
  where
    go : (x y : Bool) → cond x true (y && false) ≡ x
    go true y = refl
    go false true = refl
    go false false = refl
