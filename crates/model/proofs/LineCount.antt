-- Laws of document 02's L3: the line count by the last byte, and that it is the number of lines that `str::lines` gives of the output.
use Prim.Native.Nat.{ℕ, suc, ◌+◌, ◌-◌, ◌≤◌}
use native.Mathlib.Omega.{arith}
use mathlib.Core.Path.{◌≡◌, refl, sym, ap, ◌∙◌}
use mathlib.Core.Bool.{Bool, true, false, ◌&&◌, not, cond}
use mathlib.Core.List.{List, [], ◌∷◌, ◌++◌}
use mathlib.Core.Option.{Option, none, some}
use lib.Dec.{eqb}
use lib.ListN.{length, get_or}
use Rattle.model.specs.Text.{Text, LF, CR, back, unwrap_or, onto_first, lines, line_feeds, ends_with}
use Rattle.model.specs.MagicString.{MagicString, to_string, line_count, line_count_of}

-- ── the last byte of a text, and of an empty one the byte before it ──
abbrev pub last : ℕ → Text → ℕ
last b s = unwrap_or (back s) b

back_cons : (a : ℕ) (s : Text) → back (a ∷ s) ≡ some (last a s)
back_cons a s = go (back s) refl
  where
    go : (o : Option ℕ) → back s ≡ o → back (a ∷ s) ≡ some (last a s)
    go none e = rw e
    go (some y) e = rw e

last_cons : (b a : ℕ) (s : Text) → last b (a ∷ s) ≡ last a s
last_cons b a s = ap (λ (o : Option ℕ). unwrap_or o b) (back_cons a s)

pub last_append : (b : ℕ) (s t : Text) → last b (s ++ t) ≡ last (last b s) t
last_append b [] t = refl
last_append b (a ∷ s) t = last_cons b a (s ++ t) ∙ last_append a s t ∙ ap (λ (x : ℕ). last x t) (sym (last_cons b a s))

pub last_empty : (b : ℕ) (s : Text) → length s ≡ 0 → b ≡ last b s
last_empty b [] h = refl
last_empty b (a ∷ s) h = absurd (omega arith)

pub last_get : (b : ℕ) (s : Text) → (length s ≡ 0 → ⊥) → get_or s (length s - 1) 0 ≡ last b s
last_get b [] h = absurd (h refl)
last_get b (a ∷ []) h = refl
last_get b (a ∷ c ∷ s) h =
    let e : length (a ∷ c ∷ s) - 1 ≡ suc (length (c ∷ s) - 1) = omega arith in
    ap (λ (i : ℕ). get_or (a ∷ c ∷ s) i 0) e ∙ last_get a (c ∷ s) (λ z. omega arith) ∙ sym (last_cons b a (c ∷ s))

-- ── the line count by the last byte ──
abbrev open_line : ℕ → ℕ
open_line b = 1 - cond (eqb b LF) 1 0

pub count_by_last : (s : Text) → line_count_of s ≡ line_feeds s + open_line (last LF s)
count_by_last [] = refl
count_by_last (a ∷ s) =
    let e : ends_with LF (a ∷ s) ≡ eqb (last a s) LF = ap (λ (o : Option ℕ). elim o as (λ _. Bool) [ none ↦ false | some x ↦ eqb x LF ]) (back_cons a s) in
    ap (λ (k : ℕ). line_feeds (a ∷ s) + k) (ap (λ (b : Bool). cond (not b) 1 0) e ∙ go (eqb (last a s) LF) ∙ ap open_line (sym (last_cons LF a s)))
  where
    go : (b : Bool) → cond (not b) 1 0 ≡ 1 - cond b 1 0
    go true = refl
    go false = refl

-- ── the line count is that of `str::lines` ──
-- one byte more at the front of a text that has a line
module _ (a : ℕ) where
  onto_length : (ls : List Text) → 1 ≤ length ls → length (onto_first a ls) ≡ length ls
  onto_length [] h = absurd (omega arith)
  onto_length (l ∷ ls) h = refl

  front_length : (feed return : Bool) (ls : List Text) → 1 ≤ length ls → length (cond feed ([] ∷ ls) (cond return ls (onto_first a ls))) ≡ cond feed 1 0 + length ls
  front_length true return ls h = omega arith
  front_length false true ls h = omega arith
  front_length false false ls h = onto_length ls h ∙ omega arith

  -- a text of one byte has one line
  one_line : (feed return : Bool) → length (cond feed ([] ∷ []) (cond (return && false) [] (onto_first a []))) ≡ 1
  one_line true return = refl
  one_line false true = refl
  one_line false false = refl

lines_some : (a : ℕ) (s : Text) → 1 ≤ length (lines (a ∷ s))
lines_some a [] = omega (arith, one_line a (eqb a LF) (eqb a CR))
lines_some a (b ∷ s) = omega (arith, lines_some b s, front_length a (eqb a LF) (eqb a CR && eqb b LF) (lines (b ∷ s)) (lines_some b s))

lines_length : (a : ℕ) (s : Text) → length (lines (a ∷ s)) ≡ line_feeds (a ∷ s) + open_line (last a s)
lines_length a [] = one_line a (eqb a LF) (eqb a CR) ∙ go (eqb a LF)
  where
    go : (feed : Bool) → 1 ≡ cond feed 1 0 + 0 + (1 - cond feed 1 0)
    go true = refl
    go false = refl
lines_length a (b ∷ s) =
    let e = ap open_line (last_cons a b s) in
    omega (arith, e, lines_length b s, front_length a (eqb a LF) (eqb a CR && eqb b LF) (lines (b ∷ s)) (lines_some b s))

count_lines : (s : Text) → line_count_of s ≡ length (lines s)
count_lines [] = refl
count_lines (a ∷ s) = count_by_last (a ∷ s) ∙ ap (λ (x : ℕ). line_feeds (a ∷ s) + open_line x) (last_cons LF a s) ∙ sym (lines_length a s)

pub line_count_is : (m : MagicString) → line_count m ≡ length (lines (to_string m))
unfolding line_count
line_count_is m = count_lines (to_string m)
