-- A walk over texts that counts, and the sums it gives.
use mathlib.Core.Path.{◌≡◌, refl, ap, ◌∙◌}
use mathlib.Core.List.{List, [], ◌∷◌}
use Prim.Native.Nat.{ℕ, ◌+◌, ◌≤◌}
use native.Mathlib.Omega.{arith}
use lib.ListN.{length}
use Rattle.utf8.specs.Chars.{All, nil, cons}
use Rattle.memory_table.specs.Order.{Linked}
use Rattle.model.specs.Text.{Text, sum}
use Rattle.model.specs.MagicString.{fragments, to_string}
use Rattle.model.specs.WellFormed.{Valid}
use Rattle.memory.specs.Layout.{magic_string_of}
use Rattle.memory.specs.WellFormed.{WellFormed}
use Rattle.memory_fragments.specs.Output.{most_output}
use Rattle.memory_fragments.specs.Sections.{sections, fragments_all, rest}
use Rattle.memory_fragments.proofs.Output.{sum_sections, sum_length, rest_short}
use Rattle.memory_fragments.proofs.Valid.{left_is, left_short, rest_valid}

-- a count that is at most the length of a text
abbrev pub Bounded : (Text → ℕ) → Type 0
Bounded f = (t : Text) → Valid t → f t ≤ length t

pub sum_le : (f : Text → ℕ) → Bounded f → (ts : List Text) → All Valid ts → sum f ts ≤ sum length ts
sum_le f b [] nil = omega arith
sum_le f b (t ∷ ts) (cons h k) = omega (arith, b t h, sum_le f b ts k)

-- over what is left from any place on
pub rest_bound : (f : Text → ℕ) → Bounded f → (source t p s : List ℕ) (g item : ℕ) → WellFormed source t p s → sum f (rest source t p s g item) ≤ most_output
rest_bound f b source t p s g item w = omega (arith, sum_le f b (rest source t p s g item) (rest_valid source t p s w g item), rest_short source t p s w g item)

-- n is the count so far of the texts `whole`, and `left` are those that are left of them
pub record Counting (f : Text → ℕ) (whole left : List Text) (n : ℕ) : Type 0 where
  pub valid : All Valid left
  pub short : sum length left ≤ most_output
  pub sum_is : n + sum f left ≡ sum f whole

pub counting_more : {f : Text → ℕ} {whole left left' : List Text} {t : Text} {n n' : ℕ} → Counting f whole left n → left ≡ t ∷ left' → n' ≡ n + f t → Counting f whole left' n'
counting_more {f} c e k = record {
  valid = left_is c.valid e;
  short = left_short c.short e;
  sum_is = omega (arith, c.sum_is, k, ap (sum f) e);
}

-- the bytes of all texts
pub output_length : (source t p s : List ℕ) → Linked t → sum length (fragments_all source p s (sections t)) ≡ length (to_string (magic_string_of source t p s))
unfolding to_string
output_length source t p s l = sum_sections length refl source t p s l ∙ sum_length (fragments (magic_string_of source t p s))
