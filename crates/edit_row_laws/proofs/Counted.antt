-- Laws of what `Counted` in specs/ defines.
use mathlib.Core.Path.{◌≡◌, refl, ap}
use mathlib.Core.Bool.{Bool, true, false, cond}
use mathlib.Core.List.{List, [], ◌∷◌, map}
use mathlib.Core.Option.{none, some}
use Prim.Native.Nat.{ℕ, ◌+◌}
use native.Mathlib.Omega.{arith}
use lib.Dec.{eqb}
use lib.ListN.{length}
use Rattle.memory_table.specs.Order.{Entry}
use Rattle.model.specs.Text.{sum}
use Rattle.model.specs.Limits.{chunk_pieces, chunk_bytes, replacement_bytes}
use Rattle.memory_layout.specs.Layout.{NONE}
use Rattle.memory.specs.Layout.{Place, run_of, replacement_of, chunk_of}
use Rattle.memory.specs.WellFormed.{among, run_uses, replacement_uses}
use Rattle.memory.proofs.Desks.{among_none}
use Rattle.edit_row_laws.specs.Counted.{count_in_entry, Counts}

abbrev pub nothing : Place → ℕ
nothing r = 0

-- ── the four counts ──
pub counts_rows : (j : ℕ) → Counts (λ r. among r j) nothing
counts_rows j = record { no_pieces = λ a. among_none a j; no_bytes = λ a. refl; no_text = λ n. refl }

pub counts_store : (p : List ℕ) (b : ℕ) → Counts (run_uses p b) (replacement_uses b)
unfolding run_uses replacement_uses
counts_store p b =
    record {
      no_pieces = λ a. refl;
      no_bytes = λ a. either (eqb a NONE) (among (a, 0) b) (among_none a b);
      no_text = λ n. refl;
    }
  where
    either : (c : Bool) (n : ℕ) → n ≡ 0 → cond c 0 n ≡ 0
    either true n e = refl
    either false n e = e

pub counts_pieces : (p s : List ℕ) → Counts (λ r. length (run_of p s r)) nothing
unfolding run_of
counts_pieces p s = record { no_pieces = λ a. refl; no_bytes = λ a. refl; no_text = λ n. refl }

pub counts_bytes : (p s : List ℕ) → Counts (λ r. sum length (run_of p s r)) (λ r. replacement_bytes (replacement_of s r))
unfolding run_of replacement_of
counts_bytes p s = record { no_pieces = λ a. refl; no_bytes = λ a. either (eqb a NONE); no_text = λ n. refl }
  where
    either : (c : Bool) → replacement_bytes (cond c none (some [])) ≡ 0
    either true = refl
    either false = refl

-- ── as sums over the rows ──
pub sum_lists : (f : Place → ℕ) (es : List Entry) → sum (λ e. f e.intro + f e.outro) es ≡ sum (count_in_entry f nothing) es
sum_lists f [] = refl
sum_lists f (e ∷ es) = omega (arith, sum_lists f es)

pub sum_pieces : (p s : List ℕ) (es : List Entry) → sum chunk_pieces (map (chunk_of p s) es) ≡ sum (count_in_entry (λ r. length (run_of p s r)) nothing) es
sum_pieces p s [] = refl
sum_pieces p s (e ∷ es) = omega (arith, sum_pieces p s es)

pub sum_bytes : (p s : List ℕ) (es : List Entry) → sum chunk_bytes (map (chunk_of p s) es) ≡ sum (count_in_entry (λ r. sum length (run_of p s r)) (λ r. replacement_bytes (replacement_of s r))) es
sum_bytes p s [] = refl
sum_bytes p s (e ∷ es) = ap (λ (n : ℕ). chunk_bytes (chunk_of p s e) + n) (sum_bytes p s es)
