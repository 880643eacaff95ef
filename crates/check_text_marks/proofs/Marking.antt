-- One text marked, and the texts of a run.
use mathlib.Core.Path.{◌≡◌}
use mathlib.Core.Bool.{Bool}
use mathlib.Core.List.{List}
use Prim.Native.Nat.{ℕ, ◌+◌, ◌≤◌}
use native.Mathlib.Omega.{arith}
use lib.ListN.{length}
use Rattle.memory.specs.Layout.{piece_at}
use Rattle.memory.specs.WellFormed.{among, run_uses}
use Rattle.memory_counting.specs.Counts.{sum_to}
use Rattle.memory_counting.proofs.Lists.{sum_tabulate}
use Rattle.check_marks.specs.Marks.{Passed}
use Rattle.check_marks.proofs.Passing.{pass_by}
use Rattle.check_text_marks.specs.Texts.{Enough, RunEnds}

-- as many words
pub enough_kept : {size : ℕ} {words words' : List ℕ} → length words' ≡ length words → Enough size words → Enough size words'
enough_kept e h = record { marks = omega (arith, h.marks); small = omega (arith, h.small) }

-- how often a run's texts have a byte, as a sum over its rows
pub run_texts : {r : Bool} {size byte top : ℕ} {m m' : ℕ → ℕ} (p : List ℕ) (at n : ℕ)
    → Passed r ◌≤◌ size m byte (RunEnds p (at, n)) (λ b. sum_to (λ k. among (piece_at p (at + k)) b) n) m' top
    → Passed r ◌≤◌ size m byte (RunEnds p (at, n)) (λ b. run_uses p b (at, n)) m' top
unfolding run_uses
run_texts p at n a =
    pass_by a (λ w x. x) (λ w x. x) (λ b. run_uses p b (at, n)) (λ b. sum_tabulate (λ x. among x b) (λ k. piece_at p (at + k)) n)
