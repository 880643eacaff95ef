-- Laws of what `Compare` in specs/ defines.
use mathlib.Core.Path.{◌≡◌, refl, ap, ap₂, sym, ◌∙◌}
use mathlib.Core.Bool.{Bool}
use mathlib.Core.List.{List, [], ◌∷◌, ◌++◌}
use Prim.Native.Nat.{ℕ, zero, suc, ◌-◌, ◌<◌}
use native.Mathlib.Omega.{arith}
use native.Mathlib.Decide.{ℕ_discrete}
use native.Mathlib.Nat.{le_of_suc-le-suc}
use borrow.Author.Tests.{eq-eqb, ne_eqb}
use lib.Dec.{eqb}
use lib.ListN.{length, get_or, drop, replicate, length-append}
use lib.Seq.{drop-append_seam}
use Rattle.std.specs.List.{list_all}
use Rattle.memory_counting.specs.Counts.{Decides}
use Rattle.memory_counting.proofs.Sums.{is_yes, is_no, decides_by}
use Rattle.replay_compare.specs.Compare.{filled, Written}

-- ---- a buffer filled

pub filled_is : (n : ℕ) → replicate n 0xA5 ≡ filled n
filled_is zero = refl
filled_is (suc n) = ap (λ (l : List ℕ). 0xA5 ∷ l) (filled_is n)

pub filled_at : (n i : ℕ) → i < n → get_or (filled n) i 0 ≡ 0xA5
filled_at zero i h = absurd (omega arith)
filled_at (suc n) zero h = refl
filled_at (suc n) (suc i) h = filled_at n i (le_of_suc-le-suc h)

pub filled_test : (s : List ℕ) → Decides (list_all (λ x. eqb x 0xA5) s) (s ≡ filled (length s))
filled_test [] = is_yes refl
filled_test (x ∷ s) =
    elim (ℕ_discrete x 0xA5) [
      | yes e ↦ rw (eq-eqb x 0xA5 e) (decides_by (λ t. ap₂ (λ (a : ℕ) (l : List ℕ). a ∷ l) e t) (ap (drop 1)) (filled_test s))
      | no e ↦ rw (ne_eqb x 0xA5 e) (is_no (λ t. e (ap (λ (l : List ℕ). get_or l 0 0) t)))
    ]

-- ---- the front is the bytes, the rest is filled

pub written_decides : {r : Bool} (out bytes rest : List ℕ) → out ≡ bytes ++ rest → Decides r (rest ≡ filled (length rest)) → Decides r (Written out bytes)
written_decides out bytes rest e d =
    let n : length out - length bytes ≡ length rest = omega (arith, ap length e, length-append bytes rest) in
    record {
      yes = λ t. record { out_is = e ∙ ap (λ (l : List ℕ). bytes ++ l) (d.yes t ∙ ap filled (sym n)) };
      no = λ f w. d.no f (sym (drop-append_seam bytes rest) ∙ ap (drop (length bytes)) (sym e ∙ w.out_is) ∙ drop-append_seam bytes (filled (length out - length bytes)) ∙ ap filled n);
    }
