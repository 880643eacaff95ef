-- What is pending, and a span more.
use mathlib.Core.Path.{◌≡◌, refl, ap}
use Rattle.std.specs.Prelude.{Some}
use mathlib.Core.Bool.{Bool}
use mathlib.Core.List.{List}
use Prim.Native.Nat.{ℕ, ◌+◌, ◌-◌, ◌*◌, ◌≤◌, ◌<◌}
use native.Mathlib.Omega.{arith}
use lib.ListN.{length}
use Rattle.memory.specs.WellFormed.{among}
use Rattle.memory_counting.specs.Counts.{indicator}
use Rattle.check_spans.proofs.Spans.{indicator_join}
use Rattle.check_marks.specs.Marks.{Marked}
use Rattle.check_marks.proofs.Marking.{marked_by}
use Rattle.check_bit_marks.specs.BitMarks.{bit_at, Stretch}
use Rattle.check_links.specs.declared.Side.{Side}
use Rattle.check_links.specs.Walk.{Turned}

-- as many as lie between a and e, from a on
among_between : (a e b n : ℕ) → a ≤ e → n ≡ e - a → indicator a e b ≡ among (a, n) b
unfolding among indicator
among_between a e b n h q = let z : e ≡ a + n = omega arith in ap (λ (x : ℕ). indicator a x b) z

-- marked, where F was tested
pub pending_marked : (ws ws' : List ℕ) {from to size : ℕ} {r : Bool} {F : Type 0} → F → size ≡ to - from → from ≤ to → to ≤ length ws * 64
    → Stretch r ws from size ws' → Marked r (bit_at ws) F (indicator from to) (bit_at ws')
pending_marked ws ws' {from} {to} {size} f q h room x = marked_by x (λ z. f) (λ z. omega arith) (indicator from to) (λ b. among_between from to b size h q)

module _ {i a e : ℕ} {m : ℕ → ℕ} {s : Side} (h : s.from ≤ s.to) (l : a < e) where
  pub turn_on : a ≡ s.to → Turned i a e m s m (Some (record { row = i; from = s.from; to = e; left = s.left }))
  turn_on q =
      record {
        row = refl;
        grown = record {
          bytes = λ b. omega (arith, indicator_join s.from s.to e b h (omega arith), ap (λ (x : ℕ). indicator x e b) q);
          size = omega arith;
          sound = λ source k d o. record { started = omega arith; inside = k; edged = record { start = o.edged.start; end = d.end } };
        };
      }

  pub turn_back : e ≡ s.from → Turned i a e m s m (Some (record { row = i; from = a; to = s.to; left = s.left }))
  turn_back q =
      record {
        row = refl;
        grown = record {
          bytes = λ b. omega (arith, indicator_join a s.from s.to b (omega arith) h, ap (λ (x : ℕ). indicator a x b) q);
          size = omega arith;
          sound = λ source k d o. record { started = omega arith; inside = o.inside; edged = record { start = d.start; end = o.edged.end } };
        };
      }
