-- A section's row, and the step from one place to the next.
use mathlib.Core.Path.{◌≡◌, refl, ap, ◌∙◌}
use mathlib.Core.Logic.{inl, inr}
use mathlib.Core.List.{List}
use Prim.Native.Nat.{ℕ, suc, ◌+◌, ◌≤◌, ◌<◌}
use native.Mathlib.Omega.{arith}
use native.Mathlib.Numerals.{add-one}
use borrow.Author.Tests.{eq-eqb, ne_eqb}
use Rattle.memory_table.specs.declared.Row.{Row}
use Rattle.memory_table.specs.Table.{row_at}
use Rattle.memory_table.specs.Order.{entry_of, next_of, count_of, Linked}
use Rattle.memory_fragments.specs.Sections.{section_at, section, SectionRow, size, On, Went}
use Rattle.memory_fragments.proofs.Sections.{row_edge}

-- row 0 as the head, and as the tail
abbrev pub head_row : Row → Row
head_row r =
    record {
      start = 0;
      end = 0;
      next = r.next;
      prev = r.prev;
      intro_at = r.intro_at;
      intro_n = r.intro_n;
      outro_at = 0;
      outro_n = 0;
      text_at = 0;
      text_n = 0;
      frozen = r.frozen;
      spare = r.spare;
    }

abbrev pub tail_row : Row → Row
tail_row r =
    record {
      start = 0;
      end = 0;
      next = r.next;
      prev = r.prev;
      intro_at = 0;
      intro_n = 0;
      outro_at = r.outro_at;
      outro_n = r.outro_n;
      text_at = 0;
      text_n = 0;
      frozen = r.frozen;
      spare = r.spare;
    }

module _ (t : List ℕ) (g row : ℕ) (r : Row) (e : r ≡ row_at t row) where
  pub row_other : (row ≡ 0 → ⊥) → SectionRow t g row r
  unfolding section_at
  row_other h = record {
    entry = rw (ne_eqb row 0 h) (ap entry_of e);
    next = ap (λ (x : Row). x.next) e;
    prev = ap (λ (x : Row). x.prev) e;
  }

  pub row_head : row ≡ 0 → g ≡ 0 → SectionRow t g row (head_row r)
  unfolding section_at
  row_head h k = record {
    entry = rw (eq-eqb row 0 h, eq-eqb g 0 k) (ap (λ (x : Row). entry_of (head_row x)) e ∙ ap (λ (i : ℕ). entry_of (head_row (row_at t i))) h);
    next = ap (λ (x : Row). x.next) e;
    prev = ap (λ (x : Row). x.prev) e;
  }

  pub row_tail : row ≡ 0 → (g ≡ 0 → ⊥) → SectionRow t g row (tail_row r)
  unfolding section_at
  row_tail h k = record {
    entry = rw (eq-eqb row 0 h, ne_eqb g 0 k) (ap (λ (x : Row). entry_of (tail_row x)) e ∙ ap (λ (i : ℕ). entry_of (tail_row (row_at t i))) h);
    next = ap (λ (x : Row). x.next) e;
    prev = ap (λ (x : Row). x.prev) e;
  }

module _ (t : List ℕ) (g row item : ℕ) (on : On t g row item) (l : g < count_of t + 2) (r : Row) (sr : SectionRow t g row r) where
  pub entry_is : entry_of r ≡ section t g
  entry_is = sr.entry ∙ ap (section_at t g) (on.row_is l)

  pub size_row : r.intro_n + suc r.outro_n ≡ size (section t g)
  size_row = ap size entry_is

  pub went_in : item + 1 ≤ r.intro_n + r.outro_n → Went t g item g row (item + 1)
  went_in h = record {
    on = record { row_is = on.row_is; inside = on.inside; item_in = omega (arith, size_row) };
    step = inl (refl, omega arith);
  }

  pub went_on : Linked t → r.intro_n + r.outro_n < item + 1 → Went t g item (g + 1) r.next 0
  went_on k h = record {
    on = record {
      row_is = λ n. rw add-one (sr.next ∙ ap (next_of t) (on.row_is l) ∙ (row_edge t g k (omega arith)).fwd);
      inside = omega arith;
      item_in = omega arith;
    };
    step = inr (omega arith, refl, omega (arith, size_row, on.item_in));
  }
