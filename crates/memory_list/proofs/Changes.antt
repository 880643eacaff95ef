-- Laws of what `Changes` in specs/ defines.
use mathlib.Core.Path.{◌≡◌, refl, sym, ap, ap₂, ◌∙◌}
use mathlib.Core.List.{List, [], ◌∷◌, map}
use Prim.Native.Nat.{ℕ, ◌+◌, ◌≤◌, ◌<◌}
use native.Mathlib.Omega.{arith}
use native.Mathlib.Decide.{ℕ_discrete}
use lib.ListN.{length}
use borrow.Author.Tests.{lt-leb, le-leb, le-ltb, lt-ltb}
use Rattle.memory_table.specs.declared.Row.{Row}
use Rattle.memory_table.specs.Ring.{Each}
use Rattle.memory_table.proofs.Ring.{each_map}
use Rattle.memory_table.specs.Table.{row_at, Put}
use Rattle.memory_list.proofs.Insert.{start_f, next_f, prev_f}
use Rattle.memory_table.specs.Order.{Entry, entry_of, entry_at, order, next_of, prev_of, count_of, Linked}
use Rattle.memory_table.proofs.Order.{put_keep, same_links}
use Rattle.memory_list.specs.declared.Change.{Change}
use Rattle.memory_list.specs.Changes.{changed_by, change_in, ChangedRow, ChangedAt, ChangeDone}

module _ (x : Change) (a b : ℕ) (t : List ℕ) (k : ℕ) (c : Row) (e : c ≡ row_at t k) where
  stays : entry_at t k ≡ change_in x a b (entry_at t k) → ChangedAt x a b t t k
  stays h = record { here = h; off = λ i n. refl; next = λ i. refl; prev = λ i. refl }

  pub starts_before : c.start < a → ChangedAt x a b t t k
  starts_before h = stays (rw (lt-leb a (row_at t k).start (omega (arith, ap start_f e))))

  pub starts_behind : a ≤ c.start → b ≤ c.start → ChangedAt x a b t t k
  starts_behind g h = stays (rw (le-leb a (row_at t k).start (omega (arith, ap start_f e)), le-ltb (row_at t k).start b (omega (arith, ap start_f e))))

  pub starts_inside : (t' : List ℕ) (r : Row) → a ≤ c.start → c.start < b → Put t t' k r → ChangedRow x c r → ChangedAt x a b t t' k
  starts_inside t' r g h p d =
      record {
        here =
            ap entry_of p.at
            ∙ d.entry
            ∙ ap (λ (y : Row). changed_by x (entry_of y)) e
            ∙ rw (le-leb a (row_at t k).start (omega (arith, ap start_f e)), lt-ltb (row_at t k).start b (omega (arith, ap start_f e)));
        off = p.off;
        next = put_keep next_f t t' k r p (d.next ∙ ap next_f e);
        prev = put_keep prev_f t t' k r p (d.prev ∙ ap prev_f e);
      }

-- the rows from 1 up to k are done
pub record Swept (x : Change) (a b : ℕ) (t₀ t : List ℕ) (k : ℕ) : Type 0 where
  pub len : length t ≡ length t₀
  pub next : (i : ℕ) → next_of t i ≡ next_of t₀ i
  pub prev : (i : ℕ) → prev_of t i ≡ prev_of t₀ i
  pub done : (i : ℕ) → 0 < i → i < k → entry_at t i ≡ change_in x a b (entry_at t₀ i)
  pub todo : (i : ℕ) → k ≤ i → row_at t i ≡ row_at t₀ i
  pub desk : row_at t 0 ≡ row_at t₀ 0

pub swept_none : (x : Change) (a b : ℕ) (t : List ℕ) → Swept x a b t t 1
swept_none x a b t =
    record {
      len = refl;
      next = λ i. refl;
      prev = λ i. refl;
      done = λ i h k. absurd (omega arith);
      todo = λ i h. refl;
      desk = refl;
    }

pub swept_more : (x : Change) (a b : ℕ) (t₀ t t' : List ℕ) (k : ℕ) → 0 < k → Swept x a b t₀ t k → ChangedAt x a b t t' k → length t' ≡ length t → Swept x a b t₀ t' (k + 1)
swept_more x a b t₀ t t' k z s c len =
    record {
      len = len ∙ s.len;
      next = λ i. c.next i ∙ s.next i;
      prev = λ i. c.prev i ∙ s.prev i;
      done =
          λ i h g.
          elim (ℕ_discrete i k) [
            | yes q ↦
                ap (entry_at t') q
                ∙ c.here
                ∙ ap (λ (y : Row). change_in x a b (entry_of y)) (s.todo k (omega arith))
                ∙ ap (λ (y : ℕ). change_in x a b (entry_at t₀ y)) (sym q)
            | no q ↦ ap entry_of (c.off i q) ∙ s.done i h (omega arith)
          ];
      todo = λ i h. c.off i (λ q. omega arith) ∙ s.todo i (omega arith);
      desk = c.off 0 (λ q. omega arith) ∙ s.desk;
    }

map_over : (f g : ℕ → Entry) (h : Entry → Entry) (xs : List ℕ) → Each (λ x. f x ≡ h (g x)) xs → map f xs ≡ map h (map g xs)
map_over f g h [] e = refl
map_over f g h (x ∷ xs) e = ap₂ (λ (y : Entry) (l : List Entry). y ∷ l) e.0 (map_over f g h xs e.1)

pub swept_all : (x : Change) (a b : ℕ) (t t' : List ℕ) (k : ℕ) → Linked t → Swept x a b t t' k → count_of t < k → ChangeDone x a b t t'
unfolding order
swept_all x a b t t' k l s h =
    let q = same_links t t' s.next s.prev (ap (λ (y : Row). y.start) s.desk) s.len l in
    record {
      linked = q.1;
      place = q.0;
      chunks =
          ap (map (entry_at t')) q.0
          ∙ map_over (entry_at t') (entry_at t) (change_in x a b) (order t)
          (each_map (λ i. (0 < i) × (i ≤ count_of t)) (λ i. entry_at t' i ≡ change_in x a b (entry_at t i)) (λ i g. s.done i g.0 (omega (arith, g.1)))
          (order t) l.ring.inside);
      desk = s.desk;
    }
