-- A cut, a change of a range's chunks and a move of rows keep what `Kept` says.
use mathlib.Core.Path.{◌≡◌, sym, ap, ap₂, ◌∙◌, fun_ext}
use mathlib.Core.Bool.{Bool, true, false, cond}
use mathlib.Core.List.{List, [], ◌∷◌, ◌++◌, map}
use mathlib.Core.Logic.{◌⊎◌, inl, inr}
use Prim.Native.Nat.{ℕ, ◌+◌, ◌≤◌, ◌<◌}
use native.Mathlib.Omega.{arith}
use native.Mathlib.Decide.{ℕ_discrete}
use lib.Dec.{eqb}
use borrow.Author.Tests.{eq-eqb, ne_eqb}
use Rattle.memory_table.proofs.Ring.{each_map}
use Rattle.memory_table.specs.Ring.{Not}
use Rattle.memory_table.specs.Order.{Entry, entry_of, entry_at, entries, order, count_of, Linked}
use Rattle.model.specs.Text.{sum}
use Rattle.model.proofs.Lists.{sum_append, sum_map}
use Rattle.memory_layout.specs.Layout.{NONE}
use Rattle.memory.specs.Layout.{Place}
use Rattle.memory.specs.WellFormed.{times}
use Rattle.memory.proofs.Desks.{times_none}
use Rattle.memory_list.specs.Insert.{Placed, runs_of}
use Rattle.memory_list.proofs.Insert.{start_f}
use Rattle.memory_list.specs.Split.{first, second, SplitRow}
use Rattle.memory_list.proofs.Split.{entries_at}
use Rattle.memory_list.specs.declared.Change.{Change}
use Rattle.memory_list.specs.declared.Change.TheVariants.{Clear, Freeze}
use Rattle.memory_list.specs.Changes.{changed_by, entry_starts_in, change_in, ChangeDone}
use Rattle.memory_list.specs.Move.{Parts, swapped, MoveAt, MoveDone}
use Rattle.edit_row_laws.specs.Counted.{count_in_entry, Counts}
use Rattle.edit_row_laws.specs.Kept.{Kept}

-- ── a cut ──
-- how often i stands where x is added
times_more : (i : ℕ) (us : List ℕ) (a x : ℕ) (bs : List ℕ) → times i (us ++ a ∷ x ∷ bs) ≡ cond (eqb x i) 1 0 + times i (us ++ a ∷ bs)
unfolding times
times_more i us a x bs =
    let w : ℕ → ℕ = λ y. cond (eqb y i) 1 0 in
    omega (arith, sum_append w us (a ∷ x ∷ bs), sum_append w us (a ∷ bs))

-- a cut chunk has no replacement, or an empty one
abbrev pub Unfilled : Entry → Type 0
Unfilled e = (e.text.0 ≡ NONE) ⊎ (e.text.1 ≡ 0)

unfilled_none : (f g : Place → ℕ) → Counts f g → (e : Entry) → Unfilled e → g e.text ≡ 0
unfilled_none f g c e (inl h) = ap (λ (x : ℕ). g (x, e.text.1)) h ∙ c.no_text e.text.1
unfilled_none f g c e (inr h) = ap (λ (x : ℕ). g (e.text.0, x)) h ∙ c.no_bytes e.text.0

pub split_kept : (t t' : List ℕ) (i q : ℕ) → Linked t → Placed t i → SplitRow t t' i q → Unfilled (entry_at t i) → Kept t t'
unfolding order
split_kept t t' i q l w d n =
    let o = d.order_is w.us w.bs w.place in
    record {
      each = λ h x x0 xc.
          let n : ℕ = count_of t + 1 in
          let a : times x (order t') ≡ cond (eqb n x) 1 0 + times x (order t) =
          ap (times x) o ∙ times_more x w.us i n w.bs ∙ ap (λ (z : List ℕ). cond (eqb n x) 1 0 + times x z) (sym w.place) in
          elim (ℕ_discrete n x) [
            | yes e ↦
                let b : ◌≡◌ {A = ℕ} (cond (eqb n x) 1 0) 1 = rw (eq-eqb n x e) in
                omega (arith, a, b, times_none x (order t) (each_map (λ y. (0 < y) × (y ≤ count_of t)) (Not x) (λ y r z. omega arith) (order t) l.ring.inside))
            | no e ↦
                let b : ◌≡◌ {A = ℕ} (cond (eqb n x) 1 0) 0 = rw (ne_eqb n x e) in
                omega (arith, a, b, h x x0 (omega (arith, d.count)))
          ];
      desk = d.desk;
      less = λ f g c.
          let k : Entry → ℕ = count_in_entry f g in
          let xs = map (entry_at t) w.us in
          let ys = map (entry_at t) w.bs in
          let e = entry_at t i in
          omega (
            arith,
            ap (sum k) (d.place w.us w.bs w.place),
            ap (sum k) (entries_at t w.us i w.bs w.place),
            sum_append k xs (first q e ∷ second q e ∷ ys),
            sum_append k xs (e ∷ ys),
            c.no_pieces 0,
            unfilled_none f g c e n,
          );
    }

-- ── a change of the chunks of a range ──
module _ (f g : Place → ℕ) (c : Counts f g) (x : Change) (a b : ℕ) where
  changed_less : (y : Change) (e : Entry) → count_in_entry f g (changed_by y e) ≤ count_in_entry f g e
  changed_less (Clear v) e = omega (arith, c.no_pieces 0, c.no_bytes v)
  changed_less Freeze e = omega arith

  change_less : (es : List Entry) → sum (count_in_entry f g) (map (change_in x a b) es) ≤ sum (count_in_entry f g) es
  change_less [] = omega arith
  change_less (e ∷ es) = let r = change_less es in let o = one (entry_starts_in a b e) in omega arith
    where
      one : (h : Bool) → count_in_entry f g (cond h (changed_by x e) e) ≤ count_in_entry f g e
      one true = changed_less x e
      one false = omega arith

pub change_kept : (x : Change) (a b : ℕ) (t t' : List ℕ) → ChangeDone x a b t t' → Kept t t'
change_kept x a b t t' d =
    record {
      each = λ h i i0 ic. ap (times i) d.place ∙ h i i0 (omega (arith, ap start_f d.desk));
      desk = ap runs_of d.desk;
      less = λ f g c. omega (arith, ap (sum (count_in_entry f g)) d.chunks, change_less f g c x a b (entries t));
    }

-- ── a move ──
sum_swap : {A : Type 0} (w : A → ℕ) (us xs bs ys : List A) → sum w (us ++ (bs ++ (xs ++ ys))) ≡ sum w (us ++ (xs ++ (bs ++ ys)))
sum_swap w us xs bs ys =
    omega (
      arith,
      sum_append w us (bs ++ (xs ++ ys)),
      sum_append w bs (xs ++ ys),
      sum_append w xs ys,
      sum_append w us (xs ++ (bs ++ ys)),
      sum_append w xs (bs ++ ys),
      sum_append w bs ys,
    )

-- a sum over the moved list
sum_moved : (w : ℕ → ℕ) (t : List ℕ) (s : Parts t) → sum w (swapped s) ≡ sum w (order t)
sum_moved w t s = sum_swap w s.us (s.a ∷ s.ws) (s.b ∷ s.bs) s.ys ∙ ap (sum w) (sym s.place)

pub move_kept : (t t' : List ℕ) (f l n : ℕ) → MoveAt t f l n → MoveDone t t' f l n → Kept t t'
unfolding times
move_kept t t' f l n m d =
    let o : order t' ≡ swapped m.parts = d.place m.parts m.moved in
    let e : entry_at t' ≡ entry_at t = fun_ext {f = entry_at t'} {g = entry_at t} (λ x. ap entry_of (d.rest x)) in
    record {
      each = λ h x x0 xc.
          ap (times x) o
          ∙ sum_moved (λ y. cond (eqb y x) 1 0) t m.parts
          ∙ h x x0 (omega (arith, ap start_f (d.rest 0)));
      desk = ap runs_of (d.rest 0);
      less = λ a b c.
          omega (
            arith,
            ap₂ (λ (g : ℕ → Entry) (z : List ℕ). sum (count_in_entry a b) (map g z)) e o,
            sum_map (entry_at t) (count_in_entry a b) (swapped m.parts),
            sum_map (entry_at t) (count_in_entry a b) (order t),
            sum_moved (λ x. count_in_entry a b (entry_at t x)) t m.parts,
          );
    }
