-- The walk of `find_range`, turn by turn.
use mathlib.Core.Path.{◌≡◌, refl, sym, ap, ◌∙◌, subst}
use mathlib.Core.Bool.{true, false}
use mathlib.Core.List.{List, [], ◌∷◌, ◌++◌, append_assoc}
use Prim.Native.Nat.{ℕ, ◌+◌, ◌*◌, ◌≤◌}
use native.Mathlib.Omega.{arith}
use lib.Dec.{eqb}
use lib.ListN.{length, length-append}
use borrow.Author.Tests.{eqb-true, eqb-false, ne_eqb}
use Rattle.memory_layout.specs.Layout.{ROW}
use Rattle.memory_table.proofs.Ring.{length_follow}
use Rattle.memory_table.specs.Table.{row_at}
use Rattle.memory_table.specs.Order.{entry_at, order, next_of, count_of, Linked}
use Rattle.memory_list.specs.declared.Key.TheVariants.{Start}
use Rattle.memory_list.specs.Find.{meets, First}
use Rattle.memory_list.specs.Swap.{last_of}
use Rattle.model.proofs.Lists.{no_tf}
use Rattle.edit_relocate_range.specs.Range.{goes_on, Follows, Walked, Gap, WholeRange, BrokenRange}
use Rattle.edit_relocate_range.proofs.Segments.{LeadsTo, last_in, next_in, leads_to}

-- k rows behind the first have been passed
pub record WalkAt (t : List ℕ) (a b f l k : ℕ) : Type 0 where
  pub walked : Walked t a b f l
  pub passed : length walked.xs ≡ k

last_snoc : (f : ℕ) (xs : List ℕ) (z : ℕ) → last_of f (xs ++ z ∷ []) ≡ z
last_snoc f [] z = refl
last_snoc f (x ∷ xs) z = last_snoc x xs z

follows_snoc : (t : List ℕ) (b f : ℕ) (xs : List ℕ) (z : ℕ) → Follows t b f xs → ((entry_at t (last_of f xs)).end ≡ b → ⊥) → (entry_at t z).start ≡ (entry_at t
    (last_of f xs)).end → Follows t b f (xs ++ z ∷ [])
follows_snoc t b f [] z h n e = (n, e, tt)
follows_snoc t b f (x ∷ xs) z h n e = (h.0, h.1, follows_snoc t b x xs z h.2 n e)

-- the next row, as the test sees it
goes : (t : List ℕ) (l y : ℕ) (ys : List ℕ) → LeadsTo t l ys → goes_on t (next_of t l) y ≡ true → (z : ℕ) × (zs : List ℕ) × (ys ≡ z ∷ zs) × (next_of t l ≡ z) × ((entry_at t z).start ≡ y)
unfolding goes_on
goes t l y [] h e = no_tf (sym e ∙ rw h)
goes t l y (z ∷ zs) h e =
    let q : goes_on t (next_of t l) y ≡ eqb (row_at t z).start y = rw (h.0, ne_eqb z 0 (λ k. omega (arith, h.1))) in
    (z, zs, refl, h.0, eqb-true _ _ (sym q ∙ e))

stays : (t : List ℕ) (l y : ℕ) (ys : List ℕ) → LeadsTo t l ys → goes_on t (next_of t l) y ≡ false → Gap t y ys
unfolding goes_on
stays t l y [] h e = tt
stays t l y (z ∷ zs) h e =
    let q : goes_on t (next_of t l) y ≡ eqb (row_at t z).start y = rw (h.0, ne_eqb z 0 (λ k. omega (arith, h.1))) in
    eqb-false _ _ (sym q ∙ e)

module _ (t : List ℕ) (a b f : ℕ) where
  pub walk_none : First (meets Start a) t f → WalkAt t a b f f 0
  walk_none w =
      record {
        walked = record { us = w.us; xs = []; ys = w.bs; place = w.place; none = w.none; here = eqb-true _ _ w.here; follows = tt; last = refl };
        passed = refl;
      }

  module _ (k : Linked t) (l n : ℕ) (w : WalkAt t a b f l n) where
    leads : LeadsTo t l w.walked.ys
    leads = subst (λ (x : ℕ). LeadsTo t x w.walked.ys) (sym w.walked.last) (leads_to t k w.walked.us f w.walked.xs w.walked.ys w.walked.place)

    pub walk_row : l * ROW + ROW ≤ length t
    walk_row = omega (arith, k.room, w.walked.last, last_in t k w.walked.us f w.walked.xs w.walked.ys w.walked.place)

    pub walk_next : next_of t l * ROW + ROW ≤ length t
    walk_next = omega (arith, k.room, ap (next_of t) w.walked.last, next_in t k w.walked.us f w.walked.xs w.walked.ys w.walked.place)

    pub walk_whole : (entry_at t l).end ≡ b → WholeRange t a b f l
    walk_whole e = record { walked = w.walked; ends = e }

    pub walk_broken : ((entry_at t l).end ≡ b → ⊥) → goes_on t (next_of t l) (entry_at t l).end ≡ false → BrokenRange t a b f l
    walk_broken s e = record { walked = w.walked; short = s; gap = stays t l (entry_at t l).end w.walked.ys leads e }

    pub walk_more : ((entry_at t l).end ≡ b → ⊥) → goes_on t (next_of t l) (entry_at t l).end ≡ true → WalkAt t a b f (next_of t l) (n + 1)
    walk_more s e =
        let g = goes t l (entry_at t l).end w.walked.ys leads e in
        let z = g.0 in
        let xs = w.walked.xs in
        let q = w.walked.last in
        record {
          walked =
              record {
                us = w.walked.us;
                xs = xs ++ z ∷ [];
                ys = g.1;
                place = w.walked.place ∙ ap (λ (l : List ℕ). w.walked.us ++ f ∷ (xs ++ l)) g.2 ∙ ap (λ (l : List ℕ). w.walked.us ++ f ∷ l) (sym (append_assoc xs (z ∷ []) g.1));
                none = w.walked.none;
                here = w.walked.here;
                follows = follows_snoc t b f xs z w.walked.follows (λ h. s (ap (λ (x : ℕ). (entry_at t x).end) q ∙ h)) (g.4 ∙ ap (λ (x : ℕ). (entry_at t x).end) q);
                last = g.3 ∙ sym (last_snoc f xs z);
              };
          passed = length-append xs (z ∷ []) ∙ omega (arith, w.passed);
        }

    pub walk_over : {X : Type 0} → count_of t ≤ n → X
    unfolding order
    walk_over h =
        absurd
        (omega (
          arith,
          w.passed,
          sym (length_follow (next_of t) (count_of t) (next_of t 0)) ∙ ap length w.walked.place,
          length-append w.walked.us (f ∷ (w.walked.xs ++ w.walked.ys)),
          length-append w.walked.xs w.walked.ys,
        ))
