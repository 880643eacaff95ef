-- Where a range goes in the list of rows: what the move asks, and that it leaves what the model says.
use mathlib.Core.Path.{◌≡◌, refl, sym, ap, ap₂, ◌∙◌, subst}
use mathlib.Core.Bool.{true, false}
use mathlib.Core.List.{List, [], ◌∷◌, ◌++◌, append_assoc, append-nil}
use mathlib.Core.Logic.{inl, inr}
use Prim.Native.Nat.{ℕ}
use native.Mathlib.Omega.{arith}
use borrow.Author.Tests.{eqb-true, eq-eqb, ne_eqb}
use Rattle.memory_table.specs.Ring.{Each}
use Rattle.memory_table.proofs.Ring.{each_append, each_left, each_right}
use Rattle.memory_table.specs.Order.{entry_at, order, next_of, Linked}
use Rattle.memory_table.proofs.Order.{inside_at}
use Rattle.model.specs.MagicString.{by_start}
use Rattle.model.specs.Movement.{insert_before, stands_there}
use Rattle.memory_list.specs.declared.Key.TheVariants.{Start}
use Rattle.memory_list.specs.Find.{meets, First}
use Rattle.memory_list.specs.Swap.{last_of}
use Rattle.memory_list.specs.Move.{Parts, swapped, Moved}
use Rattle.edit_relocate_range.proofs.Segments.{LeadsTo, leads_to}
use Rattle.edit_relocate_range.proofs.Chunks.{chunks_of_rows}
use Rattle.edit_relocate_steps.specs.Relocated.{PlaceIn}
use Rattle.edit_relocate_steps.proofs.Segment.{None, by_start_none, by_start_first, insert_first, insert_last}

-- ── an element of a list of two parts stands in one of them ──
data Where (n : ℕ) (us zs xs ys : List ℕ) : Type 0 where
  in_first : (w : List ℕ) → us ≡ xs ++ n ∷ w → ys ≡ w ++ zs → Where n us zs xs ys
  in_second : (w : List ℕ) → xs ≡ us ++ w → zs ≡ w ++ n ∷ ys → Where n us zs xs ys

locate : (n : ℕ) (us zs xs ys : List ℕ) → us ++ zs ≡ xs ++ n ∷ ys → Where n us zs xs ys
locate n [] zs xs ys e = in_second xs refl e
locate n (u ∷ us) zs [] ys e =
    let a : u ≡ n = cc in
    let b : us ++ zs ≡ ys = cc in
    in_first us (ap (λ (x : ℕ). x ∷ us) a) (sym b)
locate n (u ∷ us) zs (x ∷ xs) ys e =
    let a : u ≡ x = cc in
    let b : us ++ zs ≡ xs ++ n ∷ ys = cc in
    one_more (locate n us zs xs ys b) a
  where
    one_more : Where n us zs xs ys → u ≡ x → Where n (u ∷ us) zs (x ∷ xs) ys
    one_more (in_first w p q) a = in_first w (ap₂ (λ (y : ℕ) (l : List ℕ). y ∷ l) a p) q
    one_more (in_second w p q) a = in_second w (ap₂ (λ (y : ℕ) (l : List ℕ). y ∷ l) (sym a) p) q

-- what the move asks, and the list that it leaves is the model's
pub record Goes (t : List ℕ) (to f : ℕ) (us xs ys : List ℕ) (l n : ℕ) : Type 0 where
  pub parts : Parts t
  pub moved : Moved t parts f l n
  pub result : (p s : List ℕ) → insert_before to (chunks_of_rows t p s (f ∷ xs)) (chunks_of_rows t p s (us ++ ys)) ≡ chunks_of_rows t p s (swapped parts)

module _ (t : List ℕ) (k : Linked t) (to f : ℕ) (us xs ys : List ℕ) (place : order t ≡ us ++ f ∷ (xs ++ ys)) where
  abbrev l : ℕ
  l = last_of f xs

  leads : LeadsTo t l ys
  leads = leads_to t k us f xs ys place

  -- row z of the rest, and what leads from it on
  from_rest : (z : ℕ) (zs rest : List ℕ) → ys ≡ z ∷ (zs ++ rest) → LeadsTo t (last_of z zs) rest
  from_rest z zs rest e =
      leads_to t k (us ++ f ∷ xs) z zs rest
      (place ∙ ap (λ (r : List ℕ). us ++ f ∷ (xs ++ r)) e ∙ sym (append_assoc us (f ∷ xs) (z ∷ (zs ++ rest))))

  -- the place stands before the range
  goes_back : (n : ℕ) (vs w : List ℕ) → us ≡ vs ++ n ∷ w → None t to vs → (entry_at t n).start ≡ to → Goes t to f us xs ys l n
  goes_back n vs w e h i =
      record {
        parts =
            record {
              us = vs;
              a = n;
              ws = w;
              b = f;
              bs = xs;
              ys = ys;
              place = place ∙ ap (λ (r : List ℕ). r ++ f ∷ (xs ++ ys)) e ∙ append_assoc vs (n ∷ w) (f ∷ (xs ++ ys));
            };
        moved = inr (refl, refl, refl);
        result = λ p s.
            ap (λ (r : List ℕ). insert_before to (chunks_of_rows t p s (f ∷ xs)) (chunks_of_rows t p s r)) (ap (λ (r : List ℕ). r ++ ys) e ∙ append_assoc vs (n ∷ w) ys)
            ∙ insert_first t p s to (f ∷ xs) vs n (w ++ ys) h i;
      }

  -- behind it, with rows between
  goes_on : (n : ℕ) (w bs : List ℕ) → ys ≡ w ++ n ∷ bs → (next_of t l ≡ n → ⊥) → None t to us → None t to w → (entry_at t n).start ≡ to → Goes t to f us xs ys l n
  goes_on n [] bs e d h g i = absurd (d (subst (LeadsTo t l) e leads).0)
  goes_on n (z ∷ zs) bs e d h g i =
      record {
        parts = record { us = us; a = f; ws = xs; b = z; bs = zs; ys = n ∷ bs; place = place ∙ ap (λ (r : List ℕ). us ++ f ∷ (xs ++ r)) e };
        moved = inl (refl, refl, sym (from_rest z zs (n ∷ bs) e).0);
        result = λ p s.
            ap (λ (r : List ℕ). insert_before to (chunks_of_rows t p s (f ∷ xs)) (chunks_of_rows t p s r)) (ap (λ (r : List ℕ). us ++ r) e ∙ sym (append_assoc us (z ∷ zs) (n ∷ bs)))
            ∙ insert_first t p s to (f ∷ xs) (us ++ z ∷ zs) n bs (each_append (λ x. meets Start to (entry_at t x) ≡ false) us (z ∷ zs) h g) i
            ∙ ap (chunks_of_rows t p s) (append_assoc us (z ∷ zs) (f ∷ (xs ++ n ∷ bs)));
      }

  -- last
  goes_last : (rest : List ℕ) → ys ≡ rest → (next_of t l ≡ 0 → ⊥) → None t to (us ++ rest) → Goes t to f us xs ys l 0
  goes_last [] e d h = absurd (d (subst (LeadsTo t l) e leads))
  goes_last (z ∷ zs) e d h =
      let q : ys ≡ z ∷ (zs ++ []) = e ∙ ap (λ (r : List ℕ). z ∷ r) (sym (append-nil zs)) in
      record {
        parts = record { us = us; a = f; ws = xs; b = z; bs = zs; ys = []; place = place ∙ ap (λ (r : List ℕ). us ++ f ∷ (xs ++ r)) q };
        moved = inl (refl, refl, sym (from_rest z zs [] q));
        result = λ p s.
            ap (λ (r : List ℕ). insert_before to (chunks_of_rows t p s (f ∷ xs)) (chunks_of_rows t p s (us ++ r))) e
            ∙ insert_last t p s to (f ∷ xs) (us ++ z ∷ zs) h
            ∙ ap (chunks_of_rows t p s) (append_assoc us (z ∷ zs) (f ∷ xs) ∙ ap (λ (r : List ℕ). us ++ z ∷ (zs ++ f ∷ r)) (sym (append-nil xs)));
      }

  module _ (away : Each (λ x. (entry_at t x).start ≡ to → ⊥) (f ∷ xs)) where
    N : ℕ → Type 0
    N x = meets Start to (entry_at t x) ≡ false

    goes_first : (n : ℕ) → First (meets Start to) t n → (next_of t l ≡ n → ⊥) → Goes t to f us xs ys l n
    unfolding N
    goes_first n w d = one (locate n us (f ∷ (xs ++ ys)) w.us w.bs (sym place ∙ w.place))
      where
        i : (entry_at t n).start ≡ to
        i = eqb-true _ _ w.here

        two : (v : List ℕ) → w.us ≡ us ++ v → Where n (f ∷ xs) ys v w.bs → Goes t to f us xs ys l n
        two v e (in_first z q r) = absurd ((each_right (λ x. (entry_at t x).start ≡ to → ⊥) v (n ∷ z) (subst (Each (λ x. (entry_at t x).start ≡ to → ⊥)) q away)).0 i)
        two v e (in_second z q r) =
            let g : None t to (us ++ ((f ∷ xs) ++ z)) = subst (None t to) (e ∙ ap (λ (x : List ℕ). us ++ x) q) w.none in
            goes_on n z w.bs r d (each_left N us ((f ∷ xs) ++ z) g) (each_right N (f ∷ xs) z (each_right N us ((f ∷ xs) ++ z) g)) i

        one : Where n us (f ∷ (xs ++ ys)) w.us w.bs → Goes t to f us xs ys l n
        one (in_first v e q) = goes_back n w.us v e w.none i
        one (in_second v e q) = two v e (locate n (f ∷ xs) ys v w.bs q)

    pub goes : (n : ℕ) → PlaceIn t to n → (next_of t l ≡ n → ⊥) → Goes t to f us xs ys l n
    unfolding N
    goes n (inl w) d = goes_first n w d
    goes n (inr w) d =
        let g : None t to (us ++ ((f ∷ xs) ++ ys)) = subst (None t to) place w.1 in
        subst (Goes t to f us xs ys l) (sym w.0)
        (goes_last ys refl (λ h. d (h ∙ sym w.0)) (each_append N us ys (each_left N us ((f ∷ xs) ++ ys) g) (each_right N (f ∷ xs) ys (each_right N us ((f ∷ xs) ++ ys) g))))
    -- ── whether the range stands there already ──

  module _ (p s : List ℕ) (n : ℕ) where
    there_at : (rest : List ℕ) → LeadsTo t l rest → next_of t l ≡ n → PlaceIn t to n → stands_there (by_start to (chunks_of_rows t p s (order t))) (chunks_of_rows t p s rest) ≡ true
    there_at [] g e (inl w) = absurd (omega (arith, g, e, (inside_at t w.us n w.bs k w.place).0))
    there_at [] g e (inr w) = rw (by_start_none t p s to (order t) w.1)
    there_at (z ∷ zs) g e (inl w) =
        let q : z ≡ n = sym g.0 ∙ e in
        rw (w.place, by_start_first t p s to w.us n w.bs w.none (eqb-true _ _ w.here), q) (eq-eqb (entry_at t n).start (entry_at t n).start refl)
    there_at (z ∷ zs) g e (inr w) = absurd (omega (arith, g.0, g.1, e, w.0))

    pub stands : next_of t l ≡ n → PlaceIn t to n → stands_there (by_start to (chunks_of_rows t p s (order t))) (chunks_of_rows t p s ys) ≡ true
    stands e w = there_at ys leads e w

    -- where no row of the rest but n starts at `to`
    not_at : (rest : List ℕ) → LeadsTo t l rest → (First (meets Start to) t n → Each (λ x. (entry_at t x).start ≡ to → x ≡ n) rest) → (next_of t l ≡ n → ⊥) → PlaceIn t to n
        → stands_there (by_start to (chunks_of_rows t p s (order t))) (chunks_of_rows t p s rest) ≡ false
    not_at [] g o d (inl w) = rw (w.place, by_start_first t p s to w.us n w.bs w.none (eqb-true _ _ w.here))
    not_at [] g o d (inr w) = absurd (d (g ∙ sym w.0))
    not_at (z ∷ zs) g o d (inl w) =
        let i : (entry_at t n).start ≡ to = eqb-true _ _ w.here in
        rw (w.place, by_start_first t p s to w.us n w.bs w.none i)
        (ne_eqb (entry_at t z).start (entry_at t n).start (λ e. d (g.0 ∙ (o w).0 (e ∙ i))))
    not_at (z ∷ zs) g o d (inr w) = rw (by_start_none t p s to (order t) w.1)

    pub not_stands : (First (meets Start to) t n → Each (λ x. (entry_at t x).start ≡ to → x ≡ n) ys) → (next_of t l ≡ n → ⊥) → PlaceIn t to n
        → stands_there (by_start to (chunks_of_rows t p s (order t))) (chunks_of_rows t p s ys) ≡ false
    not_stands o d w = not_at ys leads o d w
