-- What a `for` over the rows of a list gathers: P of the rows that were passed, where P speaks of them all together. `Walks` has the same of each row.
use mathlib.Core.Path.{◌≡◌, refl, sym, ap, ◌∙◌, subst}
use mathlib.Core.List.{List, [], ◌∷◌, ◌++◌, map, append-nil, append_assoc, nil≢cons, head-eq_of_cons-eq, tail-eq_of_cons-eq}
use Prim.Native.Nat.{ℕ}
use Rattle.memory_table.specs.declared.Row.{Row}
use Rattle.memory_table.specs.Table.{row_at}
use Rattle.memory_list.specs.Rows.{numbered}

-- the rows us are passed, the others left
pub record Gathered (P : List ℕ → Type 0) (t all : List ℕ) (rest : List (ℕ × Row)) : Type 0 where
  pub us : List ℕ
  pub bs : List ℕ
  pub place : all ≡ us ++ bs
  pub left : rest ≡ map (numbered t) bs
  pub so_far : P us

-- at row x, with the others left after it
pub record GatherAt (P : List ℕ → Type 0) (t all : List ℕ) (x : ℕ × Row) (rest : List (ℕ × Row)) : Type 0 where
  pub us : List ℕ
  pub bs : List ℕ
  pub place : all ≡ us ++ x.0 ∷ bs
  pub row : x.1 ≡ row_at t x.0
  pub left : rest ≡ map (numbered t) bs
  pub so_far : P us

none_of : (t bs : List ℕ) → map (numbered t) bs ≡ [] → bs ≡ []
none_of t [] e = refl
none_of t (i ∷ bs) e = absurd (nil≢cons (sym e))

module _ {P : List ℕ → Type 0} {t all : List ℕ} where
  -- at the start
  pub gather_none : {rest : List (ℕ × Row)} → rest ≡ map (numbered t) all → P [] → Gathered P t all rest
  gather_none e h = record { us = []; bs = all; place = refl; left = e; so_far = h }

  at_of : (x : ℕ × Row) (rest : List (ℕ × Row)) (us bs : List ℕ) → all ≡ us ++ bs → P us → map (numbered t) bs ≡ x ∷ rest → GatherAt P t all x rest
  at_of x rest us [] o h e = absurd (nil≢cons e)
  at_of x rest us (i ∷ bs) o h e =
      let q : (i, row_at t i) ≡ x = head-eq_of_cons-eq e in
      let n : i ≡ x.0 = ap (λ (y : ℕ × Row). y.0) q in
      record {
        us = us;
        bs = bs;
        place = o ∙ ap (λ (y : ℕ). us ++ y ∷ bs) n;
        row = sym (ap (λ (y : ℕ × Row). y.1) q) ∙ ap (row_at t) n;
        left = sym (tail-eq_of_cons-eq e);
        so_far = h;
      }

  -- in an iteration, of what `next` gave
  pub gather_next : {x : ℕ × Row} {rest rest' : List (ℕ × Row)} → Gathered P t all rest → rest ≡ x ∷ rest' → GatherAt P t all x rest'
  gather_next {x} {rest} {rest'} g e = at_of x rest' g.us g.bs g.place g.so_far (sym g.left ∙ e)

  -- at its end
  pub gather_more : {Q : List ℕ → Type 0} {x : ℕ × Row} {rest : List (ℕ × Row)} (a : GatherAt P t all x rest) → Q (a.us ++ x.0 ∷ []) → Gathered Q t all rest
  gather_more {Q} {x} {rest} a h =
      record {
        us = a.us ++ x.0 ∷ [];
        bs = a.bs;
        place = a.place ∙ sym (append_assoc a.us (x.0 ∷ []) a.bs);
        left = a.left;
        so_far = h;
      }

  -- after the loop, where `next` gave `None`
  pub gather_all : {rest : List (ℕ × Row)} → Gathered P t all rest → rest ≡ [] → P all
  gather_all g e = subst P (sym (g.place ∙ ap (λ (xs : List ℕ). g.us ++ xs) (none_of t g.bs (sym g.left ∙ e)) ∙ append-nil g.us)) g.so_far
