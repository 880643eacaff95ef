-- What a walk along the rows of a list comes to. Where the walk is `rows t`, `all` is `order t`.
use mathlib.Core.Path.{◌≡◌, refl, sym, ap, ◌∙◌, subst}
use mathlib.Core.List.{List, [], ◌∷◌, ◌++◌, map, append-nil, append_assoc, nil≢cons, head-eq_of_cons-eq, tail-eq_of_cons-eq}
use mathlib.Core.Bool.{Bool, true, false, cond}
use Prim.Native.Nat.{ℕ}
use lib.ListN.{length}
use Rattle.std.specs.Option.{MatchOption, option_map}
use Rattle.std.specs.Prelude.{Option, Some, None}
use Rattle.std.specs.Iterator.{YieldsFirst}
use Rattle.std.specs.List.{find}
use Rattle.std.proofs.lemmas.Iterator.{YieldsList}
use Rattle.std.proofs.lemmas.Iterator.Consumers.{YieldsList-from_shown}
use Rattle.memory_table.specs.declared.Row.{Row}
use Rattle.memory_table.specs.Table.{row_at}
use Rattle.memory_table.specs.Ring.{Each}
use Rattle.memory_table.proofs.Ring.{each_append}
use Rattle.memory_list.specs.Rows.{numbered}

-- P of each row that was passed, and the others are left
pub record Passed (P : ℕ → Type 0) (t all : List ℕ) (rest : List (ℕ × Row)) : Type 0 where
  pub us : List ℕ
  pub bs : List ℕ
  pub place : all ≡ us ++ bs
  pub left : rest ≡ map (numbered t) bs
  pub before : Each P us

-- at a row, with the others left after it
pub record At (P : ℕ → Type 0) (t all : List ℕ) (x : ℕ × Row) (rest : List (ℕ × Row)) : Type 0 where
  pub us : List ℕ
  pub bs : List ℕ
  pub place : all ≡ us ++ x.0 ∷ bs
  pub row : x.1 ≡ row_at t x.0
  pub left : rest ≡ map (numbered t) bs
  pub before : Each P us

-- ---- a `for` over the rows

module _ (P : ℕ → Type 0) (t all : List ℕ) where
  at_of : (x : ℕ × Row) (rest : List (ℕ × Row)) (us bs : List ℕ) → all ≡ us ++ bs → Each P us → map (numbered t) bs ≡ x ∷ rest → At P t all x rest
  at_of x rest us [] o b e = absurd (nil≢cons e)
  at_of x rest us (i ∷ bs) o b e =
      let h : (i, row_at t i) ≡ x = head-eq_of_cons-eq e in
      let n : i ≡ x.0 = ap (λ (y : ℕ × Row). y.0) h in
      record {
        us = us;
        bs = bs;
        place = o ∙ ap (λ (y : ℕ). us ++ y ∷ bs) n;
        row = sym (ap (λ (y : ℕ × Row). y.1) h) ∙ ap (row_at t) n;
        left = sym (tail-eq_of_cons-eq e);
        before = b;
      }

  none_of : (bs : List ℕ) → map (numbered t) bs ≡ [] → bs ≡ []
  none_of [] e = refl
  none_of (i ∷ bs) e = absurd (nil≢cons (sym e))

  -- at the start
  pub none_passed : {rest : List (ℕ × Row)} → rest ≡ map (numbered t) all → Passed P t all rest
  none_passed e = record { us = []; bs = all; place = refl; left = e; before = tt }

  -- in an iteration, of what `next` gave
  pub at_next : {x : ℕ × Row} {rest rest' : List (ℕ × Row)} → Passed P t all rest → rest ≡ x ∷ rest' → At P t all x rest'
  at_next {x} {rest} {rest'} p e = at_of x rest' p.us p.bs p.place p.before (sym p.left ∙ e)

  -- at its end
  pub one_more : {x : ℕ × Row} {rest : List (ℕ × Row)} → At P t all x rest → P x.0 → Passed P t all rest
  one_more {x} {rest} a h =
      record {
        us = a.us ++ x.0 ∷ [];
        bs = a.bs;
        place = a.place ∙ sym (append_assoc a.us (x.0 ∷ []) a.bs);
        left = a.left;
        before = each_append P a.us (x.0 ∷ []) a.before (h, tt);
      }

  -- after the loop, where `next` gave `None`
  pub all_passed : {rest : List (ℕ × Row)} → Passed P t all rest → rest ≡ [] → Each P all
  all_passed p e = rw (p.place ∙ ap (λ (xs : List ℕ). p.us ++ xs) (none_of p.bs (sym p.left ∙ e)) ∙ append-nil p.us) p.before

-- ---- chains on the rows

map_map : {B : Type 0} (v : ℕ × Row → B) (t xs : List ℕ) → map v (map (numbered t) xs) ≡ map (λ i. v (numbered t i)) xs
map_map v t [] = refl
map_map v t (i ∷ xs) = ap (λ ys. v (numbered t i) ∷ ys) (map_map v t xs)

-- what v reads of each row: for `any_from_yields_List` and its like
pub along : {B : Type 0} (v : ℕ × Row → B) (t all : List ℕ) {rest : List (ℕ × Row)} → rest ≡ map (numbered t) all
    → YieldsList (YieldsFirst (λ (left : List (ℕ × Row)). left)) v rest (map (λ i. v (numbered t i)) all)
along v t all {rest} e =
    subst (λ ys. YieldsList (YieldsFirst (λ (left : List (ℕ × Row)). left)) v rest ys) (ap (map v) e ∙ map_map v t all)
    (YieldsList-from_shown _ v (map v) (λ s u h. ap (λ xs. length (map v xs)) h.0) (λ s x u h. ap (map v) h) rest)

-- row x is the first that passes the test
pub record FirstToPass (test : ℕ × Row → Bool) (t all : List ℕ) (x : ℕ × Row) : Type 0 where
  pub us : List ℕ
  pub bs : List ℕ
  pub place : all ≡ us ++ x.0 ∷ bs
  pub row : x.1 ≡ row_at t x.0
  pub before : Each (λ i. test (numbered t i) ≡ false) us
  pub here : test x ≡ true

-- what `find` answers
module _ (test : ℕ × Row → Bool) (t : List ℕ) where
  Answers : List ℕ → Option (ℕ × Row) → Type 0
  Answers all r = MatchOption r (Each (λ i. test (numbered t i) ≡ false) all) (FirstToPass test t all)

  later : (i : ℕ) (all : List ℕ) (r : Option (ℕ × Row)) → test (numbered t i) ≡ false → Answers all r → Answers (i ∷ all) r
  unfolding Answers
  later i all None h a = (h, a)
  later i all (Some x) h a =
      record { us = i ∷ a.us; bs = a.bs; place = ap (λ ys. i ∷ ys) a.place; row = a.row; before = (h, a.before); here = a.here }

  one : (i : ℕ) (all : List ℕ) (b : Bool) → test (numbered t i) ≡ b → Answers all (find test (map (numbered t) all))
      → Answers (i ∷ all) (cond b (Some (numbered t i)) (find test (map (numbered t) all)))
  unfolding Answers
  one i all true h a = record { us = []; bs = all; place = refl; row = refl; before = tt; here = h }
  one i all false h a = later i all _ h a

  found : (all : List ℕ) → Answers all (find test (map (numbered t) all))
  unfolding Answers
  found [] = tt
  found (i ∷ all) = one i all (test (numbered t i)) refl (found all)

  -- from what `find_from_yields_List` says
  pub first_to_pass : (all : List ℕ) (r : Option (ℕ × Row)) → option_map (λ x. x) r ≡ find test (map (numbered t) all)
      → MatchOption r (Each (λ i. test (numbered t i) ≡ false) all) (FirstToPass test t all)
  unfolding Answers
  first_to_pass all None e = subst (Answers all) (sym e) (found all)
  first_to_pass all (Some x) e = subst (Answers all) (sym e) (found all)
