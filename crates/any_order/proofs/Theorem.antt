-- The any_order theorem.
use Prim.Native.Nat.{ℕ, suc, ◌+◌}
use native.Mathlib.Omega.{arith}
use mathlib.Core.Path.{◌≡◌, refl, ap, sym, ◌∙◌, subst}
use mathlib.Core.List.{List, [], ◌∷◌, ◌++◌, reverse, reverse_aux, append-nil}
use lib.ListN.{length}
use Rattle.utf8.specs.Chars.{All, cons}
use Rattle.model.specs.Text.{sum}
use Rattle.model.specs.MagicString.{MagicString, ok, to_string}
use Rattle.model.specs.Limits.{Limits}
use Rattle.model.specs.Call.{Edit, run, after}
use Rattle.model.specs.WellFormed.{WellFormed}
use Rattle.model.proofs.Lists.{first_of, rest_of}
use Rattle.model_closed_forms.specs.Plan.{apply}
use Rattle.model_closed_forms.specs.Accepted.{plan_of}
use Rattle.model_join.specs.Tests.{new_pieces, new_bytes}
use Rattle.any_order.specs.Claim.{Pairs, Order, same, next, swap, then, Space, EditsApart, Premises, AllAccepted, shown, AnyOrder}
use Rattle.any_order.proofs.Pair.{PlansApart, apply_apply}
use Rattle.any_order.proofs.Bridge.{EditPremises, implements, plans_apart}
use Rattle.any_order.proofs.Kept.{formed_proper}
use Rattle.any_order.proofs.Run.{edit_premises, pair_premises, run_head, step}

-- ── what every order of a list has in common ──
module _ {A : Type 0} where
  pub order_all : {P : A → Type 0} {l l' : List A} → Order l l' → All P l → All P l'
  order_all same h = h
  order_all (next x o) (cons p ps) = cons p (order_all o ps)
  order_all (swap x y) (cons p (cons q ps)) = cons q (cons p ps)
  order_all (then o o') h = order_all o' (order_all o h)

  order_pairs : {R : A → A → Type 0} → ((x y : A) → R x y → R y x) → {l l' : List A} → Order l l' → Pairs R l → Pairs R l'
  order_pairs sy same h = h
  order_pairs sy (next x o) h = (order_all o h.0, order_pairs sy o h.1)
  order_pairs sy (swap x y) h = (cons (sy x y (first_of h.0)) h.1.0, (rest_of h.0, h.1.1))
  order_pairs sy (then o o') h = order_pairs sy o' (order_pairs sy o h)

  order_length : {l l' : List A} → Order l l' → length l ≡ length l'
  order_length same = refl
  order_length (next x o) = ap suc (order_length o)
  order_length (swap x y) = refl
  order_length (then o o') = order_length o ∙ order_length o'

  order_sum : (f : A → ℕ) {l l' : List A} → Order l l' → sum f l ≡ sum f l'
  order_sum f same = refl
  order_sum f (next x o) = ap (λ k. f x + k) (order_sum f o)
  order_sum f (swap x y) = omega arith
  order_sum f (then o o') = order_sum f o ∙ order_sum f o'

  -- the elements from the last to the first are an order
  order_middle : (x : A) (l r : List A) → Order (x ∷ (l ++ r)) (l ++ (x ∷ r))
  order_middle x [] r = same
  order_middle x (y ∷ l) r = then (swap x y) (next y (order_middle x l r))

  order_onto : (l r : List A) → Order (l ++ r) (reverse_aux l r)
  order_onto [] r = same
  order_onto (x ∷ l) r = then (order_middle x l r) (order_onto l (x ∷ r))

  pub order_reverse : (l : List A) → Order l (reverse l)
  order_reverse l = subst (λ (x : List A). Order x (reverse l)) (append-nil l) (order_onto l [])

  -- two lists, one behind the other, the other way round
  pub order_swap : (l l' : List A) → Order (l ++ l') (l' ++ l)
  order_swap [] l' = subst (λ (x : List A). Order l' x) (sym (append-nil l')) same
  order_swap (x ∷ l) l' = then (next x (order_swap l l')) (order_middle x l' l)

-- so every order meets the premises
pub apart_order : (n : ℕ) {L L' : List Edit} → Order L L' → EditsApart n L → EditsApart n L'
apart_order n o d = record {
  source_not_empty = d.source_not_empty;
  edits = order_all o d.edits;
  width = order_all o d.width;
  within_source = order_all o d.within_source;
  reaches = order_pairs (λ x y f z h q. f z q h) o d.reaches;
  one_move = order_pairs (λ x y f h q. f q h) o d.one_move;
  moves_free = order_pairs (λ x y f. (f.1, f.0)) o d.moves_free;
}

pub space_order : (k : Limits) (m : MagicString) {L L' : List Edit} → Order L L' → Space k m L → Space k m L'
space_order k m o s = record {
  chunks = omega (arith, s.chunks, order_length o);
  pieces = omega (arith, s.pieces, order_sum new_pieces o);
  bytes = omega (arith, s.bytes, order_sum new_bytes o);
}

premises_order : (k : Limits) (m : MagicString) {L L' : List Edit} → Order L L' → Premises k m L → Premises k m L'
premises_order k m o p = record {
  well_formed = p.well_formed;
  apart = apart_order (length m.source) o p.apart;
  alone = order_all o p.alone;
  space = space_order k m o p.space;
}

-- ── each edit is accepted ──
all_accepted : (k : Limits) (L : List Edit) (m : MagicString) → Premises k m L → AllAccepted k L m × WellFormed k (after k L m)
all_accepted k [] m p = (tt, p.well_formed)
all_accepted k (e ∷ L) m p =
    let r : run k e m ≡ ok (apply (plan_of e m) m) = run_head k m e L p in
    let ih : AllAccepted k L (apply (plan_of e m) m) × WellFormed k (after k L (apply (plan_of e m) m)) = all_accepted k L (apply (plan_of e m) m) (step k m e L p) in
    rw r ((refl, ih.0), ih.1)

-- ── the same desk ──
two : (k : Limits) (m : MagicString) (x y : Edit) (L : List Edit) → Premises k m (x ∷ y ∷ L) → (run k y (run k x m).desk).desk ≡ apply (plan_of y m) (apply (plan_of x m) m)
two k m x y L p =
    ap (λ r. (run k y r.desk).desk) (run_head k m x (y ∷ L) p)
    ∙ ap (λ r. r.desk) (run_head k (apply (plan_of x m) m) y L (step k m x (y ∷ L) p))

same_desk : (k : Limits) {L L' : List Edit} → Order L L' → (m : MagicString) → Premises k m L → after k L' m ≡ after k L m
same_desk k same m p = refl
same_desk k (next e {l = L} {l' = L'} o) m p =
    rw (run_head k m e L p) (same_desk k o (apply (plan_of e m) m) (step k m e L p))
same_desk k (swap x y {l = L}) m p =
    let n : ℕ = length m.source in
    let sx : EditPremises n x = first_of (edit_premises p.apart) in
    let sy : EditPremises n y = first_of (rest_of (edit_premises p.apart)) in
    let PQ : PlansApart (plan_of x m) (plan_of y m) = plans_apart (implements n x p.apart.source_not_empty sx) (implements n y p.apart.source_not_empty sy)
    (first_of (pair_premises p.apart)) in
    ap (after k L)
    (two k m y x L (premises_order k m (swap x y) p)
    ∙ (sym (apply_apply (plan_of x m) (plan_of y m) PQ m (formed_proper p.well_formed.formed p.apart.source_not_empty))
    ∙ sym (two k m x y L p)))
same_desk k (then o o') m p = same_desk k o' m (premises_order k m o p) ∙ same_desk k o m p

-- ── the theorem ──
pub any_order : AnyOrder
any_order k m L p L' o =
    let r = all_accepted k L' m (premises_order k m o p) in
    let d : after k L' m ≡ after k L m = same_desk k o m p in
    record { accepted = r.0; desk = d; well_formed = r.1; text = ap to_string d; later = λ calls. ap (shown k calls) d }
