-- From edits to plans: what the premises on edits say of their plans.
use Prim.Native.Nat.{ℕ, zero, suc, ◌-◌, ◌≤◌, ◌<◌}
use native.Mathlib.Omega.{arith}
use native.Mathlib.Decide.{dec_lt, ℕ_discrete}
use mathlib.Core.Path.{◌≡◌, refl, ap, sym}
use mathlib.Core.Bool.{Bool, true, false, cond}
use mathlib.Core.List.{List, [], ◌∷◌}
use mathlib.Core.Option.{Option, none, some}
use lib.Dec.{eqb}
use lib.ListN.{length}
use borrow.Author.Tests.{eq-eqb, ne_eqb, lt-ltb, le-ltb, le-leb}
use Rattle.utf8.specs.Chars.{All, nil, cons}
use Rattle.model.specs.Text.{Text, sum}
use Rattle.model.specs.Chunk.{is_filled}
use Rattle.model.specs.Call.{Edit, remove, update_with, reset, insert, append, prepend, relocate, trim, trim_start, trim_end}
use Rattle.model.specs.Call.{trim_lines, indent_with, freeze, texts, positions, listed}
use Rattle.model.proofs.Lists.{clash, first_of, rest_of, all_of, all_map}
use Rattle.model.specs.Insert.{left, right, front, back}
use Rattle.model_closed_forms.specs.Plan.{Plan, nothing, clear, replace, insert_whole, move, plan, cuts}
use Rattle.model_join.specs.Tests.{new_pieces, new_bytes}
use Rattle.any_order.specs.Claim.{Spot, byte, head, tail, left_of, right_of, Bytes, Reach, IsMove, InReplaced, Wide, Disjoint, FreeOf}
use Rattle.any_order.proofs.Acts.{OutsideReplaced, PlanByte}
use Rattle.any_order.proofs.Pair.{PlanHead, PlanTail, PlanMove, PlansApart, WellPlanned}
use Rattle.any_order.proofs.SpaceLaws.{plan_pieces, plan_bytes}

-- what the premises say of one edit, over a source of n bytes
pub record EditPremises (n : ℕ) (e : Edit) : Type 0 where
  pub listed : listed e ≡ true
  pub wide : Wide e
  pub within : All (λ p. p ≤ n) (positions e)

-- and of two
pub record PairPremises (n : ℕ) (x y : Edit) : Type 0 where
  pub reach : Disjoint n x y
  pub one_move : IsMove x → IsMove y → ⊥
  pub first_free : FreeOf x y
  pub second_free : FreeOf y x

pub pair_sym : {n : ℕ} {x y : Edit} → PairPremises n x y → PairPremises n y x
pair_sym d = record { reach = λ z h k. d.reach z k h; one_move = λ h k. d.one_move k h; first_free = d.second_free; second_free = d.first_free }

-- no position of qs lies strictly inside the range from a to b
abbrev NoneInside : ℕ → ℕ → List ℕ → Type 0
NoneInside a b qs = All (λ q. a < q → q < b → ⊥) qs

-- ── the plan P of an edit e: it reaches what e reaches, cuts where e may cut, and adds what e may add ──
pub record Implements (n : ℕ) (e : Edit) (P : Plan) : Type 0 where
  pub well : WellPlanned n P
  pub bytes : (x : ℕ) → PlanByte P x → Reach n e (byte x)
  pub heads : PlanHead P → Reach n e head
  pub tails : PlanTail P → Reach n e tail
  pub moves : PlanMove P → IsMove e
  -- it does not cut inside a range that e does not reach, where a move has no position either
  pub cuts_free : (a b : ℕ) → ((z : Spot) → Bytes a b z → Reach n e z → ⊥) → (IsMove e → All (λ p. (a < p) × (p < b) → ⊥) (positions e)) → NoneInside a b (cuts P)
  -- positions outside the range that e replaces, if it replaces one, are outside that of P
  pub outside_replaced : (qs : List ℕ) → ((a b : ℕ) → ((z : Spot) → Bytes a b z → Reach n e z) → ((p : ℕ) → (a < p) × (p < b) → InReplaced e p) → NoneInside a b qs) → All (OutsideReplaced P) qs
  pub pieces : plan_pieces P ≤ new_pieces e
  pub sizes : plan_bytes P ≤ new_bytes e

-- a range of a byte or more that is cut at both ends
range_free : (n a b c d : ℕ) → c < d → ((z : Spot) → Bytes a b z → Bytes c d z → ⊥) → NoneInside a b (c ∷ d ∷ [])
range_free n a b c d h r =
    cons (λ (u : a < c) (v : c < b). r (byte c) (omega arith) (omega arith))
    (cons (λ (u : a < d) (v : d < b). r (byte (d - 1)) (omega arith) (omega arith)) nil)

clear_implements : (n : ℕ) (e : Edit) (a b : ℕ) (r : Option Text) → a < b → b ≤ n → is_filled r ≡ false → ((z : Spot) → Bytes a b z → Reach n e z) → Implements n e (clear a b r)
unfolding cuts
clear_implements n e a b r h k f reach = record {
  well = (h, k, f);
  bytes = λ x i. reach (byte x) i;
  heads = λ i. absurd i;
  tails = λ i. absurd i;
  moves = λ i. absurd i;
  cuts_free = λ c d away m. range_free n c d a b h (λ z i j. away z i (reach z j));
  outside_replaced = λ qs g. all_of (λ q. tt) qs;
  pieces = omega arith;
  sizes = omega arith;
}

replace_implements : (n a b : ℕ) (t : Text) (o : Bool) → a < b → b ≤ n → Implements n (update_with a b t o) (replace a b t o)
unfolding cuts
replace_implements n a b t o h k = record {
  well = (h, k);
  bytes = λ x i. i;
  heads = λ i. absurd i;
  tails = λ i. absurd i;
  moves = λ i. absurd i;
  cuts_free = λ c d away m. range_free n c d a b h away;
  outside_replaced = λ qs g. g a b (λ z i. i) (λ p i. i);
  pieces = omega arith;
  sizes = omega arith;
}

-- a piece for the head or the tail
whole_implements : (n : ℕ) (e : Edit) (t : Text) (left front : Bool) → Reach n e (cond left head tail) → 1 ≤ new_pieces e → texts e ≡ t ∷ [] → Implements n e (insert_whole t left front)
unfolding cuts
whole_implements n e t left front reach k ts = record {
  well = tt;
  bytes = λ x i. absurd i;
  heads = in_head left reach;
  tails = in_tail left reach;
  moves = λ i. absurd i;
  cuts_free = λ a b away m. nil;
  outside_replaced = λ qs g. all_of (λ q. tt) qs;
  pieces = k;
  sizes = omega (arith, ap (sum length) ts);
}
  where
    in_head : (left : Bool) → Reach n e (cond left head tail) → PlanHead (insert_whole t left front) → Reach n e head
    in_head true r i = r
    in_head false r i = clash i refl

    in_tail : (left : Bool) → Reach n e (cond left head tail) → PlanTail (insert_whole t left front) → Reach n e tail
    in_tail true r i = clash refl i
    in_tail false r i = r

-- a piece at a position, left or right
module _ (n p : ℕ) (t : Text) (front : Bool) (some-source : 0 < n) where
  left_implements : (q : ℕ) → p ≡ q → p ≤ n → Implements n (insert p t true front) (plan n (insert p t true front))
  unfolding plan cuts left_of
  left_implements zero z h =
      rw (z, le-leb 0 n (omega arith), ne_eqb n 0 (λ i. omega arith)) (whole_implements n (insert 0 t true front) t true front refl (omega arith) refl)
  left_implements (suc q) z h =
      rw (le-leb p n h, lt-ltb 0 p (omega arith)) (record {
        well = (omega arith, h);
        bytes = λ x i. rw (sym i);
        heads = λ i. absurd i;
        tails = λ i. absurd i;
        moves = λ i. absurd i;
        cuts_free = λ a b away m. cons (λ (u : a < p) (v : p < b). away (byte q) (omega arith) (rw z)) nil;
        outside_replaced = λ qs g. all_of (λ q. tt) qs;
        pieces = omega arith;
        sizes = omega arith;
      })

  right_implements : Dec (p < n) → Implements n (insert p t false front) (plan n (insert p t false front))
  unfolding plan cuts right_of
  right_implements (yes h) =
      rw (lt-ltb p n h) (record {
        well = h;
        bytes = λ x i. rw (lt-ltb p n h) (ap byte i);
        heads = λ i. absurd i;
        tails = λ i. absurd i;
        moves = λ i. absurd i;
        cuts_free = λ a b away m. cons (λ (u : a < p) (v : p < b). away (byte p) (omega arith) (rw (lt-ltb p n h))) nil;
        outside_replaced = λ qs g. all_of (λ q. tt) qs;
        pieces = omega arith;
        sizes = omega arith;
      })
  right_implements (no h) =
      let l : n ≤ p = omega arith in
      rw (le-ltb p n l, ne_eqb p 0 (λ i. omega arith)) (whole_implements n (insert p t false front) t false front (rw (le-ltb p n l)) (omega arith) refl)

  insert_implements : (left : Bool) → p ≤ n → Implements n (insert p t left front) (plan n (insert p t left front))
  insert_implements true h = left_implements p refl h
  insert_implements false h = right_implements (dec_lt p n)

nothing_implements : (n : ℕ) (e : Edit) → Implements n e nothing
unfolding cuts
nothing_implements n e = record {
  well = tt;
  bytes = λ x i. absurd i;
  heads = λ i. absurd i;
  tails = λ i. absurd i;
  moves = λ i. absurd i;
  cuts_free = λ a b away m. nil;
  outside_replaced = λ qs g. all_of (λ q. tt) qs;
  pieces = omega arith;
  sizes = omega arith;
}

move_implements : (n a b to : ℕ) → a ≤ n → b ≤ n → to ≤ n → Implements n (relocate a b to) (move a b to)
unfolding cuts
move_implements n a b to h k l = record {
  well = (h, k, l);
  bytes = λ x i. i;
  heads = λ i. i;
  tails = λ i. i;
  moves = λ i. tt;
  cuts_free = λ c d away m. all_map (λ p f u v. f (u, v)) (m tt);
  outside_replaced = λ qs g. all_of (λ q. tt) qs;
  pieces = omega arith;
  sizes = omega arith;
}

pub implements : (n : ℕ) (e : Edit) → 0 < n → EditPremises n e → Implements n e (plan n e)
unfolding plan
implements n (remove a b) s h = rw (ne_eqb a b (λ i. omega (arith, h.wide))) (clear_implements n (remove a b) a b (some []) h.wide (first_of (rest_of h.within)) refl (λ z i. i))
implements n (update_with a b t o) s h = replace_implements n a b t o h.wide (first_of (rest_of h.within))
implements n (reset a b) s h = rw (ne_eqb a b (λ i. omega (arith, h.wide))) (clear_implements n (reset a b) a b none h.wide (first_of (rest_of h.within)) refl (λ z i. i))
implements n (insert p t left front) s h = insert_implements n p t front s left (first_of h.within)
implements n (append t) s h = whole_implements n (append t) t right back refl (omega arith) refl
implements n (prepend t) s h = whole_implements n (prepend t) t left front refl (omega arith) refl
implements n (relocate a b to) s h = go (ℕ_discrete a b)
  where
    go : Dec (a ≡ b) → Implements n (relocate a b to) (cond (eqb a b) nothing (move a b to))
    go (yes i) = rw (eq-eqb a b i) (nothing_implements n (relocate a b to))
    go (no i) = rw (ne_eqb a b i) (move_implements n a b to (first_of h.within) (first_of (rest_of h.within)) (first_of (rest_of (rest_of h.within))))
implements n (trim p) s h = clash h.listed refl
implements n (trim_start p) s h = clash h.listed refl
implements n (trim_end p) s h = clash h.listed refl
implements n trim_lines s h = clash h.listed refl
implements n (indent_with i l) s h = clash h.listed refl
implements n (freeze a b) s h = clash h.listed refl

-- ── two edits that are apart have plans that are apart ──
plans_outside : {n : ℕ} {x y : Edit} {P Q : Plan} → Implements n x P → Implements n y Q → PairPremises n x y → All (OutsideReplaced P) (cuts Q)
plans_outside {Q = Q} u v d = u.outside_replaced (cuts Q) (λ a b r i. v.cuts_free a b (λ z h k. d.reach z (r z h) k) (λ m. all_map (λ p f j. f (i p j)) (d.second_free m)))

pub plans_apart : {n : ℕ} {x y : Edit} {P Q : Plan} → Implements n x P → Implements n y Q → PairPremises n x y → PlansApart P Q
plans_apart u v d = record {
  bytes = λ x h k. d.reach (byte x) (u.bytes x h) (v.bytes x k);
  heads = λ h k. d.reach head (u.heads h) (v.heads k);
  tails = λ h k. d.reach tail (u.tails h) (v.tails k);
  moves = λ h k. d.one_move (u.moves h) (v.moves k);
  first_outside = plans_outside u v d;
  second_outside = plans_outside v u (pair_sym d);
}
