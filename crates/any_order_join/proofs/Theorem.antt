-- What the any_order rule says of a join.
use Prim.Native.Nat.{ℕ, zero, suc, ◌-◌}
use native.Mathlib.Omega.{arith}
use mathlib.Core.Path.{◌≡◌, refl, sym, ap, ◌∙◌, subst}
use mathlib.Core.Bool.{Bool, false, true≢false}
use mathlib.Core.List.{List, [], ◌∷◌, ◌++◌}
use mathlib.Core.Option.{Option, none, some}
use lib.ListN.{length}
use Rattle.model.specs.MagicString.{MagicString, ok}
use Rattle.model.specs.Limits.{Limits}
use Rattle.model.specs.Call.{Edit, run, after, Outcome, changed}
use Rattle.model.specs.WellFormed.{WellFormed}
use Rattle.model.proofs.Lists.{bool-elim}
use Rattle.model_preservation.proofs.Calls.{after_keeps}
use Rattle.model_cuts.proofs.Growth.{all_cuts_counted}
use Rattle.model_sheet.specs.Sheet.{recorded_calls, refused_by}
use Rattle.model_join.specs.Tests.{edits_apart, each_alone, has_space}
use Rattle.model_join.specs.Join.{both_lists, refused_join, joined, join_read, join}
use Rattle.model_join.proofs.Lists.{both_read}
use Rattle.model_join.proofs.Joining.{after_append, join_none, join_some, read_number, read_refused, read_joined, refused_18, refused_19, refused_13, not_refused}
use Rattle.any_order.specs.Claim.{Order, same, EditsApart, Space, Premises, AllAccepted}
use Rattle.any_order.specs.Decide.{Decides}
use Rattle.any_order.proofs.Decide.{decide_edits, decide_alone, decide_space}
use Rattle.any_order.proofs.Theorem.{any_order, apart_order, order_all, space_order, order_swap}
use Rattle.any_order_join.specs.Claim.{OfBoth, number, Alone, JoinNumbers, Leaves, JoinLeaves, RefusalChangesNothing, JoinCommutes}
use Rattle.any_order_join.proofs.Reading.{read_both, none_swapped}

-- ── which number ──
-- what a join of two lists that are read gives, and why
pub data Verdict (k : Limits) (m : MagicString) (L : List Edit) : Type 0 where
  clash : (EditsApart (length m.source) L → ⊥) → refused_join k m L ≡ 18 → Verdict k m L
  alone : EditsApart (length m.source) L → (Alone k m L → ⊥) → refused_join k m L ≡ 19 → Verdict k m L
  space : EditsApart (length m.source) L → Alone k m L → (Space k m L → ⊥) → refused_join k m L ≡ 13 → Verdict k m L
  met : EditsApart (length m.source) L → Alone k m L → Space k m L → refused_join k m L ≡ 0 → Verdict k m L

-- a test that is false decides against
against : {b : Bool} {P : Type 0} → Decides b P → b ≡ false → P → ⊥
against d e p = true≢false (sym (d.1 p) ∙ e)

verdict : (k : Limits) (m : MagicString) (L : List Edit) → Verdict k m L
verdict k m L =
    bool-elim (edits_apart n L)
    (λ a. bool-elim (each_alone k m L)
    (λ b. bool-elim (has_space k m L)
    (λ c. met ((decide_edits n L).0 a) ((decide_alone k m L).0 b) ((decide_space k m L).0 c) (not_refused k m L a b c))
    (λ c. space ((decide_edits n L).0 a) ((decide_alone k m L).0 b) (against (decide_space k m L) c) (refused_13 k m L a b c)))
    (λ b. alone ((decide_edits n L).0 a) (against (decide_alone k m L) b) (refused_19 k m L a b)))
    (λ a. clash (against (decide_edits n L) a) (refused_18 k m L a))
  where
    n : ℕ
    n = length m.source

-- ── each number, both ways ──
-- no lists, or lists with their verdict
pub data Case (k : Limits) (m : MagicString) (first second : List ℕ) : Type 0 where
  bad : both_lists first second ≡ none → number k first second m ≡ 16 → Case k m first second
  read : (L : List Edit) → both_lists first second ≡ some L → number k first second m ≡ refused_join k m L → Verdict k m L → Case k m first second

pub number_is : (k : Limits) (m : MagicString) (first second : List ℕ) {L : List Edit} → both_lists first second ≡ some L → number k first second m ≡ refused_join k m L
number_is k m first second {L} e = ap (λ (o : Outcome). o.shown.number) (join_some k m first second e) ∙ read_number k m L

case_of : (k : Limits) (m : MagicString) (first second : List ℕ) → Case k m first second
case_of k m first second = go (both_lists first second) refl
  where
    go : (o : Option (List Edit)) → both_lists first second ≡ o → Case k m first second
    go none e = bad e (ap (λ (o : Outcome). o.shown.number) (join_none k m first second e))
    go (some L) e = read L e (number_is k m first second e) (verdict k m L)

module _ (k : Limits) (m : MagicString) (first second : List ℕ) where
  abbrev N : ℕ
  N = number k first second m

  abbrev n : ℕ
  n = length m.source

  -- of lists that are read, a number that their verdict does not give
  to_0 : WellFormed k m → N ≡ 0 → OfBoth (Premises k m) first second
  to_0 w h = go (case_of k m first second)
    where
      go : Case k m first second → OfBoth (Premises k m) first second
      go (bad e q) = absurd (omega arith)
      go (read L e q (clash a r)) = absurd (omega arith)
      go (read L e q (alone a b r)) = absurd (omega arith)
      go (read L e q (space a b c r)) = absurd (omega arith)
      go (read L e q (met a b c r)) = (L, e, record { well_formed = w; apart = a; alone = b; space = c })

  from_0 : OfBoth (Premises k m) first second → N ≡ 0
  from_0 (L, e, p) = go (verdict k m L)
    where
      go : Verdict k m L → N ≡ 0
      go (clash a r) = absurd (a p.apart)
      go (alone a b r) = absurd (b p.alone)
      go (space a b c r) = absurd (c p.space)
      go (met a b c r) = number_is k m first second e ∙ r

  to_16 : N ≡ 16 → both_lists first second ≡ none
  to_16 h = go (case_of k m first second)
    where
      go : Case k m first second → both_lists first second ≡ none
      go (bad e q) = e
      go (read L e q (clash a r)) = absurd (omega arith)
      go (read L e q (alone a b r)) = absurd (omega arith)
      go (read L e q (space a b c r)) = absurd (omega arith)
      go (read L e q (met a b c r)) = absurd (omega arith)

  to_18 : N ≡ 18 → OfBoth (λ L. EditsApart n L → ⊥) first second
  to_18 h = go (case_of k m first second)
    where
      go : Case k m first second → OfBoth (λ L. EditsApart n L → ⊥) first second
      go (bad e q) = absurd (omega arith)
      go (read L e q (clash a r)) = (L, e, a)
      go (read L e q (alone a b r)) = absurd (omega arith)
      go (read L e q (space a b c r)) = absurd (omega arith)
      go (read L e q (met a b c r)) = absurd (omega arith)

  from_18 : OfBoth (λ L. EditsApart n L → ⊥) first second → N ≡ 18
  from_18 (L, e, f) = go (verdict k m L)
    where
      go : Verdict k m L → N ≡ 18
      go (clash a r) = number_is k m first second e ∙ r
      go (alone a b r) = absurd (f a)
      go (space a b c r) = absurd (f a)
      go (met a b c r) = absurd (f a)

  to_19 : N ≡ 19 → OfBoth (λ L. EditsApart n L × (Alone k m L → ⊥)) first second
  to_19 h = go (case_of k m first second)
    where
      go : Case k m first second → OfBoth (λ L. EditsApart n L × (Alone k m L → ⊥)) first second
      go (bad e q) = absurd (omega arith)
      go (read L e q (clash a r)) = absurd (omega arith)
      go (read L e q (alone a b r)) = (L, e, (a, b))
      go (read L e q (space a b c r)) = absurd (omega arith)
      go (read L e q (met a b c r)) = absurd (omega arith)

  from_19 : OfBoth (λ L. EditsApart n L × (Alone k m L → ⊥)) first second → N ≡ 19
  from_19 (L, e, (a, f)) = go (verdict k m L)
    where
      go : Verdict k m L → N ≡ 19
      go (clash x r) = absurd (x a)
      go (alone x b r) = number_is k m first second e ∙ r
      go (space x b c r) = absurd (f b)
      go (met x b c r) = absurd (f b)

  to_13 : N ≡ 13 → OfBoth (λ L. EditsApart n L × Alone k m L × (Space k m L → ⊥)) first second
  to_13 h = go (case_of k m first second)
    where
      go : Case k m first second → OfBoth (λ L. EditsApart n L × Alone k m L × (Space k m L → ⊥)) first second
      go (bad e q) = absurd (omega arith)
      go (read L e q (clash a r)) = absurd (omega arith)
      go (read L e q (alone a b r)) = absurd (omega arith)
      go (read L e q (space a b c r)) = (L, e, (a, b, c))
      go (read L e q (met a b c r)) = absurd (omega arith)

  from_13 : OfBoth (λ L. EditsApart n L × Alone k m L × (Space k m L → ⊥)) first second → N ≡ 13
  from_13 (L, e, (a, b, f)) = go (verdict k m L)
    where
      go : Verdict k m L → N ≡ 13
      go (clash x r) = absurd (x a)
      go (alone x y r) = absurd (y b)
      go (space x y c r) = number_is k m first second e ∙ r
      go (met x y c r) = absurd (f c)

pub join_numbers : JoinNumbers
join_numbers k m first second w = record {
  accepted = (to_0 k m first second w, from_0 k m first second);
  bad_list = (to_16 k m first second, λ e. ap (λ (o : Outcome). o.shown.number) (join_none k m first second e));
  not_apart = (to_18 k m first second, from_18 k m first second);
  refused_alone = (to_19 k m first second, from_19 k m first second);
  no_space = (to_13 k m first second, from_13 k m first second);
}

-- ── what is left ──
accepted_parts : (k : Limits) (L L' : List Edit) (m : MagicString) → AllAccepted k (L ++ L') m → AllAccepted k L m × AllAccepted k L' (after k L m)
accepted_parts k [] L' m h = (tt, h)
accepted_parts k (e ∷ L) L' m h = let r = accepted_parts k L L' (run k e m).desk h.1 in ((h.0, r.0), r.1)

pub join_leaves : JoinLeaves
join_leaves k m first second w z = go ((join_numbers k m first second w).accepted.0 z)
  where
    go : OfBoth (Premises k m) first second → Leaves k m first second
    go (L, e, p) =
        let r = read_both first second e in
        let A = recorded_calls r.l in
        let B = recorded_calls r.l' in
        let is : join k first second m ≡ joined k L m = join_some k m first second e ∙ read_joined k m L (sym (number_is k m first second e) ∙ z) in
        let all = accepted_parts k A B m (subst (λ (l : List Edit). AllAccepted k l m) r.are (any_order k m L p L same).accepted) in
        let left : after k L m ≡ after k B (after k A m) = ap (λ (l : List Edit). after k l m) r.are ∙ after_append k A B m in
        let grown : length (after k L m).chunks ≡ length (after k B (after k A m)).chunks = ap (λ (d : MagicString). length d.chunks) left in
        record {
          l = r.l;
          l' = r.l';
          first_read = r.first_read;
          second_read = r.second_read;
          first_accepted = all.0;
          second_accepted = all.1;
          desk = ap (λ (o : Outcome). o.desk) is ∙ left;
          cuts =
              ap (λ (o : Outcome). o.shown.value) is
              ∙ omega (arith, grown, all_cuts_counted k A m w, all_cuts_counted k B (after k A m) (after_keeps k A m w));
        }

pub refusal_changes_nothing : RefusalChangesNothing
refusal_changes_nothing k m first second h = go (both_lists first second) refl
  where
    nothing : (n : ℕ) → join k first second m ≡ refused_by n m → ((join k first second m).desk ≡ m) × ((join k first second m).shown.value ≡ 0)
    nothing n e = (ap (λ (o : Outcome). o.desk) e, ap (λ (o : Outcome). o.shown.value) e)

    by_number : (L : List Edit) → both_lists first second ≡ some L → (n : ℕ) → refused_join k m L ≡ n
        → ((join k first second m).desk ≡ m) × ((join k first second m).shown.value ≡ 0)
    by_number L e zero q = absurd (h (number_is k m first second e ∙ q))
    by_number L e (suc n) q = nothing (suc n) (join_some k m first second e ∙ read_refused k m L n q)

    go : (o : Option (List Edit)) → both_lists first second ≡ o → ((join k first second m).desk ≡ m) × ((join k first second m).shown.value ≡ 0)
    go none e = nothing 16 (join_none k m first second e)
    go (some L) e = by_number L e (refused_join k m L) refl

-- ── the other order ──
-- tests of statements that follow from each other
same_test : {a b : Bool} {P Q : Type 0} → Decides a P → Decides b Q → (P → Q) → (Q → P) → a ≡ b
same_test {a} {b} d e f g =
    bool-elim a (λ h. h ∙ sym (e.1 (f (d.0 h)))) (λ h. bool-elim b (λ q. absurd (against d h (g (e.0 q)))) (λ q. h ∙ sym q))

module _ (k : Limits) (m : MagicString) {L L' : List Edit} (o : Order L L') (o' : Order L' L) where
  refused_order : refused_join k m L' ≡ refused_join k m L
  unfolding refused_join
  refused_order =
      let n = length m.source in
      let a : edits_apart n L' ≡ edits_apart n L = same_test (decide_edits n L') (decide_edits n L) (apart_order n o') (apart_order n o) in
      let b : each_alone k m L' ≡ each_alone k m L = same_test (decide_alone k m L') (decide_alone k m L) (order_all o') (order_all o) in
      let c : has_space k m L' ≡ has_space k m L = same_test (decide_space k m L') (decide_space k m L) (space_order k m o') (space_order k m o) in
      rw (a, b, c) refl

  read_order : WellFormed k m → join_read k m L' ≡ join_read k m L
  read_order w = go (refused_join k m L) refl
    where
      premises : refused_join k m L ≡ 0 → Premises k m L
      premises q = from (verdict k m L)
        where
          from : Verdict k m L → Premises k m L
          from (clash a r) = absurd (omega arith)
          from (alone a b r) = absurd (omega arith)
          from (space a b c r) = absurd (omega arith)
          from (met a b c r) = record { well_formed = w; apart = a; alone = b; space = c }

      go : (n : ℕ) → refused_join k m L ≡ n → join_read k m L' ≡ join_read k m L
      go (suc n) q = read_refused k m L' n (refused_order ∙ q) ∙ sym (read_refused k m L n q)
      go zero q =
          read_joined k m L' (refused_order ∙ q)
          ∙ ap (λ (d : MagicString). changed (length d.chunks - length m.chunks) (ok d)) (any_order k m L (premises q) L' o).desk
          ∙ sym (read_joined k m L q)

pub join_commutes : JoinCommutes
join_commutes k m first second w = go (both_lists first second) refl
  where
    go : (o : Option (List Edit)) → both_lists first second ≡ o → join k second first m ≡ join k first second m
    go none e = join_none k m second first (none_swapped first second e) ∙ sym (join_none k m first second e)
    go (some L) e =
        let r = read_both first second e in
        let A = recorded_calls r.l in
        let B = recorded_calls r.l' in
        join_some k m second first (both_read second first r.second_read r.first_read)
        ∙ read_order k m (order_swap A B) (order_swap B A) w
        ∙ ap (join_read k m) (sym r.are)
        ∙ sym (join_some k m first second e)
