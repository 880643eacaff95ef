-- `tested` meets its contract: each test is the model's.
use mathlib.Core.Path.{refl, sym, ◌∙◌}
use Prim.Native.Nat.{◌<◌}
use native.Mathlib.Omega.{arith}
use Rattle.edit_relocate_scratch.proofs.Call.{relocate_outside, relocate_inside, relocate_nothing, relocate_reversed, relocate_past, relocate_tested}
use Rattle.edit_relocate.proofs.Tests.{is_inside, is_outside, says_refused}
use Rattle.edit_relocate.proofs.tested.Goals as goal

pub returns-then-not-between_three : goal.returns-then-not-between_three
returns-then-not-between_three c =
    says_refused _ _ _ _ 3 (λ z. omega arith) (λ t p s w. relocate_outside _ _ _ w (sym c.between_three.ensures ∙ c.if-not-between_three.true))

pub returns-then-to-end : goal.returns-then-to-end
returns-then-to-end c =
    let placed = sym c.between_three.ensures ∙ c.if-not-between_three.false in
    says_refused _ _ _ _ 8 (λ z. omega arith) (λ t p s w. relocate_inside _ _ _ w placed (is_inside _ _ _ c.if-start-to.true c.if-to-end.true))

pub returns-then-start-end : goal.returns-then-start-end
returns-then-start-end c =
    let placed = sym c.between_three.ensures ∙ c.if-not-between_three.false in
    let outside = is_outside c.args.start c.args.end c.args.to c.else-start-to.either in
    record {
      refused = λ n. absurd (n refl);
      idle = λ _ _ t p s w. relocate_nothing _ _ _ w placed outside c.if-start-end.true;
      past = λ _ n. absurd (n c.if-start-end.true);
    }

pub returns-then-end-start : goal.returns-then-end-start
returns-then-end-start c =
    let placed = sym c.between_three.ensures ∙ c.if-not-between_three.false in
    let outside = is_outside c.args.start c.args.end c.args.to c.else-start-to.either in
    says_refused _ _ _ _ 4 (λ z. omega arith) (λ t p s w. relocate_reversed _ _ _ w placed outside c.if-end-start.true)

pub returns-then-source-end : goal.returns-then-source-end
returns-then-source-end c =
    let placed = sym c.between_three.ensures ∙ c.if-not-between_three.false in
    let outside = is_outside c.args.start c.args.end c.args.to c.else-start-to.either in
    let ascends : c.args.start < c.args.end = omega (arith, c.if-start-end.false, c.if-end-start.false) in
    says_refused _ _ _ _ 10 (λ z. omega arith) (λ t p s w. relocate_past _ _ _ w placed outside ascends c.if-source-end.true)

pub returns : goal.returns
returns c =
    let placed = sym c.between_three.ensures ∙ c.if-not-between_three.false in
    let outside = is_outside c.args.start c.args.end c.args.to c.else-start-to.either in
    let ascends : c.args.start < c.args.end = omega (arith, c.if-start-end.false, c.if-end-start.false) in
    record {
      refused = λ n. absurd (n refl);
      idle = λ _ e. absurd (c.if-start-end.false e);
      past = λ _ _ t p s w. relocate_tested _ _ _ w placed outside ascends (omega (arith, c.if-source-end.false));
    }
