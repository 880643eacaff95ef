-- `tested` meets its contract: each test is the model's.
use mathlib.Core.Path.{refl, sym, ◌∙◌}
use native.Mathlib.Omega.{arith}
use Rattle.edit_update.proofs.UpdateTests.{update_invalid, update_outside, update_asked, update_no_width, update_reversed, says_refused}
use Rattle.edit_update.proofs.tested.Goals as goal

pub returns-then-not-valid : goal.returns-then-not-valid
returns-then-not-valid c = says_refused _ _ _ 1 (λ z. omega arith) (λ o t p s w. update_invalid _ _ _ _ w (sym c.valid.ensures ∙ c.if-not-valid.true))

pub returns-then-not-between_both : goal.returns-then-not-between_both
returns-then-not-between_both c =
    let valid = sym c.valid.ensures ∙ c.if-not-valid.false in
    says_refused _ _ _ 3 (λ z. omega arith) (λ o t p s w. update_outside _ _ _ _ w valid (sym c.between_both.ensures ∙ c.if-not-between_both.true))

pub returns-then-start-end : goal.returns-then-start-end
returns-then-start-end c =
    let valid = sym c.valid.ensures ∙ c.if-not-valid.false in
    let placed = sym c.between_both.ensures ∙ c.if-not-between_both.false in
    says_refused _ _ _ 5 (λ z. omega arith) (λ o t p s w. update_no_width _ _ _ _ w valid placed c.if-start-end.true)

pub returns-then-end-start : goal.returns-then-end-start
returns-then-end-start c =
    let valid = sym c.valid.ensures ∙ c.if-not-valid.false in
    let placed = sym c.between_both.ensures ∙ c.if-not-between_both.false in
    says_refused _ _ _ 4 (λ z. omega arith) (λ o t p s w. update_reversed _ _ _ _ w valid placed c.if-end-start.true)

pub returns : goal.returns
returns c =
    let valid = sym c.valid.ensures ∙ c.if-not-valid.false in
    let placed = sym c.between_both.ensures ∙ c.if-not-between_both.false in
    record {
      refused = λ n. absurd (n refl);
      ascends = λ _. omega (arith, c.if-start-end.false, c.if-end-start.false);
      asked = λ _ o t p s w. update_asked _ _ _ _ w valid placed;
    }
