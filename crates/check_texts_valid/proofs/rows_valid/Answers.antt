use mathlib.Core.Path.{sym, ◌∙◌}
use native.Mathlib.Omega.{arith}
use Rattle.memory_counting.proofs.Sums.{is_yes, is_no, not_both}
use Rattle.check_texts_valid.proofs.Valid.{row_of, run_all, all_run}
use Rattle.check_texts_valid.proofs.rows_valid.Goals as goal

pub overflow_add-at : goal.overflow_add-at
overflow_add-at c =
    let row = (row_of _ _ _ _ _ c.requires c.loop-i-test.true).row in
    omega arith

pub piece_valid-requires : goal.piece_valid-requires
piece_valid-requires c = row_of _ _ _ _ _ c.requires c.loop-i-test.true

pub returns-then-not-piece_valid : goal.returns-then-not-piece_valid
returns-then-not-piece_valid c = is_no (λ x. not_both (sym c.if-not-piece_valid.true ∙ c.piece_valid.ensures ∙ all_run _ _ _ _ x _ c.loop-i-test.true))

pub returns : goal.returns
returns c = is_yes (run_all _ _ _ _ (λ k l. c.loop-i.invariant k (omega arith)))
