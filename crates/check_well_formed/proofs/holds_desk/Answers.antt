use mathlib.Core.Path.{sym, ◌∙◌}
use Rattle.memory_counting.proofs.Sums.{not_both}
use Rattle.check_well_formed.proofs.Bridge.{formed_rows}
use Rattle.check_well_formed.proofs.Whole.{formed_sees}
use Rattle.check_well_formed.proofs.holds_desk.Goals as goal
use Rattle.check_well_formed.proofs.holds_desk.Goals.{then-not-shaped-via-then-not-shaped, then-not-shaped-via-else-not-shaped+then-not-valid}

pub returns-then-not-shaped : goal.returns-then-not-shaped
returns-then-not-shaped c = λ x.
    let y = formed_rows _ _ _ _ x in
    elim c.then-not-shaped.branch [
      | then-not-shaped-via-then-not-shaped w ↦ c.shaped.ensures.no w.if-not-shaped.true y.shaped
      | then-not-shaped-via-else-not-shaped+then-not-valid w ↦ not_both (sym w.if-not-valid.true ∙ w.valid.ensures ∙ y.text)
    ]

pub returns-then-not-chunked : goal.returns-then-not-chunked
returns-then-not-chunked c = λ x. c.chunked.ensures.no c.if-not-chunked.true (formed_rows _ _ _ _ x).chunked

pub returns : goal.returns
returns c =
    formed_sees c.args.chunks.now c.args.pieces.now c.args.store.now c.args.source.now
    (c.shaped.ensures.yes c.if-not-shaped.false) (sym c.valid.ensures ∙ c.if-not-valid.false)
    (c.chunked.ensures.yes c.if-not-chunked.false) c.pieced.result c.pieced.ensures
