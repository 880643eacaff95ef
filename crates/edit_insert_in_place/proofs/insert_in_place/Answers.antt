-- `insert_in_place` meets its contract: a refused cut leaves what is in use as it was, the piece is above it.
use mathlib.Core.Path.{sym, ◌∙◌, subst}
use native.Mathlib.Omega.{arith}
use Rattle.memory_used.specs.Above.{Above}
use Rattle.edit_scratch.proofs.Refused.{refused_number, allowed_number}
use Rattle.edit_in_place.proofs.InPlace.{lent_roomy}
use Rattle.edit_insert_in_place.proofs.Calls.{top_ready, top_refused, top_made}
use Rattle.edit_insert_in_place.proofs.insert_in_place.Goals as goal

pub cut-cut-requires : goal.cut-cut-requires
cut-cut-requires c = lent_roomy _ c.requires.desk.well_formed (omega (arith, c.requires.room.chunks, c.requires.desk.well_formed.sized.some))

pub returns-then-is_err : goal.returns-then-is_err
returns-then-is_err c = top_refused c.args.spot c.args.front c.args.text.now c.requires.desk c.requires.room c.cut-cut.ensures c.cut-cut.auto.t (refused_number _ (sym c.is_err.ensures.value ∙ c.if-is_err.true))

pub insert_row_in_place-row-requires : goal.insert_row_in_place-row-requires
insert_row_in_place-row-requires c = top_ready c.args.spot c.args.front c.args.text.now c.requires.desk c.requires.room c.cut-cut.ensures

pub grown-requires : goal.grown-requires
grown-requires c = record { pieces_bound = omega (arith, c.requires.room.pieces, c.requires.desk.well_formed.sized.pieces); len_bound = omega (arith, c.requires.room.places, c.requires.desk.well_formed.sized.store) }

pub returns : goal.returns
returns c =
    let made = top_made c.args.spot c.args.front c.args.text.now c.requires.desk c.requires.room c.cut-cut.ensures _ _ _ c.insert_row_in_place-row.result (allowed_number _ (sym c.is_err.ensures.value ∙ c.if-is_err.false)) c.insert_row_in_place-row.ensures
    c.cut-cut.auto.t c.insert_row_in_place-row.auto.chunks c.insert_row_in_place-row.auto.pieces c.insert_row_in_place-row.auto.store in
    (rw (c.grown.ensures.0, c.grown.ensures.1) made.0, subst (Above _ _ _) (sym c.grown.ensures.2) made.1)
