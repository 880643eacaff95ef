-- `lengthen` meets its contract, in each of its three ways: a row behind the run, the run behind a row, the run with a row behind it.
use native.Mathlib.Omega.{arith}
use Rattle.edit_room_above.proofs.Lengthening.{lengthen_front, lengthen_behind, lengthen_here}
use Rattle.edit_room_above.proofs.lengthen.Goals as goal

pub returns-then-ends_at : goal.returns-then-ends_at
returns-then-ends_at c =
    let e = c.ends_at.ensures c.if-ends_at.true in
    rw e.0 (lengthen_here (c.args.text_at, c.args.text_n) (c.args.at, c.args.n) c.args.row c.args.p.now c.requires _ e.1 c.set_piece.ensures)

pub copy_rows-requires : goal.copy_rows-requires
copy_rows-requires c = record { n_bound = λ k. omega (arith, c.requires.under k); n_in_bounds = omega (arith, c.requires.rows_in, c.set_piece-then-front.auto.t) }

pub returns-then-front : goal.returns-then-front
returns-then-front c =
    rw c.if-front.true
    (lengthen_front (c.args.text_at, c.args.text_n) (c.args.at, c.args.n) c.args.row c.args.p.now c.requires _ _ c.set_piece-then-front.ensures c.copy_rows.ensures)

pub returns : goal.returns
returns c =
    rw c.if-front.false
    (lengthen_behind (c.args.text_at, c.args.text_n) (c.args.at, c.args.n) c.args.row c.args.p.now c.requires _ _ c.copy_rows-2.ensures c.copy_rows-2.auto.p c.set_piece-2.ensures)
