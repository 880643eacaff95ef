use Rattle.check_texts_apart.proofs.Places.{entry_yes, entry_stop, entry_no}
use Rattle.check_texts_apart.specs.Places.{entry_of_row}
use Rattle.check_texts_apart.proofs.mark_entry.Goals as goal

pub returns-in_err-lists : goal.returns-in_err-lists
returns-in_err-lists c = rw c.from_residual.ensures (entry_no (entry_of_row c.args.t.now c.args.i) c.in_err-lists.ensures _ _)

pub returns-in_err-byte : goal.returns-in_err-byte
returns-in_err-byte c =
    rw c.from_residual-in_err-byte.ensures (entry_stop (entry_of_row c.args.t.now c.args.i) c.in_ok-lists.ensures _ c.in_err-byte.ensures)

pub returns : goal.returns
returns c = entry_yes (entry_of_row c.args.t.now c.args.i) c.in_ok-lists.ensures _ c.in_ok-byte.ensures
