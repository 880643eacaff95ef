use native.Mathlib.Omega.{arith}
use Rattle.indent_scratch.proofs.Ran.{steps_ready, indent_readable, indent_some, indent_past, indent_ran}
use Rattle.edit_room_above.proofs.Finishing.{formed_usable}
use Rattle.indent_scratch.proofs.indent_by.Goals as goal

pub load-requires : goal.load-requires
load-requires c = (omega (arith, c.requires.desk.well_formed.sized.chunks, c.requires.indent_scratch.scratch.chunks), omega (arith, c.requires.desk.well_formed.sized.pieces, c.requires.indent_scratch.pieces), omega (arith, c.requires.desk.well_formed.sized.store, c.requires.indent_scratch.store))

pub indent_steps-walked-requires : goal.indent_steps-walked-requires
indent_steps-walked-requires c = steps_ready c.requires.desk.well_formed c.requires.indent_scratch c.load.ensures

pub returns-in-Err : goal.returns-in-Err
returns-in-Err c = (indent_past c.requires.desk.well_formed c.requires.indent_scratch c.load.ensures _ c.in-Err.ensures, c.requires.desk.above)

pub added-requires : goal.added-requires
added-requires c =
    let h = c.requires.desk.well_formed in
    let x = c.in_default.ensures in
    (omega (arith, h.readable.linked.room), omega (arith, (indent_readable h c.requires.indent_scratch c.load.ensures x).linked.room), indent_some h c.requires.indent_scratch c.load.ensures x)

pub finish-requires : goal.finish-requires
finish-requires c = record { readable = indent_readable c.requires.desk.well_formed c.requires.indent_scratch c.load.ensures c.in_default.ensures; usable = formed_usable c.requires.desk.well_formed }

pub returns : goal.returns
returns c = (indent_ran c.requires.desk.well_formed c.requires.indent_scratch c.load.ensures c.in_default.ensures c.added.ensures c.finish.ensures.0, c.finish.ensures.1)
