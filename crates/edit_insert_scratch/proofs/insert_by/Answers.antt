-- `insert_scratch::insert_by` meets its contract: the steps on the loaded tables are the model's, and where they refuse nothing is written.
use mathlib.Core.Path.{sym, ◌∙◌}
use native.Mathlib.Omega.{arith}
use Rattle.edit_scratch.proofs.Refused.{refused_number, allowed_number}
use Rattle.edit_scratch.specs.Tables.{Roomy}
use Rattle.edit_scratch.proofs.Tables.{loaded_roomy, loaded_readable}
use Rattle.edit_room_above.proofs.Finishing.{formed_usable}
use Rattle.edit_insert_side.proofs.Piece.{loaded_spare}
use Rattle.edit_insert_side.proofs.Calls.{loaded_small, insert_readable, insert_refused, insert_ran}
use Rattle.edit_insert_scratch.proofs.insert_by.Goals as goal

pub load-requires : goal.load-requires
load-requires c = (
  omega (arith, c.requires.well_formed.sized.chunks, c.requires.long_scratch.scratch.chunks),
  omega (arith, c.requires.well_formed.sized.pieces, c.requires.long_scratch.pieces),
  omega (arith, c.requires.well_formed.sized.store, c.requires.long_scratch.store),
)

pub insert_steps-steps-requires : goal.insert_steps-steps-requires
insert_steps-steps-requires c = let y = loaded_roomy c.requires.well_formed c.requires.long_scratch.scratch c.load.ensures in let roomy : Roomy 1 c.load.new.t = record { linked = y.linked; room = omega (arith, y.room); narrow = y.narrow } in let h = loaded_readable c.requires.well_formed c.requires.long_scratch.scratch c.load.ensures in record { roomy = roomy; readable = h; desk_small = loaded_small c.requires.well_formed c.requires.long_scratch c.load.ensures; spare = loaded_spare c.requires.well_formed c.requires.long_scratch c.load.ensures }

pub counted-requires : goal.counted-requires
counted-requires c = formed_usable c.requires.well_formed

pub shape_of-t-then-is_err : goal.shape_of-t-then-is_err
shape_of-t-then-is_err c = c.insert_steps-steps.auto.t ∙ c.load.auto.t

pub returns-then-is_err : goal.returns-then-is_err
returns-then-is_err c =
    let ran = insert_refused c.requires.well_formed c.requires.long_scratch c.load.ensures c.insert_steps-steps.ensures (refused_number _ (sym c.is_err.ensures.value ∙ c.if-is_err.true)) in
    (rw (c.counted.ensures.0, c.counted.ensures.1) ran, c.counted.ensures.2)

pub finish-requires : goal.finish-requires
finish-requires c = record { readable = insert_readable c.requires.well_formed c.requires.long_scratch c.load.ensures c.insert_steps-steps.ensures (allowed_number _ (sym c.is_err.ensures.value ∙ c.if-is_err.false)); usable = formed_usable c.requires.well_formed }

pub shape_of-t : goal.shape_of-t
shape_of-t c = c.insert_steps-steps.auto.t ∙ c.load.auto.t

pub shape_of-p : goal.shape_of-p
shape_of-p c = c.insert_steps-steps.auto.p ∙ c.load.auto.p

pub shape_of-s : goal.shape_of-s
shape_of-s c = c.insert_steps-steps.auto.s ∙ c.load.auto.s

pub returns : goal.returns
returns c = (insert_ran c.requires.well_formed c.requires.long_scratch c.load.ensures c.insert_steps-steps.ensures (allowed_number _ (sym c.is_err.ensures.value ∙ c.if-is_err.false)) c.finish.ensures.0, c.finish.ensures.1)
