-- `insert_small::insert_by` meets its contract: what is done to the desk in the small tables is done to the lent one.
use mathlib.Core.Path.{refl, ◌∙◌}
use Rattle.edit_room_above.proofs.Finishing.{formed_usable}
use Rattle.edit_small_tables.proofs.Trying.{laid_desk, tried}
use Rattle.edit_insert_small.proofs.Staying.{adding_stays}
use Rattle.edit_insert_small.proofs.insert_by.Goals as goal

pub lay-l-requires : goal.lay-l-requires
lay-l-requires c = record { readable = c.requires.well_formed.readable; fits = c.requires.fits }

pub attempt-edit-requires : goal.attempt-edit-requires
attempt-edit-requires c = laid_desk c.requires.well_formed c.lay-l.ensures

pub finish-requires : goal.finish-requires
finish-requires c = record { readable = c.attempt-edit.ensures.readable; usable = formed_usable c.requires.well_formed }

pub shape_of-t : goal.shape_of-t
shape_of-t c = c.attempt-edit.auto.t ∙ c.lay-l.auto.t

pub shape_of-p : goal.shape_of-p
shape_of-p c = c.attempt-edit.auto.p ∙ c.lay-l.auto.p

pub returns : goal.returns
returns c =
    let stays = adding_stays c.args.spot c.args.front c.args.text.now in
    tried c.requires.well_formed c.lay-l.ensures c.attempt-edit.ensures stays c.finish.ensures.0 c.finish.result refl refl c.finish.ensures.1
