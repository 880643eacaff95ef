use Rattle.edit_room_above.proofs.Finishing.{finished_usable}
use Rattle.edit_room_above.proofs.finish.Goals as goal

pub counted-requires : goal.counted-requires
counted-requires c = finished_usable c.requires.usable c.finish-answer.ensures

pub returns : goal.returns
returns c = (rw (c.counted.ensures.0, c.counted.ensures.1) c.finish-answer.ensures, c.counted.ensures.2)
