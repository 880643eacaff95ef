use Rattle.trim_text.specs.Patterns.{pattern_number}
use Rattle.edit_room_above.proofs.Finishing.{formed_usable}
use Rattle.trim_steps.proofs.Both.{trimmed_readable}
use Rattle.trim_scratch.proofs.Call.{loaded_ready, trim_ran}
use Rattle.trim_scratch.proofs.trim_by.Goals as goal

pub trim_steps-requires : goal.trim_steps-requires
trim_steps-requires c = loaded_ready c.requires.well_formed c.requires.scratch c.requires.wide c.load.ensures

pub finish-requires : goal.finish-requires
finish-requires c = record { readable = trimmed_readable c.trim_steps.ensures; usable = formed_usable c.requires.well_formed }

pub returns : goal.returns
returns c = (
  trim_ran {both = c.args.both} {front = c.args.front} {pattern = (pattern_number c.args.pattern)} c.requires.well_formed c.requires.scratch c.load.ensures c.trim_steps.ensures c.finish.ensures.0,
  c.finish.ensures.1,
)
