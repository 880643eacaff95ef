use Rattle.edit_relocate_steps.proofs.Before.{place_in}
use Rattle.edit_relocate_steps.proofs.place_of.Goals as goal

pub returns : goal.returns
returns c = rw c.unwrap_or.ensures (place_in c.args.t.now c.args.to c.find.result c.find.ensures)
