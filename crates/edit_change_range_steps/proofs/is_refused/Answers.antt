use Rattle.edit_change_range_steps.proofs.is_refused.Goals as goal

pub returns-in-Clear : goal.returns-in-Clear
returns-in-Clear c = rw c.in-Clear.is c.frozen_within.ensures
