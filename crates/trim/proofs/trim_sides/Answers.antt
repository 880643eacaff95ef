use Rattle.trim.proofs.Call.{refused, ran}
use Rattle.trim.proofs.trim_sides.Goals as goal

pub returns-in-Ok : goal.returns-in-Ok
returns-in-Ok c = λ e a. ran _ _ _ _ e a c.in-Ok.ensures.refusal (rw c.in-Ok.ensures.pattern at c.trim_either.ensures)

pub returns-in-Err : goal.returns-in-Err
returns-in-Err c = λ e a. refused _ _ _ _ e a c.in-Err.refusal c.requires c.in-Err.ensures.refusal
