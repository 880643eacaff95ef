use Rattle.sheet_records.proofs.OfKinds.{with_text, without_text}
use Rattle.sheet_records.proofs.kinds.Kind.carries_text.Goals as goal

pub returns-in-Remove : goal.returns-in-Remove
returns-in-Remove c = without_text c.args.self c.in-Remove.is

pub returns-in_default : goal.returns-in_default
returns-in_default c = with_text c.args.self c.in_default.not-Remove c.in_default.not-Reset c.in_default.not-Relocate
