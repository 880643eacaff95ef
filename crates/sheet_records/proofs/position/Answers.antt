-- `sheet_records::position` meets its contract: the i-th number stands 4 * i bytes behind the first.
use native.Mathlib.Omega.{arith}
use mathlib.Core.Path.{◌∙◌}
use lib.ListN.{drop}
use Rattle.sheet_records.proofs.Fields.{position_at, position_none}
use Rattle.sheet_records.proofs.position.Goals as goal

pub returns-then-i-p : goal.returns-then-i-p
returns-then-i-p c = c.u32_at.ensures ∙ position_at c.args.p c.args.i c.args.at c.args.s.now (omega arith)

pub returns-else-i-p : goal.returns-else-i-p
returns-else-i-p c = position_none c.args.p c.args.i (drop c.args.at c.args.s.now) (omega arith)
