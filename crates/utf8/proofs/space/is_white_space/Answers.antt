-- `utf8::is_white_space` meets its contract: each answer by the key or the region that the `match` found.
use mathlib.Core.Path.{sym}
use native.Mathlib.Omega.{arith}
use Rattle.utf8.proofs.Spaces.{by_key, to_8, to_d, to_1fff, to_200a, to_2027, to_2029, from_202a}
use Rattle.utf8.proofs.space.is_white_space.Goals as goal

pub returns-in_default : goal.returns-in_default
returns-in_default c = sym (to_8 c.args.code c.in_default.in_default-own.rest.1 (omega arith))

pub returns-in_default-2 : goal.returns-in_default-2
returns-in_default-2 c = sym (to_1fff c.args.code c.in_default.in_default-own.rest.1 (omega arith) (omega arith))

pub returns-in_default-3 : goal.returns-in_default-3
returns-in_default-3 c = sym (to_2027 c.args.code c.in_default.in_default-own.rest.1 (omega arith) (omega arith))

pub returns-in_default-4 : goal.returns-in_default-4
returns-in_default-4 c = sym (from_202a c.args.code c.in_default.in_default-own.rest.1 (omega arith))

pub returns-in-9-to-13 : goal.returns-in-9-to-13
returns-in-9-to-13 c = sym (by_key c.args.code c.in-9-to-13.in-9-to-13-own.keys1)

pub returns-in-9-to-13-2 : goal.returns-in-9-to-13-2
returns-in-9-to-13-2 c = sym (to_d c.args.code c.in-9-to-13.in_default-own.rest.1 (omega arith) (omega arith))

pub returns-in-9-to-13-3 : goal.returns-in-9-to-13-3
returns-in-9-to-13-3 c = sym (to_200a c.args.code c.in-9-to-13.in_default-own.rest.1 (omega arith) (omega arith))

pub returns-in-9-to-13-4 : goal.returns-in-9-to-13-4
returns-in-9-to-13-4 c = sym (to_2029 c.args.code c.in-9-to-13.in_default-own.rest.1 (omega arith) (omega arith))
