-- `indent_string::get_indent_string` meets its contract.
use native.Mathlib.Omega.{arith}
use Rattle.memory.proofs.Desks.{narrow_source}
use Rattle.report_indent_string.proofs.Tallies.{told_14, told_indent}
use Rattle.report_indent_string.proofs.get_indent_string.Goals as goal

pub guess_indentor-g-requires : goal.guess_indentor-g-requires
guess_indentor-g-requires c = narrow_source c.requires

pub returns-then-out-n : goal.returns-then-out-n
returns-then-out-n c = told_14 _ _ _ _ _ c.guess_indentor-g.ensures _ c.indentor_len-n.ensures _ c.if-out-n.true

pub put_indentor-requires : goal.put_indentor-requires
put_indentor-requires c = omega (arith, c.indentor_len-n.ensures, c.if-out-n.false)

pub returns : goal.returns
returns c =
    told_indent _ _ _ _ _ c.guess_indentor-g.ensures _ c.indentor_len-n.ensures _ _
    c.if-out-n.false c.put_indentor.ensures
