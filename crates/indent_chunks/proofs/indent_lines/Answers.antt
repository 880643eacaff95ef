use mathlib.Core.Logic.{inl, inr}
use native.Mathlib.Omega.{arith}
use Rattle.indent_chunks.proofs.Row.{lines_none, lines_short, source_ready, lines_done, lines_past}
use Rattle.indent_chunks.proofs.indent_lines.Goals as goal

pub returns-in-End : goal.returns-in-End
returns-in-End c = let v = c.requires.i_value in lines_none c.args.exclude.now c.args.mark c.requires.row_at v.0 v.1 v.2 c.in-End.mark c.in-End.ensures

pub returns-in_err-at : goal.returns-in_err-at
returns-in_err-at c =
    let v = c.requires.i_value in
    rw c.from_residual.ensures (inr (lines_short c.args.exclude.now c.args.mark c.requires.row_at v.0 v.1 v.2 c.in-Start.x c.in-Start.ensures c.in_err-at.ensures))

pub overflow_cast-indentor : goal.overflow_cast-indentor
overflow_cast-indentor c = let d = c.in_ok-at.ensures in omega (arith, d.at.low, d.byte_in, d.bytes.len, c.requires.row_at.narrow)

pub indent_source-requires : goal.indent_source-requires
indent_source-requires c = let v = c.requires.i_value in source_ready c.args.exclude.now c.args.mark c.requires.row_at v.0 v.1 v.2 c.in-Start.x c.in-Start.ensures

pub returns-in_err-cut : goal.returns-in_err-cut
returns-in_err-cut c =
    let v = c.requires.i_value in
    rw c.from_residual-in_err-cut.ensures (inl (lines_past c.args.exclude.now c.args.mark c.requires.row_at v.0 v.1 v.2 c.in-Start.x c.in-Start.ensures c.in_err-cut.ensures))

pub returns : goal.returns
returns c =
    let v = c.requires.i_value in
    lines_done c.args.exclude.now c.args.mark c.requires.row_at v.0 v.1 v.2 c.in-Start.x c.in-Start.ensures c.in_ok-at.ensures c.in_ok-cut.ensures.0 c.in_ok-cut.ensures.1
