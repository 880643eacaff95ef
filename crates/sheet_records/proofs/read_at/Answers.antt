-- `sheet_records::read_at` meets its contract: each refusal breaks one part of `Whole`, and what is left is `Stands`.
use native.Mathlib.Omega.{arith}
use Prim.Native.Nat.{◌+◌}
use mathlib.Core.Path.{sym, ap, ◌∙◌}
use Rattle.model_sheet.specs.Record.{positions}
use Rattle.sheet_records.specs.Kinds.{code}
use Rattle.sheet_records.proofs.Finding.{extent_at, kind_at, too_short, cut_off, no_kind, unfit}
use Rattle.sheet_records.proofs.read_at.Goals as goal

pub returns-then-left-lt3 : goal.returns-then-left-lt3
returns-then-left-lt3 c = too_short c.args.s.now c.args.at (omega (arith, c.if-left-lt3.true, c.saturating_sub-left.ensures))

pub returns-then-left-n : goal.returns-then-left-n
returns-then-left-n c =
    let n = extent_at c.args.s.now c.args.at _ c.u16_at.ensures.0 in
    cut_off c.args.s.now c.args.at (omega (arith, n, c.if-left-n.true, c.saturating_sub-left.ensures))

pub returns-in_default : goal.returns-in_default
returns-in_default c = no_kind c.args.s.now c.args.at (ap positions (sym (kind_at c.args.s.now c.args.at)) ∙ c.in_default.ensures)

pub fields_at-requires : goal.fields_at-requires
fields_at-requires c =
    record {
      size = extent_at c.args.s.now c.args.at _ c.u16_at.ensures.0;
      third = c.in-Ok.ensures ∙ kind_at c.args.s.now c.args.at;
      good = sym c.size_fits.ensures ∙ c.if-size_fits.true;
      there = omega (arith, c.if-left-n.false, c.saturating_sub-left.ensures);
    }

pub returns : goal.returns
returns c =
    unfit c.args.s.now c.args.at (code c.in-Ok.kind) (2 + c.u16_at.result) (c.in-Ok.ensures ∙ kind_at c.args.s.now c.args.at)
    (extent_at c.args.s.now c.args.at _ c.u16_at.ensures.0) (sym c.size_fits.ensures ∙ c.if-size_fits.false)
