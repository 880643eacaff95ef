use mathlib.Core.Path.{sym, subst}
use Rattle.sheet_records.specs.SheetFound.{JudgesSheet}
use Rattle.sheet_records.proofs.Judging.{too_long, too_short, other_version, cut_off, broken, is_sheet}
use Rattle.sheet_records.proofs.sheet.judge_sheet.Goals as goal

pub returns-then-len-gt-MOST_BYTES : goal.returns-then-len-gt-MOST_BYTES
returns-then-len-gt-MOST_BYTES c = too_long _ c.if-len-gt-MOST_BYTES.true

pub returns-then-len-lt-FRONT : goal.returns-then-len-lt-FRONT
returns-then-len-lt-FRONT c = too_short _ c.if-len-lt-FRONT.true

pub returns-then-s-ne-VERSION : goal.returns-then-s-ne-VERSION
returns-then-s-ne-VERSION c = other_version _ c.if-s-ne-VERSION.true

pub returns-then-len-behind : goal.returns-then-len-behind
returns-then-len-behind c = cut_off _ _ c.u16_at-source_n.ensures.0 c.if-len-behind.true

pub returns-in_err-records : goal.returns-in_err-records
returns-in_err-records c = subst (JudgesSheet _) (sym c.from_residual.ensures) (broken _ _ c.u16_at-source_n.ensures.0 c.in_err-records.ensures)

pub returns : goal.returns
returns c =
    is_sheet _ _ c.u16_at-source_n.ensures.0
    c.if-len-gt-MOST_BYTES.false c.if-s-ne-VERSION.false
    c.if-len-behind.false c.in_ok-records.ensures.counted
