use mathlib.Core.Path.{sym, ap, ◌∙◌}
use native.Mathlib.Omega.{arith}
use Rattle.memory_table.specs.declared.Row.{Row}
use Rattle.report_slice.proofs.Seek.{seek_none, seek_done, seek_row, seek_found, seek_stop, seek_more}
use Rattle.report_slice.proofs.find_start.Goals as goal

pub get_row-z-requires : goal.get_row-z-requires
get_row-z-requires c = omega (arith, c.requires.room)

pub loop-k-init : goal.loop-k-init
loop-k-init c = seek_none _ _ _ _ _ c.requires (ap (λ (r : Row). r.start) c.get_row-z.ensures) (ap (λ (r : Row). r.next) c.get_row-z.ensures)

pub get_row-r-requires : goal.get_row-r-requires
get_row-r-requires c = seek_row c.loop-k.invariant c.requires c.loop-k-test.true

pub returns-then-not-misses_start : goal.returns-then-not-misses_start
returns-then-not-misses_start c =
    seek_found c.loop-k.invariant c.requires
    c.loop-k-test.true _ c.get_row-r.ensures
    (sym c.misses_start.ensures ∙ c.if-not-misses_start.true)

pub returns-then-contains_end : goal.returns-then-contains_end
returns-then-contains_end c =
    seek_stop c.loop-k.invariant c.requires
    c.loop-k-test.true _ c.get_row-r.ensures
    (sym c.misses_start.ensures ∙ c.if-not-misses_start.false)
    (sym c.contains_end.ensures ∙ c.if-contains_end.true)

pub loop-k-preserved : goal.loop-k-preserved
loop-k-preserved c =
    seek_more c.loop-k.invariant c.requires
    c.loop-k-test.true _ c.get_row-r.ensures
    (sym c.misses_start.ensures ∙ c.if-not-misses_start.false)
    (sym c.contains_end.ensures ∙ c.if-contains_end.false)

pub returns : goal.returns
returns c = seek_done c.loop-k.invariant c.requires c.loop-k-test.false
