use mathlib.Core.Path.{sym, ◌∙◌}
use native.Mathlib.Omega.{arith}
use Rattle.sheet_print.proofs.Printing.{there, few, small, sized, counted, desk_formed, put_run, value_or, told_as}
use Rattle.sheet_print.proofs.print_run.Goals as goal

pub u16_at-requires : goal.u16_at-requires
u16_at-requires c = let h = there c.requires.left in omega arith

pub slice_bounds-put_lines-count : goal.slice_bounds-put_lines-count
slice_bounds-put_lines-count c =
    let h = there c.requires.left in
    let q = sized c.requires.left _ c.u16_at.ensures.0 in omega arith

pub slice_bounds-put_lines-start : goal.slice_bounds-put_lines-start
slice_bounds-put_lines-start c =
    let h = there c.requires.left in
    let q = sized c.requires.left _ c.u16_at.ensures.0 in omega arith

pub put_lines-lines-requires : goal.put_lines-lines-requires
put_lines-lines-requires c = let h = c.requires.left in record { counted = counted h _ c.u16_at.ensures.0; all = small h; n_in_bounds = omega (arith, few h, c.requires.in_bounds) }

pub slice_bounds-desk-end : goal.slice_bounds-desk-end
slice_bounds-desk-end c =
    let h = there c.requires.left in
    let q = sized c.requires.left _
    c.u16_at.ensures.0 in omega arith

pub slice_bounds-to_string-count : goal.slice_bounds-to_string-count
slice_bounds-to_string-count c =
    omega (
      arith,
      few c.requires.left,
      c.requires.in_bounds,
    )

pub slice_bounds-to_string-start : goal.slice_bounds-to_string-start
slice_bounds-to_string-start c =
    omega (
      arith,
      few c.requires.left,
      c.requires.in_bounds,
    )

pub to_string-text-requires : goal.to_string-text-requires
to_string-text-requires c =
    desk_formed c.requires.left _
    c.u16_at.ensures.0

pub overflow_add-result : goal.overflow_add-result
overflow_add-result c = omega (arith, few c.requires.left)

pub returns : goal.returns
returns c =
    put_run c.requires.left _
    c.u16_at.ensures.0
    c.requires.in_bounds
    c.put_lines-lines.auto.out c.put_lines-lines.ensures.few c.put_lines-lines.ensures.are
    (told_as (value_or c.to_string-text.result ∙ sym c.unwrap_or.ensures) c.to_string-text.ensures)
