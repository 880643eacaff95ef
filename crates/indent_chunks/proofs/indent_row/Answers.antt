use mathlib.Core.Path.{sym, ap, ◌∙◌}
use mathlib.Core.Logic.{inr}
use Rattle.memory_table.specs.declared.Row.{Row}
use Rattle.model.specs.Indent.{excluded}
use Rattle.memory_list.proofs.Insert.{room_i}
use Rattle.indent_chunks.proofs.Row.{row_excluded, replacement_ready, row_replaced, replaced_short}
use Rattle.indent_chunks.proofs.indent_row.Goals as goal

pub get_row-r-requires : goal.get_row-r-requires
get_row-r-requires c = room_i c.args.t.now c.args.i c.requires.row.linked c.requires.row.placed

pub indent_lines-requires : goal.indent_lines-requires
indent_lines-requires c = let g = c.get_row-r.ensures in record { row_at = c.requires.row; i_value = (sym (ap (λ (r : Row). r.text_at) g) ∙ c.if-r.true, ap (λ (r : Row). r.start) g, ap (λ (r : Row). r.end) g) }

pub returns-then-is_excluded : goal.returns-then-is_excluded
returns-then-is_excluded c =
    let g = c.get_row-r.ensures in
    row_excluded c.args.exclude.now c.args.mark c.requires (λ z. c.if-r.false (ap (λ (r : Row). r.text_at) g ∙ z))
    (ap (λ (r : Row). excluded c.args.exclude.now r.start) (sym g) ∙ sym c.is_excluded.ensures ∙ c.if-is_excluded.true)

pub indent_replacement-requires : goal.indent_replacement-requires
indent_replacement-requires c =
    let g = c.get_row-r.ensures in
    replacement_ready c.args.exclude.now c.args.mark c.requires (λ z. c.if-r.false (ap (λ (r : Row). r.text_at) g ∙ z))

pub returns-in_err-w : goal.returns-in_err-w
returns-in_err-w c =
    let g = c.get_row-r.ensures in
    rw c.from_residual.ensures
    (inr (replaced_short c.args.exclude.now c.args.mark c.requires (λ z. c.if-r.false (ap (λ (r : Row). r.text_at) g ∙ z))
    (ap (λ (r : Row). excluded c.args.exclude.now r.start) (sym g) ∙ sym c.is_excluded.ensures ∙ c.if-is_excluded.false) c.in_err-w.ensures))

pub returns : goal.returns
returns c =
    let g = c.get_row-r.ensures in
    row_replaced c.args.exclude.now c.args.mark c.requires (λ z. c.if-r.false (ap (λ (r : Row). r.text_at) g ∙ z))
    (ap (λ (r : Row). excluded c.args.exclude.now r.start) (sym g) ∙ sym c.is_excluded.ensures ∙ c.if-is_excluded.false) c.in_ok-w.ensures
