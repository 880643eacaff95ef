use mathlib.Core.Path.{refl, sym, ◌∙◌}
use Rattle.memory.proofs.Desks.{full_sized}
use Rattle.sheet_run.proofs.Codes.{code_above}
use Rattle.sheet_print.proofs.Printing.{run_number, run_left, put_refused}
use Rattle.sheet_print.proofs.print_sheet.Goals as goal

pub run_sheet-requires : goal.run_sheet-requires
run_sheet-requires c = full_sized c.requires.full

pub print_run-requires : goal.print_run-requires
print_run-requires c =
    record {
      left = run_left c.in-Ok.ensures c.requires.full c.requires.answers_len refl
          (record { chunks = c.run_sheet.auto.chunks; pieces = c.run_sheet.auto.pieces; store = c.run_sheet.auto.store }) c.run_sheet.auto.answers;
      in_bounds = c.requires.in_bounds;
    }

pub returns-in-Err : goal.returns-in-Err
returns-in-Err c =
    put_refused _ _ _ _ _ (run_number c.in-Err.ensures c.requires.full c.requires.answers_len ∙ sym c.code.ensures) (λ z. code_above c.in-Err.refusal (sym c.code.ensures ∙ z))
    c.put_line.ensures
