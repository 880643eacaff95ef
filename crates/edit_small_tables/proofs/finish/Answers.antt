-- `small_tables::finish` meets its contract: by either way.
use mathlib.Core.Path.{sym, ap, ◌∙◌}
use Rattle.memory_layout.specs.Refusals.{number_of}
use Rattle.memory.proofs.Desks.{all_same}
use Rattle.edit_scratch.proofs.Refused.{code_some}
use Rattle.edit_small_tables.proofs.finish.Goals as goal

pub finish-requires : goal.finish-requires
finish-requires c = record { readable = c.requires.readable (ap number_of c.in-Ok.is); usable = c.requires.usable }

pub returns-in-Ok : goal.returns-in-Ok
returns-in-Ok c =
    let left = ap number_of c.in-Ok.is in
    (record { made = λ _. c.finish.ensures.0; refused = λ n. absurd (n left); no_cuts = λ n. absurd (n left) }, c.finish.ensures.1)

pub returns-in-Err : goal.returns-in-Err
returns-in-Err c =
    let taken = ap number_of c.in-Err.is in (
      record {
        made = λ z. absurd (code_some c.in-Err.field-0 (sym taken ∙ z));
        refused = λ _. (ap number_of c.counted.ensures.0, all_same _ _ _);
        no_cuts = λ _. c.counted.ensures.1;
      },
      c.counted.ensures.2,
    )
