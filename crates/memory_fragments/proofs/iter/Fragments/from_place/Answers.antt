use mathlib.Core.Path.{ap}
use native.Mathlib.Omega.{arith}
use lib.ListN.{length}
use Rattle.memory_table.specs.declared.Row.{Row}
use Rattle.model.specs.Text.{sum}
use Rattle.memory_fragments.proofs.Output.{ready, rest_short}
use Rattle.memory_fragments.proofs.Sections.{up_to_rest}
use Rattle.memory_fragments.proofs.Valid.{up_to_valid}
use Rattle.memory_fragments.proofs.iter.Fragments.from_place.Goals as goal

pub returns-clause-texts : goal.returns-clause-texts
returns-clause-texts c = up_to_rest _ _ _ _ _ _ _ (ap (λ (r : Row). r.start) c.get_row-z.ensures)

pub invariant_of-result : goal.invariant_of-result
invariant_of-result c =
    let e = ap (λ (r : Row). r.start) c.get_row-z.ensures in
    record {
      ready = ready _ _ _ _ c.requires.well_formed;
      on = c.requires.on;
      below = omega (arith, e, c.requires.on.inside);
      stop_in = omega (arith, e);
      ends = λ h. c.requires.ends (omega (arith, e, h));
    }

pub returns-clause-valid : goal.returns-clause-valid
returns-clause-valid c = up_to_valid _ _ _ _ c.requires.well_formed _ _ _

pub returns-clause-short : goal.returns-clause-short
returns-clause-short c =
    omega (
      arith,
      ap (sum length) (returns-clause-texts c),
      rest_short c.args.desk.source.now c.args.desk.chunks.now c.args.desk.pieces.now c.args.desk.store.now c.requires.well_formed c.args.first.section c.args.first.item,
    )
