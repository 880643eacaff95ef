use mathlib.Core.Path.{refl, ap}
use native.Mathlib.Omega.{arith}
use Rattle.memory_table.specs.declared.Row.{Row}
use Rattle.model.specs.Text.{sum}
use lib.ListN.{length}
use Rattle.memory_fragments.proofs.Output.{ready, chunks_bound}
use Rattle.memory_fragments.proofs.Sections.{on_chunks, up_to_chunks}
use Rattle.memory_fragments.proofs.Valid.{up_to_valid}
use Rattle.memory_fragments.proofs.iter.Fragments.of_chunks.Goals as goal

pub invariant_of-result : goal.invariant_of-result
invariant_of-result c =
    let e = ap (λ (r : Row). r.start) c.get_row-z.ensures in
    record {
      ready = ready _ _ _ _ c.requires;
      on = on_chunks _ _ c.requires.readable.linked (ap (λ (r : Row). r.next) c.get_row-z.ensures);
      below = omega arith;
      stop_in = omega (arith, e);
      ends = λ h. refl;
    }

pub returns-clause-texts : goal.returns-clause-texts
returns-clause-texts c = up_to_chunks _ _ _ _ _ c.requires.readable.linked (ap (λ (r : Row). r.start) c.get_row-z.ensures)

pub returns-clause-valid : goal.returns-clause-valid
returns-clause-valid c = up_to_valid _ _ _ _ c.requires _ _ _

pub returns-clause-short : goal.returns-clause-short
returns-clause-short c = omega (arith, ap (sum length) (returns-clause-texts c), chunks_bound c.args.desk.source.now c.args.desk.chunks.now c.args.desk.pieces.now c.args.desk.store.now c.requires)
