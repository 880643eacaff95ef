use Rattle.std.specs.Prelude.{Some, None}
use Rattle.std.proofs.lemmas.Slice.Eq.{strip_prefix_is}
use Rattle.std.proofs.lemmas.Bool.Decides.{Decides-eqb}
use Rattle.memory_counting.proofs.Sums.{is_no}
use Rattle.replay_compare.proofs.Tests.{written_decides}
use Rattle.replay_compare.proofs.written.Goals as goal

pub returns-in-Some : goal.returns-in-Some
returns-in-Some c = written_decides _ _ _ (strip_prefix_is Decides-eqb c.args.out.now c.args.bytes.now (Some c.in-Some.rest) c.in-Some.ensures.cases) c.untouched.ensures

pub returns-in-None : goal.returns-in-None
returns-in-None c = is_no (λ w. strip_prefix_is Decides-eqb c.args.out.now c.args.bytes.now None c.in-None.ensures.cases _ w.out_is)
