use borrow.Author.Rules.{rules}
use borrow.Author.Tests.{tests}
use lib.Dec.{eqb}
use mathlib.Core.Path.{refl}
use Rattle.std.proofs.lemmas.Iterator.Search.{all_from_yields_List}
use Rattle.std.proofs.lemmas.Iterator.{YieldsList-from_slice}
use Rattle.replay_compare.proofs.Tests.{filled_test}
use Rattle.replay_compare.proofs.untouched.Goals as goal

pub returns : goal.returns
returns c =
    let e = all_from_yields_List (λ x. eqb x 0xA5) _ _ _ c.all.ensures.ran (YieldsList-from_slice c.args.s.now cc) (λ x b q k. (refl, search (rules, tests))) in
    rw e (filled_test c.args.s.now)
