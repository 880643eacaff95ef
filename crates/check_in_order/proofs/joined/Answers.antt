use borrow.Author.Tests.{eqb-true}
use lib.ListN.{length}
use Rattle.check_in_order.proofs.Row.{joined_last}
use Rattle.check_in_order.proofs.joined.Goals as goal

pub returns-then-x-eq-LIST_END : goal.returns-then-x-eq-LIST_END
returns-then-x-eq-LIST_END c =
    λ e.
    joined_last c.word-x.ensures c.if-x-n.false c.word.ensures c.if-word-i.false
    c.requires.source_value c.if-x-eq-LIST_END.true (eqb-true c.args.e (length c.args.source.now) e)
