use borrow.Author.Rules.{rules}
use Rattle.utf8.proofs.Backwards.{LastLead, last_start_of}
use Rattle.utf8.proofs.places.last_start.Goals as goal

pub returns : goal.returns
returns c =
    let a : LastLead c.args.s.now c.rposition.result = search rules in
    rw c.unwrap_or.ensures (last_start_of c.args.s.now c.rposition.result c.requires.0 c.requires.1 a)
