use Rattle.check_well_formed.proofs.Whole.{pieced_yes}
use Rattle.check_well_formed.proofs.pieced.Goals as goal

pub returns : goal.returns
returns c =
    pieced_yes _ _ _ c.requires.linked c.count-n.ensures c.in_ok-used.ensures.0 c.in_ok-used.ensures.1
    c.if-used-pieces.false (c.texts_valid.ensures.yes c.if-not-texts_valid.false)
