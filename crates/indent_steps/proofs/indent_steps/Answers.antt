use Rattle.indent_turns.proofs.Turns.{head_begins}
use Rattle.indent_steps.proofs.indent_steps.Goals as goal

pub walk_texts-requires : goal.walk_texts-requires
walk_texts-requires c =
    head_begins c.args.indentor.now c.args.exclude.now c.args.source.now c.args.t.now c.args.pieces.now c.args.store.now c.args.p.now c.args.s.now c.requires
    c.run_begins-first.result c.run_begins-first.ensures
