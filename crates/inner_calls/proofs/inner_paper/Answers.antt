use Rattle.inner_calls.proofs.Papers.{seen_none, seen_desk, refused, made}
use Rattle.inner_calls.proofs.inner_paper.Goals as goal

pub returns-in_default : goal.returns-in_default
returns-in_default c = rw c.from.ensures (refused (seen_none c.args.source.now c.args.chunks.now c.args.pieces.now c.args.store.now c.in_default.is c.holds_desk.ensures))

pub all-n-requires : goal.all-n-requires
all-n-requires c = seen_desk c.args.source.now c.args.chunks.now c.args.pieces.now c.args.store.now c.in-Some.used c.in-Some.is c.holds_desk.ensures

pub returns : goal.returns
returns c = rw c.from-2.ensures (made _ (seen_desk c.args.source.now c.args.chunks.now c.args.pieces.now c.args.store.now c.in-Some.used c.in-Some.is c.holds_desk.ensures).well_formed c.all-n.ensures.0)
