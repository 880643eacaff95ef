use Rattle.check_texts_valid.proofs.Valid.{or_more}
use Rattle.check_texts_valid.proofs.joined_bits.Goals as goal

pub loop-b-preserved : goal.loop-b-preserved
loop-b-preserved c = or_more c.args.s.now c.loop-b.b-index c.loop-b.bits c.loop-b.invariant
