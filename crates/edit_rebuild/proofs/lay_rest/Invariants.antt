use Rattle.edit_rebuild.proofs.LayAll.{Loop}
use Rattle.edit_rebuild.proofs.lay_rest.Given as goal

abbrev pub invariant-loop-k : goal.invariant-loop-k
invariant-loop-k l = Loop l.t l.p l.s l.n l.k l.cur l.to.byte l.to.row l.initial.chunks l.initial.pieces l.initial.store l.chunks l.pieces l.store
