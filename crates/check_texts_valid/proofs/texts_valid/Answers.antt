use native.Mathlib.Omega.{arith}
use Rattle.memory_counting.proofs.Sums.{is_yes}
use Rattle.check_texts_valid.proofs.Valid.{ascii_all, desk_inside, chunks_inside}
use Rattle.check_texts_valid.proofs.texts_valid.Goals as goal

pub returns-then-joined_bits-lt128 : goal.returns-then-joined_bits-lt128
returns-then-joined_bits-lt128 c = is_yes (ascii_all _ _ _ c.joined_bits.ensures c.if-joined_bits-lt128.true c.requires.counted.byte _ _ _ _ c.requires.counted.below)

pub lists_valid-requires-clause-runs_in : goal.lists_valid-requires-clause-runs_in
lists_valid-requires-clause-runs_in c = desk_inside _ _ _ _ _ _ (omega (arith, c.requires.counted.row)) c.requires.counted.byte c.requires.counted.below

pub chunks_valid-requires-clause-by_index : goal.chunks_valid-requires-clause-by_index
chunks_valid-requires-clause-by_index c = chunks_inside _ _ _ _ _ _ (omega (arith, c.requires.counted.row)) c.requires.counted.byte c.requires.counted.below
