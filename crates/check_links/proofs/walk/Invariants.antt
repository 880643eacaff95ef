-- The invariant: after so many rows, what is left of the list between the two sides decides.
use Rattle.check_row.specs.Row.{word_of}
use Rattle.check_bit_marks.specs.BitMarks.{bit_at}
use Rattle.check_links.proofs.Rest.{Walking}
use Rattle.check_links.proofs.walk.Given as goal

abbrev pub invariant-loop : goal.invariant-loop
invariant-loop l = Walking l.source l.t l.n l.counter (word_of l.link) (bit_at l.marks) l.near l.far
