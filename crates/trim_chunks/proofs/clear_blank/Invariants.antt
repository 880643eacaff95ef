use Rattle.trim_chunks.specs.Walk.{WalkAt}
use Rattle.trim_text.specs.Patterns.{pattern_number}
use Rattle.trim_chunks.proofs.clear_blank.Given as goal

abbrev pub invariant-loop : goal.invariant-loop
invariant-loop l = WalkAt l.front (pattern_number l.pattern) l.source l.p l.s l.initial.t l.t l.end l.counter l.cur
