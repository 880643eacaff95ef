-- `last_line::write_line` meets its contract.
use Rattle.model.specs.MagicString.{last_line}
use Rattle.memory.specs.Layout.{magic_string_of}
use Rattle.report_last_line.proofs.Lines.{Forwards}
use Rattle.report_last_line.proofs.write_line.Given as goal

abbrev pub invariant-loop-t : goal.invariant-loop-t
invariant-loop-t l = Forwards (last_line (magic_string_of l.desk.source.now l.desk.chunks.now l.desk.pieces.now l.desk.store.now)) l.initial.out l.t-iterator l.out l.at l.o
