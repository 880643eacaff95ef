use mathlib.Core.Path.{sym, ◌∙◌}
use native.Mathlib.Omega.{arith}
use Rattle.model.proofs.Lists.{no_tf}
use Rattle.memory.proofs.Desks.{same_lengths, all_same}
use Rattle.edit_scratch.proofs.written.Goals as goal

pub keeps-requires : goal.keeps-requires
keeps-requires c = record { readable = c.requires.readable; most_chunks_bound = (omega (arith, c.requires.sized.chunks), omega (arith, c.requires.sized.pieces), c.requires.sized.store) }

pub returns-then-not-keeps : goal.returns-then-not-keeps
returns-then-not-keeps c =
    record { lengths = same_lengths _ _ _; keeps = sym c.if-not-keeps.true ∙ c.keeps.ensures; rebuilt = λ f. no_tf (sym f); same = λ _. all_same _ _ _ }

pub rebuild-requires : goal.rebuild-requires
rebuild-requires c = record { readable = c.requires.readable; s_value = sym c.keeps.ensures ∙ c.if-not-keeps.false; sized = c.requires.sized }

pub returns : goal.returns
returns c =
    record {
      lengths = record { chunks = c.rebuild.auto.chunks; pieces = c.rebuild.auto.pieces; store = c.rebuild.auto.store };
      keeps = sym c.if-not-keeps.false ∙ c.keeps.ensures;
      rebuilt = λ _. c.rebuild.ensures;
      same = λ f. no_tf f;
    }
