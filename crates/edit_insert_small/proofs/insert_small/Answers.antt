-- `insert_small::insert_small` meets its contract.
use mathlib.Core.Path.{refl, sym, ◌∙◌}
use Rattle.memory.proofs.Desks.{all_same}
use Rattle.edit_insert_small.proofs.insert_small.Goals as goal

pub insert_with-requires : goal.insert_with-requires
insert_with-requires c = record { well_formed = c.requires.well_formed; store_value = sym c.keeps.ensures ∙ c.if-keeps.true }

pub returns : goal.returns
returns c = record { ran = λ n. absurd (n refl); same = λ _. all_same _ _ _; above = c.requires.above }
