-- `insert_anew` meets its contract: where the small tables are refused, the desk is as it was.
use mathlib.Core.Path.{◌≡◌}
use native.Mathlib.Omega.{arith}
use Rattle.std.proofs.lemmas.Grind.{common_steps}
use Rattle.memory_layout.specs.Refusals.{number_of}
use Rattle.edit_small_tables.proofs.Trying.{tried_formed, other_way}
use Rattle.edit_insert_either.proofs.insert_anew.Goals as goal

pub returns-then-ne : goal.returns-then-ne
returns-then-ne c =
    let made : number_of c.insert_small-o.result.status ≡ 13 → ⊥ = grind (arith, common_steps) in
    (c.insert_small-o.ensures.ran made, c.insert_small-o.ensures.above)

pub insert_scratch-requires : goal.insert_scratch-requires
insert_scratch-requires c =
    let refused : number_of c.insert_small-o.result.status ≡ 13 = grind (arith, common_steps) in
    tried_formed c.insert_small-o.ensures refused c.requires.well_formed

pub returns : goal.returns
returns c =
    let small = c.insert_small-o.ensures in
    let refused : number_of c.insert_small-o.result.status ≡ 13 = grind (arith, common_steps) in
    (other_way small refused c.insert_scratch.ensures.0, c.insert_scratch.ensures.1)
