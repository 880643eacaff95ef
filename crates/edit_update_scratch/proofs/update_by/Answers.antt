use mathlib.Core.Path.{◌≡◌, refl, ◌∙◌}
use Rattle.std.proofs.lemmas.Grind.{common_steps}
use Rattle.memory_layout.specs.Refusals.{number_of}
use native.Mathlib.Omega.{arith}
use Rattle.edit_scratch.proofs.Tables.{loaded_roomy}
use Rattle.edit_room_above.proofs.Finishing.{formed_usable}
use Rattle.edit_update_scratch.proofs.Ran.{update_readable, update_too_long, update_ran}
use Rattle.edit_update_scratch.proofs.update_by.Goals as goal

pub load-requires : goal.load-requires
load-requires c = (omega (arith, c.requires.well_formed.sized.chunks, c.requires.update_scratch.scratch.chunks), omega (arith, c.requires.well_formed.sized.pieces, c.requires.update_scratch.scratch.pieces), omega (arith, c.requires.well_formed.sized.store, c.requires.update_scratch.store))

pub update_steps-steps-requires : goal.update_steps-steps-requires
update_steps-steps-requires c = let w = c.requires.well_formed in let y = loaded_roomy w c.requires.update_scratch.scratch c.load.ensures in record { roomy = record { linked = y.linked; room = omega (arith, y.room); narrow = y.narrow }; byte_bound = c.requires.well_formed.sized.store; text_in_bounds = λ k. omega (arith, c.requires.update_scratch.store, c.load.auto.s, c.requires.well_formed.sized.store) }

pub counted-requires : goal.counted-requires
counted-requires c = formed_usable c.requires.well_formed

pub returns-then-eq : goal.returns-then-eq
returns-then-eq c =
    let w = c.requires.well_formed in
    let past : number_of c.update_steps-steps.result.status ≡ 13 = grind (arith, common_steps) in
    record {
      ran = rw (c.counted.ensures.0, c.counted.ensures.1, past, c.update_steps-steps.ensures.no_cuts past)
          (update_too_long c.requires.start_lt_end w c.requires.overwrite_value c.requires.update_scratch c.load.ensures c.update_steps-steps.ensures refl past);
      above = c.counted.ensures.2;
    }

pub finish-requires : goal.finish-requires
finish-requires c =
    let w = c.requires.well_formed in
    let within : number_of c.update_steps-steps.result.status ≡ 13 → ⊥ = grind (arith, common_steps) in
    record { readable = update_readable c.requires.start_lt_end w c.requires.overwrite_value c.requires.update_scratch c.load.ensures c.update_steps-steps.ensures refl within; usable = formed_usable w }

pub shape_of-t : goal.shape_of-t
shape_of-t c = c.update_steps-steps.auto.t ∙ c.load.auto.t

pub shape_of-p : goal.shape_of-p
shape_of-p c = c.load.auto.p

pub returns : goal.returns
returns c =
    let w = c.requires.well_formed in
    let within : number_of c.update_steps-steps.result.status ≡ 13 → ⊥ = grind (arith, common_steps) in
    record {
      ran = update_ran c.requires.start_lt_end w c.requires.overwrite_value c.requires.update_scratch c.load.ensures c.update_steps-steps.ensures refl within c.finish.ensures.0;
      above = c.finish.ensures.1;
    }
