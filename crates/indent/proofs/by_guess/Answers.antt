use mathlib.Core.Path.{refl}
use mathlib.Core.Option.{none}
use Rattle.memory.proofs.Desks.{valid_source, narrow_source}
use Rattle.indent.proofs.Call.{refused, none_ran}
use Rattle.indent.proofs.by_guess.Goals as goal

pub refused-requires : goal.refused-requires
refused-requires c = let w = c.requires.desk.well_formed in record { source_value = valid_source w; linked = w.readable.linked }

pub returns-in-Err : goal.returns-in-Err
returns-in-Err c = refused _ _ _ _ _ c.requires.exclude_value c.in-Err.ensures none refl c.requires.desk c.in-Err.refusal refl

pub guess_indentor-g-requires : goal.guess_indentor-g-requires
guess_indentor-g-requires c = narrow_source c.requires.desk.well_formed

pub returns : goal.returns
returns c =
    let ran = none_ran _ _ _ _ _ c.requires.exclude_value c.in_default.ensures refl _ c.guessed-indentor.ensures c.indent_scratch.ensures.0 in
    record { ran = ran; above = c.indent_scratch.ensures.1 }
