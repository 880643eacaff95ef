-- The value of an exported edit, by its contract and the law of the model's cuts.
use mathlib.Core.Path.{ap, sym, ◌∙◌}
use Prim.Native.Nat.{ℕ}
use native.Mathlib.Omega.{arith}
use lib.ListN.{length}
use Rattle.model.specs.MagicString.{MagicString}
use Rattle.model.specs.Call.{may_change}
use Rattle.memory.specs.Layout.{magic_string_of}
use Rattle.memory.specs.WellFormed.{limits_of}
use Rattle.model_preservation.proofs.Refusals.{refusal_changes_nothing}
use Rattle.model_cuts.proofs.Growth.{cuts_counted}
use Rattle.magic_string_numbers.specs.Cuts.{EditedCuts}

pub edited_cuts : EditedCuts
edited_cuts e source t p s t' p' s' number value x w =
    let m = magic_string_of source t p s in
    let k = limits_of t p s in
    let ran = x.well_formed w in
    let f = w.well_formed.desk.formed in
    let c = cuts_counted k e m f in
    let chunks : MagicString → ℕ = λ d. length d.chunks in
    record {
      made = omega (arith, ran.value_is, c.growth);
      few = omega (arith, ran.value_is, c.few);
      growth = ap chunks ran.desk_is ∙ ran.value_is;
      unchanged = λ z. omega (arith, ran.value_is, ap chunks (refusal_changes_nothing k e m f (sym (ap (may_change e) ran.number_is) ∙ z)));
    }
