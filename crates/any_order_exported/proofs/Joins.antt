-- What the any_order rule says of the exported join.
use mathlib.Core.Path.{◌≡◌, sym, ap, ◌∙◌, subst}
use Rattle.model.specs.MagicString.{MagicString}
use Rattle.model.specs.Call.{Outcome, after}
use Rattle.model_join.specs.Join.{join}
use Rattle.model_join.proofs.Lists.{same_some}
use Rattle.model_join.proofs.Joining.{join_some, read_joined}
use Rattle.any_order.specs.Claim.{Premises}
use Rattle.any_order.proofs.Theorem.{any_order}
use Rattle.any_order_join.specs.Claim.{OfBoth}
use Rattle.any_order_join.proofs.Theorem.{number_is, join_numbers, join_commutes}
use Rattle.any_order_exported.specs.Runs.{desk_of, limits}
use Rattle.any_order_exported.specs.Joins.{JoinExported}
use Rattle.any_order_exported.proofs.Follow.{follows}

pub join_exported : JoinExported
join_exported source first second T w a T₁ call =
    let k = limits T in
    let m : MagicString = desk_of source T in
    let formed = w.well_formed.desk in
    let done = call.well_formed w in
    let told = (join_numbers k m first second formed).accepted in
    record {
      accepted = (λ z. told.0 (sym done.number_is ∙ z), λ p. done.number_is ∙ told.1 p);
      one_by_one = λ z L L' e o answers T₂ r.
          let met : OfBoth (Premises k m) first second = told.0 (sym done.number_is ∙ z) in
          let p : Premises k m L = subst (Premises k m) (same_some met.1 e) met.2 in
          let c = any_order k m L p L' o in
          let f = follows r w in
          let is = join_some k m first second e ∙ read_joined k m L (sym (number_is k m first second e) ∙ sym done.number_is ∙ z) in
          let left : desk_of source T₁ ≡ after k L m = done.desk_is ∙ ap (λ (x : Outcome). x.desk) is in
          (f.accepted c.accepted, f.desk ∙ c.desk ∙ sym left);
      exchanged = λ b T₂ other.
          let done' = other.well_formed w in
          let same : join k second first m ≡ join k first second m = join_commutes k m first second formed in (
            done'.number_is ∙ ap (λ (x : Outcome). x.shown.number) same ∙ sym done.number_is,
            done'.value_is ∙ ap (λ (x : Outcome). x.shown.value) same ∙ sym done.value_is,
            done'.desk_is ∙ ap (λ (x : Outcome). x.desk) same ∙ sym done.desk_is,
          );
    }
