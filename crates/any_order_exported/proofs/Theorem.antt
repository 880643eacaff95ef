-- The any_order rule of the exported functions.
use mathlib.Core.Path.{◌≡◌, refl, sym, ap, ◌∙◌, subst}
use mathlib.Core.List.{List, ◌++◌, map}
use lib.ListN.{length, drop}
use Rattle.model.specs.MagicString.{MagicString, to_string}
use Rattle.model.specs.Limits.{Limits}
use Rattle.model.specs.Call.{Shown, after}
use Rattle.model_calls.specs.Call.{on_desk}
use Rattle.memory.proofs.Desks.{limits_full}
use Rattle.any_order.specs.Claim.{AllAccepted}
use Rattle.any_order.proofs.Theorem.{any_order}
use Rattle.any_order_exported.specs.Runs.{desk_of, limits, Seen}
use Rattle.any_order_exported.specs.Claim.{Gave, AllGave, nil, cons, FinalText, AnyOrderExported}
use Rattle.any_order_exported.proofs.Follow.{expected, follows, gives, final_text}

pub any_order_exported : AnyOrderExported
any_order_exported source T T' w w' same L L₁ L₂ p o₁ o₂ answers answers' T₁ T₂ r₁ r₂ =
    let k = limits T in
    let m : MagicString = desk_of source T in
    let u : limits T' ≡ k = limits_full w'.full ∙ sym (limits_full w.full) in
    let c₁ = any_order k m L p L₁ o₁ in
    let c₂ = any_order k m L p L₂ o₂ in
    let f₁ = follows r₁ w in
    let f₂ = follows r₂ w' in
    let d₁ : desk_of source T₁ ≡ after k L₁ m = f₁.desk in
    let d₂ : desk_of source T₂ ≡ after k L₂ m = f₂.desk ∙ ap (λ (j : Limits). after j L₂ (desk_of source T')) u ∙ sym (ap (after k L₂) same) in
    let text₁ : to_string (desk_of source T₁) ≡ to_string (after k L m) = ap to_string d₁ ∙ c₁.text in
    let text₂ : to_string (desk_of source T₂) ≡ to_string (after k L m) = ap to_string d₂ ∙ c₂.text in
    record {
      accepted = f₁.accepted c₁.accepted;
      accepted' = f₂.accepted (subst (λ (j : Limits). AllAccepted j L₂ (desk_of source T')) (sym u) (subst (AllAccepted k L₂) same c₂.accepted));
      holds = f₁.holds;
      holds' = f₂.holds;
      desk = d₁ ∙ c₁.desk ∙ sym (d₂ ∙ c₂.desk);
      text = final_text source T₁ f₁.holds;
      text' = subst (FinalText source T₂) (text₂ ∙ sym text₁) (final_text source T₂ f₂.holds);
      later = λ calls.
          let e₁ : expected (limits T₁) calls (desk_of source T₁) ≡ expected k calls (after k L m) =
          ap (λ (j : Limits). expected j calls (desk_of source T₁)) f₁.same ∙ ap (expected k calls) d₁ ∙ c₁.later (map on_desk calls) in
          let e₂ : expected (limits T₂) calls (desk_of source T₂) ≡ expected k calls (after k L m) =
          ap (λ (j : Limits). expected j calls (desk_of source T₂)) (f₂.same ∙ u) ∙ ap (expected k calls) d₂ ∙ c₂.later (map on_desk calls) in (
            expected k calls (after k L m),
            (λ seen a. subst (AllGave seen) e₁ (gives a f₁.holds)),
            (λ seen b. subst (AllGave seen) e₂ (gives b f₂.holds)),
          );
    }

-- ── `Alike.later` where the same buffers are lent after either order: all that is seen is the same, every byte of the buffers too ──
same_gave : (x y : Seen) (s : Shown) → Gave x s → Gave y s → x.before ≡ y.before → x ≡ y
same_gave x y s g h e =
    let n = g.number ∙ sym h.number in
    let v = g.value ∙ sym h.value in
    let b = g.buffer ∙ ap (λ l. s.written ++ drop (length s.written) l) e ∙ sym h.buffer in
    λ i. record { answer = record { number = n i; value = v i }; before = e i; after = b i }

pub same_seen : {seen seen' : List Seen} {shown : List Shown} → AllGave seen shown → AllGave seen' shown
    → map (λ (x : Seen). x.before) seen ≡ map (λ (x : Seen). x.before) seen' → seen ≡ seen'
same_seen nil nil e = refl
same_seen (cons {x = x} {s = s} g gs) (cons {x = y} h hs) e =
    let first : x.before ≡ y.before = cc in
    let one : x ≡ y = same_gave x y s g h first in
    let rest = same_seen gs hs (cc) in
    cc
