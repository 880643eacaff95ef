-- A join's answer, number by number.
use Prim.Native.Nat.{ℕ, zero, suc}
use native.Mathlib.Omega.{arith}
use mathlib.Core.Path.{◌≡◌, refl, sym, ap, ◌∙◌}
use mathlib.Core.List.{List, ◌++◌}
use mathlib.Core.Option.{none, some}
use lib.ListN.{length}
use Rattle.model.specs.MagicString.{MagicString}
use Rattle.model.specs.Call.{Edit, Outcome, after}
use Rattle.model_sheet.specs.Sheet.{recorded_calls, refused_by}
use Rattle.model_join.specs.Join.{list, both_lists, refused_join, joined}
use Rattle.model_join.proofs.Lists.{same_some, first_none, second_none, both_read}
use Rattle.model_join.proofs.Joining.{join_none, join_some, read_refused, read_joined}
use Rattle.memory.specs.Layout.{magic_string_of}
use Rattle.memory.specs.WellFormed.{limits_of, Lengths, WellFormed}
use Rattle.memory.specs.declared.Answer.{Answer}
use Rattle.memory.proofs.Desks.{chunk_count, same_lengths, all_same}
use Rattle.join_lists.specs.Judged.{ListIs}
use Rattle.join_lists.specs.Promises.{outcome, Joins}
use Rattle.join_refused.specs.Refused.{RefusedWith}
use Rattle.join.specs.Ran.{RanBoth}

module _ {first second source t p s : List ℕ} (w : WellFormed source t p s) where
  -- a refusal leaves every byte
  joins_refused : {r : Answer} (n : ℕ) → outcome first second source t p s ≡ refused_by n (magic_string_of source t p s) → r.number ≡ n → r.value ≡ 0
      → Joins first second source t p s t p s r
  joins_refused n q e v =
      record {
        number_is = e ∙ sym (ap (λ (o : Outcome). o.shown.number) q);
        value_is = v ∙ sym (ap (λ (o : Outcome). o.shown.value) q);
        desk_is = sym (ap (λ (o : Outcome). o.desk) q);
        well_formed = w;
        lengths = same_lengths t p s;
        refused = λ _. all_same t p s;
        no_calls = λ _. all_same t p s;
      }

  -- 16, for either list
  pub joins_first : list first ≡ none → {r : Answer} → (r.number ≡ 16) × (r.value ≡ 0) → Joins first second source t p s t p s r
  joins_first e h = joins_refused 16 (join_none (limits_of t p s) (magic_string_of source t p s) first second (first_none first second e)) h.0 h.1

  pub joins_second : list second ≡ none → {r : Answer} → (r.number ≡ 16) × (r.value ≡ 0) → Joins first second source t p s t p s r
  joins_second e h = joins_refused 16 (join_none (limits_of t p s) (magic_string_of source t p s) first second (second_none first second e)) h.0 h.1

  module _ {n m : ℕ} (f : ListIs first n) (g : ListIs second m) where
    abbrev L : List Edit
    L = recorded_calls f.counted.list ++ recorded_calls g.counted.list

    are : both_lists first second ≡ some L
    are = both_read first second f.is g.is

    module _ {i : ℕ} (x : RefusedWith first second source t p s i) where
      number : i ≡ refused_join (limits_of t p s) (magic_string_of source t p s) L
      number = x f.counted.list g.counted.list f.counted.are g.counted.are

      -- 18, 19 and 13
      pub joins_broken : (i ≡ 0 → ⊥) → {r : Answer} → (r.number ≡ i) × (r.value ≡ 0) → Joins first second source t p s t p s r
      joins_broken h {r} e = go i refl
        where
          go : (j : ℕ) → i ≡ j → Joins first second source t p s t p s r
          go zero q = absurd (h q)
          go (suc j) q =
              let k = limits_of t p s in
              let d = magic_string_of source t p s in
              joins_refused (suc j) (join_some k d first second are ∙ read_refused k d L j (sym number ∙ q)) (e.0 ∙ q) e.1

      -- joined
      pub joins_done : {t' p' s' : List ℕ} {cuts : ℕ} → i ≡ 0 → Lengths t p s t' p' s' → RanBoth first second source t p s t' p' s' cuts
          → Joins first second source t p s t' p' s' (record { number = 0; value = cuts })
      joins_done {t'} {p'} {s'} {cuts} z same ran =
          let k = limits_of t p s in
          let d = magic_string_of source t p s in
          let x = ran f.counted.list g.counted.list f.counted.are g.counted.are in
          let q : outcome first second source t p s ≡ joined k L d = join_some k d first second are ∙ read_joined k d L (sym number ∙ z) in
          let desk : magic_string_of source t' p' s' ≡ after k L d = x.made.desk_is in
          let before = chunk_count source t p s in
          let behind = ap (λ (o : MagicString). length o.chunks) (sym desk) ∙ chunk_count source t' p' s' in
          record {
            number_is = sym (ap (λ (o : Outcome). o.shown.number) q);
            value_is = omega (arith, x.growth, before, behind) ∙ sym (ap (λ (o : Outcome). o.shown.value) q);
            desk_is = desk ∙ sym (ap (λ (o : Outcome). o.desk) q);
            well_formed = x.made.well_formed;
            lengths = same;
            refused = λ h. absurd (h refl);
            no_calls = λ e. x.made.no_calls (same_some are e);
          }
