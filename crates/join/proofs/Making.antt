-- The calls of a list, made; and those of two lists, one behind the other.
use Prim.Native.Nat.{ℕ, ◌+◌, ◌-◌, ◌≤◌, ◌<◌}
use native.Mathlib.Omega.{arith}
use mathlib.Core.Path.{◌≡◌, refl, sym, ap, ◌∙◌}
use mathlib.Core.List.{List, [], ◌∷◌, ◌++◌}
use mathlib.Core.Option.{some}
use lib.ListN.{length, length-append, length-map}
use Rattle.model.specs.MagicString.{MagicString}
use Rattle.model.specs.Limits.{Limits}
use Rattle.model.specs.Call.{Edit, after}
use Rattle.model_cuts.proofs.Growth.{all_cuts_counted}
use Rattle.model_sheet.specs.Record.{Recorded, records}
use Rattle.model_sheet.specs.Sheet.{call_of, recorded_calls}
use Rattle.model_join.proofs.Lists.{same_some}
use Rattle.model_join.proofs.Joining.{after_append}
use Rattle.memory_table.specs.Order.{count_of}
use Rattle.memory.specs.Layout.{magic_string_of}
use Rattle.memory.specs.WellFormed.{limits_of, Lengths, WellFormed}
use Rattle.memory.specs.Calls.{Same}
use Rattle.memory.proofs.Desks.{limits_as, chunk_count, all_same}
use Rattle.sheet_records.specs.Found.{Counted}
use Rattle.sheet_run.specs.RanAll.{RanRecords}
use Rattle.join.specs.Ran.{Made, RanList, RanBoth}

-- how many calls a list has
calls_count : {r : List ℕ} {most n : ℕ} → Counted r most n → (l : List Recorded) → records r ≡ some l → length (recorded_calls l) ≡ n
calls_count c l e = length-map l call_of ∙ ap length (same_some e c.are) ∙ c.count

-- no elements
none_of : {A : Type 0} (l : List A) → length l ≡ 0 → l ≡ []
none_of [] h = refl
none_of (x ∷ l) h = absurd (omega arith)

module _ {r source t p s : List ℕ} {most n : ℕ} (c : Counted r most n) where
  -- there are calls, and they are made
  pub made_some : {a t' p' s' a' : List ℕ} → 0 < n → RanRecords r source t p s a t' p' s' a' → RanList r source t p s t' p' s'
  made_some h all l e =
      let x = all l e in
      record { desk_is = x.desk_is; well_formed = x.well_formed; no_calls = λ q. absurd (omega (arith, ap length q, calls_count c l e)) }

  -- there is none, and nothing is done
  pub made_none : WellFormed source t p s → n ≡ 0 → RanList r source t p s t p s
  made_none w h l e =
      let q : recorded_calls l ≡ [] = none_of (recorded_calls l) (calls_count c l e ∙ h) in
      record { desk_is = sym (ap (λ (L : List Edit). after (limits_of t p s) L (magic_string_of source t p s)) q); well_formed = w; no_calls = λ _. all_same t p s }

-- ── two lists ──
same_then : {t p s t₁ p₁ s₁ t' p' s' : List ℕ} → Same t p s t₁ p₁ s₁ → Same t₁ p₁ s₁ t' p' s' → Same t p s t' p' s'
same_then a b = record { chunks = b.chunks ∙ a.chunks; pieces = b.pieces ∙ a.pieces; store = b.store ∙ a.store }

made_then : {L L' : List Edit} {source t p s t₁ p₁ s₁ t' p' s' : List ℕ} → Lengths t p s t₁ p₁ s₁ → Made L source t p s t₁ p₁ s₁ → Made L' source t₁ p₁ s₁ t' p' s'
    → Made (L ++ L') source t p s t' p' s'
made_then {L} {L'} {source} {t} {p} {s} {t₁} {p₁} {s₁} k a b =
    let desk : magic_string_of source t₁ p₁ s₁ ≡ after (limits_of t p s) L (magic_string_of source t p s) = a.desk_is in
    record {
      desk_is =
          b.desk_is ∙ ap (λ (j : Limits). after j L' (magic_string_of source t₁ p₁ s₁)) (limits_as k) ∙ ap (after (limits_of t p s) L') desk
          ∙ sym (after_append (limits_of t p s) L L' (magic_string_of source t p s));
      well_formed = b.well_formed;
      no_calls = λ q.
          let z : length L + length L' ≡ 0 = sym (length-append L L') ∙ ap length q in
          same_then (a.no_calls (none_of L (omega arith))) (b.no_calls (none_of L' (omega arith)));
    }

-- the desk does not lose a chunk
made_grows : {L : List Edit} {source t p s t' p' s' : List ℕ} → WellFormed source t p s → Made L source t p s t' p' s' → count_of t ≤ count_of t'
made_grows {L} {source} {t} {p} {s} {t'} {p'} {s'} w a =
    omega (
      arith,
      all_cuts_counted (limits_of t p s) L (magic_string_of source t p s) w.desk,
      ap (λ (m : MagicString). length m.chunks) a.desk_is,
      chunk_count source t p s,
      chunk_count source t' p' s',
    )

module _ {first second source t p s t₁ p₁ s₁ t' p' s' : List ℕ} {most n m : ℕ} (c : Counted first most n) (d : Counted second most m) (w : WellFormed source t p s)
    (k : Lengths t p s t₁ p₁ s₁) (a : RanList first source t p s t₁ p₁ s₁) (b : RanList second source t₁ p₁ s₁ t' p' s') where
  -- what the first list leaves
  pub between : WellFormed source t₁ p₁ s₁
  between = (a c.list c.are).well_formed

  both : (l l' : List Recorded) → records first ≡ some l → records second ≡ some l' → Made (recorded_calls l ++ recorded_calls l') source t p s t' p' s'
  both l l' e e' = made_then k (a l e) (b l' e')

  pub grows : count_of t ≤ count_of t'
  grows = made_grows w (both c.list d.list c.are d.are)

  pub ran_both : {cuts : ℕ} → cuts ≡ count_of t' - count_of t → RanBoth first second source t p s t' p' s' cuts
  ran_both q l l' e e' = record { made = both l l' e e'; growth = omega (arith, grows) }
