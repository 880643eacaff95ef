-- A sheet's answer, number by number.
use Prim.Native.Nat.{ℕ, zero, suc, ◌≤◌, ◌<◌}
use mathlib.Core.Path.{◌≡◌, refl, sym, ap, ap₂, subst, ◌∙◌}
use mathlib.Core.List.{List, [], ◌++◌}
use mathlib.Core.Option.{none}
use lib.ListN.{length, drop}
use borrow.Author.Tests.{le-leb}
use native.Mathlib.Omega.{arith}
use Rattle.model.specs.MagicString.{new}
use Rattle.model.specs.Limits.{Limits, full}
use Rattle.model.specs.Call.{after, answers, opened, Outcome}
use Rattle.model_sheet.specs.Sheet.{Sheet, source_of, sheet, recorded_calls, refused_by, all_made}
use Rattle.model_sheet.proofs.Runs.{run_none, run_some, run_refused, run_short, run_made, answers_length}
use Rattle.memory.specs.Layout.{magic_string_of}
use Rattle.memory.specs.WellFormed.{limits_of, WellFormed}
use Rattle.memory.specs.declared.Answer.{Answer}
use Rattle.memory.proofs.Desks.{limits_as, all_same}
use Rattle.memory_used.specs.declared.Used.{Used}
use Rattle.open.specs.OpenedWith.{Opens, NewDesk}
use Rattle.sheet_records.specs.Found.{Counted}
use Rattle.sheet_records.specs.SheetFound.{SheetIs}
use Rattle.sheet_records.proofs.Parts.{source_part, records_part, source_is, records_are}
use Rattle.sheet_run.specs.RanAll.{RanAll, RanRecords}
use Rattle.sheet_run.specs.SheetRan.{outcome, SheetDone}

-- a source that is opened becomes the new desk
opened_desk : (k : Limits) (source : List ℕ) → k.most_source ≡ full.most_source → Opens source 0 → (opened k source (new [])).desk ≡ new source
unfolding opened
opened_desk k source e o =
    let h : length source ≤ k.most_source = subst (λ n. length source ≤ n) (sym e) (o.fits refl) in
    rw (le-leb (length source) k.most_source h, o.text refl) refl

-- the number of the opening is the same in tables of all sizes
number_with : (source t p s : List ℕ) {n : ℕ} → Opens source n → n ≡ (opened (limits_of t p s) source (new [])).number
unfolding opened
number_with source t p s h = h.number_is

pub records_counted : {s : List ℕ} {n c : ℕ} → SheetIs s n c → (room : ℕ) → c ≤ room → Counted (records_part s n) room c
records_counted {s} {n} g room h = record { list = g.list; are = records_are s n g.size ∙ g.are; count = g.count; few = h }

module _ (s t p st a : List ℕ) where
  -- a refusal leaves every byte
  refused_done : (n : ℕ) {r : Answer} → r.number ≡ suc n → r.value ≡ 0 → outcome s t p st a ≡ refused_by (suc n) (new []) → SheetDone s t p st a t p st a r
  refused_done n e v q =
      record {
        number_is = e ∙ sym (ap (λ (o : Outcome). o.shown.number) q);
        value_is = v ∙ sym (ap (λ (o : Outcome). o.shown.value) q);
        written = sym (ap (λ (o : Outcome). o.shown.written ++ drop (length o.shown.written) a) q);
        desk_is = λ z. absurd (omega arith);
        well_formed = λ z. absurd (omega arith);
        refused = λ _. all_same t p st;
      }

  pub done_16 : sheet s ≡ none → {r : Answer} → (r.number ≡ 16) × (r.value ≡ 0) → SheetDone s t p st a t p st a r
  done_16 e h = refused_done 15 h.0 h.1 (run_none (limits_of t p st) (length a) (new []) s e)

  module _ {n c : ℕ} (g : SheetIs s n c) where
    abbrev read : Sheet
    read = record { source = source_of s; list = g.list }

    -- the number of the opening
    number : {m : ℕ} → Opens (source_part s n) m → m ≡ (opened (limits_of t p st) (source_of s) (new [])).number
    number o = number_with (source_part s n) t p st o ∙ ap (λ x. (opened (limits_of t p st) x (new [])).number) (source_is s n g.size)

    pub done_open : {m : ℕ} → Opens (source_part s n) m → (m ≡ 0 → ⊥) → {r : Answer} → (r.number ≡ m) × (r.value ≡ 0) → SheetDone s t p st a t p st a r
    done_open {m} o h {r} e = go m refl
      where
        go : (i : ℕ) → m ≡ i → SheetDone s t p st a t p st a r
        go zero q = absurd (h q)
        go (suc i) q =
            refused_done i (e.0 ∙ q) e.1 (run_some (limits_of t p st) (length a) (new []) s g.is
            ∙ run_refused (limits_of t p st) (length a) (new []) read i (sym (number o) ∙ q))

    pub done_14 : Opens (source_part s n) 0 → length a < c → {r : Answer} → (r.number ≡ 14) × (r.value ≡ 0) → SheetDone s t p st a t p st a r
    done_14 o h e =
        refused_done 13 e.0 e.1 (run_some (limits_of t p st) (length a) (new []) s g.is
        ∙ run_short (limits_of t p st) (length a) (new []) read (sym (number o)) (omega (arith, g.count)))

    pub done_0 : {t₁ t' p' s' a' : List ℕ} {u : Used} → Opens (source_part s n) 0 → NewDesk (source_part s n) t₁ p st u → length t₁ ≡ length t → c ≤ length a
        → RanRecords (records_part s n) (source_part s n) t₁ p st a t' p' s' a' → SheetDone s t p st a t' p' s' a' (record { number = 0; value = c })
    done_0 {t₁} {t'} {p'} {s'} {a'} o d same h all =
        let k = limits_of t p st in
        let l = g.list in
        let x : RanAll l (source_part s n) t₁ p st a t' p' s' a' = all l (records_are s n g.size ∙ g.are) in
        let limits : limits_of t₁ p st ≡ k = limits_as {t = t} {p = p} {s = st} {t' = t₁} {p' = p} {s' = st} (record { chunks = same; pieces = refl; store = refl }) in
        let desk : magic_string_of (source_part s n) t₁ p st ≡ new (source_of s) = d.desk_is ∙ ap new (source_is s n g.size) in
        let fresh : (opened k (source_of s) (new [])).desk ≡ new (source_of s) = opened_desk k (source_of s) refl (subst (λ y. Opens y 0) (source_is s n g.size) o) in
        let made : outcome s t p st a ≡ all_made k l (new (source_of s)) =
        run_some k (length a) (new []) s g.is ∙ run_made k (length a) (new []) read (sym (number o)) (omega (arith, g.count)) ∙ ap (all_made k l) fresh in
        let count : length l ≡ c = g.count in
        record {
          number_is = sym (ap (λ (y : Outcome). y.shown.number) made);
          value_is = sym count ∙ sym (ap (λ (y : Outcome). y.shown.value) made);
          written =
              x.answers_are
              ∙ ap₂ (λ q m. answers q (recorded_calls l) m ++ drop (length l) a) limits desk
              ∙ ap (λ i. answers k (recorded_calls l) (new (source_of s)) ++ drop i a) (sym (answers_length k l (new (source_of s))))
              ∙ sym (ap (λ (y : Outcome). y.shown.written ++ drop (length y.shown.written) a) made);
          desk_is = λ _.
              ap (λ y. magic_string_of y t' p' s') (sym (source_is s n g.size)) ∙ x.desk_is ∙ ap₂ (λ q m. after q (recorded_calls l) m) limits desk ∙ sym (ap (λ (y : Outcome). y.desk) made);
          well_formed = λ _. subst (λ y. WellFormed y t' p' s') (source_is s n g.size) x.well_formed;
          refused = λ z. absurd (z refl);
        }
