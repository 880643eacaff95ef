-- The walk over a list of records, place by place.
use Prim.Native.Nat.{ℕ, ◌+◌, ◌≤◌, ◌<◌}
use mathlib.Core.Path.{◌≡◌, refl, sym, ap, ◌∙◌}
use mathlib.Core.List.{List, [], ◌∷◌, ◌++◌, append_assoc, append-nil}
use mathlib.Core.Option.{Option, none, some, map}
use lib.ListN.{length, take, drop, length-append, length-drop, drop_of_length-le}
use native.Mathlib.Omega.{arith}
use native.Mathlib.Decide.{dec_lt}
use Rattle.model.proofs.Lists.{sum_snoc}
use Rattle.model_sheet.specs.Record.{Recorded, extent, record_at, next_record, records, text_size}
use Rattle.model_sheet.proofs.Whole.{whole_of}
use Rattle.model_sheet.proofs.Records.{records_none, records_some, records_end}
use Rattle.model_sheet.proofs.Upto.{records_upto}
use Rattle.sheet_records.specs.Found.{Taken, Next, Measured}

-- what reading the next record says of the record
next_inverse : (s : List ℕ) (r : Recorded) (rest : List ℕ) → next_record s ≡ some (r, rest) → (record_at s ≡ some r) × (drop (extent s) s ≡ rest)
unfolding next_record
next_inverse s r rest e = go (record_at s) refl e
  where
    go : (o : Option Recorded) → record_at s ≡ o → map {B = Recorded × List ℕ} (λ q. (q, drop (extent s) s)) o ≡ some (r, rest)
        → (record_at s ≡ some r) × (drop (extent s) s ≡ rest)
    go none h f = let z : ◌≡◌ {A = ℕ} 0 1 = cc in absurd (omega arith)
    go (some q) h f =
        let same : ◌≡◌ {A = Recorded × List ℕ} (q, drop (extent s) s) (r, rest) = cc in
        (h ∙ ap (λ (x : Recorded × List ℕ). some x.0) same, ap (λ (x : Recorded × List ℕ). x.1) same)

pub next_missing : (s : List ℕ) → next_record s ≡ none → record_at s ≡ none
unfolding next_record
next_missing s e = go (record_at s) refl e
  where
    go : (o : Option Recorded) → record_at s ≡ o → map {B = Recorded × List ℕ} (λ q. (q, drop (extent s) s)) o ≡ none → record_at s ≡ none
    go none h f = h
    go (some q) h f = let z : ◌≡◌ {A = ℕ} 0 1 = cc in absurd (omega arith)

-- ── one step: the records from a place on ──
-- no records behind the last byte
pub records_past : (s : List ℕ) (at : ℕ) → length s ≤ at → records (drop at s) ≡ some []
records_past s at h = ap records (drop_of_length-le s {i = at} h) ∙ records_end

-- none, if what stands there is no record
pub records_bad : (s : List ℕ) (at : ℕ) → at < length s → next_record (drop at s) ≡ none → records (drop at s) ≡ none
records_bad s at h e = records_none (drop at s) (omega (arith, length-drop at s)) (next_missing (drop at s) e)

-- the record that stands there, and those from the place behind it on
pub records_taken : {s : List ℕ} {at : ℕ} {r : Recorded} {next : ℕ} → Taken s at r next
    → records (drop at s) ≡ map (λ l. r ∷ l) (records (drop next s))
records_taken {s} {at} {r} {next} g =
    let h = next_inverse (drop at s) r (drop next s) g.one in
    records_some (drop at s) r h.0 ∙ ap (λ x. map (λ l. r ∷ l) (records x)) h.1

-- ── where a record stands, the reader finds one ──
pub not_bad : {X : Type 0} (r : List ℕ) (at : ℕ) → Next r at → at < length r → next_record (drop at r) ≡ none → X
not_bad r at x h e = let here = x.are in let nothing = records_bad r at h e in let z : ◌≡◌ {A = ℕ} 0 1 = cc in absurd (omega arith)

pub not_end : {X : Type 0} (r : List ℕ) (at : ℕ) → Next r at → length r ≤ at → X
not_end r at x h = let here = x.are in let nothing = records_past r at h in let z : ◌≡◌ {A = ℕ} 0 1 = cc in absurd (omega arith)

-- neither, whichever it is that gives none
pub not_none : {X : Type 0} (r : List ℕ) (at : ℕ) → Next r at → next_record (drop at r) ≡ none → X
not_none r at x e = elim (dec_lt at (length r)) [ yes h ↦ not_bad r at x h e | no h ↦ not_end r at x (omega arith) ]

-- its own bytes, and the place behind them
pub taken_one : {s : List ℕ} {at : ℕ} {r : Recorded} {next : ℕ} → Taken s at r next
    → (record_at (drop at s) ≡ some r) × (next ≡ at + extent (drop at s))
taken_one {s} {at} {r} {next} g =
    let h = next_inverse (drop at s) r (drop next s) g.one in
    let w = (whole_of (drop at s) r h.0).0 in
    let there = w.there in
    let starts = g.text_inside in
    let behind = g.there in
    let size : length (drop (extent (drop at s)) (drop at s)) ≡ length (drop next s) = ap length h.1 in
    (h.0, omega (arith, length-drop (extent (drop at s)) (drop at s), length-drop at s, length-drop next s))

-- ── the walk ──
-- n records stand before a place of s, with m bytes of text, so that the records of s are these and those from there on
pub record Walked (s : List ℕ) (at n m : ℕ) : Type 0 where
  pub list : List Recorded
  pub upto : records (take at s) ≡ some list
  pub all : records s ≡ map (λ l. list ++ l) (records (drop at s))
  pub count : length list ≡ n
  pub text : text_size list ≡ m
  pub less : m ≤ at
  pub within : at ≤ length s

map_nil : (o : Option (List Recorded)) → o ≡ map (λ l. [] ++ l) o
map_nil none = refl
map_nil (some l) = refl

map_snoc : (m : List Recorded) (r : Recorded) (o : Option (List Recorded))
    → map (λ l. m ++ l) (map (λ l. r ∷ l) o) ≡ map (λ l. (m ++ (r ∷ [])) ++ l) o
map_snoc m r none = refl
map_snoc m r (some l) = ap {B = Option (List Recorded)} some (sym (append_assoc m (r ∷ []) l))

pub walk_start : (s : List ℕ) → Walked s 0 0 0
walk_start s = record { list = []; upto = records_end; all = map_nil (records s); count = refl; text = refl; less = omega arith; within = omega arith }

module _ {s : List ℕ} {at n m : ℕ} (w : Walked s at n m) where
  -- by what stands from the place on
  pub walk_rest : {o : Option (List Recorded)} → records (drop at s) ≡ o → records s ≡ map (λ l. w.list ++ l) o
  walk_rest e = w.all ∙ ap (map (λ l. w.list ++ l)) e

  pub walk_end : (most : ℕ) → n ≤ most → length s ≤ at → Measured s most n m
  walk_end most few h =
      record {
        counted = record { list = w.list ++ []; are = walk_rest (records_past s at h); count = omega (arith, length-append w.list [], w.count); few = few };
        text = ap text_size (append-nil w.list) ∙ w.text;
      }

  pub walk_bad : at < length s → next_record (drop at s) ≡ none → {X : Type 0} (l : List Recorded) → records s ≡ some l → X
  walk_bad h e l q =
      let nothing : records s ≡ none = walk_rest (records_bad s at h e) in
      let z : ◌≡◌ {A = ℕ} 0 1 = cc in
      absurd (omega arith)

  pub walk_turn : {r : Recorded} {next : ℕ} → Taken s at r next → Walked s next (n + 1) (m + length r.text)
  walk_turn {r} {next} g =
      let one = taken_one g in
      let starts = g.text_inside in
      let less = w.less in
      record {
        list = w.list ++ (r ∷ []);
        upto = records_upto s at next w.upto one.0 one.1;
        all = walk_rest (records_taken g) ∙ map_snoc w.list r (records (drop next s));
        count = omega (arith, length-append w.list (r ∷ []), w.count);
        text = sum_snoc (λ (x : Recorded). length x.text) w.list r ∙ ap (λ x. x + length r.text) w.text;
        less = omega arith;
        within = g.there;
      }

  -- more records than were counted
  pub walk_full : (most : ℕ) → n ≡ most + 1 → (l : List Recorded) → records s ≡ some l → most < length l
  walk_full most full l q = go (records (drop at s)) refl
    where
      go : (o : Option (List Recorded)) → records (drop at s) ≡ o → most < length l
      go none e = let h = walk_rest e in let z : ◌≡◌ {A = ℕ} 0 1 = cc in absurd (omega arith)
      go (some m) e = let h = walk_rest e in let same : l ≡ w.list ++ m = cc in omega (arith, ap length same, length-append w.list m, w.count)
