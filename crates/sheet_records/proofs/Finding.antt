-- What reading at a place finds.
use Prim.Native.Nat.{ℕ, ◌+◌, ◌*◌, ◌-◌, ◌≤◌, ◌<◌}
use mathlib.Core.Path.{◌≡◌, sym, ap, ap₂, ◌∙◌}
use mathlib.Core.Bool.{true, false, true≢false}
use mathlib.Core.List.{List}
use mathlib.Core.Option.{none, some, map}
use lib.ListN.{length, get_or, take, drop, length-drop}
use lib.Seq.{get_or-drop, drop-drop, length-take-le}
use native.Mathlib.Omega.{arith}
use Rattle.model_sheet.specs.BigEndian.{number}
use Rattle.model_sheet.specs.Record.{Recorded, positions, front, fits, numbers, extent, parsed, record_at, next_record}
use Rattle.sheet_records.specs.Found.{Stands, Taken}
use Rattle.model_sheet.proofs.Whole.{Whole, fits_facts, facts_fits, of_whole, broken, parsed_fields, three}

pub next_some : (s : List ℕ) (r : Recorded) → record_at s ≡ some r → next_record s ≡ some (r, drop (extent s) s)
unfolding next_record
next_some s r e = ap (map (λ r. (r, drop (extent s) s))) e

pub next_none : (s : List ℕ) → record_at s ≡ none → next_record s ≡ none
unfolding next_record
next_none s e = ap (map (λ r. (r, drop (extent s) s))) e

-- ── a record stands there ──

pub record Room (k n : ℕ) : Type 0 where
  pub known : 0 < positions k
  pub room : front k ≤ n

pub stands_room : {s : List ℕ} {at k n : ℕ} → Stands s at k n → Room k n
stands_room {s} {at} {k} {n} h = let f = fits_facts k n h.good in record { known = f.0; room = f.1 }

whole_stands : {s : List ℕ} {at k n : ℕ} → Stands s at k n → Whole (drop at s)
whole_stands {s} {at} {k} {n} h =
    let f = fits_facts k n h.good in
    let third = h.third in
    let size = h.size in
    let there = h.there in
    record {
      known = rw third at f.0;
      room = rw (third, size) at f.1;
      tight = rw (third, size) at f.2;
      there = omega (arith, length-drop at s);
    }

pub taken_fields : {s : List ℕ} {at k n : ℕ} → Stands s at k n → (p a b c : ℕ) → p ≡ positions k
    → a ≡ get_or (numbers p (drop (at + 3) s)) 0 0 → b ≡ get_or (numbers p (drop (at + 3) s)) 1 0 → c ≡ get_or (numbers p (drop (at + 3) s)) 2 0
    → Taken s at (record { kind = k; a = a; b = b; c = c; text = take (at + n - (at + 3 + 4 * p)) (drop (at + 3 + 4 * p) s) }) (at + n)
taken_fields {s} {at} {k} {n} h p a b c ep ea eb ec =
    let d = drop at s in
    let room = (stands_room h).room in
    let size = h.size in
    let ps : numbers (positions (get_or d 2 0)) (drop 3 d) ≡ numbers p (drop (at + 3) s) =
    ap₂ (λ i l. numbers i l) (ap positions (sym h.third) ∙ sym ep) (drop-drop 3 at s) in
    let f : front (get_or d 2 0) ≡ 3 + 4 * p = ap front (sym h.third) ∙ ap (λ i. 3 + 4 * i) (sym ep) in
    let m : extent d - front (get_or d 2 0) ≡ at + n - (at + 3 + 4 * p) = omega arith in
    let start : at + front (get_or d 2 0) ≡ at + 3 + 4 * p = omega arith in
    let end : at + extent d ≡ at + n = omega arith in
    let t : drop (front (get_or d 2 0)) d ≡ drop (at + 3 + 4 * p) s = drop-drop (front (get_or d 2 0)) at s ∙ ap (λ i. drop i s) start in
    let behind : drop (extent d) d ≡ drop (at + n) s = drop-drop (extent d) at s ∙ ap (λ i. drop i s) end in
    let here : parsed d ≡ record { kind = k; a = a; b = b; c = c; text = take (at + n - (at + 3 + 4 * p)) (drop (at + 3 + 4 * p) s) } =
    parsed_fields d ∙ (λ i. record {
      kind = sym h.third i;
      a = (ap (λ l. get_or l 0 0) ps ∙ sym ea) i;
      b = (ap (λ l. get_or l 1 0) ps ∙ sym eb) i;
      c = (ap (λ l. get_or l 2 0) ps ∙ sym ec) i;
      text = ap₂ (λ x y. take x y) m t i;
    }) in
    record {
      one = next_some d (parsed d) (of_whole (whole_stands h)) ∙ (λ i. some (here i, behind i));
      text_inside = omega (arith, h.there, length-take-le (at + n - (at + 3 + 4 * p)) (drop (at + 3 + 4 * p) s) (omega (arith, h.there, length-drop (at + 3 + 4 * p) s)));
      there = h.there;
    }

-- ── no record stands there ──

module _ (s : List ℕ) (at : ℕ) where
  pub extent_at : (m : ℕ) → m ≡ number (take 2 (drop at s)) → 2 + m ≡ extent (drop at s)
  unfolding extent
  extent_at m e = ap (λ k. 2 + k) e

  pub kind_at : get_or s (at + 2) 0 ≡ get_or (drop at s) 2 0
  kind_at = sym (get_or-drop at s 2 0)

  pub too_short : length s - at < 3 → next_record (drop at s) ≡ none
  too_short h = next_none (drop at s) (broken (drop at s) (λ w. omega (arith, three (drop at s) w, length-drop at s)))

  pub cut_off : length s - at < extent (drop at s) → next_record (drop at s) ≡ none
  cut_off h = next_none (drop at s) (broken (drop at s) (λ w. let t = w.there in omega (arith, length-drop at s)))

  -- a byte of no kind
  pub no_kind : positions (get_or (drop at s) 2 0) ≡ 0 → next_record (drop at s) ≡ none
  no_kind e = next_none (drop at s) (broken (drop at s) (λ w. omega (arith, w.known)))

  pub unfit : (k n : ℕ) → k ≡ get_or (drop at s) 2 0 → n ≡ extent (drop at s) → fits k n ≡ false → next_record (drop at s) ≡ none
  unfit k n ek en e = next_none (drop at s) (broken (drop at s) (λ w.
      let yes : fits (get_or (drop at s) 2 0) (extent (drop at s)) ≡ true = facts_fits (get_or (drop at s) 2 0) (extent (drop at s)) w.known w.room w.tight in
      absurd (true≢false (sym yes ∙ ap₂ fits (sym ek) (sym en) ∙ e))))
