-- Lists of records in parts: one record by its own bytes, those before a place, and how many bytes they have.
use Prim.Native.Nat.{ℕ, ◌+◌, ◌*◌, ◌-◌, ◌≤◌}
use mathlib.Core.Path.{◌≡◌, sym, ap, ◌∙◌}
use mathlib.Core.List.{List, [], ◌∷◌, ◌++◌}
use mathlib.Core.Option.{Option, some, map}
use lib.ListN.{length, get_or, take, drop, length-drop, take-append-drop, drop_of_length-le}
use lib.Seq.{take-take, take-add, get_or-take, length-take-le}
use native.Mathlib.Omega.{arith}
use Rattle.model_sheet.specs.BigEndian.{number}
use Rattle.model_sheet.specs.Record.{Recorded, positions, front, extent, parsed, record_at, records, text_size}
use Rattle.model_sheet.proofs.Whole.{Whole, whole_of, of_whole, record_at_local, parsed_fields, positions_most, three}
use Rattle.model_sheet.proofs.Records.{Reads, done, next, reads, records_some, records_end, records_append}

-- ── a record by its own bytes ──
module _ (s : List ℕ) (w : Whole s) where
  own : List ℕ
  own = take (extent s) s

  long : 3 ≤ extent s
  long = let r = w.room in omega arith

  own_kind : get_or own 2 0 ≡ get_or s 2 0
  unfolding own
  own_kind = get_or-take (extent s) s 2 0 (omega (arith, long))

  own_extent : extent own ≡ extent s
  unfolding own extent
  own_extent = let h = long in ap (λ l. 2 + number l) (take-take 2 (2 + number (take 2 s)) s (omega arith))

  whole_own : Whole own
  unfolding own
  whole_own =
      let k : get_or (take (extent s) s) 2 0 ≡ get_or s 2 0 = own_kind in
      let e : extent (take (extent s) s) ≡ extent s = own_extent in
      record {
        known = rw k w.known;
        room = rw (k, e) w.room;
        tight = rw (k, e) w.tight;
        there = rw e (omega (arith, length-take-le (extent s) s w.there));
      }

-- its bytes alone are it
pub record_own : (s : List ℕ) (r : Recorded) → record_at s ≡ some r → record_at (take (extent s) s) ≡ some r
unfolding own
record_own s r e =
    let w = (whole_of s r e).0 in
    let o : record_at (take (extent s) s) ≡ some (parsed (take (extent s) s)) = of_whole (whole_own s w) in
    let l = record_at_local (take (extent s) s) (drop (extent s) s) (parsed (take (extent s) s)) o in
    let all : record_at s ≡ some (parsed (take (extent s) s)) = ap record_at (sym (take-append-drop (extent s) s)) ∙ l in
    o ∙ sym all ∙ e

-- and one record as a list
pub records_one : (s : List ℕ) (r : Recorded) → record_at s ≡ some r → extent s ≡ length s → records s ≡ some (r ∷ [])
records_one s r e h =
    records_some s r e ∙ ap (λ l. map (λ m. r ∷ m) (records l)) (drop_of_length-le s {i = extent s} (omega arith)) ∙ ap (map (λ m. r ∷ m)) records_end

-- ── before a place ──
-- whole records, and the one behind them
pub records_upto : (s : List ℕ) (at n : ℕ) {l : List Recorded} {r : Recorded} → records (take at s) ≡ some l → record_at (drop at s) ≡ some r → n ≡ at + extent (drop at s)
    → records (take n s) ≡ some (l ++ (r ∷ []))
unfolding own
records_upto s at n {l} {r} e h q =
    let d = drop at s in
    let o = record_own d r h in
    let w = (whole_of (drop at s) r h).0 in
    let long : length (take (extent d) d) ≡ extent d = length-take-le (extent d) d w.there in
    let one : records (take (extent d) d) ≡ some (r ∷ []) = records_one (take (extent d) d) r o (own_extent d w ∙ sym long) in
    ap (λ i. records (take i s)) q ∙ ap records (take-add at (extent d) s) ∙ records_append (take at s) (take (extent d) d) e one

-- ── how many bytes ──
-- those before the text, and the text's
pub extent_is : (s : List ℕ) (r : Recorded) → record_at s ≡ some r → extent s ≡ front r.kind + length r.text
extent_is s r e =
    let w = whole_of s r e in
    let q = w.1 ∙ parsed_fields s in
    let k : r.kind ≡ get_or s 2 0 = ap (λ (x : Recorded). x.kind) q in
    let t : length r.text ≡ extent s - front (get_or s 2 0) =
    ap (λ (x : Recorded). length x.text) q
    ∙ length-take-le (extent s - front (get_or s 2 0)) (drop (front (get_or s 2 0)) s)
    (let a = w.0.room in let b = w.0.there in omega (arith, length-drop (front (get_or s 2 0)) s)) in
    let room = w.0.room in
    let p : positions r.kind ≡ positions (get_or s 2 0) = ap positions k in
    omega arith

size_reads : {s : List ℕ} {l : List Recorded} → Reads s l → length s ≤ 15 * length l + text_size l
size_reads done = omega arith
size_reads (next {s = s} {r = r} {l = l} e q) =
    let w = (whole_of s r e).0 in
    let there = w.there in
    omega (arith, size_reads q, extent_is s r e, positions_most r.kind, length-drop (extent s) s)

-- three positions at most stand before a text
pub records_size : (s : List ℕ) {l : List Recorded} → records s ≡ some l → length s ≤ 15 * length l + text_size l
records_size s e = size_reads (reads e)
