-- Laws of one record: when it is whole, that it depends on its own bytes, and that writing and reading it are inverse.
use Prim.Native.Nat.{ℕ, zero, suc, ◌+◌, ◌*◌, ◌-◌, ◌^◌, ◌≤◌, ◌<◌}
use mathlib.Core.Path.{◌≡◌, refl, sym, ap, ap₂, ◌∙◌}
use mathlib.Core.Bool.{Bool, true, false, ◌&&◌, cond, true≢false}
use mathlib.Core.List.{List, [], ◌∷◌, ◌++◌, append_assoc}
use mathlib.Core.Option.{Option, none, some}
use lib.ListN.{length, get_or, take, drop, length-append, length-drop, get_or-append, get_or-eq_default}
use lib.Seq.{take-add, take-append-le, drop-append-le, take_at, drop_at, get_or_at, length-take-le, drop-cons, drop-drop}
use lib.Dec.{ltb, leb, eqb}
use borrow.Author.Tests.{ltb-true, leb-true, eqb-true, lt-ltb, le-leb, eq-eqb}
use native.Mathlib.Omega.{arith}
use native.Mathlib.Decide.{dec_lt}
use Rattle.utf8.specs.Chars.{All, nil, cons}
use Rattle.model_sheet.specs.BigEndian.{Bytes, number, bytes}
use Rattle.model_sheet.specs.Record.{Recorded, positions, carries, front, fits, quads, places, encode, extent, numbers, parsed, record_at, Valid}
use Rattle.model_sheet.proofs.BigEndian.{length_bytes, number_bytes, bytes_number, bytes_are_bytes, number_below}
use Rattle.model.proofs.Lists.{and_left, and_right, all_append}
use Rattle.model_sheet.proofs.Lists.{all_take, all_drop, all_get}
use Rattle.model_sheet.proofs.Quads.{length_numbers, length_quads, numbers_quads, quads_numbers, numbers_local, numbers_below, quads_bytes}

-- ── kinds ──

pub positions_most : (k : ℕ) → positions k ≤ 3
unfolding positions
positions_most k = all_get {P = λ x. x ≤ 3} 0 (omega arith) k
    (cons (omega arith) (cons (omega arith) (cons (omega arith) (cons (omega arith) (cons (omega arith) (cons (omega arith) (cons (omega arith) (cons (omega arith) (cons (omega arith) nil)))))))))

-- a known kind is at most 8
pub kind_most : (k : ℕ) → 0 < positions k → k ≤ 8
unfolding positions
kind_most k h = elim (dec_lt k 9) [ yes l ↦ omega arith | no n ↦ absurd (none (omega arith)) ]
  where
    none : 9 ≤ k → ⊥
    none q = let e : positions k ≡ 0 = get_or-eq_default (0 ∷ 2 ∷ 2 ∷ 2 ∷ 1 ∷ 1 ∷ 1 ∷ 1 ∷ 3 ∷ []) 0 {n = k} q in omega arith

pub kind_byte : (k : ℕ) → 0 < positions k → k < 256
kind_byte k h = omega (arith, kind_most k h)

-- ── whole records ──

-- s starts with a whole record
pub record Whole (s : List ℕ) : Type 0 where
  pub known : 0 < positions (get_or s 2 0)
  pub room : front (get_or s 2 0) ≤ extent s
  pub tight : carries (get_or s 2 0) ≡ false → front (get_or s 2 0) ≡ extent s
  pub there : extent s ≤ length s

pub fits_facts : (k n : ℕ) → fits k n ≡ true → (0 < positions k) × (front k ≤ n) × (carries k ≡ false → front k ≡ n)
unfolding fits
fits_facts k n h =
    let facts = go (carries k) (and_right (ltb 0 (positions k)) _ h) in
    (ltb-true 0 (positions k) (and_left (ltb 0 (positions k)) _ h), facts.0, facts.1)
  where
    go : (t : Bool) → cond t (leb (front k) n) (eqb (front k) n) ≡ true → (front k ≤ n) × (t ≡ false → front k ≡ n)
    go true e = (leb-true (front k) n e, λ f. absurd (true≢false f))
    go false e = let q : front k ≡ n = eqb-true (front k) n e in (omega arith, λ f. q)

pub facts_fits : (k n : ℕ) → 0 < positions k → front k ≤ n → (carries k ≡ false → front k ≡ n) → fits k n ≡ true
unfolding fits
facts_fits k n known room tight = rw (lt-ltb 0 (positions k) known) (go (carries k) tight)
  where
    go : (t : Bool) → (t ≡ false → front k ≡ n) → cond t (leb (front k) n) (eqb (front k) n) ≡ true
    go true f = le-leb (front k) n room
    go false f = eq-eqb (front k) n (f refl)

pub whole_of : (s : List ℕ) (r : Recorded) → record_at s ≡ some r → Whole s × (r ≡ parsed s)
unfolding record_at
whole_of s r = go (leb (extent s) (length s)) refl (fits (get_or s 2 0) (extent s)) refl
  where
    go : (t : Bool) → leb (extent s) (length s) ≡ t → (u : Bool) → fits (get_or s 2 0) (extent s) ≡ u
        → cond (t && u) (some (parsed s)) none ≡ some r → Whole s × (r ≡ parsed s)
    go true p true q e =
        let f = fits_facts (get_or s 2 0) (extent s) q in
        (record { known = f.0; room = f.1; tight = f.2; there = leb-true (extent s) (length s) p }, cc)
    go true p false q e = let z : ◌≡◌ {A = ℕ} 0 1 = cc in absurd (omega arith)
    go false p true q e = let z : ◌≡◌ {A = ℕ} 0 1 = cc in absurd (omega arith)
    go false p false q e = let z : ◌≡◌ {A = ℕ} 0 1 = cc in absurd (omega arith)

pub of_whole : {s : List ℕ} → Whole s → record_at s ≡ some (parsed s)
unfolding record_at
of_whole {s} w =
    rw (le-leb (extent s) (length s) w.there, facts_fits (get_or s 2 0) (extent s) w.known w.room w.tight)

pub broken : (s : List ℕ) → (Whole s → ⊥) → record_at s ≡ none
broken s h = go (record_at s) refl
  where
    go : (o : Option Recorded) → record_at s ≡ o → record_at s ≡ none
    go none e = e
    go (some r) e = absurd (h (whole_of s r e).0)

-- ── the record depends on its own bytes ──

abbrev pub fields : ℕ → List ℕ → List ℕ → Recorded
fields k ps text = record { kind = k; a = get_or ps 0 0; b = get_or ps 1 0; c = get_or ps 2 0; text = text }

pub parsed_fields : (s : List ℕ) → parsed s ≡ fields (get_or s 2 0) (numbers (positions (get_or s 2 0)) (drop 3 s)) (take (extent s - front (get_or s 2 0)) (drop (front (get_or s 2 0)) s))
unfolding parsed
parsed_fields s = refl

-- a kind that is known stands in the third byte
pub three : (s : List ℕ) → Whole s → 3 ≤ length s
three s w = let a = w.room in let b = w.there in omega arith

module _ (s t : List ℕ) (w : Whole s) where
  kind_local : get_or (s ++ t) 2 0 ≡ get_or s 2 0
  kind_local = get_or-append s t 0 2 (three s w)

  pub extent_local : extent (s ++ t) ≡ extent s
  unfolding extent
  extent_local = let h = three s w in ap (λ l. 2 + number l) (take-append-le 2 s t (omega arith))

  parsed_local : parsed (s ++ t) ≡ parsed s
  parsed_local =
      let h = three s w in
      let k = get_or s 2 0 in
      let room : front k ≤ extent s = w.room in
      let there : extent s ≤ length s = w.there in
      parsed_fields (s ++ t)
      ∙ rw (
        kind_local,
        extent_local,
        drop-append-le 3 s t h,
        numbers_local (positions k) (drop 3 s) t (omega (arith, length-drop 3 s)),
        drop-append-le (front k) s t (omega arith),
        take-append-le (extent s - front k) (drop (front k) s) t (omega (arith, length-drop (front k) s)),
      )
      (sym (parsed_fields s))

  pub whole_local : Whole (s ++ t)
  whole_local =
      rw_whole kind_local extent_local
    where
      rw_whole : get_or (s ++ t) 2 0 ≡ get_or s 2 0 → extent (s ++ t) ≡ extent s → Whole (s ++ t)
      rw_whole p q = record {
        known = rw p w.known;
        room = rw (p, q) w.room;
        tight = rw (p, q) w.tight;
        there = let h = w.there in rw q (omega (arith, length-append s t));
      }

pub record_at_local : (s t : List ℕ) (r : Recorded) → record_at s ≡ some r → record_at (s ++ t) ≡ some r
record_at_local s t r e =
    let f = whole_of s r e in
    of_whole (whole_local s t f.0) ∙ ap {B = Option Recorded} some (parsed_local s t f.0 ∙ sym f.1)

-- ── read, then written ──

-- a list of at most three numbers, filled up with 0 and cut again
refill : (ps : List ℕ) → length ps ≤ 3 → take (length ps) (get_or ps 0 0 ∷ get_or ps 1 0 ∷ get_or ps 2 0 ∷ []) ≡ ps
refill [] h = refl
refill (x ∷ []) h = refl
refill (x ∷ y ∷ []) h = refl
refill (x ∷ y ∷ z ∷ []) h = refl
refill (x ∷ y ∷ z ∷ v ∷ ps) h = absurd (omega arith)

-- the four parts of the first bytes
four_parts : (s : List ℕ) (n m : ℕ) → 3 ≤ length s
    → take (3 + n + m) s ≡ take 2 s ++ (get_or s 2 0 ∷ (take n (drop 3 s) ++ take m (drop (3 + n) s)))
four_parts s n m h =
    let sum : 3 + n + m ≡ 2 + suc (n + m) = omega arith in
    ap (λ k. take k s) sum ∙ take-add 2 (suc (n + m)) s
    ∙ ap (λ l. take 2 s ++ l)
    (ap (take (suc (n + m))) (drop-cons s 2 0 h)
    ∙ ap (λ l. get_or s 2 0 ∷ l) (take-add n m (drop 3 s) ∙ ap (λ l. take n (drop 3 s) ++ take m l) (drop-drop n 3 s)))

pub encode_parsed : {s : List ℕ} → Bytes s → Whole s → encode (parsed s) ≡ take (extent s) s
unfolding encode parsed extent
encode_parsed {s} bs w =
    let h = three s w in
    let k = get_or s 2 0 in
    let p = positions k in
    let ps = numbers p (drop 3 s) in
    let m = extent s - front k in
    let room : front k ≤ extent s = w.room in
    let there : extent s ≤ length s = w.there in
    let long : length (take m (drop (front k) s)) ≡ m = length-take-le m (drop (front k) s) (omega (arith, length-drop (front k) s)) in
    let size : 1 + 4 * p + length (take m (drop (front k) s)) ≡ number (take 2 s) = omega arith in
    let two : length (take 2 s) ≡ 2 = length-take-le 2 s (omega arith) in
    let lead : bytes 2 (1 + 4 * p + length (take m (drop (front k) s))) ≡ take 2 s =
    ap (bytes 2) size ∙ ap (λ n. bytes n (number (take 2 s))) (sym two) ∙ bytes_number (all_take 2 bs) in
    let count : length ps ≡ p = length_numbers p (drop 3 s) in
    let full : take p (get_or ps 0 0 ∷ get_or ps 1 0 ∷ get_or ps 2 0 ∷ []) ≡ ps =
    ap (λ n. take n (get_or ps 0 0 ∷ get_or ps 1 0 ∷ get_or ps 2 0 ∷ [])) (sym count) ∙ refill ps (omega (arith, positions_most k)) in
    let middle : quads (take p (get_or ps 0 0 ∷ get_or ps 1 0 ∷ get_or ps 2 0 ∷ [])) ≡ take (4 * p) (drop 3 s) =
    ap quads full ∙ quads_numbers p (all_drop 3 bs) (omega (arith, length-drop 3 s)) in
    let total : 3 + 4 * p + m ≡ extent s = omega arith in
    ap₂ (λ x y. x ++ (k ∷ (y ++ take m (drop (front k) s)))) lead middle
    ∙ sym (four_parts s (4 * p) m h) ∙ ap (λ n. take n s) total

-- ── written, then read ──

pub length_encode : (r : Recorded) → length (encode r) ≡ front r.kind + length r.text
unfolding encode
length_encode r =
    let p = positions r.kind in
    let cut : length (places r) ≡ p = length-take-le p (r.a ∷ r.b ∷ r.c ∷ []) (positions_most r.kind) in
    let n = 1 + 4 * p + length r.text in
    omega (
      arith,
      length-append (bytes 2 n) (r.kind ∷ (quads (places r) ++ r.text)),
      length_bytes 2 n,
      length-append (quads (places r)) r.text,
      length_quads (places r),
    )

module _ (p x y z : ℕ) where
  cut_a : 0 < p → get_or (take p (x ∷ y ∷ z ∷ [])) 0 0 ≡ x
  cut_a = go p
    where
      go : (n : ℕ) → 0 < n → get_or (take n (x ∷ y ∷ z ∷ [])) 0 0 ≡ x
      go zero h = absurd (omega arith)
      go (suc n) h = refl

  cut_b : (p < 2 → y ≡ 0) → get_or (take p (x ∷ y ∷ z ∷ [])) 1 0 ≡ y
  cut_b = go p
    where
      go : (n : ℕ) → (n < 2 → y ≡ 0) → get_or (take n (x ∷ y ∷ z ∷ [])) 1 0 ≡ y
      go zero h = sym (h (omega arith))
      go (suc zero) h = sym (h (omega arith))
      go (suc (suc n)) h = refl

  cut_c : (p < 3 → z ≡ 0) → get_or (take p (x ∷ y ∷ z ∷ [])) 2 0 ≡ z
  cut_c = go p
    where
      go : (n : ℕ) → (n < 3 → z ≡ 0) → get_or (take n (x ∷ y ∷ z ∷ [])) 2 0 ≡ z
      go zero h = sym (h (omega arith))
      go (suc zero) h = sym (h (omega arith))
      go (suc (suc zero)) h = sym (h (omega arith))
      go (suc (suc (suc n))) h = refl

module _ {r : Recorded} (v : Valid r) (t : List ℕ) where
  size : ℕ
  size = 1 + 4 * positions r.kind + length r.text

  opened : encode r ++ t ≡ bytes 2 size ++ (r.kind ∷ (quads (places r) ++ (r.text ++ t)))
  unfolding encode size
  opened = append_assoc (bytes 2 size) (r.kind ∷ (quads (places r) ++ r.text)) t
      ∙ ap (λ l. bytes 2 size ++ (r.kind ∷ l)) (append_assoc (quads (places r)) r.text t)

  kind_read : get_or (encode r ++ t) 2 0 ≡ r.kind
  kind_read = ap (λ l. get_or l 2 0) opened ∙ get_or_at (bytes 2 size) r.kind _ 0 2 (length_bytes 2 size)

  pub extent_read : extent (encode r ++ t) ≡ length (encode r)
  unfolding extent size
  extent_read =
      ap (λ l. 2 + number (take 2 l)) opened
      ∙ ap (λ l. 2 + number l) (take_at (bytes 2 size) _ 2 (length_bytes 2 size))
      ∙ omega (arith, number_bytes 2 size v.text_fits, length_encode r)

  rest_read : drop 3 (encode r ++ t) ≡ quads (places r) ++ (r.text ++ t)
  unfolding bytes
  rest_read = ap (drop 3) opened

  few : length (places r) ≡ positions r.kind
  few = length-take-le (positions r.kind) (r.a ∷ r.b ∷ r.c ∷ []) (positions_most r.kind)

  places_read : numbers (positions r.kind) (drop 3 (encode r ++ t)) ≡ places r
  places_read =
      ap (numbers (positions r.kind)) rest_read ∙ ap (λ n. numbers n (quads (places r) ++ (r.text ++ t))) (sym few)
      ∙ numbers_quads (all_take (positions r.kind) (cons v.a_fits (cons v.b_fits (cons v.c_fits nil)))) (r.text ++ t)

  text_read : take (extent (encode r ++ t) - front r.kind) (drop (front r.kind) (encode r ++ t)) ≡ r.text
  text_read =
      ap₂ (λ n l. take (n - front r.kind) l) extent_read
      (sym (drop-drop (4 * positions r.kind) 3 (encode r ++ t)) ∙ ap (drop (4 * positions r.kind)) rest_read
      ∙ drop_at (quads (places r)) (r.text ++ t) _ (length_quads (places r) ∙ ap (λ n. 4 * n) few))
      ∙ take_at r.text t (length (encode r) - front r.kind) (omega (arith, length_encode r))

  pub whole_read : Whole (encode r ++ t)
  whole_read = record {
    known = rw kind_read v.known;
    room = rw (kind_read, extent_read) (omega (arith, length_encode r));
    tight = rw (kind_read, extent_read) (λ c. let none : length r.text ≡ 0 = ap length (v.text_none c) in omega (arith, length_encode r));
    there = rw extent_read (omega (arith, length-append (encode r) t));
  }

  pub parsed_read : parsed (encode r ++ t) ≡ r
  parsed_read =
      parsed_fields (encode r ++ t)
      ∙ rw (kind_read, places_read, text_read) (λ i. record {
        kind = r.kind;
        a = cut_a (positions r.kind) r.a r.b r.c v.known i;
        b = cut_b (positions r.kind) r.a r.b r.c v.b_none i;
        c = cut_c (positions r.kind) r.a r.b r.c v.c_none i;
        text = r.text;
      })

-- what is read is valid
pub parsed_valid : {s : List ℕ} → Bytes s → Whole s → Valid (parsed s)
unfolding parsed extent
parsed_valid {s} bs w =
    let h = three s w in
    let k = get_or s 2 0 in
    let p = positions k in
    let ps = numbers p (drop 3 s) in
    let m = extent s - front k in
    let room : front k ≤ extent s = w.room in
    let there : extent s ≤ length s = w.there in
    let long : length (take m (drop (front k) s)) ≡ m = length-take-le m (drop (front k) s) (omega (arith, length-drop (front k) s)) in
    let two : length (take 2 s) ≡ 2 = length-take-le 2 s (omega arith) in
    let below : All (λ x. x < 256 ^ 4) ps = numbers_below p (all_drop 3 bs) (omega (arith, length-drop 3 s)) in
    let count : length ps ≡ p = length_numbers p (drop 3 s) in
    record {
      known = w.known;
      a_fits = all_get 0 (omega arith) 0 below;
      b_fits = all_get 0 (omega arith) 1 below;
      c_fits = all_get 0 (omega arith) 2 below;
      b_none = λ q. get_or-eq_default ps 0 {n = 1} (omega arith);
      c_none = λ q. get_or-eq_default ps 0 {n = 2} (omega arith);
      text_none = λ c. let e : front k ≡ extent s = w.tight c in nothing (take m (drop (front k) s)) (omega arith);
      text_fits = let n : number (take 2 s) < 256 ^ 2 = rw two at (number_below (all_take 2 bs)) in omega arith;
      text_bytes = all_take m (all_drop (front k) bs);
    }
  where
    nothing : (l : List ℕ) → length l ≡ 0 → l ≡ []
    nothing [] e = refl
    nothing (x ∷ l) e = absurd (omega arith)

pub encode_bytes : {r : Recorded} → Valid r → Bytes (encode r)
unfolding encode
encode_bytes {r} v =
    all_append (bytes_are_bytes 2 (1 + 4 * positions r.kind + length r.text) v.text_fits)
    (cons (kind_byte r.kind v.known)
    (all_append (quads_bytes (all_take (positions r.kind) (cons v.a_fits (cons v.b_fits (cons v.c_fits nil))))) v.text_bytes))
