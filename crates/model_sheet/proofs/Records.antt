-- Lists of records: reading takes one record after the other, writing and reading are inverse, and lists of bytes one behind the other give
-- lists of records one behind the other.
use Prim.Native.Nat.{ℕ, zero, suc, ◌+◌, ◌-◌, ◌≤◌, ◌<◌}
use mathlib.Core.Path.{◌≡◌, refl, sym, ap, ap₂, ◌∙◌}
use mathlib.Core.List.{List, [], ◌∷◌, ◌++◌, append_assoc}
use mathlib.Core.Option.{Option, none, some, map, bind}
use lib.ListN.{length, drop, length-drop, take-append-drop}
use lib.Seq.{drop-append-le, drop_at}
use native.Mathlib.Omega.{arith}
use Rattle.utf8.specs.Chars.{All, nil, cons}
use Rattle.model_sheet.specs.BigEndian.{Bytes}
use Rattle.model_sheet.specs.Record.{Recorded, encode, encode_all, extent, record_at, next_record, records_behind, records, Valid}
use Rattle.model.proofs.Lists.{all_append}
use Rattle.model_sheet.proofs.Lists.{all_drop}
use Rattle.model_sheet.proofs.Whole.{whole_of, of_whole, extent_local, record_at_local, encode_parsed, extent_read, whole_read, parsed_read, parsed_valid, encode_bytes}

-- ── reading, one record after the other ──

-- the bytes passed over
pub behind_drop : (n : ℕ) (s : List ℕ) → n ≤ length s → records_behind n s ≡ records (drop n s)
unfolding records_behind
behind_drop zero s h = refl
behind_drop (suc n) [] h = absurd (omega arith)
behind_drop (suc n) (x ∷ s) h = behind_drop n s (omega arith)

-- a record has a byte
pub extent_above : (s : List ℕ) → 2 ≤ extent s
unfolding extent
extent_above s = omega arith

-- what follows one record
abbrev pub onward : List ℕ → Option Recorded → Option (List Recorded)
onward s none = none
onward s (some r) = map (λ l. r ∷ l) (records (drop (extent s) s))

-- no bytes, no records
pub records_end : records [] ≡ some []
unfolding records_behind
records_end = refl

step : (x : ℕ) (s : List ℕ) (o : Option Recorded) → record_at (x ∷ s) ≡ o → records (x ∷ s) ≡ onward (x ∷ s) o
unfolding records_behind
step x s none e = rw (e, records_behind)
step x s (some r) e =
    let w = (whole_of (x ∷ s) r e).0 in
    let there : extent (x ∷ s) ≤ suc (length s) = w.there in
    let least = extent_above (x ∷ s) in
    let n = extent (x ∷ s) - 1 in
    let one : extent (x ∷ s) ≡ suc n = omega arith in
    rw (e, records_behind) (ap (map (λ l. r ∷ l)) (behind_drop n s (omega arith) ∙ ap (λ k. records (drop k (x ∷ s))) (sym one)))

-- otherwise the first record, and the records of what stands behind it
pub records_next : (s : List ℕ) → 0 < length s
    → records s ≡ bind (next_record s) (λ q. map (λ l. q.0 ∷ l) (records q.1))
unfolding next_record bind
records_next [] h = absurd (omega arith)
records_next (x ∷ s) h = step x s (record_at (x ∷ s)) refl ∙ go (record_at (x ∷ s))
  where
    go : (o : Option Recorded) → onward (x ∷ s) o ≡ bind (map {B = Recorded × List ℕ} (λ r. (r, drop (extent (x ∷ s)) (x ∷ s))) o) (λ q. map (λ l. q.0 ∷ l) (records q.1))
    go none = refl
    go (some r) = refl

-- the same by cases
pub records_some : (s : List ℕ) (r : Recorded) → record_at s ≡ some r → records s ≡ map (λ l. r ∷ l) (records (drop (extent s) s))
records_some [] r e = let w = (whole_of [] r e).0 in let h = w.there in absurd (omega (arith, extent_above []))
records_some (x ∷ s) r e = step x s (some r) e

pub records_none : (s : List ℕ) → 0 < length s → record_at s ≡ none → records s ≡ none
records_none [] h e = absurd (omega arith)
records_none (x ∷ s) h e = step x s none e

-- ── written, then read ──

pub records_encode : {l : List Recorded} → All Valid l → records (encode_all l) ≡ some l
unfolding encode_all
records_encode nil = records_end
records_encode (cons {x = r} {xs = l} v vs) =
    let s = encode r ++ encode_all l in
    let one : record_at s ≡ some r = of_whole (whole_read v (encode_all l)) ∙ ap {B = Option Recorded} some (parsed_read v (encode_all l)) in
    let rest : drop (extent s) s ≡ encode_all l = drop_at (encode r) (encode_all l) (extent s) (sym (extent_read v (encode_all l))) in
    records_some s r one ∙ ap (λ q. map (λ m. r ∷ m) (records q)) rest ∙ ap (map (λ m. r ∷ m)) (records_encode vs)

-- ── read, then written ──

-- a result that is there came from one
mapped : (r : Recorded) (o : Option (List Recorded)) (l : List Recorded) → map (λ m. r ∷ m) o ≡ some l
    → (m : List Recorded) × (o ≡ some m) × (r ∷ m ≡ l)
mapped r none l e = let z : ◌≡◌ {A = ℕ} 0 1 = cc in absurd (omega arith)
mapped r (some m) l e = (m, refl, cc)

-- the first record of a list that is read, and the rest
pub record First (s : List ℕ) (l : List Recorded) : Type 0 where
  pub r : Recorded
  pub rest : List Recorded
  pub here : record_at s ≡ some r
  pub behind : records (drop (extent s) s) ≡ some rest
  pub all : l ≡ r ∷ rest

pub first : (s : List ℕ) (l : List Recorded) → 0 < length s → records s ≡ some l → First s l
first s l h e = go (record_at s) refl
  where
    go : (o : Option Recorded) → record_at s ≡ o → First s l
    go none q = let n = records_none s h q in let z : ◌≡◌ {A = ℕ} 0 1 = cc in absurd (omega arith)
    go (some r) q =
        let m = mapped r (records (drop (extent s) s)) l (sym (records_some s r q) ∙ e) in
        record { r = r; rest = m.0; here = q; behind = m.1; all = sym m.2 }

pub read_nil : (l : List Recorded) → records [] ≡ some l → l ≡ []
read_nil l e = let h = records_end in cc

-- s is the records l, one behind the other: what inductions over a list that is read go by
pub data Reads : List ℕ → List Recorded → Type 0 where
  done : Reads [] []
  next : {s : List ℕ} {r : Recorded} {l : List Recorded} → record_at s ≡ some r → Reads (drop (extent s) s) l → Reads s (r ∷ l)

reads_within : (n : ℕ) (s : List ℕ) (l : List Recorded) → length s ≤ n → records s ≡ some l → Reads s l
reads_within zero [] l h e = rw (read_nil l e) done
reads_within (suc n) [] l h e = rw (read_nil l e) done
reads_within zero (x ∷ s) l h e = absurd (omega arith)
reads_within (suc n) (x ∷ s) l h e =
    let f = first (x ∷ s) l (omega arith) e in
    rw f.all (next f.here (reads_within n (drop (extent (x ∷ s)) (x ∷ s)) f.rest
    (omega (arith, length-drop (extent (x ∷ s)) (x ∷ s), extent_above (x ∷ s))) f.behind))

pub reads : {s : List ℕ} {l : List Recorded} → records s ≡ some l → Reads s l
reads {s} {l} e = reads_within (length s) s l (omega arith) e

pub of_reads : {s : List ℕ} {l : List Recorded} → Reads s l → records s ≡ some l
of_reads done = records_end
of_reads (next {s = s} {r = r} e q) = records_some s r e ∙ ap (map (λ m. r ∷ m)) (of_reads q)

encode_reads : {s : List ℕ} {l : List Recorded} → Bytes s → Reads s l → encode_all l ≡ s
unfolding encode_all
encode_reads bs done = refl
encode_reads bs (next {s = s} {r = r} e q) =
    let f = whole_of s r e in
    ap₂ (λ a b. a ++ b) (ap encode f.1 ∙ encode_parsed bs f.0) (encode_reads (all_drop (extent s) bs) q) ∙ take-append-drop (extent s) s

pub encode_records : {s : List ℕ} {l : List Recorded} → Bytes s → records s ≡ some l → encode_all l ≡ s
encode_records bs e = encode_reads bs (reads e)

-- two lists of bytes with the same records are the same
pub records_injective : {s t : List ℕ} {l : List Recorded} → Bytes s → Bytes t → records s ≡ some l → records t ≡ some l → s ≡ t
records_injective bs bt e h = sym (encode_records bs e) ∙ encode_records bt h

valid_reads : {s : List ℕ} {l : List Recorded} → Bytes s → Reads s l → All Valid l
valid_reads bs done = nil
valid_reads bs (next {s = s} {r = r} e q) =
    let f = whole_of s r e in
    cons {x = r} (rw f.1 (parsed_valid bs f.0)) (valid_reads (all_drop (extent s) bs) q)

-- what is read is valid
pub records_valid : {s : List ℕ} {l : List Recorded} → Bytes s → records s ≡ some l → All Valid l
records_valid bs e = valid_reads bs (reads e)

-- ── one behind the other ──

map_nil : (o : Option (List Recorded)) → o ≡ map (λ m. [] ++ m) o
map_nil none = refl
map_nil (some m) = refl

map_cons : (r : Recorded) (l : List Recorded) (o : Option (List Recorded))
    → map (λ m. r ∷ m) (map (λ m. l ++ m) o) ≡ map (λ m. (r ∷ l) ++ m) o
map_cons r l none = refl
map_cons r l (some m) = refl

behind_reads : {s : List ℕ} {l : List Recorded} → Reads s l → (t : List ℕ) → records (s ++ t) ≡ map (λ m. l ++ m) (records t)
behind_reads done t = map_nil (records t)
behind_reads (next {s = s} {r = r} {l = l} e q) t =
    let w = (whole_of s r e).0 in
    records_some (s ++ t) r (record_at_local s t r e)
    ∙ ap (λ n. map (λ m. r ∷ m) (records (drop n (s ++ t)))) (extent_local s t w)
    ∙ ap (λ x. map (λ m. r ∷ m) (records x)) (drop-append-le (extent s) s t w.there)
    ∙ ap (map (λ m. r ∷ m)) (behind_reads q t)
    ∙ map_cons r l (records t)

-- behind whole records the rest decides
pub records_behind_whole : (s t : List ℕ) {l : List Recorded} → records s ≡ some l → records (s ++ t) ≡ map (λ m. l ++ m) (records t)
records_behind_whole s t e = behind_reads (reads e) t

pub records_append : (s t : List ℕ) {l m : List Recorded} → records s ≡ some l → records t ≡ some m → records (s ++ t) ≡ some (l ++ m)
records_append s t {l} e h = records_behind_whole s t e ∙ ap (map (λ m. l ++ m)) h

pub encode_append : (l m : List Recorded) → encode_all (l ++ m) ≡ encode_all l ++ encode_all m
unfolding encode_all
encode_append [] m = refl
encode_append (r ∷ l) m = ap (λ s. encode r ++ s) (encode_append l m) ∙ sym (append_assoc (encode r) (encode_all l) (encode_all m))

pub encode_all_bytes : {l : List Recorded} → All Valid l → Bytes (encode_all l)
unfolding encode_all
encode_all_bytes nil = nil
encode_all_bytes (cons v vs) = all_append (encode_bytes v) (encode_all_bytes vs)
