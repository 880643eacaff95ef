-- Laws of sheets: writing one and reading it are inverse both ways.
use Prim.Native.Nat.{ℕ, ◌+◌, ◌^◌, ◌≤◌, ◌<◌}
use mathlib.Core.Path.{◌≡◌, refl, sym, ap, ap₂, ◌∙◌}
use mathlib.Core.Bool.{Bool, true, false, cond}
use mathlib.Core.List.{List, [], ◌∷◌, ◌++◌}
use mathlib.Core.Option.{Option, none, some, bind, map}
use lib.ListN.{length, get_or, take, drop, length-append, length-drop, take-append-drop}
use lib.Seq.{take_at, drop_at, drop-drop, length-take-le}
use lib.Dec.{leb, eqb}
use borrow.Author.Tests.{leb-true, eqb-true, le-leb}
use native.Mathlib.Omega.{arith}
use Rattle.utf8.specs.Chars.{All, nil, cons}
use Rattle.model.proofs.Lists.{both, and_left, and_right}
use Rattle.model_sheet.specs.BigEndian.{Bytes, number, bytes}
use Rattle.model_sheet.specs.Record.{Recorded, encode_all, records, Valid}
use Rattle.model_sheet.specs.Sheet.{MOST_RECORDS, MOST_BYTES, VERSION, FRONT, Sheet, encode_sheet, source_size, source_of, records_of, front_fits, few, sheet}
use Rattle.model_sheet.proofs.BigEndian.{length_bytes, number_bytes, bytes_number}
use Rattle.model_sheet.proofs.Lists.{all_drop}
use Rattle.model_sheet.proofs.Records.{records_encode, encode_records}

-- the front of a sheet that is read: its facts
pub record Front (s : List ℕ) : Type 0 where
  pub size : length s ≤ MOST_BYTES
  pub version : get_or s 0 0 ≡ VERSION
  pub there : FRONT + source_size s ≤ length s

pub front_of : (s : List ℕ) → front_fits s ≡ true → Front s
unfolding front_fits
front_of s h =
    let rest = and_right (leb (length s) MOST_BYTES) _ h in
    record {
      size = leb-true (length s) MOST_BYTES (and_left (leb (length s) MOST_BYTES) _ h);
      version = eqb-true (get_or s 0 0) VERSION (and_left (eqb (get_or s 0 0) VERSION) _ rest);
      there = leb-true (FRONT + source_size s) (length s) (and_right (eqb (get_or s 0 0) VERSION) _ rest);
    }

pub of_front : {s : List ℕ} → Front s → front_fits s ≡ true
unfolding front_fits
of_front {s} f =
    both (le-leb (length s) MOST_BYTES f.size) (both (ap (λ v. eqb v VERSION) f.version) (le-leb (FRONT + source_size s) (length s) f.there))

-- ── what is read ──
-- a sheet that is read: its front, and its records, not too many
pub record ReadSheet (s : List ℕ) (w : Sheet) : Type 0 where
  pub front : Front s
  pub source : w.source ≡ source_of s
  pub list : records (records_of s) ≡ some w.list
  pub count : length w.list ≤ MOST_RECORDS

-- the sheet of a front and a list
abbrev with : List ℕ → List Recorded → Sheet
with s l = record { source = source_of s; list = l }

pub read_of : {s : List ℕ} {w : Sheet} → sheet s ≡ some w → ReadSheet s w
unfolding sheet bind
read_of {s} {w} = go (front_fits s) refl
  where
    listed : (o : Option (List Recorded)) → records (records_of s) ≡ o → Front s → map (with s) (bind o few) ≡ some w → ReadSheet s w
    listed none q f e = let z : ◌≡◌ {A = ℕ} 0 1 = cc in absurd (omega arith)
    listed (some l) q f e = counted (leb (length l) MOST_RECORDS) refl e
      where
        counted : (b : Bool) → leb (length l) MOST_RECORDS ≡ b → map (with s) (cond b (some l) none) ≡ some w → ReadSheet s w
        counted true h e =
            let same : with s l ≡ w = cc in
            let there : l ≡ w.list = ap (λ (x : Sheet). x.list) same in
            record {
              front = f;
              source = sym (ap (λ (x : Sheet). x.source) same);
              list = q ∙ ap {B = Option (List Recorded)} some there;
              count = rw (sym there) (leb-true (length l) MOST_RECORDS h);
            }
        counted false h e = let z : ◌≡◌ {A = ℕ} 0 1 = cc in absurd (omega arith)

    go : (b : Bool) → front_fits s ≡ b → cond b (map (with s) (bind (records (records_of s)) few)) none ≡ some w → ReadSheet s w
    go true h e = listed (records (records_of s)) refl (front_of s h) e
    go false h e = let z : ◌≡◌ {A = ℕ} 0 1 = cc in absurd (omega arith)

pub of_read : {s : List ℕ} {w : Sheet} → ReadSheet s w → sheet s ≡ some w
unfolding sheet bind
of_read {s} {w} r =
    rw (of_front r.front, r.list, le-leb (length w.list) MOST_RECORDS r.count)
    (λ i. some (record { source = sym r.source i; list = w.list }))

pub unread : (s : List ℕ) → ((w : Sheet) → ReadSheet s w → ⊥) → sheet s ≡ none
unread s h = go (sheet s) refl
  where
    go : (o : Option Sheet) → sheet s ≡ o → sheet s ≡ none
    go none e = e
    go (some w) e = absurd (h w (read_of e))

-- ── written, then read ──
module _ (w : Sheet) (short : length w.source < 256 ^ 2) where
  body : List ℕ
  body = w.source ++ encode_all w.list

  lead : List ℕ
  lead = bytes 2 (length w.source)

  size_read : source_size (encode_sheet w) ≡ length w.source
  unfolding source_size encode_sheet body lead
  size_read = ap number (take_at lead body 2 (length_bytes 2 (length w.source))) ∙ number_bytes 2 (length w.source) short

  body_read : drop FRONT (encode_sheet w) ≡ body
  unfolding encode_sheet body lead
  body_read = drop_at lead body 2 (length_bytes 2 (length w.source))

  source_read : source_of (encode_sheet w) ≡ w.source
  unfolding body
  source_read = ap₂ (λ n l. take n l) size_read body_read ∙ take_at w.source (encode_all w.list) (length w.source) refl

  list_read : records_of (encode_sheet w) ≡ encode_all w.list
  unfolding body
  list_read =
      ap (λ n. drop (FRONT + n) (encode_sheet w)) size_read
      ∙ sym (drop-drop (length w.source) FRONT (encode_sheet w))
      ∙ ap (drop (length w.source)) body_read
      ∙ drop_at w.source (encode_all w.list) (length w.source) refl

  long : FRONT + length w.source ≤ length (encode_sheet w)
  unfolding encode_sheet
  long = omega (
    arith,
    length-append (bytes 2 (length w.source)) (w.source ++ encode_all w.list),
    length_bytes 2 (length w.source),
    length-append w.source (encode_all w.list),
  )

  pub sheet_encode : All Valid w.list → length w.list ≤ MOST_RECORDS → length (encode_sheet w) ≤ MOST_BYTES → sheet (encode_sheet w) ≡ some w
  unfolding encode_sheet
  sheet_encode v few size =
      of_read (record {
        front = record { size = size; version = refl; there = omega (arith, size_read, long) };
        source = sym source_read;
        list = ap records list_read ∙ records_encode v;
        count = few;
      })

-- ── read, then written ──
-- a list that starts with 1 and has three elements
three : (s : List ℕ) → Bytes s → get_or s 0 0 ≡ VERSION → FRONT ≤ length s
    → VERSION ∷ (bytes 2 (number (take 2 (drop 1 s))) ++ drop FRONT s) ≡ s
three [] bs e h = absurd (omega arith)
three (x ∷ []) bs e h = absurd (omega arith)
three (x ∷ y ∷ []) bs e h = absurd (omega arith)
three (x ∷ y ∷ z ∷ s) (cons _ (cons hy (cons hz _))) e h =
    ap₂ (λ a l. a ∷ (l ++ s)) (sym e) (bytes_number {s = y ∷ z ∷ []} (cons hy (cons hz nil)))

pub encode_sheet_read : {s : List ℕ} {w : Sheet} → Bytes s → sheet s ≡ some w → encode_sheet w ≡ s
unfolding encode_sheet source_size
encode_sheet_read {s} {w} bs e =
    let r = read_of e in
    let there : FRONT + source_size s ≤ length s = r.front.there in
    let size : length w.source ≡ source_size s =
    ap length r.source ∙ length-take-le (source_size s) (drop FRONT s) (omega (arith, length-drop FRONT s)) in
    let rest : drop (source_size s) (drop FRONT s) ≡ records_of s = drop-drop (source_size s) FRONT s in
    let behind : encode_all w.list ≡ records_of s = encode_records (all_drop (FRONT + source_size s) bs) r.list in
    let all : w.source ++ encode_all w.list ≡ drop FRONT s =
    ap₂ (λ a b. a ++ b) r.source (behind ∙ sym rest) ∙ take-append-drop (source_size s) (drop FRONT s) in
    ap₂ (λ n l. VERSION ∷ (bytes 2 n ++ l)) size all ∙ three s bs r.front.version (omega arith)
