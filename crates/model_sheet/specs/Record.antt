-- Document 02, L1: "A record is a 16-bit length of the rest, a kind byte, 32-bit positions, then text; all big-endian." What a record is, how it is written and read,
-- and lists of them one behind the other.
use Rattle.std.specs.Prelude.{ℕ, zero, suc, ◌+◌, ◌*◌, ◌-◌, ◌^◌, ◌<◌, ◌≡◌, Bool, true, false, ◌&&◌, cond, List, [], ◌∷◌, ◌++◌, length, get_or, take, drop, ltb, leb, eqb}
use Rattle.std.proofs.Math.Option.{Option, none, some, map}
use Rattle.model.specs.Text.{Text, sum}
use Rattle.model_sheet.specs.BigEndian.{number, bytes, Bytes}

-- a record: its kind, its positions in order (0 for those that its kind does not have), its text
pub record Recorded : Type 0 where
  pub kind : ℕ
  pub a : ℕ
  pub b : ℕ
  pub c : ℕ
  pub text : Text

-- ── kinds: "1 remove, 2 update with overwrite, 3 reset, 4 append_left, 5 append_right, 6 prepend_left, 7 prepend_right, 8 relocate" ──
-- "Kinds 1 to 3 have two positions, 4 to 7 one, 8 three"; 0: there is no such kind
unfoldable pub positions : ℕ → ℕ
positions k = get_or (0 ∷ 2 ∷ 2 ∷ 2 ∷ 1 ∷ 1 ∷ 1 ∷ 1 ∷ 3 ∷ []) k 0

-- "Only 2 and 4 to 7 carry text"
unfoldable pub carries : ℕ → Bool
carries k = get_or (false ∷ false ∷ true ∷ false ∷ true ∷ true ∷ true ∷ true ∷ false ∷ []) k false

-- where the text of a record starts: behind the length, the kind and the positions
abbrev pub front : ℕ → ℕ
front k = 3 + 4 * positions k

-- whether a record of kind k may have n bytes, its length field among them
unfoldable pub fits : ℕ → ℕ → Bool
fits k n = ltb 0 (positions k) && cond (carries k) (leb (front k) n) (eqb (front k) n)

-- ── writing ──
-- numbers of four bytes, one behind the other
unfoldable pub quads : List ℕ → List ℕ
quads [] = []
quads (x ∷ xs) = bytes 4 x ++ quads xs

-- the positions that a record's kind has
abbrev pub places : Recorded → List ℕ
places r = take (positions r.kind) (r.a ∷ r.b ∷ r.c ∷ [])

unfoldable pub encode : Recorded → List ℕ
encode r = bytes 2 (1 + 4 * positions r.kind + length r.text) ++ (r.kind ∷ (quads (places r) ++ r.text))

unfoldable pub encode_all : List Recorded → List ℕ
encode_all [] = []
encode_all (r ∷ l) = encode r ++ encode_all l

-- ── reading ──
-- the bytes of the record that s starts with, by its first two: "a 16-bit length of the rest"
unfoldable pub extent : List ℕ → ℕ
extent s = 2 + number (take 2 s)

-- the first p numbers of four bytes
unfoldable pub numbers : ℕ → List ℕ → List ℕ
numbers zero s = []
numbers (suc p) s = number (take 4 s) ∷ numbers p (drop 4 s)

-- the fields of the record that s starts with
unfoldable pub parsed : List ℕ → Recorded
parsed s =
    let k = get_or s 2 0 in
    let places = numbers (positions k) (drop 3 s) in
    record {
      kind = k;
      a = get_or places 0 0;
      b = get_or places 1 0;
      c = get_or places 2 0;
      text = take (extent s - front k) (drop (front k) s);
    }

-- the record that s starts with, if all its bytes are there and its kind may have as many
unfoldable pub record_at : List ℕ → Option Recorded
record_at s = cond (leb (extent s) (length s) && fits (get_or s 2 0) (extent s)) (some (parsed s)) none

-- that record, and what stands behind it
unfoldable pub next_record : List ℕ → Option (Recorded × List ℕ)
next_record s = map (λ r. (r, drop (extent s) s)) (record_at s)

-- the records of s behind its first n bytes, up to its end: one at each place where the one before it ends
unfoldable pub records_behind : ℕ → List ℕ → Option (List Recorded)
records_behind zero [] = some []
records_behind (suc n) [] = none
records_behind zero (x ∷ s) =
    elim (record_at (x ∷ s)) [ none ↦ none | some r ↦ map (λ l. r ∷ l) (records_behind (extent (x ∷ s) - 1) s) ]
records_behind (suc n) (x ∷ s) = records_behind n s

-- the records of a whole list of bytes; none if they are not whole records up to its end (`records_end`, `records_next`)
abbrev pub records : List ℕ → Option (List Recorded)
records s = records_behind zero s

-- how many bytes of text records have
abbrev pub text_size : List Recorded → ℕ
text_size l = sum (λ (r : Recorded). length r.text) l

-- ── what can be written ──
-- a record as its kind has it: numbers of four bytes, nothing where the kind has nothing, and a length that two bytes hold
pub record Valid (r : Recorded) : Type 0 where
  pub known : 0 < positions r.kind
  pub a_fits : r.a < 256 ^ 4
  pub b_fits : r.b < 256 ^ 4
  pub c_fits : r.c < 256 ^ 4
  pub b_none : positions r.kind < 2 → r.b ≡ 0
  pub c_none : positions r.kind < 3 → r.c ≡ 0
  pub text_none : carries r.kind ≡ false → r.text ≡ []
  pub text_fits : 1 + 4 * positions r.kind + length r.text < 256 ^ 2
  pub text_bytes : Bytes r.text
