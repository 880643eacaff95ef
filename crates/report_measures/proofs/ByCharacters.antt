-- Laws of the measures: of a text taken character by character, and that each is at most the length.
use mathlib.Core.Path.{◌≡◌, refl, ap, sym, ◌∙◌}
use mathlib.Core.Bool.{Bool, true, false, not, ◌&&◌, cond}
use mathlib.Core.List.{List, [], ◌∷◌, ◌++◌, reverse, flatten}
use Prim.Native.Nat.{ℕ, ◌+◌, ◌≤◌}
use native.Mathlib.Omega.{arith}
use native.Mathlib.Decide.{dec_lt}
use lib.Dec.{leb, eqb}
use lib.ListN.{length, drop, drop_of_length-le, length-append}
use borrow.Author.Tests.{le-leb, lt-leb}
use Rattle.utf8.specs.Rfc3629.{utf8, decode_at}
use Rattle.utf8.specs.WhiteSpace.{white_space}
use Rattle.utf8.specs.Chars.{All, nil, cons, chars, concat, code, utf16_width}
use Rattle.utf8.proofs.CharLaws.{Encoded, chars_encoded, chars_encode, code_encode, concat_chars, char_at, code_at, utf16_at, concat_utf8, encoded_utf8}
use Rattle.utf8.proofs.Encode.{encode}
use Rattle.utf8.proofs.Encoded.{enc_1, enc_2, enc_3, enc_4}
use Rattle.utf8.proofs.Texts.{stops, end_past}
use Rattle.utf8.specs.declared.Decoded.{Decoded}
use Rattle.utf8.specs.declared.Decoded.TheVariants.{Char, Invalid, End}
use Rattle.model.specs.Text.{Text, LF, is_nil, all, sum, skip_while, line_feeds, trim_white_space, trim_start_matches, trim_end_matches}
use Rattle.model.specs.MagicString.{utf16_len}
use Rattle.model.proofs.Lists.{one_most, all_skip_while, all_reverse, tests_reverse, skip_nil, nil_false, reverse_nil}
use Rattle.report_measures.specs.Measures.{measure_of, filled_of, units_of}
use Rattle.report_measures.specs.declared.Measure.{Measure}
use Rattle.report_measures.specs.declared.Measure.TheVariants.{Bytes, Utf16}

-- ---- line feeds

pub feeds_append : (s t : Text) → line_feeds (s ++ t) ≡ line_feeds s + line_feeds t
feeds_append [] t = omega arith
feeds_append (a ∷ s) t = omega (arith, feeds_append s t)

pub feeds_concat : (ts : List Text) → line_feeds (concat ts) ≡ sum line_feeds ts
unfolding flatten
feeds_concat [] = refl
feeds_concat (t ∷ ts) = feeds_append t (concat ts) ∙ ap (λ (n : ℕ). line_feeds t + n) (feeds_concat ts)

pub feeds_le : (s : Text) → line_feeds s ≤ length s
feeds_le [] = omega arith
feeds_le (a ∷ s) = omega (arith, feeds_le s, one_most (eqb a LF))

-- ---- what is left of a text from a place between characters on: no character is left, or one and the rest

pub left_none : (s : Text) (i : ℕ) (x : Decoded) → i ≤ length s → utf8 (drop i s) ≡ true → decode_at s i ≡ x → ((v w : ℕ) → x ≡ Char v w → ⊥) → chars (drop i s) ≡ []
unfolding chars
left_none s i (Char v w) l h e n = absurd (n v w refl)
left_none s i Invalid l h e n =
    elim (dec_lt i (length s)) [
      | yes k ↦ let z : ◌≡◌ {A = ℕ} 0 1 = cc (stops s i k e) in absurd (omega arith)
      | no k ↦ ap chars (drop_of_length-le s {i = i} (omega arith))
    ]
left_none s i End l h e n = ap chars (drop_of_length-le s {i = i} (end_past s i e))

-- ---- UTF-16 units

encode_units : (v : ℕ) → units_of v ≤ length (encode v)
encode_units v =
    elim (dec_lt v 0x10000) [
      | yes h ↦ rw (lt-leb 0x10000 v h) (some_byte v)
      | no h ↦ rw (le-leb 0x10000 v (omega arith), enc_4 v (omega arith)) (omega arith)
    ]
  where
    some_byte : (v : ℕ) → 1 ≤ length (encode v)
    some_byte v =
        elim (dec_lt v 0x80) [
          | yes h ↦ rw (enc_1 v h) (omega arith)
          | no h ↦ elim (dec_lt v 0x800) [
            | yes k ↦ rw (enc_2 v (omega arith) k) (omega arith)
            | no k ↦ elim (dec_lt v 0x10000) [
              | yes m ↦ rw (enc_3 v (omega arith) m) (omega arith)
              | no m ↦ rw (enc_4 v (omega arith)) (omega arith)
            ]
          ]
        ]

units_le : (c : Text) → Encoded c → utf16_width c ≤ length c
unfolding utf16_width
units_le c h = rw (h.bytes, code_encode h.value h.scalar) (encode_units h.value)

sum_units : (cs : List Text) → All Encoded cs → sum utf16_width cs ≤ length (concat cs)
unfolding flatten
sum_units [] nil = omega arith
sum_units (c ∷ cs) (cons h k) = omega (arith, units_le c h, sum_units cs k, length-append c (concat cs))

pub utf16_le : (s : Text) → utf8 s ≡ true → utf16_len s ≤ length s
utf16_le s h = rw concat_chars at (sum_units (chars s) (chars_encoded s h))

-- a turn of a loop over the characters
pub utf16_step : (s : Text) (i v w : ℕ) → utf8 (drop i s) ≡ true → decode_at s i ≡ Char v w → utf16_len (drop i s) ≡ units_of v + utf16_len (drop (i + w) s)
utf16_step s i v w h e = ap (sum utf16_width) (char_at s i v w h e) ∙ ap (λ (n : ℕ). n + utf16_len (drop (i + w) s)) (utf16_at s i v w e)

-- ---- white space alone

abbrev pub white : Text → Bool
white s = all (λ c. white_space (code c)) (chars s)

pub white_step : (s : Text) (i v w : ℕ) → utf8 (drop i s) ≡ true → decode_at s i ≡ Char v w → white (drop i s) ≡ (white_space v && white (drop (i + w) s))
white_step s i v w h e =
    ap (all (λ c. white_space (code c))) (char_at s i v w h e) ∙ ap (λ (n : ℕ). white_space n && white (drop (i + w) s)) (code_at s i v w e)

module _ (f : Text → Bool) where
  -- f takes all that is left exactly where it takes all
  pick_all : (b : Bool) (x : Text) (xs : List Text) → f x ≡ b → all f (skip_while f xs) ≡ all f xs → all f (cond b (skip_while f xs) (x ∷ xs)) ≡ (f x && all f xs)
  pick_all true x xs e h = rw e h
  pick_all false x xs e h = refl

  skip_all : (xs : List Text) → all f (skip_while f xs) ≡ all f xs
  skip_all [] = refl
  skip_all (x ∷ xs) = pick_all (f x) x xs refl (skip_all xs)

-- the characters of characters one behind the other
encoded_all : (cs : List Text) → All Encoded cs → utf8 (concat cs) ≡ true
encoded_all [] nil = concat_utf8 [] nil
encoded_all (c ∷ cs) (cons h k) = concat_utf8 (c ∷ cs) (cons (encoded_utf8 c h) (each cs k))
  where
    each : (cs : List Text) → All Encoded cs → All (λ (c : Text). utf8 c ≡ true) cs
    each [] nil = nil
    each (c ∷ cs) (cons h k) = cons (encoded_utf8 c h) (each cs k)

chars_concat : (cs : List Text) → All Encoded cs → chars (concat cs) ≡ cs
unfolding flatten chars
chars_concat [] nil = refl
chars_concat (c ∷ cs) (cons h k) =
    ap (λ (b : Text). chars (b ++ concat cs)) h.bytes ∙ chars_encode h.value (concat cs) h.scalar (encoded_all cs k)
    ∙ ap (λ (b : Text). b ∷ chars (concat cs)) (sym h.bytes) ∙ ap (λ (l : List Text). c ∷ l) (chars_concat cs k)

units_some : (v : ℕ) → 1 ≤ units_of v
units_some v = go (leb 0x10000 v)
  where
    go : (b : Bool) → 1 ≤ cond b 2 1
    go true = omega arith
    go false = omega arith

concat_nil_is : (cs : List Text) → All Encoded cs → is_nil (concat cs) ≡ is_nil cs
unfolding flatten
concat_nil_is [] nil = refl
concat_nil_is (c ∷ cs) (cons h k) =
    let l : length c ≡ length (encode h.value) = ap length h.bytes in
    nil_false (c ++ concat cs) (omega (arith, length-append c (concat cs), encode_units h.value, units_some h.value))

pub trimmed_nil : (s : Text) → utf8 s ≡ true → is_nil (trim_white_space s) ≡ white s
unfolding trim_white_space trim_start_matches trim_end_matches
trimmed_nil s h =
    let f : Text → Bool = λ c. white_space (code c) in
    let xs = chars s in
    let ys = skip_while f xs in
    let a : All Encoded ys = all_skip_while f (chars_encoded s h) in
    let zs = skip_while f (reverse ys) in
    let b : All Encoded zs = all_skip_while f (all_reverse a) in
    ap (λ (l : List Text). is_nil (concat (reverse (skip_while f (reverse l))))) (chars_concat ys a)
    ∙ concat_nil_is (reverse zs) (all_reverse b) ∙ reverse_nil zs ∙ skip_nil f (reverse ys) ∙ tests_reverse f ys ∙ skip_all f xs

pub filled_is : (s : Text) → utf8 s ≡ true → filled_of s ≡ not (white s)
unfolding filled_of
filled_is s h = ap not (trimmed_nil s h)

-- ---- at most the length

pub measure_le : (m : Measure) (s : Text) → utf8 s ≡ true → measure_of m s ≤ length s
measure_le Bytes s h = omega arith
measure_le Utf16 s h = utf16_le s h
