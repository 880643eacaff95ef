-- The laws of a text's characters that other crates cite.
use mathlib.Core.Path.{◌≡◌, refl, sym, ap, ◌∙◌, subst}
use mathlib.Core.Bool.{Bool, true, false, not, cond}
use mathlib.Core.List.{List, [], ◌∷◌, ◌++◌, append_assoc, append-nil, flatten}
use Prim.Native.Nat.{ℕ, suc, ◌+◌, ◌/◌, ◌%◌, ◌<◌}
use native.Mathlib.Omega.{arith}
use native.Mathlib.Decide.{dec_lt}
use lib.Dec.{leb}
use lib.ListN.{length, get_or, take, drop, take-append-drop, length-drop}
use lib.Seq.{drop-drop, drop-cons, get_or-drop}
use Rattle.utf8.specs.Rfc3629.{follows, utf8, decode_at, code_of, LastStart}
use Rattle.utf8.proofs.Encode.{is_scalar, encode, Text, none, more}
use Rattle.utf8.specs.Chars.{All, nil, cons, to_first, chars, concat, code, utf16_width}
use Rattle.utf8.proofs.Texts.{utf8_nil, turn}
use Rattle.utf8.proofs.Boundaries.{starts, between_at}
use Rattle.utf8.proofs.Encoded.{decode_encode, decoded_bytes, utf8_encode, valid_is_text, text_is_valid, enc_1, enc_2, enc_3, enc_4, follow}
use Rattle.utf8.proofs.Between.{utf8_append, utf8_drop, between_take}
use Rattle.utf8.specs.declared.Decoded.TheVariants.{Char}

-- ---- every list is its characters one behind the other

concat_first : (a : ℕ) (cs : List (List ℕ)) → concat (to_first a cs) ≡ a ∷ concat cs
unfolding to_first flatten
concat_first a [] = refl
concat_first a (c ∷ cs) = refl

concat_one : (a : ℕ) (cs : List (List ℕ)) → concat ((a ∷ []) ∷ cs) ≡ a ∷ concat cs
unfolding flatten
concat_one a cs = refl

concat_cond : (t : Bool) (a : ℕ) (cs : List (List ℕ)) → concat (cond t (to_first a cs) ((a ∷ []) ∷ cs)) ≡ a ∷ concat cs
concat_cond true a cs = concat_first a cs
concat_cond false a cs = concat_one a cs

pub concat_chars : (s : List ℕ) → concat (chars s) ≡ s
unfolding chars flatten
concat_chars [] = refl
concat_chars (a ∷ s) = concat_cond (follows (get_or s 0 0)) a (chars s) ∙ ap (λ (r : List ℕ). a ∷ r) (concat_chars s)

pub concat_append : (xs ys : List (List ℕ)) → concat (xs ++ ys) ≡ concat xs ++ concat ys
unfolding flatten
concat_append [] ys = refl
concat_append (x ∷ xs) ys = ap (λ (r : List ℕ). x ++ r) (concat_append xs ys) ∙ sym (append_assoc x (concat xs) (concat ys))

-- ---- a byte and following bytes, in front of a list that begins with none

chars_one : (a : ℕ) (s : List ℕ) → follows (get_or s 0 0) ≡ false → chars (a ∷ s) ≡ (a ∷ []) ∷ chars s
unfolding chars
chars_one a s h = rw h

chars_more : (a b : ℕ) (s t : List ℕ) (r : List (List ℕ)) → follows b ≡ true → chars (b ∷ s) ≡ t ∷ r → chars (a ∷ b ∷ s) ≡ (a ∷ t) ∷ r
unfolding chars to_first
chars_more a b s t r h e = rw (h, e)

chars_run : (a : ℕ) (t s : List ℕ) → All (λ b. follows b ≡ true) t → follows (get_or s 0 0) ≡ false → chars (a ∷ (t ++ s)) ≡ (a ∷ t) ∷ chars s
chars_run a [] s nil k = chars_one a s k
chars_run a (b ∷ t) s (cons h l) k = chars_more a b (t ++ s) (b ∷ t) (chars s) h (chars_run b t s l k)

-- the bytes of a scalar value are one byte and following bytes
record Shape (c : List ℕ) : Type 0 where
  lead : ℕ
  rest : List ℕ
  bytes : c ≡ lead ∷ rest
  follow_on : All (λ b. follows b ≡ true) rest

shape : (v : ℕ) → Shape (encode v)
shape v =
    elim (dec_lt v 0x80) [
      | yes h ↦ record { lead = v; rest = []; bytes = enc_1 v h; follow_on = nil }
      | no h ↦ elim (dec_lt v 0x800) [
        | yes k ↦ record { lead = 0xC0 + v / 64; rest = (0x80 + v % 64) ∷ []; bytes = enc_2 v (omega arith) k; follow_on = cons (follow (v % 64) (omega arith)) nil }
        | no k ↦ elim (dec_lt v 0x10000) [
          | yes m ↦ record {
            lead = 0xE0 + v / 4096;
            rest = (0x80 + v / 64 % 64) ∷ (0x80 + v % 64) ∷ [];
            bytes = enc_3 v (omega arith) m;
            follow_on =
                cons (follow (v / 64 % 64) (omega arith)) (cons (follow (v % 64) (omega arith)) nil);
          }
          | no m ↦ record {
            lead = 0xF0 + v / 262144;
            rest = (0x80 + v / 4096 % 64) ∷ (0x80 + v / 64 % 64) ∷ (0x80 + v % 64) ∷ [];
            bytes =
                enc_4 v (omega arith);
            follow_on = cons (follow (v / 4096 % 64) (omega arith))
                (cons (follow (v / 64 % 64) (omega arith)) (cons (follow (v % 64) (omega arith)) nil));
          }
        ]
      ]
    ]

pub chars_encode : (v : ℕ) (s : List ℕ) → is_scalar v ≡ true → utf8 s ≡ true → chars (encode v ++ s) ≡ encode v ∷ chars s
chars_encode v s e t = let h = shape v in rw h.bytes (chars_run h.lead h.rest s h.follow_on (starts s t))

pub code_encode : (v : ℕ) → is_scalar v ≡ true → code (encode v) ≡ v
unfolding code
code_encode v e = ap code_of (rw append-nil at (decode_encode v [] e))

-- ---- the characters of a text are encoded scalar values, so texts

pub record Encoded (c : List ℕ) : Type 0 where
  pub value : ℕ
  pub scalar : is_scalar value ≡ true
  pub bytes : c ≡ encode value

encoded_text : {s : List ℕ} → Text s → All Encoded (chars s)
unfolding chars
encoded_text none = nil
encoded_text (more v {s} e t) = subst (All Encoded) (sym (chars_encode v s e (text_is_valid t))) (cons (record { value = v; scalar = e; bytes = refl }) (encoded_text t))

pub chars_encoded : (s : List ℕ) → utf8 s ≡ true → All Encoded (chars s)
chars_encoded s h = encoded_text (valid_is_text s h)

pub encoded_utf8 : (c : List ℕ) → Encoded c → utf8 c ≡ true
encoded_utf8 c h = rw (h.bytes, sym (append-nil (encode h.value))) (utf8_encode h.value [] h.scalar ∙ utf8_nil)

each_utf8 : (cs : List (List ℕ)) → All Encoded cs → All (λ c. utf8 c ≡ true) cs
each_utf8 [] nil = nil
each_utf8 (c ∷ cs) (cons h k) = cons (encoded_utf8 c h) (each_utf8 cs k)

pub chars_utf8 : (s : List ℕ) → utf8 s ≡ true → All (λ c. utf8 c ≡ true) (chars s)
chars_utf8 s h = each_utf8 (chars s) (chars_encoded s h)

pub concat_utf8 : (cs : List (List ℕ)) → All (λ c. utf8 c ≡ true) cs → utf8 (concat cs) ≡ true
unfolding flatten
concat_utf8 [] nil = utf8_nil
concat_utf8 (c ∷ cs) (cons h k) = utf8_append c (concat cs) h (concat_utf8 cs k)

module _ {A : Type 0} (P : A → Type 0) where
  pub all_front : (xs ys : List A) → All P (xs ++ ys) → All P xs
  all_front [] ys h = nil
  all_front (x ∷ xs) ys (cons h k) = cons h (all_front xs ys k)

  pub all_back : (xs ys : List A) → All P (xs ++ ys) → All P ys
  all_back [] ys h = h
  all_back (x ∷ xs) ys (cons h k) = all_back xs ys k

text_append : {s : List ℕ} → Text s → (t : List ℕ) → utf8 t ≡ true → chars (s ++ t) ≡ chars s ++ chars t
unfolding chars
text_append none t h = refl
text_append (more v {s} e x) t h =
    ap chars (append_assoc (encode v) s t) ∙ chars_encode v (s ++ t) e (utf8_append s t (text_is_valid x) h) ∙ ap (λ (r : List (List ℕ)). encode v ∷ r) (text_append x t h)
    ∙ sym (ap (λ (r : List (List ℕ)). r ++ chars t) (chars_encode v s e (text_is_valid x)))

pub chars_append : (s t : List ℕ) → utf8 s ≡ true → utf8 t ≡ true → chars (s ++ t) ≡ chars s ++ chars t
chars_append s t h k = text_append (valid_is_text s h) t k

-- ---- a walk over the characters of a text, by `decode_at`

-- it is the first of the characters from there on
pub char_at : (s : List ℕ) (i v w : ℕ) → utf8 (drop i s) ≡ true → decode_at s i ≡ Char v w → chars (drop i s) ≡ take w (drop i s) ∷ chars (drop (i + w) s)
char_at s i v w h e =
    let b = decoded_bytes s i v w e in
    let t : utf8 (drop (i + w) s) ≡ true = sym (turn s i v w e).2 ∙ h in
    let q : drop i s ≡ encode v ++ drop (i + w) s = sym (take-append-drop w (drop i s)) ∙ ap (λ (r : List ℕ). r ++ drop w (drop i s)) (sym b.1)
    ∙ ap (λ (r : List ℕ). encode v ++ r) (drop-drop w i s) in
    ap chars q ∙ chars_encode v (drop (i + w) s) b.0 t ∙ ap (λ (c : List ℕ). c ∷ chars (drop (i + w) s)) b.1

-- and has the code that is decoded
pub code_at : (s : List ℕ) (i v w : ℕ) → decode_at s i ≡ Char v w → code (take w (drop i s)) ≡ v
code_at s i v w e = let b = decoded_bytes s i v w e in sym (ap code b.1) ∙ code_encode v b.0

-- and as many UTF-16 units as that code
pub utf16_at : (s : List ℕ) (i v w : ℕ) → decode_at s i ≡ Char v w → utf16_width (take w (drop i s)) ≡ cond (leb 0x10000 v) 2 1
unfolding utf16_width
utf16_at s i v w e = rw (code_at s i v w e)

-- the last character of a text
all_follow : (s : List ℕ) → ((k : ℕ) → k < length s → follows (get_or s k 0) ≡ true) → All (λ b. follows b ≡ true) s
all_follow [] h = nil
all_follow (b ∷ s) h = cons (h 0 (omega arith)) (all_follow s (λ k l. h (suc k) (omega arith)))

not_between : (b : Bool) → not b ≡ false → b ≡ true
not_between true e = refl
not_between false e = sym e

pub chars_last : (s : List ℕ) (r : ℕ) → utf8 s ≡ true → LastStart s r → chars s ≡ chars (take r s) ++ (drop r s ∷ [])
unfolding chars
chars_last s r h l =
    let d : drop r s ≡ get_or s r 0 ∷ drop (suc r) s = drop-cons s r 0 l.inside in
    let f = all_follow (drop (suc r) s) (λ k m. let n : suc r + k < length s = omega (arith, length-drop (suc r) s) in
    getD_follow k n) in
    let q : chars (drop r s) ≡ drop r s ∷ [] = rw (d, sym (append-nil (drop (suc r) s))) (chars_run (get_or s r 0) (drop (suc r) s) [] f refl ∙ rw append-nil) in
    ap chars (sym (take-append-drop r s)) ∙ chars_append (take r s) (drop r s) (between_take s r l.starts) (utf8_drop s r h l.starts) ∙ ap (λ (c : List (List ℕ)). chars (take r s) ++ c) q
  where
    getD_follow : (k : ℕ) → suc r + k < length s → follows (get_or (drop (suc r) s) k 0) ≡ true
    getD_follow k n = rw get_or-drop (not_between _ (sym (between_at s (suc r + k) h n) ∙ l.last (suc r + k) (omega arith) n))
