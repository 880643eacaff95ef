-- On a valid text, byte by byte is the same as by characters.
use mathlib.Core.Path.{◌≡◌, refl, ap, sym, ◌∙◌, subst}
use mathlib.Core.Bool.{Bool, true, false, ◌&&◌, ◌||◌, not, cond}
use mathlib.Core.List.{List, [], ◌∷◌, ◌++◌, append_assoc, flatten}
use Prim.Native.Nat.{ℕ, suc, ◌+◌, ◌/◌, ◌%◌, ◌≤◌}
use native.Mathlib.Omega.{arith}
use native.Mathlib.Decide.{dec_lt}
use native.Mathlib.Nat.{add-zero}
use lib.Dec.{eqb}
use lib.ListN.{length}
use borrow.Author.Tests.{ne_eqb}
use Rattle.utf8.specs.Rfc3629.{follows, utf8}
use Rattle.utf8.specs.Chars.{All, nil, cons, chars, concat}
use Rattle.utf8.proofs.Encode.{encode}
use Rattle.utf8.proofs.Encoded.{enc_1, enc_2, enc_3, enc_4, follow}
use Rattle.utf8.proofs.Sequences.{follows_from, follows_below, follows_above}
use Rattle.utf8.proofs.CharLaws.{Encoded, chars_encoded, concat_chars}
use Rattle.model.specs.Text.{Text, LF, CR}
use Rattle.model.specs.Indent.{Indented, then_text, indent_chars, indent_frag, excluded, Starts, then_start, line_starts}
use Rattle.indent_mark.specs.Bytes.{mark_on, mark_behind, indented_byte, starts_from}
use Rattle.indent_mark.proofs.Bytes.{indent_bytes}

-- ---- one text behind another

pub mark_snoc : (mark : Bool) (s : Text) (b : ℕ) → mark_behind mark (s ++ (b ∷ [])) ≡ mark_on (mark_behind mark s) b
unfolding mark_behind
mark_snoc mark [] b = refl
mark_snoc mark (a ∷ s) b = mark_snoc (mark_on mark a) s b

pub indent_append : (indentor : Text) (mark : Bool) (s t : Text) → indent_bytes indentor mark (s ++ t) ≡ indent_bytes indentor mark s ++ indent_bytes indentor (mark_behind mark s) t
unfolding mark_behind indent_bytes
indent_append indentor mark [] t = refl
indent_append indentor mark (b ∷ s) t =
    ap (λ (r : Text). indented_byte indentor mark b ++ r) (indent_append indentor (mark_on mark b) s t) ∙ sym (append_assoc (indented_byte indentor mark b) _ _)

-- ---- a character: one byte, or a first byte that is no line feed and no carriage return, and following bytes

data Shape : Text → Type 0 where
  one : (a : ℕ) → follows a ≡ false → Shape (a ∷ [])
  long : (a b : ℕ) (t : Text) → 0xC0 ≤ a → All (λ x. follows x ≡ true) (b ∷ t) → Shape (a ∷ b ∷ t)

shape_of : (v : ℕ) → Shape (encode v)
shape_of v =
    elim (dec_lt v 0x80) [
      | yes h ↦ rw (enc_1 v h) (one v (follows_below v h))
      | no h ↦ elim (dec_lt v 0x800) [
        | yes k ↦ rw (enc_2 v (omega arith) k) (long (0xC0 + v / 64) (0x80 + v % 64) [] (omega arith) (cons (follow (v % 64) (omega arith)) nil))
        | no k ↦ elim (dec_lt v 0x10000) [
          | yes m ↦ rw (enc_3 v (omega arith) m) (long (0xE0 + v / 4096) (0x80 + v / 64 % 64) ((0x80 + v % 64) ∷ []) (omega arith)
              (cons (follow (v / 64 % 64) (omega arith)) (cons (follow (v % 64) (omega arith)) nil)))
          | no m ↦ rw (enc_4 v (omega arith)) (long (0xF0 + v / 262144) (0x80 + v / 4096 % 64) ((0x80 + v / 64 % 64) ∷ (0x80 + v % 64) ∷ []) (omega arith)
              (cons (follow (v / 4096 % 64) (omega arith)) (cons (follow (v / 64 % 64) (omega arith)) (cons (follow (v % 64) (omega arith)) nil))))
        ]
      ]
    ]

shapes : {cs : List Text} → All Encoded cs → All Shape cs
shapes nil = nil
shapes (cons {x = c} h k) = cons (subst Shape (sym h.bytes) (shape_of h.value)) (shapes k)

shapes_of : (t : Text) → utf8 t ≡ true → All Shape (chars t)
shapes_of t h = shapes (chars_encoded t h)

-- a byte from 80 on is no line feed and no carriage return
not_feed : (b : ℕ) → 0x80 ≤ b → eqb b LF ≡ false
not_feed b h = ne_eqb b LF (λ (e : b ≡ LF). omega arith)

not_return : (b : ℕ) → 0x80 ≤ b → eqb b CR ≡ false
not_return b h = ne_eqb b CR (λ (e : b ≡ CR). omega arith)

-- ---- `indent_frag`

-- the bytewise form
abbrev pub indented : Text → Bool → Text → Indented
indented indentor mark t = record { mark = mark_behind mark t; text = indent_bytes indentor mark t }

-- following bytes behind a first byte
run_mark : (t s : Text) → All (λ x. follows x ≡ true) t → mark_behind false (t ++ s) ≡ mark_behind false s
unfolding mark_behind
run_mark [] s nil = refl
run_mark (b ∷ t) s (cons h k) = let l = (follows_from b h).0 in rw (not_feed b l, not_return b l, mark_behind) (run_mark t s k)

run_text : (indentor t s : Text) → All (λ x. follows x ≡ true) t → indent_bytes indentor false (t ++ s) ≡ t ++ indent_bytes indentor false s
unfolding indent_bytes
run_text indentor [] s nil = refl
run_text indentor (b ∷ t) s (cons h k) = let l = (follows_from b h).0 in rw (not_feed b l, not_return b l) (ap (λ (r : Text). b ∷ r) (run_text indentor t s k))

cong_record : {m n : Bool} {s t : Text} → m ≡ n → s ≡ t → ◌≡◌ {A = Indented} (record { mark = m; text = s }) (record { mark = n; text = t })
cong_record e f = rw (e, f)

append_tail : (i : Text) (a : ℕ) (t r : Text) → (i ++ (a ∷ t)) ++ r ≡ (i ++ (a ∷ [])) ++ (t ++ r)
append_tail i a t r = append_assoc i (a ∷ t) r ∙ sym (append_assoc i (a ∷ []) (t ++ r))

module _ (indentor : Text) (cs : List Text) (ih : (k : Bool) → indent_chars indentor k cs ≡ indented indentor k (concat cs)) where
  -- a character's step, with the tests of its first byte as variables
  abbrev by_char : Text → Bool → Bool → Bool → Indented
  by_char c mark l r =
      elim l as (λ _. Indented) [
        | true ↦ then_text c (indent_chars indentor true cs)
        | false ↦ elim (not r && mark) as (λ _. Indented) [
          | true ↦ then_text (indentor ++ c) (indent_chars indentor false cs)
          | false ↦ then_text c (indent_chars indentor mark cs)
        ]
      ]

  abbrev by_byte : ℕ → Text → Bool → Bool → Bool → Indented
  by_byte a s mark l r =
      record {
        mark = mark_behind (cond l true (r && mark)) s;
        text = cond (mark && (not l && not r)) (indentor ++ (a ∷ [])) (a ∷ []) ++ indent_bytes indentor (cond l true (r && mark)) s;
      }

  one_step : (a : ℕ) (mark l r : Bool) → by_char (a ∷ []) mark (l && true) (r && true) ≡ by_byte a (concat cs) mark l r
  one_step a true true r = ap (then_text (a ∷ [])) (ih true)
  one_step a false true r = ap (then_text (a ∷ [])) (ih true)
  one_step a true false true = ap (then_text (a ∷ [])) (ih true)
  one_step a false false true = ap (then_text (a ∷ [])) (ih false)
  one_step a true false false = ap (then_text (indentor ++ (a ∷ []))) (ih false)
  one_step a false false false = ap (then_text (a ∷ [])) (ih false)

  indent_one : (mark : Bool) (a : ℕ) → indent_chars indentor mark ((a ∷ []) ∷ cs) ≡ indented indentor mark (a ∷ concat cs)
  unfolding mark_behind indent_bytes
  indent_one mark a = one_step a mark (eqb a LF) (eqb a CR)

  long_step : (a : ℕ) (t : Text) → All (λ x. follows x ≡ true) t → (mark l r : Bool) → l ≡ false → r ≡ false → by_char (a ∷ t) mark (l && false) (r && false) ≡ by_byte a (t ++ concat cs) mark l r
  long_step a t k true l r e f =
      rw (e, f)
      (ap (then_text (indentor ++ (a ∷ t))) (ih false)
      ∙ cong_record (sym (run_mark t (concat cs) k)) (append_tail indentor a t (indent_bytes indentor false (concat cs))
      ∙ ap (λ (r : Text). (indentor ++ (a ∷ [])) ++ r) (sym (run_text indentor t (concat cs) k))))
  long_step a t k false l r e f =
      rw (e, f) (ap (then_text (a ∷ t)) (ih false) ∙ cong_record (sym (run_mark t (concat cs) k)) (ap (λ (r : Text). a ∷ r) (sym (run_text indentor t (concat cs) k))))

  indent_long : (mark : Bool) (a b : ℕ) (t : Text) → 0xC0 ≤ a → All (λ x. follows x ≡ true) (b ∷ t) → indent_chars indentor mark ((a ∷ b ∷ t) ∷ cs) ≡ indented indentor mark (a ∷ b ∷ (t ++ concat cs))
  unfolding mark_behind indent_bytes
  indent_long mark a b t h k = long_step a (b ∷ t) k mark (eqb a LF) (eqb a CR) (not_feed a (omega arith)) (not_return a (omega arith))

indent_each : (indentor : Text) (mark : Bool) {cs : List Text} → All Shape cs → indent_chars indentor mark cs ≡ indented indentor mark (concat cs)
unfolding mark_behind indent_bytes flatten
indent_each indentor mark nil = refl
indent_each indentor mark (cons {xs = cs} (one a h) k) = indent_one indentor cs (λ m. indent_each indentor m k) mark a
indent_each indentor mark (cons {xs = cs} (long a b t h j) k) = indent_long indentor cs (λ m. indent_each indentor m k) mark a b t h j

-- `indent_frag` of a valid text
pub indent_frag_is : (indentor : Text) (mark : Bool) (t : Text) → utf8 t ≡ true → indent_frag indentor mark t ≡ indented indentor mark t
indent_frag_is indentor mark t h = indent_each indentor mark (shapes_of t h) ∙ ap (indented indentor mark) (concat_chars t)

-- ---- `line_starts`

-- following bytes are passed over
run_starts : (exclude : List ℕ) (mark : Bool) (i : ℕ) (t s : Text) → All (λ x. follows x ≡ true) t → starts_from exclude mark i (t ++ s) ≡ starts_from exclude mark (i + length t) s
unfolding starts_from
run_starts exclude mark i [] s nil = rw add-zero
run_starts exclude mark i (b ∷ t) s (cons h k) =
    let l = (follows_from b h).0 in
    let n : i + length (b ∷ t) ≡ i + 1 + length t = omega arith in
    go mark (eqb b LF) (eqb b CR) (follows b) (excluded exclude i) (not_feed b l) (not_return b l) h ∙ run_starts exclude mark (i + 1) t s k ∙ ap (λ (j : ℕ). starts_from exclude mark j s) (sym n)
  where
    go : (m l r f x : Bool) → l ≡ false → r ≡ false → f ≡ true
        → cond ((m && (not l && not r)) && (not f && not x)) (then_start i (starts_from exclude false (i + 1) (t ++ s)))
        (starts_from exclude (m || (l && not x)) (i + 1) (t ++ s)) ≡ starts_from exclude m (i + 1) (t ++ s)
    go true l r f x e e' e'' = rw (e, e', e'')
    go false l r f x e e' e'' = rw e

module _ (exclude : List ℕ) (cs : List Text) (ih : (k : Bool) (i : ℕ) → line_starts exclude k i cs ≡ starts_from exclude k i (concat cs)) where
  abbrev starts_by_char : ℕ → ℕ → Bool → Bool → Bool → Bool → Starts
  starts_by_char i n mark x l r =
      elim x as (λ _. Starts) [
        | true ↦ line_starts exclude mark (i + n) cs
        | false ↦ elim l as (λ _. Starts) [
          | true ↦ line_starts exclude true (i + n) cs
          | false ↦ elim (not r && mark) as (λ _. Starts) [
            | true ↦ then_start i (line_starts exclude false (i + n) cs)
            | false ↦ line_starts exclude mark (i + n) cs
          ]
        ]
      ]

  abbrev starts_by_byte : ℕ → Text → Bool → Bool → Bool → Bool → Bool → Starts
  starts_by_byte i s mark x l r f =
      cond ((mark && (not l && not r)) && (not f && not x)) (then_start i (starts_from exclude false (i + 1) s)) (starts_from exclude (mark || (l && not x)) (i + 1) s)

  -- a first byte, and following bytes t
  starts_step : (i : ℕ) (t : Text) → All (λ x. follows x ≡ true) t → (mark x l r f : Bool) → f ≡ false
      → starts_by_char i (suc (length t)) mark x l r ≡ starts_by_byte i (t ++ concat cs) mark x l r f
  starts_step i t k mark x l r f e = rw e (go mark x l r)
    where
      rest : (m : Bool) → line_starts exclude m (i + suc (length t)) cs ≡ starts_from exclude m (i + 1) (t ++ concat cs)
      rest m =
          let n : i + suc (length t) ≡ i + 1 + length t = omega arith in
          ih m (i + suc (length t)) ∙ ap (λ (j : ℕ). starts_from exclude m j (concat cs)) n ∙ sym (run_starts exclude m (i + 1) t (concat cs) k)

      go : (m x l r : Bool) → starts_by_char i (suc (length t)) m x l r ≡ starts_by_byte i (t ++ concat cs) m x l r false
      go true true true r = rest true
      go true true false true = rest true
      go true true false false = rest true
      go true false true r = rest true
      go true false false true = rest true
      go true false false false = ap (then_start i) (rest false)
      go false true true r = rest false
      go false true false r = rest false
      go false false true r = rest true
      go false false false true = rest false
      go false false false false = rest false

  starts_one : (i : ℕ) (mark x l r f : Bool) → f ≡ false → starts_by_char i 1 mark x (l && true) (r && true) ≡ starts_by_byte i (concat cs) mark x l r f
  starts_one i mark x true true f e = starts_step i [] nil mark x true true f e
  starts_one i mark x true false f e = starts_step i [] nil mark x true false f e
  starts_one i mark x false true f e = starts_step i [] nil mark x false true f e
  starts_one i mark x false false f e = starts_step i [] nil mark x false false f e

  starts_long : (i : ℕ) (t : Text) → All (λ x. follows x ≡ true) t → (mark x l r f : Bool) → l ≡ false → r ≡ false → f ≡ false
      → starts_by_char i (suc (length t)) mark x (l && false) (r && false) ≡ starts_by_byte i (t ++ concat cs) mark x l r f
  starts_long i t k mark x l r f e e' h = rw (e, e') (starts_step i t k mark x false false f h)

  line_one : (mark : Bool) (i a : ℕ) → follows a ≡ false → line_starts exclude mark i ((a ∷ []) ∷ cs) ≡ starts_from exclude mark i (a ∷ concat cs)
  unfolding starts_from
  line_one mark i a h = starts_one i mark (excluded exclude i) (eqb a LF) (eqb a CR) (follows a) h

  line_long : (mark : Bool) (i a b : ℕ) (t : Text) → 0xC0 ≤ a → All (λ x. follows x ≡ true) (b ∷ t) → line_starts exclude mark i ((a ∷ b ∷ t) ∷ cs) ≡
      starts_from exclude mark i (a ∷ b ∷ (t ++ concat cs))
  unfolding starts_from
  line_long mark i a b t h k = starts_long i (b ∷ t) k mark (excluded exclude i) (eqb a LF) (eqb a CR) (follows a) (not_feed a (omega arith)) (not_return a (omega arith)) (follows_above a h)

starts_each : (exclude : List ℕ) (mark : Bool) (i : ℕ) {cs : List Text} → All Shape cs → line_starts exclude mark i cs ≡ starts_from exclude mark i (concat cs)
unfolding starts_from flatten
starts_each exclude mark i nil = refl
starts_each exclude mark i (cons {xs = cs} (one a h) k) = line_one exclude cs (λ m j. starts_each exclude m j k) mark i a h
starts_each exclude mark i (cons {xs = cs} (long a b t h j) k) = line_long exclude cs (λ m n. starts_each exclude m n k) mark i a b t h j

-- the line starts of a valid text
pub line_starts_is : (exclude : List ℕ) (mark : Bool) (i : ℕ) (t : Text) → utf8 t ≡ true → line_starts exclude mark i (chars t) ≡ starts_from exclude mark i t
line_starts_is exclude mark i t h = starts_each exclude mark i (shapes_of t h) ∙ ap (starts_from exclude mark i) (concat_chars t)
