-- Laws of what `Sides` in specs/ defines.
use mathlib.Core.Path.{◌≡◌, refl, sym, ap, ◌∙◌}
use mathlib.Core.Bool.{Bool, true, false}
use mathlib.Core.List.{List, [], ◌∷◌, ◌++◌, reverse, reverse-append, reverse-reverse, flatten}
use Prim.Native.Nat.{ℕ, ◌+◌, ◌≤◌, ◌<◌}
use native.Mathlib.Omega.{arith}
use lib.ListN.{length, get_or, take, drop, length-take, drop_of_length-le}
use lib.Seq.{take-take, take-length}
use Rattle.utf8.specs.Rfc3629.{follows, utf8, decode_at, code_of, LastStart}
use Rattle.utf8.specs.declared.Decoded.{Decoded}
use Rattle.utf8.specs.declared.Decoded.TheVariants.{Char, Invalid, End}
use Rattle.utf8.specs.Chars.{All, nil, cons, to_first, chars, concat, code}
use Rattle.utf8.proofs.Texts.{turn, stops, invalid_below, end_past, decode_drop}
use Rattle.utf8.proofs.Between.{between_take}
use Rattle.utf8.proofs.CharLaws.{concat_chars, char_at, code_at, chars_last}
use Rattle.model.specs.Text.{Text, is_nil, skip_while, trim_start_matches, trim_end_matches}
use Rattle.model_preservation.proofs.Lists.{of_cond}
use Rattle.model.proofs.Lists.{reverse_nil, all_reverse, all_skip_while, skip_nil, tests_reverse}
use Rattle.model.specs.Trim.{matches, trim_start_pattern, trim_end_pattern}
use Rattle.trim_text.specs.Sides.{trim_text, blank}

-- ---- characters have bytes

Some : List ℕ → Type 0
Some c = is_nil c ≡ false

first_some : (a : ℕ) {cs : List (List ℕ)} → All Some cs → All Some (to_first a cs)
unfolding to_first Some
first_some a nil = cons refl nil
first_some a (cons h k) = cons refl k

chars_some : (s : Text) → All Some (chars s)
unfolding chars Some
chars_some [] = nil
chars_some (a ∷ s) = of_cond (All Some) (follows (get_or s 0 0)) (λ _. first_some a (chars_some s)) (λ _. cons refl (chars_some s))

concat_is_nil : {cs : List (List ℕ)} → All Some cs → is_nil (concat cs) ≡ is_nil cs
unfolding flatten Some
concat_is_nil nil = refl
concat_is_nil (cons {x = []} h k) = let z : ◌≡◌ {A = Bool} true false = h in let y : ◌≡◌ {A = ℕ} 0 1 = cc in absurd (omega arith)
concat_is_nil (cons {x = a ∷ c} h k) = refl

-- nothing is left of a blank text, from either end
pub trim_nil : (front : Bool) (p : ℕ) (s : Text) → is_nil (trim_text front p s) ≡ blank p s
unfolding blank trim_start_matches trim_end_matches
trim_nil true p s = concat_is_nil (all_skip_while (λ c. matches p (code c)) (chars_some s)) ∙ skip_nil (λ c. matches p (code c)) (chars s)
trim_nil false p s =
    let f : List ℕ → Bool = λ c. matches p (code c) in
    concat_is_nil (all_reverse (all_skip_while f (all_reverse (chars_some s))))
    ∙ reverse_nil (skip_while f (reverse (chars s)))
    ∙ skip_nil f (reverse (chars s))
    ∙ tests_reverse f (chars s)

pub blank_nil : (p : ℕ) → blank p [] ≡ true
unfolding blank chars
blank_nil p = refl

-- ---- from the front: the first i bytes are taken off

pub record StartAt (p : ℕ) (s : Text) (i : ℕ) : Type 0 where
  pub inside : i ≤ length s
  pub whole : utf8 (drop i s) ≡ true
  pub same : trim_start_pattern p (drop i s) ≡ trim_start_pattern p s

pub start_none : (p : ℕ) (s : Text) → utf8 s ≡ true → StartAt p s 0
start_none p s h = record { inside = omega arith; whole = h; same = refl }

module _ (p : ℕ) (s : Text) (i : ℕ) (a : StartAt p s i) where
  module _ (v w : ℕ) (e : decode_at s i ≡ Char v w) where
    first : chars (drop i s) ≡ take w (drop i s) ∷ chars (drop (i + w) s)
    first = char_at s i v w a.whole e

    pub start_more : matches p v ≡ true → StartAt p s (i + w)
    unfolding trim_start_matches
    start_more m =
        let t = turn s i v w e in
        let q : trim_start_pattern p (drop i s) ≡ trim_start_pattern p (drop (i + w) s) = rw (first, code_at s i v w e, m) in
        record { inside = t.1; whole = sym t.2 ∙ a.whole; same = sym q ∙ a.same }

    pub start_stop : matches p v ≡ false → drop i s ≡ trim_start_pattern p s
    unfolding trim_start_matches
    start_stop m =
        let q : trim_start_pattern p (drop i s) ≡ concat (chars (drop i s)) = rw (first, code_at s i v w e, m) in
        sym (q ∙ concat_chars (drop i s)) ∙ a.same

  start_all : decode_at s i ≡ End → drop i s ≡ trim_start_pattern p s
  unfolding trim_start_matches chars flatten
  start_all e =
      let n : drop i s ≡ [] = drop_of_length-le s (end_past s i e) in
      let q : trim_start_pattern p (drop i s) ≡ [] = rw n in
      n ∙ sym q ∙ a.same

  start_whole : decode_at s i ≡ Invalid → ⊥
  start_whole e = let z : ◌≡◌ {A = ℕ} 0 1 = cc (stops s i (invalid_below s i e) e, a.whole) in omega arith

  pub start_over : (d : Decoded) → d ≡ decode_at s i → ((v w : ℕ) → d ≡ Char v w → ⊥) → drop i s ≡ trim_start_pattern p s
  start_over (Char v w) e none = absurd (none v w refl)
  start_over Invalid e none = absurd (start_whole (sym e))
  start_over End e none = start_all (sym e)

-- ---- from the end: the first n bytes stay

pub record EndAt (p : ℕ) (s : Text) (n : ℕ) : Type 0 where
  pub inside : n ≤ length s
  pub whole : utf8 (take n s) ≡ true
  pub same : trim_end_pattern p (take n s) ≡ trim_end_pattern p s

pub end_none : (p : ℕ) (s : Text) → utf8 s ≡ true → EndAt p s (length s)
end_none p s h = record { inside = omega arith; whole = rw take-length h; same = rw take-length }

pub end_all : (p : ℕ) (s : Text) → EndAt p s 0 → take 0 s ≡ trim_end_pattern p s
unfolding trim_end_matches chars flatten
end_all p s a = a.same

module _ (p : ℕ) (s : Text) (n : ℕ) (a : EndAt p s n) (r v : ℕ) (l : LastStart (take n s) r) (e : v ≡ code_of (decode_at (take n s) r)) where
  last : chars (take n s) ≡ chars (take r (take n s)) ++ (drop r (take n s) ∷ [])
  last = chars_last (take n s) r a.whole l

  last_code : code (drop r (take n s)) ≡ v
  unfolding code
  last_code = ap code_of (decode_drop (take n s) r l.inside) ∙ sym e

  turned : reverse (chars (take n s)) ≡ drop r (take n s) ∷ reverse (chars (take r (take n s)))
  turned = ap reverse last ∙ reverse-append (chars (take r (take n s))) (drop r (take n s) ∷ [])

  below : r < n
  below = omega (arith, l.inside, length-take n s)

  pub end_more : matches p v ≡ true → EndAt p s r
  unfolding trim_end_matches
  end_more m =
      let k : take r (take n s) ≡ take r s = take-take r n s (omega (arith, below)) in
      let q : trim_end_pattern p (take n s) ≡ trim_end_pattern p (take r s) = rw (turned, last_code, m, k) in
      record { inside = omega (arith, below, a.inside); whole = rw k at (between_take (take n s) r l.starts); same = sym q ∙ a.same }

  pub end_stop : matches p v ≡ false → take n s ≡ trim_end_pattern p s
  unfolding trim_end_matches
  end_stop m =
      let q : trim_end_pattern p (take n s) ≡ concat (reverse (reverse (chars (take n s)))) = rw (turned, last_code, m) in
      sym (q ∙ ap concat (reverse-reverse (chars (take n s))) ∙ concat_chars (take n s)) ∙ a.same
