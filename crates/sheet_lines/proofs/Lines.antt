-- Laws of texts that are put into a buffer, of decimals and of a line.
use Prim.Native.Nat.{ℕ, ◌+◌, ◌/◌, ◌%◌, ◌≤◌, ◌<◌}
use mathlib.Core.Path.{◌≡◌, refl, sym, ap, ap₂, ◌∙◌}
use mathlib.Core.List.{List, [], ◌∷◌, ◌++◌, append_assoc}
use lib.ListN.{length, take, drop, set, length-append, length-take, length-set}
use lib.Seq.{take_at, drop_at, drop-drop, set_split}
use borrow.Author.Tests.{lt-ltb, le-ltb}
use native.Mathlib.Numerals.{add-one}
use native.Mathlib.Omega.{arith}
use native.Mathlib.Decide.{dec_lt}
use Rattle.model_sheet.specs.Sheet.{MOST_LINE, digit, decimal, line}
use Rattle.sheet_lines.specs.Lines.{PutText}

-- ── texts in a buffer ──
-- one byte
put_byte : (d : List ℕ) (at x : ℕ) → at < length d → PutText d at (x ∷ []) (set d at x) (at + 1)
put_byte d at x h = record { out_is = rw add-one (set_split d at x h); next_is = refl }

-- a text, and another behind it
pub put_then : {d : List ℕ} {at : ℕ} {t d' : List ℕ} {r : ℕ} {u d'' : List ℕ} {r' : ℕ}
    → PutText d at t d' r → PutText d' r u d'' r' → at + length (t ++ u) ≤ length d → PutText d at (t ++ u) d'' r'
put_then {d} {at} {t} {d'} {r} {u} v w h =
    let front = take at d ++ t in
    let back = drop (at + length t) d in
    let both : length (t ++ u) ≡ length t + length u = length-append t u in
    let long : length front ≡ at + length t = simp (length-append, length-take) (omega arith) in
    let sum : at + length t + length u ≡ at + length (t ++ u) = omega arith in
    let is : d' ≡ front ++ back = v.out_is ∙ sym (append_assoc (take at d) t back) in
    let before : take r d' ≡ front = ap₂ take v.next_is is ∙ take_at front back (at + length t) long in
    let behind : drop (r + length u) d' ≡ drop (at + length (t ++ u)) d =
    ap₂ (λ k l. drop (k + length u) l) v.next_is is
    ∙ sym (drop-drop (length u) (at + length t) (front ++ back))
    ∙ ap (drop (length u)) (drop_at front back (at + length t) long)
    ∙ drop-drop (length u) (at + length t) d
    ∙ ap (λ k. drop k d) sum in
    record { out_is = rw (w.out_is, before, behind) (simp append_assoc); next_is = omega (arith, v.next_is, w.next_is) }

-- ── decimals and lines ──
one_digit : (n : ℕ) → n < 10 → decimal n ≡ digit n ∷ []
one_digit n h = rw (lt-ltb n 10 h)

two_digits : (n : ℕ) → 10 ≤ n → decimal n ≡ digit (n / 10) ∷ digit (n % 10) ∷ []
two_digits n h = rw (le-ltb n 10 h)

pub decimal_one : (n : ℕ) → n < 10 → length (decimal n) ≡ 1
decimal_one n h = ap length (one_digit n h)

pub decimal_most : (n : ℕ) → length (decimal n) ≤ 2
decimal_most n = elim (dec_lt n 10) [ yes h ↦ rw (one_digit n h) (omega arith) | no h ↦ rw (two_digits n (omega arith)) (omega arith) ]

pub line_most : (kind answer : ℕ) → kind < 10 → length (line kind answer) ≤ MOST_LINE
line_most kind answer h =
    let feed : List ℕ = 0x0A ∷ [] in
    omega (
      arith,
      length-append (decimal kind) (0x20 ∷ (decimal answer ++ feed)),
      length-append (decimal answer) feed,
      decimal_one kind h,
      decimal_most answer,
    )

-- ── what the stores leave ──
module _ (d : List ℕ) (at : ℕ) where
  pub put_one : (n x : ℕ) → n < 10 → at < length d → x ≡ digit n → PutText d at (decimal n) (set d at x) (at + 1)
  put_one n x h room e = rw (one_digit n h, ← e) (put_byte d at x room)

  pub put_two : (n x y : ℕ) → 10 ≤ n → at + 2 ≤ length d → x ≡ digit (n / 10) → y ≡ digit (n % 10)
      → PutText d at (decimal n) (set (set d at x) (at + 1) y) (at + 2)
  put_two n x y h room e f =
      let same : length (set d at x) ≡ length d = length-set d at x in
      let sum : at + 1 + 1 ≡ at + 2 = omega arith in
      rw (two_digits n h, ← e, ← f, ← sum) (put_then (put_byte d at x (omega arith)) (put_byte (set d at x) (at + 1) y (omega arith)) room)

  -- a space behind the kind, and a line feed behind the answer
  pub put_all : (kind answer : ℕ) {d' d'' : List ℕ} {space end : ℕ} → kind < 10 → at + MOST_LINE ≤ length d → length d' ≡ length d → length d'' ≡ length d
      → PutText d at (decimal kind) d' space → PutText (set d' space 0x20) (space + 1) (decimal answer) d'' end
      → PutText d at (line kind answer) (set d'' end 0x0A) (end + 1)
  put_all kind answer {d'} {d''} {space} {end} h room same same' v w =
      let kept : length (set d' space 0x20) ≡ length d' = length-set d' space 0x20 in
      let most : length (line kind answer) ≤ MOST_LINE = line_most kind answer h in
      let last : length (decimal answer ++ (0x0A ∷ [])) ≡ length (decimal answer) + 1 = length-append (decimal answer) (0x0A ∷ []) in
      let two : length (decimal answer) ≤ 2 = decimal_most answer in
      let spaced : space ≡ at + 1 = omega (arith, v.next_is, decimal_one kind h) in
      let ended : end ≡ space + 1 + length (decimal answer) = w.next_is in
      let feed : PutText (set d' space 0x20) (space + 1) (decimal answer ++ (0x0A ∷ [])) (set d'' end 0x0A) (end + 1) =
      put_then w (put_byte d'' end 0x0A (omega arith)) (omega arith) in
      put_then v (put_then (put_byte d' space 0x20 (omega arith)) feed (omega arith)) (omega arith)
