-- Laws of numbers of four bytes, one behind the other.
use Prim.Native.Nat.{ℕ, zero, suc, ◌+◌, ◌*◌, ◌^◌, ◌≤◌, ◌<◌}
use mathlib.Core.Path.{◌≡◌, refl, sym, ap, ap₂, ◌∙◌}
use mathlib.Core.List.{List, [], ◌∷◌, ◌++◌, append_assoc}
use lib.ListN.{length, take, drop, length-append, length-drop}
use lib.Seq.{take-add, take-append-le, drop-append-le, take_at, drop_at, length-take-le}
use native.Mathlib.Omega.{arith}
use Rattle.utf8.specs.Chars.{All, nil, cons}
use Rattle.model_sheet.specs.BigEndian.{Bytes, number, bytes}
use Rattle.model_sheet.specs.Record.{quads, numbers}
use Rattle.model_sheet.proofs.BigEndian.{length_bytes, number_bytes, bytes_number, bytes_are_bytes, number_below}
use Rattle.model.proofs.Lists.{all_append}
use Rattle.model_sheet.proofs.Lists.{all_take, all_drop}

pub length_numbers : (p : ℕ) (s : List ℕ) → length (numbers p s) ≡ p
unfolding numbers
length_numbers zero s = refl
length_numbers (suc p) s = ap suc (length_numbers p (drop 4 s))

pub length_quads : (xs : List ℕ) → length (quads xs) ≡ 4 * length xs
unfolding quads
length_quads [] = refl
length_quads (x ∷ xs) = omega (arith, length-append (bytes 4 x) (quads xs), length_bytes 4 x, length_quads xs)

-- written, then read
pub numbers_quads : {xs : List ℕ} → All (λ x. x < 256 ^ 4) xs → (t : List ℕ) → numbers (length xs) (quads xs ++ t) ≡ xs
unfolding numbers quads
numbers_quads nil t = refl
numbers_quads (cons {x = x} {xs = xs} h hs) t =
    rw (append_assoc, take_at (bytes 4 x) (quads xs ++ t) 4 (length_bytes 4 x), drop_at (bytes 4 x) (quads xs ++ t) 4 (length_bytes 4 x), number_bytes 4 x h, numbers_quads hs t)

-- read, then written
pub quads_numbers : (p : ℕ) {s : List ℕ} → Bytes s → 4 * p ≤ length s → quads (numbers p s) ≡ take (4 * p) s
unfolding numbers quads
quads_numbers zero h n = refl
quads_numbers (suc p) {s} h n =
    let four : length (take 4 s) ≡ 4 = length-take-le 4 s (omega arith) in
    let one : bytes 4 (number (take 4 s)) ≡ take 4 s = ap (λ k. bytes k (number (take 4 s))) (sym four) ∙ bytes_number (all_take 4 h) in
    let more : quads (numbers p (drop 4 s)) ≡ take (4 * p) (drop 4 s) = quads_numbers p (all_drop 4 h) (omega (arith, length-drop 4 s)) in
    let sum : 4 * suc p ≡ 4 + 4 * p = omega arith in
    ap₂ (λ a b. a ++ b) one more ∙ sym (take-add 4 (4 * p) s) ∙ ap (λ k. take k s) (sym sum)

-- what is read depends on the bytes read
pub numbers_local : (p : ℕ) (s t : List ℕ) → 4 * p ≤ length s → numbers p (s ++ t) ≡ numbers p s
unfolding numbers
numbers_local zero s t n = refl
numbers_local (suc p) s t n =
    ap₂ (λ a b. number a ∷ b) (take-append-le 4 s t (omega arith))
    (ap (numbers p) (drop-append-le 4 s t (omega arith)) ∙ numbers_local p (drop 4 s) t (omega (arith, length-drop 4 s)))

pub numbers_below : (p : ℕ) {s : List ℕ} → Bytes s → 4 * p ≤ length s → All (λ x. x < 256 ^ 4) (numbers p s)
unfolding numbers
numbers_below zero h n = nil
numbers_below (suc p) {s} h n =
    let four : length (take 4 s) ≡ 4 = length-take-le 4 s (omega arith) in
    cons (rw four at (number_below (all_take 4 h))) (numbers_below p (all_drop 4 h) (omega (arith, length-drop 4 s)))

pub quads_bytes : {xs : List ℕ} → All (λ x. x < 256 ^ 4) xs → Bytes (quads xs)
unfolding quads
quads_bytes nil = nil
quads_bytes (cons {x = x} h hs) = all_append (bytes_are_bytes 4 x h) (quads_bytes hs)
