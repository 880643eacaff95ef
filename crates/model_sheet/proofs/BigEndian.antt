-- Laws of numbers as bytes: each way is the inverse of the other.
use Prim.Native.Nat.{ℕ, zero, suc, ◌+◌, ◌*◌, ◌/◌, ◌%◌, ◌^◌, ◌≤◌, ◌<◌}
use mathlib.Core.Path.{◌≡◌, refl, ap, ap₂, ◌∙◌}
use mathlib.Core.List.{List, ◌∷◌}
use lib.ListN.{length}
use native.Mathlib.Omega.{arith}
use native.Mathlib.Nat.{one-le-pow, pow-suc, mod-lt, mod-eq_of_lt, div-add-mod', div-eq_of_lt, div-lt_iff_lt-mul, mul-add-div_right, mul-add-mod_self_right, mul-le-mul_right}
use Rattle.utf8.specs.Chars.{nil, cons}
use Rattle.model_sheet.specs.BigEndian.{Bytes, number, bytes}

-- a power of 256 is above 0
pub power : (k : ℕ) → 0 < 256 ^ k
power k = one-le-pow k 256 (omega arith)

pub length_bytes : (k n : ℕ) → length (bytes k n) ≡ k
unfolding bytes
length_bytes zero n = refl
length_bytes (suc k) n = ap suc (length_bytes k (n % 256 ^ k))

pub number_bytes : (k n : ℕ) → n < 256 ^ k → number (bytes k n) ≡ n
unfolding number bytes
number_bytes zero n h = omega arith
number_bytes (suc k) n h =
    ap₂ (λ (w v : ℕ). n / 256 ^ k * 256 ^ w + v) (length_bytes k (n % 256 ^ k)) (number_bytes k (n % 256 ^ k) (mod-lt n (power k)))
    ∙ div-add-mod' n (256 ^ k)

pub bytes_are_bytes : (k n : ℕ) → n < 256 ^ k → Bytes (bytes k n)
unfolding bytes
bytes_are_bytes zero n h = nil
bytes_are_bytes (suc k) n h =
    cons ((div-lt_iff_lt-mul {x = n} {y = 256} (power k)).1 (omega (arith, pow-suc 256 k))) (bytes_are_bytes k (n % 256 ^ k) (mod-lt n (power k)))

pub number_below : {s : List ℕ} → Bytes s → number s < 256 ^ length s
unfolding number
number_below nil = omega arith
number_below (cons {x = x} {xs = s} h hs) =
    let n : number s < 256 ^ length s = number_below hs in
    let m : x * 256 ^ length s ≤ 255 * 256 ^ length s = mul-le-mul_right (256 ^ length s) (omega arith) in
    omega (arith, pow-suc 256 (length s))

pub bytes_number : {s : List ℕ} → Bytes s → bytes (length s) (number s) ≡ s
unfolding number bytes
bytes_number nil = refl
bytes_number (cons {x = x} {xs = s} h hs) =
    let n : number s < 256 ^ length s = number_below hs in
    let low : (x * 256 ^ length s + number s) % 256 ^ length s ≡ number s = mul-add-mod_self_right x (256 ^ length s) (number s) ∙ mod-eq_of_lt n in
    let none : number s / 256 ^ length s ≡ 0 = div-eq_of_lt n in
    let high : (x * 256 ^ length s + number s) / 256 ^ length s ≡ x = mul-add-div_right (power (length s)) x (number s) ∙ omega arith in
    ap₂ (λ (y v : ℕ). y ∷ bytes (length s) v) high low ∙ ap (λ l. x ∷ l) (bytes_number hs)
