-- The loop that copies items one by one.
use mathlib.Core.Path.{◌≡◌, refl, sym}
use mathlib.Core.List.{List, ◌++◌}
use Prim.Native.Nat.{ℕ, suc, ◌+◌, ◌≤◌, ◌<◌}
use native.Mathlib.Numerals.{add-one}
use native.Mathlib.Omega.{arith}
use lib.ListN.{length, get_or, take, drop, set, drop_of_length-le}
use lib.Seq.{drop-cons, take-suc, set_at, append_snoc, length-take-le}
use Rattle.std.proofs.lemmas.List.{append-nil, length-take}
use Rattle.std.proofs.Math.Nat.{min-le_left}

-- a turn
pub front_suc : {A : Type 0} (t o d : List A) (i : ℕ) (x : A) → i < length t → i < length o → d ≡ take i t ++ drop i o → x ≡ get_or t i x → set d i x ≡ take (i + 1) t ++ drop (i + 1) o
front_suc t o d i x ht ho e is =
    let l : length (take i t) ≡ i = length-take-le i t (omega arith) in
    rw (e, add-one, drop-cons o i x, set_at (take i t) (get_or o i x) (drop (suc i) o) x i, take-suc t i x, sym is, append_snoc) refl

-- copied over a part that is no longer, items are all of it
pub front_whole : {A : Type 0} (xs l : List A) (n : ℕ) → n ≤ length xs → xs ++ drop (length xs) (take n l) ≡ xs
front_whole xs l n h =
    let shorter : length (take n l) ≤ n = rw (length-take n l) (min-le_left n (length l)) in
    let short : length (take n l) ≤ length xs = omega (arith, shorter, h) in
    rw (drop_of_length-le (take n l) short) (append-nil xs)
