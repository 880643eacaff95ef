-- Laws of what `Plain` in specs/ defines.
use mathlib.Core.Path.{◌≡◌, refl, ap₂}
use mathlib.Core.Bool.{Bool, true, false, cond}
use mathlib.Core.List.{List, [], ◌∷◌, map}
use mathlib.Core.Option.{none, some}
use Prim.Native.Nat.{ℕ, ◌+◌, ◌-◌, ◌≤◌}
use native.Mathlib.Omega.{arith}
use native.Mathlib.Decide.{ℕ_discrete}
use lib.Dec.{eqb}
use borrow.Author.Tests.{eq-eqb, ne_eqb}
use Rattle.memory_table.specs.Order.{Entry}
use Rattle.model.specs.Text.{sum}
use Rattle.memory_layout.specs.Layout.{NONE}
use Rattle.memory.specs.Layout.{bytes_at, replacement_of, chunk_of}
use Rattle.memory_texts.specs.Low.{TextLow}
use Rattle.trim_chunk.specs.Plain.{plain_or, plain, plain_of, Behind}

pub plain_width : (e : Entry) → e.text.0 ≡ NONE → plain_of e ≡ e.end - e.start
plain_width e n = rw (eq-eqb e.text.0 NONE n)

pub plain_row : (p s : List ℕ) (e : Entry) → plain (chunk_of p s e) ≡ plain_of e
unfolding replacement_of
plain_row p s e = go (eqb e.text.0 NONE)
  where
    go : (b : Bool) → plain_or (cond b none (some (bytes_at s e.text))) (e.end - e.start) ≡ cond b (e.end - e.start) 0
    go true = refl
    go false = refl

pub plain_rows : (p s : List ℕ) (es : List Entry) → sum plain (map (chunk_of p s) es) ≡ sum plain_of es
plain_rows p s [] = refl
plain_rows p s (e ∷ es) = ap₂ (λ (a b : ℕ). a + b) (plain_row p s e) (plain_rows p s es)

-- a row with another replacement, which has none only where it had none: what it takes is no longer plain
pub spent_of : (e e' : Entry) (byte : ℕ) → e'.end - e'.start ≡ e.end - e.start → (e'.text.0 ≡ NONE → e.text.0 ≡ NONE) → TextLow (byte + plain_of e) e'.text
    → (b : ℕ) → Behind byte e'.text b → b + plain_of e' ≤ byte + plain_of e
spent_of e e' byte w n l b k =
    elim (ℕ_discrete e'.text.0 NONE) [
      | yes q ↦ rw (eq-eqb e'.text.0 NONE q, eq-eqb e.text.0 NONE (n q)) (omega (arith, k.most byte (omega arith) (λ z. absurd (z q))))
      | no q ↦ rw (ne_eqb e'.text.0 NONE q) (omega (arith, k.most (byte + plain_of e) (omega arith) l))
    ]
