-- Bytes moved down, one by one.
use Prim.Native.Nat.{ℕ, ◌+◌, ◌-◌, ◌<◌}
use mathlib.Core.Path.{◌≡◌, refl, sym, ap, ap₂, ◌∙◌}
use mathlib.Core.List.{List, [], ◌∷◌, ◌++◌}
use native.Mathlib.Numerals.{add-one}
use native.Mathlib.Omega.{arith}
use lib.ListN.{length, get_or, take, drop, set, length-set, length-drop}
use lib.Seq.{take-suc, get_or-drop, length-take-le}
use Rattle.memory_texts.specs.Over.{over}
use Rattle.memory_texts.proofs.Over.{over_nil, over_over, get_d_over, set_over}
use Rattle.filed_entries.specs.Entries.{Closed}

-- i bytes are moved
pub record Closing (b₀ b : List ℕ) (at next i : ℕ) : Type 0 where
  pub same : length b ≡ length b₀
  pub is : b ≡ over b₀ at (take i (drop next b₀))

pub closing_start : (b : List ℕ) (at next : ℕ) → Closing b b at next 0
closing_start b at next = record { same = refl; is = over_nil b at }

pub closing_turn : (b₀ b : List ℕ) (at next i : ℕ) → at < next → next + i < length b₀ → Closing b₀ b at next i
    → Closing b₀ (set b (at + i) (get_or b (next + i) 0)) at next (i + 1)
closing_turn b₀ b at next i low room c =
    let xs = take i (drop next b₀) in
    let n : length (take i (drop next b₀)) ≡ i = length-take-le i (drop next b₀) (omega (arith, length-drop next b₀)) in
    let v : get_or b (next + i) 0 ≡ get_or (drop next b₀) i 0 =
    ap (λ l. get_or l (next + i) 0) c.is ∙ get_d_over b₀ at xs (omega arith) (next + i) (omega arith) ∙ sym (get_or-drop next b₀ i 0) in
    let one : take (i + 1) (drop next b₀) ≡ xs ++ (get_or (drop next b₀) i 0 ∷ []) =
    ap (λ k. take k (drop next b₀)) (add-one i) ∙ take-suc (drop next b₀) i 0 (omega (arith, length-drop next b₀)) in
    let place : at + i ≡ at + length xs = omega arith in
    record {
      same = length-set b (at + i) (get_or b (next + i) 0) ∙ c.same;
      is =
          set_over b (at + i) (get_or b (next + i) 0) (omega (arith, c.same))
          ∙ ap₂ (λ l x. over l (at + i) (x ∷ [])) c.is v
          ∙ ap (λ k. over (over b₀ at xs) k (get_or (drop next b₀) i 0 ∷ [])) place
          ∙ over_over b₀ at xs (get_or (drop next b₀) i 0 ∷ []) (omega arith)
          ∙ ap (over b₀ at) (sym one);
    }

pub closing_end : (b₀ b : List ℕ) (at next end i : ℕ) → i ≡ end - next → Closing b₀ b at next i → Closed at next end b₀ b
closing_end b₀ b at next end i e c = c.is ∙ ap (λ k. over b₀ at (take k (drop next b₀))) e
