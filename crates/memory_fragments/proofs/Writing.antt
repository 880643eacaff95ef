-- A text written part by part to the front of a buffer.
use mathlib.Core.Path.{◌≡◌, refl, ap, sym, ◌∙◌}
use mathlib.Core.List.{List, [], ◌++◌, append_assoc, append-nil}
use Prim.Native.Nat.{ℕ, ◌+◌, ◌≤◌}
use native.Mathlib.Omega.{arith}
use lib.ListN.{length, drop, length-append}
use Rattle.memory_texts.specs.Over.{over, Wrote}
use Rattle.memory_texts.proofs.Over.{over_nil, over_front, wrote_then, wrote_same}

-- `left` is what is left to write of the text `whole` into d₀; d is the buffer and o the place so far
pub record Writing (d₀ whole d : List ℕ) (o : ℕ) (left : List ℕ) : Type 0 where
  pub before : List ℕ
  pub whole_is : before ++ left ≡ whole
  pub wrote : Wrote d₀ 0 before d o
  pub fits : length whole ≤ length d₀
  pub same : length d ≡ length d₀

pub writing_none : (d whole left : List ℕ) → left ≡ whole → length whole ≤ length d → Writing d whole d 0 left
writing_none d whole left e h = record {
  before = [];
  whole_is = e;
  wrote = record { out_is = over_nil d 0; next_is = omega arith };
  fits = h;
  same = refl;
}

module _ {d₀ whole d : List ℕ} {o : ℕ} {left : List ℕ} (w : Writing d₀ whole d o left) where
  lengths : length w.before + length left ≡ length whole
  lengths = sym (length-append w.before left) ∙ ap length w.whole_is

  -- there is room for the next part
  pub writing_room : (x rest : List ℕ) → left ≡ x ++ rest → o + length x ≤ length d
  writing_room x rest e =
      let l : length left ≡ length x + length rest = ap length e ∙ length-append x rest in
      omega (arith, lengths, w.wrote.next_is, w.fits, w.same)

  pub writing_more : (x rest : List ℕ) {d' : List ℕ} {o' : ℕ} → left ≡ x ++ rest → Wrote d o x d' o' → Writing d₀ whole d' o' rest
  writing_more x rest {d'} {o'} e v =
      let l : length left ≡ length x + length rest = ap length e ∙ length-append x rest in
      let n : length (w.before ++ x) ≡ length w.before + length x = length-append w.before x in
      let k : 0 + length (w.before ++ x) ≤ length d₀ = omega (arith, lengths, w.fits) in
      let z = wrote_then w.wrote v k in
      record {
        before = w.before ++ x;
        whole_is = append_assoc w.before x rest ∙ ap (λ (y : List ℕ). w.before ++ y) (sym e) ∙ w.whole_is;
        wrote = z;
        fits = w.fits;
        same = wrote_same z k;
      }

  pub writing_done : left ≡ [] → d ≡ whole ++ drop (length whole) d₀
  writing_done e =
      let q : w.before ≡ whole = sym (append-nil w.before) ∙ ap (λ (y : List ℕ). w.before ++ y) (sym e) ∙ w.whole_is in
      w.wrote.out_is ∙ ap (over d₀ 0) q ∙ over_front d₀ whole
