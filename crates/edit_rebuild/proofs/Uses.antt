-- Places that stand one behind the other belong to one each: the counting behind `Disjoint`.
use mathlib.Core.Path.{◌≡◌, refl, sym, ap, ◌∙◌}
use mathlib.Core.List.{List, [], ◌∷◌, ◌++◌}
use Prim.Native.Nat.{ℕ, zero, suc, ◌+◌, ◌-◌, ◌<◌, min}
use native.Mathlib.Omega.{arith}
use native.Mathlib.Decide.{dec_lt}
use native.Mathlib.Nat.{add_assoc}
use lib.ListN.{length, get_or, take, drop, length-take}
use lib.Seq.{split_at}
use Rattle.utf8.specs.Chars.{concat}
use Rattle.model.specs.Text.{Text, sum}
use Rattle.model.proofs.Lists.{concat_length}
use Rattle.memory.specs.Layout.{Place, piece_at, tabulate}
use Rattle.memory.specs.WellFormed.{among, run_uses}
use Rattle.memory.proofs.Desks.{among_in, among_out}
use Rattle.memory_texts.proofs.Texts.{tabulate_ext, tabulate_list, concat_nil}
use Rattle.memory_texts.specs.Carry.{Carried, RoomOf}
use Rattle.memory_texts.proofs.Carry.{carried_piece}

pub among_stack : (a n j : ℕ) → min 1 (a - j) + among (a, n) j ≡ min 1 (a + n - j)
among_stack a n j =
    elim (dec_lt j a) [
      | yes h ↦ omega (arith, among_out a n j (λ u v. omega arith))
      | no h ↦ elim (dec_lt j (a + n)) [
        | yes k ↦ omega (arith, among_in a n j (omega arith) k)
        | no k ↦ omega (arith, among_out a n j (λ u v. omega arith))
      ]
    ]

-- the places of texts put one after the other from a byte
abbrev stack : ℕ → List Text → List Place
stack byte [] = []
stack byte (t ∷ ts) = (byte, length t) ∷ stack (byte + length t) ts

stack_sum : (b byte : ℕ) (ts : List Text) → min 1 (byte - b) + sum (λ x. among x b) (stack byte ts) ≡ min 1 (byte + length (concat ts) - b)
stack_sum b byte [] = rw concat_nil (omega arith)
stack_sum b byte (t ∷ ts) =
    let e : byte + length t + length (concat ts) ≡ byte + length (concat (t ∷ ts)) = omega (arith, concat_length t ts) in
    sym (add_assoc (min 1 (byte - b)) (among (byte, length t) b) (sum (λ x. among x b) (stack (byte + length t) ts)))
    ∙ ap (λ (x : ℕ). x + sum (λ x. among x b) (stack (byte + length t) ts)) (among_stack byte (length t) b)
    ∙ stack_sum b (byte + length t) ts
    ∙ ap (λ (x : ℕ). min 1 (x - b)) e

stack_length : (byte : ℕ) (ts : List Text) → length (stack byte ts) ≡ length ts
stack_length byte [] = refl
stack_length byte (t ∷ ts) = ap suc (stack_length (byte + length t) ts)

stack_at : (byte : ℕ) (ts : List Text) (k : ℕ) → k < length ts → get_or (stack byte ts) k (0, 0) ≡ (byte + length (concat (take k ts)), length (get_or ts k []))
stack_at byte [] k h = absurd (omega arith)
stack_at byte (t ∷ ts) zero h = let e : byte + length (concat []) ≡ byte = rw concat_nil (omega arith) in rw e
stack_at byte (t ∷ ts) (suc k) h =
    let e : byte + length (concat (t ∷ take k ts)) ≡ byte + length t + length (concat (take k ts)) = omega (arith, concat_length t (take k ts)) in
    rw e (stack_at (byte + length t) ts k (omega arith))

module _ {ts : List Text} {P S : List ℕ} {byte row : ℕ} {P' S' : List ℕ} {byte' row' : ℕ} (c : Carried ts P S byte row P' S' byte' row')
    (room : RoomOf ts P S byte row) where
  row_at : (k : ℕ) → k < length ts → piece_at P' (row + k) ≡ get_or (stack byte ts) k (0, 0)
  row_at k h =
      let l : length (take k ts) ≡ k = simp length-take (omega arith) in
      let q : ts ≡ take k ts ++ (get_or ts k [] ∷ drop (suc k) ts) = split_at ts k [] h in
      ap (λ (n : ℕ). piece_at P' (row + n)) (sym l)
      ∙ carried_piece (take k ts) (get_or ts k []) (drop (suc k) ts) (rw q at c) (omega (arith, room.rows_in)) (omega (arith, room.bytes_in))
      ∙ sym (stack_at byte ts k h)

  places : tabulate (λ k. piece_at P' (row + k)) (length ts) ≡ stack byte ts
  places =
      tabulate_ext (λ k. piece_at P' (row + k)) (λ k. get_or (stack byte ts) k (0, 0)) (length ts) row_at
      ∙ ap (tabulate (λ k. get_or (stack byte ts) k (0, 0))) (sym (stack_length byte ts))
      ∙ tabulate_list (0, 0) (stack byte ts)

  -- each byte up to the new place belongs to one text
  pub carried_uses : (b : ℕ) → min 1 (byte - b) + run_uses P' b (row, length ts) ≡ min 1 (byte' - b)
  unfolding run_uses
  carried_uses b =
      ap (λ (l : List Place). min 1 (byte - b) + sum (λ x. among x b) l) places ∙ stack_sum b byte ts ∙ ap (λ (x : ℕ). min 1 (x - b)) (sym c.byte_is)
