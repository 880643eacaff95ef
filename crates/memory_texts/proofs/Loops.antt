-- Laws of the loops that copy, write and carry texts.
use mathlib.Core.Path.{◌≡◌, refl, ◌∙◌}
use mathlib.Core.List.{List, [], ◌∷◌, ◌++◌}
use Prim.Native.Nat.{ℕ, suc, ◌+◌, ◌≤◌, ◌<◌}
use native.Mathlib.Numerals.{add-one}
use native.Mathlib.Nat.{add-zero}
use native.Mathlib.Omega.{arith}
use native.Mathlib.Decide.{le_ind}
use lib.ListN.{length, length-append}
use Rattle.utf8.specs.Chars.{concat}
use Rattle.model.specs.Text.{Text}
use Rattle.memory.specs.Layout.{bytes_at, piece_at, tabulate, run_of}
use Rattle.memory_texts.specs.Over.{over, Wrote}
use Rattle.memory_texts.proofs.Over.{over_nil, over_over, length_over}
use Rattle.memory_texts.proofs.Texts.{concat_nil, concat_snoc, concat_room, run_tabulate}
use Rattle.memory_texts.specs.Carry.{Pushed, RoomFor, Carried, RoomOf}
use Rattle.memory_texts.proofs.Carry.{carried_none, carried_one, carried_room, carried_more, room_one, room_front}

-- the texts of a run, by number
abbrev pub texts : List ℕ → List ℕ → ℕ → ℕ → Text
texts p s at k = bytes_at s (piece_at p (at + k))

-- a turn of a loop that writes f 0, f 1, ..: a write over what was written, the lengths kept
pub record Turn (d₀ : List ℕ) (place : ℕ) (f : ℕ → Text) (i : ℕ) (d : List ℕ) (o : ℕ) : Type 0 where
  pub same : length d ≡ length d₀
  pub out_is : d ≡ over d₀ place (concat (tabulate f i))
  pub next_is : o ≡ place + length (concat (tabulate f i))

pub turn_none : (d : List ℕ) (place : ℕ) (f : ℕ → Text) → Turn d place f 0 d place
turn_none d place f = record { same = refl; out_is = rw concat_nil (over_nil d place); next_is = rw concat_nil (omega arith) }

pub turn_more : {d₀ : List ℕ} {place : ℕ} {f : ℕ → Text} {i : ℕ} {d : List ℕ} {o : ℕ} (n : ℕ) {d' : List ℕ} {o' : ℕ}
    → Turn d₀ place f i d o → i < n → place + length (concat (tabulate f n)) ≤ length d₀ → Wrote d o (f i) d' o' → Turn d₀ place f (i + 1) d' o'
turn_more {d₀} {place} {f} {i} {d} {o} n {d'} {o'} t h room w =
    let r = concat_room f i n h in
    let x = concat (tabulate f i) in
    let q : concat (tabulate f (suc i)) ≡ concat (tabulate f i) ++ f i = concat_snoc (tabulate f i) (f i) in
    let e : d' ≡ over d₀ place (concat (tabulate f i) ++ f i) = rw (w.out_is, t.out_is, t.next_is) (over_over d₀ place (concat (tabulate f i)) (f i) (omega arith)) in
    let l : length (concat (tabulate f i) ++ f i) ≡ length (concat (tabulate f i)) + length (f i) = length-append (concat (tabulate f i)) (f i) in
    record {
      same = rw e (length_over d₀ place (concat (tabulate f i) ++ f i) (omega arith));
      out_is = rw (add-one, q) e;
      next_is = rw (add-one, q) (omega (arith, w.next_is, t.next_is));
    }

-- for a run: in a turn the row is there, and there is room for its text
module _ (p s : List ℕ) (at n place : ℕ) (d₀ : List ℕ) (fit : place + length (concat (run_of p s (at, n))) ≤ length d₀) where
  pub fits : place + length (concat (tabulate (texts p s at) n)) ≤ length d₀
  fits = rw run_tabulate at fit

  pub turn_room : (i : ℕ) (d : List ℕ) (o : ℕ) (t : Text) → Turn d₀ place (texts p s at) i d o → i < n → t ≡ texts p s at i → o + length t ≤ length d
  turn_room i d o t c h e = rw e (omega (arith, fits, concat_room (texts p s at) i n h, c.same, c.next_is))

  pub turn_done : (i : ℕ) (d : List ℕ) (o : ℕ) → Turn d₀ place (texts p s at) i d o → i ≤ n → n ≤ i → Wrote d₀ place (concat (run_of p s (at, n))) d o
  turn_done i d o t h k =
      let e : n ≡ i = omega arith in
      rw (run_tabulate, e) (record { out_is = t.out_is; next_is = t.next_is })

-- a loop that pushes f 0, f 1, ..: after i of them
pub record Carrying (f : ℕ → Text) (p₀ s₀ : List ℕ) (byte row i : ℕ) (p s : List ℕ) (next : ℕ) : Type 0 where
  pub carried : Carried (tabulate f i) p₀ s₀ byte row p s next (row + i)
  pub same_rows : length p ≡ length p₀
  pub same_bytes : length s ≡ length s₀

pub carrying_none : (f : ℕ → Text) (p s : List ℕ) (byte row : ℕ) → Carrying f p s byte row 0 p s byte
carrying_none f p s byte row = record { carried = rw add-zero (carried_none p s byte row); same_rows = refl; same_bytes = refl }

-- room for a list that grows to its nth stage is room for each stage before
room_stage : (g : ℕ → List Text) (h : ℕ → List Text) → ((k : ℕ) → g (suc k) ≡ g k ++ h k)
    → (i n : ℕ) → i ≤ n → {p s : List ℕ} {byte row : ℕ} → RoomOf (g n) p s byte row → RoomOf (g i) p s byte row
room_stage g h e i n l {p} {s} {byte} {row} =
    le_ind (λ m. RoomOf (g m) p s byte row → RoomOf (g i) p s byte row) (λ r. r) (λ m (hm : i ≤ m) ih r. ih (room_front (g m) (h m) (rw e at r))) n l

module _ {f : ℕ → Text} {p₀ s₀ : List ℕ} {byte row i : ℕ} {p s : List ℕ} {next : ℕ} (n : ℕ) (c : Carrying f p₀ s₀ byte row i p s next) (room : RoomOf (tabulate f n) p₀ s₀ byte row) (h : i < n) where
  room_next : RoomOf (tabulate f i ++ (f i ∷ [])) p₀ s₀ byte row
  room_next = room_stage (tabulate f) (λ k. f k ∷ []) (λ k. refl) (suc i) n h room

  pub carrying_room : (t : Text) → t ≡ f i → RoomFor t p s next (row + i)
  carrying_room t e = rw e (room_one (carried_room c.carried (f i ∷ []) room_next))

  pub carrying_more : {t p' s' : List ℕ} {next' : ℕ} → t ≡ f i → Pushed t p s next (row + i) p' s' next' → length p' ≡ length p → length s' ≡ length s → Carrying f p₀ s₀ byte row (i + 1) p' s' next'
  carrying_more {t} e w lp ls =
      let a : row + (i + 1) ≡ row + i + 1 = omega arith in
      record {
        carried = rw (a, add-one i) (carried_more c.carried (f i ∷ []) room_next (rw e at (carried_one w)));
        same_rows = lp ∙ c.same_rows;
        same_bytes = ls ∙ c.same_bytes;
      }
