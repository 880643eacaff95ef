-- Laws of the loops of a slice.
use mathlib.Core.Path.{◌≡◌, refl, ◌∙◌, subst}
use mathlib.Core.Bool.{Bool}
use mathlib.Core.List.{List, ◌++◌}
use Prim.Native.Nat.{ℕ, ◌+◌, ◌≤◌, ◌<◌}
use native.Mathlib.Omega.{arith}
use native.Mathlib.Numerals.{add-one}
use lib.ListN.{length, length-append}
use Rattle.utf8.specs.Chars.{concat}
use Rattle.model.specs.Text.{Text}
use Rattle.memory.specs.Layout.{bytes_at, piece_at, tabulate, run_of}
use Rattle.memory_texts.proofs.Texts.{concat_nil, concat_snoc, concat_room, run_tabulate}
use Rattle.report_slice_chunk.specs.Emit.{Emitted, Room}
use Rattle.report_slice_chunk.proofs.Emitting.{emitted_none, emitted_then, emitted_room, room_le}

-- the texts of a run, by number
abbrev pub texts : List ℕ → List ℕ → ℕ → ℕ → Text
texts p s at k = bytes_at s (piece_at p (at + k))

-- a loop that emits f 0, f 1, ..: after i of them
pub record Turn (w : Bool) (d₀ : List ℕ) (place : ℕ) (f : ℕ → Text) (i : ℕ) (d : List ℕ) (o : ℕ) : Type 0 where
  pub same : length d ≡ length d₀
  pub emitted : Emitted w d₀ place (concat (tabulate f i)) d o

pub turn_none : (w : Bool) (d : List ℕ) (place : ℕ) (f : ℕ → Text) → Turn w d place f 0 d place
turn_none w d place f = record { same = refl; emitted = rw concat_nil (emitted_none w d place) }

module _ (p s : List ℕ) (at n place : ℕ) (w : Bool) (d₀ : List ℕ) (room : Room w d₀ place (length (concat (run_of p s (at, n)))))
    (i : ℕ) (d : List ℕ) (o : ℕ) (c : Turn w d₀ place (texts p s at) i d o) (h : i < n) where
  room_next : Room w d₀ place (length (concat (tabulate (texts p s at) i) ++ texts p s at i))
  room_next =
      room_le (rw (run_tabulate p s at n, length-append (concat (tabulate (texts p s at) i)) (texts p s at i)) (concat_room (texts p s at) i n h)) room

  pub turn_room : (t : Text) → t ≡ texts p s at i → Room w d o (length t)
  turn_room t e = rw e (emitted_room c.emitted (texts p s at i) room_next)

  pub turn_more : {t d' : List ℕ} {o' : ℕ} → t ≡ texts p s at i → Emitted w d o t d' o' → length d' ≡ length d → Turn w d₀ place (texts p s at) (i + 1) d' o'
  turn_more {t} {d'} {o'} e v l = record {
    same = l ∙ c.same;
    emitted = rw (add-one, concat_snoc (tabulate (texts p s at) i) (texts p s at i)) (emitted_then c.emitted (subst (λ (x : Text). Emitted w d o x d' o') e v) room_next);
  }

pub turn_done : (p s : List ℕ) (at n place : ℕ) (w : Bool) (d₀ : List ℕ) (i : ℕ) (d : List ℕ) (o : ℕ) → Turn w d₀ place (texts p s at) i d o → i ≤ n → n ≤ i
    → Emitted w d₀ place (concat (run_of p s (at, n))) d o
turn_done p s at n place w d₀ i d o c h k =
    let e : n ≡ i = omega arith in
    rw (run_tabulate p s at n, e) c.emitted
