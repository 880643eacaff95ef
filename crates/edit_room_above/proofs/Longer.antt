-- What a lengthened run shows: its texts, its rows and its bytes.
use mathlib.Core.Path.{◌≡◌, refl, sym, ap, ◌∙◌, subst}
use mathlib.Core.Bool.{Bool, true, false}
use mathlib.Core.List.{List, [], ◌∷◌, ◌++◌, map, map-append}
use Prim.Native.Nat.{ℕ, zero, suc, ◌+◌, ◌*◌, ◌≤◌, ◌<◌}
use native.Mathlib.Omega.{arith}
use native.Mathlib.Decide.{dec_lt}
use lib.ListN.{take, drop, take-append-drop}
use Rattle.utf8.specs.Chars.{All, cons}
use Rattle.model.specs.Text.{Text, sum}
use Rattle.model.proofs.Lists.{all_snoc, sum_snoc}
use Rattle.memory.specs.Layout.{Place, bytes_at, piece_at, tabulate, run_of}
use Rattle.memory.specs.WellFormed.{among, run_uses}
use Rattle.memory.proofs.Desks.{among_in, among_out, all_tabulate, tabulate_all}
use Rattle.memory_texts.specs.Low.{RowsKept}
use Rattle.memory_texts.proofs.Texts.{run_tabulate}
use Rattle.model.specs.Insert.{push}
use Rattle.memory_used.specs.Below.{Below}
use Rattle.memory_copy.proofs.Rows.{row_kept}
use Rattle.edit_room_above.specs.Run.{places_of, with_place, Lengthened}
use Rattle.edit_room_above.proofs.Apart.{among_most}

-- ── the texts at a run's places ──
map_tabulate : {A B : Type 0} (g : A → B) (f : ℕ → A) (n : ℕ) → map g (tabulate f n) ≡ tabulate (λ k. g (f k)) n
map_tabulate g f zero = refl
map_tabulate {A} {B} g f (suc n) = map-append g (tabulate f n) (f n ∷ []) ∙ ap (λ (l : List B). l ++ (g (f n) ∷ [])) (map_tabulate g f n)

run_places : (p s : List ℕ) (x : Place) → run_of p s x ≡ map (bytes_at s) (places_of p x)
run_places p s x = run_tabulate p s x.0 x.1 ∙ sym (map_tabulate (bytes_at s) (λ k. piece_at p (x.0 + k)) x.1)

map_with : (front : Bool) (g : Place → Text) (x : Place) (l : List Place) → map g (with_place front x l) ≡ push front (g x) (map g l)
map_with true g x l = refl
map_with false g x [] = refl
map_with false g x (y ∷ l) = ap (λ (m : List Text). g y ∷ m) (map_with false g x l)

all_with : (P : Place → Type 0) (front : Bool) (x : Place) {l : List Place} → P x → All P l → All P (with_place front x l)
all_with P true x h k = cons h k
all_with P false x h k = all_snoc k h

sum_with : (w : Place → ℕ) (front : Bool) (x : Place) (l : List Place) → sum w (with_place front x l) ≡ sum w l + w x
sum_with w true x l = omega arith
sum_with w false x l = sum_snoc w l x

-- a place that ends at or before a byte
abbrev Ends : ℕ → Place → Type 0
Ends byte x = x.0 + x.1 ≤ byte

module _ {front : Bool} {y x : Place} {row : ℕ} {p p' : List ℕ} {first : ℕ} (d : Lengthened front y x row p p' first) where
  -- the rows below stay
  pub longer_kept : RowsKept row p p'
  longer_kept = record { len = d.length_is; rows = λ j h. row_kept p p' row j d.under h }

  pub longer_rows : p' ≡ take (row * 2) p ++ drop (row * 2) p'
  longer_rows = sym (take-append-drop (row * 2) p') ∙ ap (λ (l : List ℕ). l ++ drop (row * 2) p') d.under

  -- ── its texts ──
  pub longer_texts : (s : List ℕ) → run_of p' s (first, suc x.1) ≡ push front (bytes_at s y) (run_of p s x)
  longer_texts s =
      run_places p' s (first, suc x.1)
      ∙ ap (map (bytes_at s)) d.places
      ∙ map_with front (bytes_at s) y (places_of p x)
      ∙ ap (push front (bytes_at s y)) (sym (run_places p s x))

  -- ── it lies below the row behind it, and its texts end where those of the run and the new one do ──
  pub longer_below : (byte : ℕ) → y.0 + y.1 ≤ byte → ((k : ℕ) → k < x.1 → (piece_at p (x.0 + k)).0 + (piece_at p (x.0 + k)).1 ≤ byte)
      → Below p' byte (first + x.1 + 1) (first, suc x.1)
  longer_below byte h old k g =
      let all_end : All (Ends byte) (places_of p' (first, suc x.1)) =
      subst (All (Ends byte)) (sym d.places) (all_with (Ends byte) front y h (all_tabulate (λ k. piece_at p (x.0 + k)) x.1 old)) in
      (omega arith, tabulate_all {P = Ends byte} (λ k. piece_at p' (first + k)) (suc x.1) all_end k g)

  -- ── its rows: the run's, and some from the row on ──
  pub longer_among : (j : ℕ) → among (first, suc x.1) j ≤ among x j + among (row, suc x.1) j
  longer_among j =
      elim (dec_lt j row) [
        | yes l ↦
            elim (dec_lt j first) [
              | yes m ↦ omega (arith, among_out first (suc x.1) j (λ u v. omega arith))
              | no m ↦ let k = d.here (omega arith) in omega (arith, among_most (first, suc x.1) j, among_in x.0 x.1 j (omega arith) (omega arith))
            ]
        | no l ↦
            elim (dec_lt j (first + suc x.1)) [
              | yes m ↦ omega (arith, among_most (first, suc x.1) j, among_in row (suc x.1) j (omega arith) (omega (arith, d.to)))
              | no m ↦ omega (arith, among_out first (suc x.1) j (λ u v. omega arith))
            ]
      ]

  -- ── its bytes: the run's, and the new text's ──
  pub longer_uses : (b : ℕ) → run_uses p' b (first, suc x.1) ≡ run_uses p b x + among y b
  unfolding run_uses
  longer_uses b = ap (sum (λ (z : Place). among z b)) d.places ∙ sum_with (λ (z : Place). among z b) front y (places_of p x)
