-- One entry laid: two runs and a replacement.
use mathlib.Core.Path.{◌≡◌, refl, sym, ap, ◌∙◌, subst}
use mathlib.Core.List.{List, [], ◌++◌, append-nil}
use Prim.Native.Nat.{ℕ, ◌+◌, ◌-◌, ◌≤◌, ◌<◌, min}
use native.Mathlib.Omega.{arith}
use native.Mathlib.Nat.{add-zero}
use lib.Dec.{eqb}
use lib.ListN.{length, take, drop, length-drop}
use lib.Seq.{length-take-le}
use borrow.Author.Tests.{eqb-false, ne_eqb, eq-eqb}
use Rattle.memory_table.specs.Order.{Entry}
use Rattle.model.specs.Text.{Text, sum}
use Rattle.model.specs.Limits.{replacement_bytes}
use Rattle.model.proofs.Lists.{bool-elim, concat_sum}
use Rattle.memory_layout.specs.Layout.{NONE}
use Rattle.memory.specs.Layout.{Place, bytes_at, piece_at, run_of, replacement_of}
use Rattle.memory.specs.WellFormed.{ReplacementIn, among, run_uses, replacement_uses}
use Rattle.memory_texts.specs.Over.{over}
use Rattle.memory_texts.proofs.Over.{take_over, over_all, part_kept}
use Rattle.memory_texts.proofs.Texts.{tabulate_ext, run_tabulate, run_length}
use Rattle.memory_texts.specs.Carry.{Carried, RoomOf}
use Rattle.memory_used.specs.Below.{Below}
use Rattle.memory_texts.proofs.Carry.{carried_run, carried_below, kept_piece, kept_bytes}
use Rattle.edit_rebuild.specs.Lay.{Grown, LaidText, LaidEntry, RoomEntry}
use Rattle.edit_rebuild.proofs.Uses.{among_stack, carried_uses}

-- ── what lies below stays ──
module _ {P S : List ℕ} {byte row : ℕ} {P' S' : List ℕ} {byte' row' : ℕ} (g : Grown P S byte row P' S' byte' row') where
  pub grown_run : (r : Place) → Below P byte row r → run_of P' S' r ≡ run_of P S r
  grown_run r b =
      run_tabulate P' S' r.0 r.1
      ∙ tabulate_ext (λ k. bytes_at S' (piece_at P' (r.0 + k))) (λ k. bytes_at S (piece_at P (r.0 + k))) r.1
      (λ k h. ap (bytes_at S') (g.pieces (r.0 + k) (b k h).0) ∙ g.store (piece_at P (r.0 + k)) (b k h).1)
      ∙ sym (run_tabulate P S r.0 r.1)

  pub grown_below : (r : Place) → Below P byte row r → Below P' byte' row' r
  grown_below r b k h =
      let e = ap (λ (x : Place). x.0 + x.1) (g.pieces (r.0 + k) (b k h).0) in
      (omega (arith, (b k h).0, g.rows_grow), omega (arith, (b k h).1, g.bytes_grow))

  pub grown_uses : (b : ℕ) (r : Place) → Below P byte row r → run_uses P' b r ≡ run_uses P b r
  unfolding run_uses
  grown_uses b r h =
      ap (sum (λ x. among x b)) (tabulate_ext (λ k. piece_at P' (r.0 + k)) (λ k. piece_at P (r.0 + k)) r.1 (λ k l. g.pieces (r.0 + k) (h k l).0))

  pub grown_text : (r : Place) → ((r.0 ≡ NONE → ⊥) → r.0 + r.1 ≤ byte) → replacement_of S' r ≡ replacement_of S r
  unfolding replacement_of
  grown_text r h = bool-elim (eqb r.0 NONE) (λ e. rw e) (λ e. rw (e, g.store r (h (eqb-false _ _ e))))

pub grown_trans : {P S : List ℕ} {byte row : ℕ} {P' S' : List ℕ} {byte' row' : ℕ} {P'' S'' : List ℕ} {byte'' row'' : ℕ}
    → Grown P S byte row P' S' byte' row' → Grown P' S' byte' row' P'' S'' byte'' row'' → Grown P S byte row P'' S'' byte'' row''
grown_trans g h =
    record {
      pieces = λ j l. h.pieces j (omega (arith, g.rows_grow)) ∙ g.pieces j l;
      store = λ r l. h.store r (omega (arith, g.bytes_grow)) ∙ g.store r l;
      rows_grow = omega (arith, g.rows_grow, h.rows_grow);
      bytes_grow = omega (arith, g.bytes_grow, h.bytes_grow);
    }

-- ── a run ──
pub record LaidRun (p s : List ℕ) (at n : ℕ) (P S : List ℕ) (byte row : ℕ) (P' S' : List ℕ) (byte' row' : ℕ) : Type 0 where
  pub texts : run_of P' S' (row, n) ≡ run_of p s (at, n)
  pub below : Below P' byte' row' (row, n)
  pub grown : Grown P S byte row P' S' byte' row'
  pub rows : (j : ℕ) → min 1 (row - j) + among (row, n) j ≡ min 1 (row' - j)
  pub bytes : (b : ℕ) → min 1 (byte - b) + run_uses P' b (row, n) ≡ min 1 (byte' - b)
  pub row_is : row' ≡ row + length (run_of p s (at, n))
  pub byte_is : byte' ≡ byte + sum length (run_of p s (at, n))

module _ {ts : List Text} {P S : List ℕ} {byte row : ℕ} {P' S' : List ℕ} {byte' row' : ℕ} (c : Carried ts P S byte row P' S' byte' row')
    (room : RoomOf ts P S byte row) where
  pub whole_run : run_of P' S' (row, length ts) ≡ ts
  whole_run =
      let e : ts ≡ ts ++ [] = sym (append-nil ts) in
      rw add-zero at (carried_run [] ts [] (subst (λ (l : List Text). Carried l P S byte row P' S' byte' row') e c) (subst (λ (l : List Text). RoomOf l P S byte row) e room))

  pub whole_below : Below P' byte' row' (row, length ts)
  whole_below k h =
      let e : ts ≡ ts ++ [] = sym (append-nil ts) in
      rw add-zero at (carried_below [] ts [] (subst (λ (l : List Text). Carried l P S byte row P' S' byte' row') e c) (subst (λ (l : List Text). RoomOf l P S byte row) e room) k h)

  pub carried_grown : Grown P S byte row P' S' byte' row'
  carried_grown =
      record {
        pieces = kept_piece c room;
        store = kept_bytes c room;
        rows_grow = omega (arith, c.row_is);
        bytes_grow = omega (arith, c.byte_is);
      }

pub laid_run : (p s : List ℕ) (at n : ℕ) {P S : List ℕ} {byte row : ℕ} {P' S' : List ℕ} {byte' row' : ℕ}
    → Carried (run_of p s (at, n)) P S byte row P' S' byte' row' → RoomOf (run_of p s (at, n)) P S byte row
    → LaidRun p s at n P S byte row P' S' byte' row'
laid_run p s at n {P} {S} {byte} {row} {P'} {S'} {byte'} {row'} c room =
    let l : length (run_of p s (at, n)) ≡ n = run_length p s at n in
    let e : row' ≡ row + n = c.row_is ∙ ap (λ (x : ℕ). row + x) l in
    record {
      texts = ap (λ (x : ℕ). run_of P' S' (row, x)) (sym l) ∙ whole_run c room;
      below = subst (λ (x : ℕ). Below P' byte' row' (row, x)) l (whole_below c room);
      grown = carried_grown c room;
      rows = λ j. among_stack row n j ∙ ap (λ (x : ℕ). min 1 (x - j)) (sym e);
      bytes = λ b. ap (λ (x : ℕ). min 1 (byte - b) + run_uses P' b (row, x)) (sym l) ∙ carried_uses c room b;
      row_is = c.row_is;
      byte_is = c.byte_is ∙ ap (λ (x : ℕ). byte + x) (concat_sum (run_of p s (at, n)));
    }

-- ── a replacement ──
pub text_none : (s S : List ℕ) (at n byte : ℕ) → at ≡ NONE → LaidText s (at, n) (at, n) S byte S byte
unfolding replacement_of replacement_uses
text_none s S at n byte e =
    record {
      replacement = rw (eq-eqb at NONE e);
      below = λ m. absurd (m e);
      kept = λ x h. refl;
      grow = omega arith;
      bytes = λ b. rw (eq-eqb at NONE e) (add-zero (min 1 (byte - b)));
      byte_is = rw (eq-eqb at NONE e) (omega arith);
    }

pub replacement_size : (s : List ℕ) (at n : ℕ) → ReplacementIn s (at, n) → (at ≡ NONE → ⊥) → replacement_bytes (replacement_of s (at, n)) ≡ n
unfolding replacement_of ReplacementIn
replacement_size s at n h e = rw (ne_eqb at NONE e) (length-take-le n (drop at s) (simp length-drop (omega (arith, h e))))

pub text_some : (s S S' : List ℕ) (at n byte : ℕ) → (at ≡ NONE → ⊥) → ReplacementIn s (at, n) → byte + n ≤ length S → length S < NONE
    → S' ≡ over S byte (take n (drop at s)) → LaidText s (at, n) (byte, n) S byte S' (byte + n)
unfolding replacement_of replacement_uses ReplacementIn
text_some s S S' at n byte e h room small q =
    let l : length (take n (drop at s)) ≡ n = length-take-le n (drop at s) (simp length-drop (omega (arith, h e))) in
    let ne : byte ≡ NONE → ⊥ = λ z. omega (arith, z) in
    let back : take n (drop byte S') ≡ take n (drop at s) =
    ap (λ (m : ℕ). take m (drop byte S')) (sym l)
    ∙ ap (λ (X : List ℕ). take (length (take n (drop at s))) (drop byte X)) q
    ∙ over_all S byte (take n (drop at s)) (omega arith) in
    record {
      replacement = rw (ne_eqb at NONE e, ne_eqb byte NONE ne, back);
      below = λ z. omega arith;
      kept = λ x k. part_kept x.1 x.0 byte S S' (rw q (take_over S byte (take n (drop at s)) (omega arith))) k;
      grow = omega arith;
      bytes = λ b. rw (ne_eqb byte NONE ne) (among_stack byte n b);
      byte_is = rw (ne_eqb at NONE e, l);
    }

-- ── the three together ──
chain2 : (A a B b C : ℕ) → A + a ≡ B → B + b ≡ C → A + (a + b) ≡ C
chain2 A a B b C x y = omega arith

chain3 : (A a B b C c D : ℕ) → A + a ≡ B → B + b ≡ C → C + c ≡ D → A + (a + b + c) ≡ D
chain3 A a B b C c D x y z = omega arith

pub laid_entry : {p s : List ℕ} {e : Entry} {x : Place} {P S P1 S1 P2 S2 S3 : List ℕ} {byte row byte1 row1 byte2 row2 byte3 : ℕ}
    → LaidRun p s e.intro.0 e.intro.1 P S byte row P1 S1 byte1 row1 → LaidRun p s e.outro.0 e.outro.1 P1 S1 byte1 row1 P2 S2 byte2 row2
    → LaidText s e.text x S2 byte2 S3 byte3
    → LaidEntry p s e (record { start = e.start; end = e.end; frozen = e.frozen; intro = (row, e.intro.1); outro = (row1, e.outro.1); text = x }) P S byte row P2 S3 byte3 row2
laid_entry {p} {s} {e} {x} {P} {S} {P1} {S1} {P2} {S2} {S3} {byte} {row} {byte1} {row1} {byte2} {row2} {byte3} a b t =
    let g3 : Grown P2 S2 byte2 row2 P2 S3 byte3 row2 = record { pieces = λ j h. refl; store = t.kept; rows_grow = omega arith; bytes_grow = t.grow } in
    let g23 = grown_trans b.grown g3 in
    record {
      chunk =
          rw (grown_run g23 (row, e.intro.1) a.below ∙ a.texts, grown_run g3 (row1, e.outro.1) b.below ∙ b.texts, t.replacement);
      below =
          record {
            intro = grown_below g23 (row, e.intro.1) a.below;
            outro = grown_below g3 (row1, e.outro.1) b.below;
            text = t.below;
          };
      grown = grown_trans a.grown g23;
      rows = λ j. chain2 (min 1 (row - j)) (among (row, e.intro.1) j) (min 1 (row1 - j)) (among (row1, e.outro.1) j) (min 1 (row2 - j)) (a.rows j) (b.rows j);
      bytes =
          λ y.
          chain3 (min 1 (byte - y)) (run_uses P2 y (row, e.intro.1)) (min 1 (byte1 - y)) (run_uses P2 y (row1, e.outro.1)) (min 1 (byte2 - y)) (replacement_uses y x) (min 1 (byte3 - y))
          (ap (λ (u : ℕ). min 1 (byte - y) + u) (grown_uses g23 y (row, e.intro.1) a.below) ∙ a.bytes y)
          (ap (λ (u : ℕ). min 1 (byte1 - y) + u) (grown_uses g3 y (row1, e.outro.1) b.below) ∙ b.bytes y) (t.bytes y);
      row_is = omega (arith, a.row_is, b.row_is);
      byte_is = omega (arith, a.byte_is, b.byte_is, t.byte_is);
    }

-- ── room for the three, one after the other ──
module _ (p s : List ℕ) (e : Entry) {P S : List ℕ} {byte row : ℕ} (h : RoomEntry p s e P S byte row) where
  pub room_intro : RoomOf (run_of p s e.intro) P S byte row
  room_intro =
      record {
        rows_in = omega (arith, h.rows_in);
        bytes_in = omega (arith, h.bytes_in, concat_sum (run_of p s e.intro));
        rows_narrow = omega (arith, h.rows_narrow);
        narrow = omega (arith, h.narrow);
      }

  module _ {P1 S1 : List ℕ} {byte1 row1 : ℕ} (a : Carried (run_of p s e.intro) P S byte row P1 S1 byte1 row1) (lp : length P1 ≡ length P) (ls : length S1 ≡ length S) where
    pub room_outro : RoomOf (run_of p s e.outro) P1 S1 byte1 row1
    room_outro =
        record {
          rows_in = omega (arith, h.rows_in, a.row_is);
          bytes_in = omega (arith, h.bytes_in, a.byte_is, concat_sum (run_of p s e.intro), concat_sum (run_of p s e.outro));
          rows_narrow = omega (arith, h.rows_narrow);
          narrow = omega (arith, h.narrow);
        }

    pub room_text : {P2 S2 : List ℕ} {byte2 row2 : ℕ} → Carried (run_of p s e.outro) P1 S1 byte1 row1 P2 S2 byte2 row2 → length S2 ≡ length S1
        → (byte2 + replacement_bytes (replacement_of s e.text) ≤ length S2) × (length S2 < 4294967295)
    room_text b l = (
      omega (arith, h.bytes_in, a.byte_is, b.byte_is, ls, l, concat_sum (run_of p s e.intro), concat_sum (run_of p s e.outro)),
      omega (arith, h.narrow, ls, l),
    )

pub replacement_fits : (s : List ℕ) (at n : ℕ) → ReplacementIn s (at, n) → (at ≡ NONE → ⊥) → at + n ≤ length s
unfolding ReplacementIn
replacement_fits s at n h e = h e
