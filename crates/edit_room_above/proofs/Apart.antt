-- What is put above all that a desk uses belongs to nothing else: piece rows and store bytes stay apart.
use mathlib.Core.Path.{◌≡◌, refl, ap}
use mathlib.Core.Bool.{◌&&◌}
use mathlib.Core.List.{List, ◌++◌}
use Prim.Native.Nat.{ℕ, zero, suc, ◌+◌, ◌*◌, ◌-◌, ◌≤◌, ◌<◌}
use native.Mathlib.Omega.{arith}
use native.Mathlib.Decide.{dec_lt}
use lib.Dec.{eqb, leb, ltb}
use lib.ListN.{length}
use borrow.Author.Tests.{eqb-false}
use Rattle.utf8.specs.Chars.{All, nil, cons}
use Rattle.memory_table.specs.Order.{Entry, entry_at, entries}
use Rattle.model.specs.Text.{sum}
use Rattle.model.proofs.Lists.{bool-elim, one_most, sum_snoc}
use Rattle.memory_layout.specs.Layout.{NONE}
use Rattle.memory.specs.Layout.{Place, piece_at, tabulate}
use Rattle.memory.specs.WellFormed.{RunIn, ReplacementIn, RunsIn, EntryIn, Readable, among, piece_uses, run_uses, replacement_uses, list_uses, byte_uses, Disjoint}
use Rattle.memory.proofs.Desks.{piece_front, among_out}
use Rattle.memory_texts.proofs.Texts.{tabulate_ext}

-- how often the desk uses a row of the piece table, and a byte of the store
abbrev pub row_uses : List ℕ → ℕ → ℕ
row_uses t j = piece_uses j (entry_at t 0) + sum (piece_uses j) (entries t)

abbrev pub store_uses : List ℕ → List ℕ → ℕ → ℕ
store_uses t p b = list_uses p b (entry_at t 0) + sum (byte_uses p b) (entries t)

-- ── places ──
pub among_most : (r : Place) (i : ℕ) → among r i ≤ 1
unfolding among
among_most r i = one_most (leb r.0 i && ltb i (r.0 + r.1))

sum_none : {A : Type 0} (w : A → ℕ) (f : ℕ → A) (n : ℕ) → ((k : ℕ) → k < n → w (f k) ≡ 0) → sum w (tabulate f n) ≡ 0
sum_none w f zero h = refl
sum_none w f (suc n) h = omega (arith, sum_snoc w (tabulate f n) (f n), sum_none w f n (λ k g. h k (omega arith)), h n (omega arith))

-- ── nothing lies above the tables' ends ──
module _ (p s : List ℕ) where
  run_rows_none : (r : Place) (j : ℕ) → RunIn p s r → length p ≤ j * 2 → among r j ≡ 0
  unfolding RunIn
  run_rows_none r j h l = among_out r.0 r.1 j (λ a b. let k = (h (j - r.0) (omega arith)).row in omega arith)

  run_bytes_none : (r : Place) (b : ℕ) → RunIn p s r → length s ≤ b → run_uses p b r ≡ 0
  unfolding RunIn run_uses
  run_bytes_none r b h l = sum_none (λ x. among x b) (λ k. piece_at p (r.0 + k)) r.1 (λ k g. among_out (piece_at p (r.0 + k)).0 (piece_at p (r.0 + k)).1 b (λ u v. omega (arith, (h k g).text)))

  text_none : (r : Place) (b : ℕ) → ReplacementIn s r → length s ≤ b → replacement_uses b r ≡ 0
  unfolding ReplacementIn replacement_uses
  text_none r b h l = bool-elim (eqb r.0 NONE) (λ e. rw e) (λ e. rw e (among_out r.0 r.1 b (λ u v. omega (arith, h (eqb-false _ _ e)))))

  runs_rows_none : (e : Entry) (j : ℕ) → RunsIn p s e → length p ≤ j * 2 → piece_uses j e ≡ 0
  runs_rows_none e j h l = omega (arith, run_rows_none e.intro j h.intro l, run_rows_none e.outro j h.outro l)

  runs_bytes_none : (e : Entry) (b : ℕ) → RunsIn p s e → length s ≤ b → list_uses p b e ≡ 0
  runs_bytes_none e b h l = omega (arith, run_bytes_none e.intro b h.intro l, run_bytes_none e.outro b h.outro l)

  rows_none : (j : ℕ) {es : List Entry} → length p ≤ j * 2 → All (EntryIn p s) es → sum (piece_uses j) es ≡ 0
  rows_none j l nil = refl
  rows_none j l (cons {x = e} h k) = omega (arith, runs_rows_none e j h.runs l, rows_none j l k)

  bytes_none : (b : ℕ) {es : List Entry} → length s ≤ b → All (EntryIn p s) es → sum (byte_uses p b) es ≡ 0
  bytes_none b l nil = refl
  bytes_none b l (cons {x = e} h k) = omega (arith, runs_bytes_none e b h.runs l, text_none e.text b h.replacement l, bytes_none b l k)
      -- ── a longer table names the same texts ──

  module _ (y : List ℕ) (b : ℕ) where
    pub run_uses_front : (r : Place) → RunIn p s r → run_uses (p ++ y) b r ≡ run_uses p b r
    unfolding RunIn run_uses
    run_uses_front r h = ap (sum (λ (x : Place). among x b)) (tabulate_ext (λ k. piece_at (p ++ y) (r.0 + k)) (λ k. piece_at p (r.0 + k)) r.1 (λ k g. piece_front p y (r.0 + k) (h k g).row))

    pub list_uses_front : (e : Entry) → RunsIn p s e → list_uses (p ++ y) b e ≡ list_uses p b e
    list_uses_front e h = omega (arith, run_uses_front e.intro h.intro, run_uses_front e.outro h.outro)

    pub byte_uses_front : (e : Entry) → EntryIn p s e → byte_uses (p ++ y) b e ≡ byte_uses p b e
    byte_uses_front e h = omega (arith, list_uses_front e h.runs)

    pub sum_uses_front : {es : List Entry} → All (EntryIn p s) es → sum (byte_uses (p ++ y) b) es ≡ sum (byte_uses p b) es
    sum_uses_front nil = refl
    sum_uses_front (cons {x = e} h k) = omega (arith, byte_uses_front e h, sum_uses_front k)

    pub store_uses_front : (t : List ℕ) → Readable t p s → store_uses (t) (p ++ y) b ≡ store_uses t p b
    store_uses_front t h = omega (arith, list_uses_front (entry_at t 0) h.desk, sum_uses_front h.chunks)

-- ── what is left after a run and a text were put above all that t uses ──
module _ (t t' p s y y' : List ℕ) (new text : Place) (h : Readable t p s) (d : Disjoint t (p ++ y)) (hr : length p ≤ new.0 * 2) (hb : length s ≤ text.0)
    (rows : (j : ℕ) → row_uses t' j ≤ row_uses t j + among new j) (bytes : (b : ℕ) → store_uses t' (p ++ y') b ≤ store_uses t p b + among text b) where
  pub apart_after : Disjoint t' (p ++ y')
  apart_after =
      record {
        pieces = λ j.
            elim (dec_lt j new.0) [
              | yes l ↦ let z = among_out new.0 new.1 j (λ u v. omega arith) in omega (arith, rows j, d.pieces j)
              | no l ↦
                  let z = runs_rows_none p s (entry_at t 0) j h.desk (omega arith) in
                  let w = rows_none p s j (omega arith) h.chunks in
                  omega (arith, rows j, among_most new j)
            ];
        bytes = λ b.
            elim (dec_lt b text.0) [
              | yes l ↦ let z = among_out text.0 text.1 b (λ u v. omega arith) in omega (arith, bytes b, d.bytes b, store_uses_front p s y b t h)
              | no l ↦
                  let z = runs_bytes_none p s (entry_at t 0) b h.desk (omega arith) in
                  let w = bytes_none p s b (omega arith) h.chunks in
                  omega (arith, bytes b, among_most text b)
            ];
      }
