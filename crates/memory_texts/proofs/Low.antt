-- Laws of what `Low` in specs/ defines.
use mathlib.Core.Path.{◌≡◌, refl, sym, ap, ap₂, ◌∙◌}
use mathlib.Core.Bool.{Bool, true, false, cond}
use mathlib.Core.List.{List, ◌∷◌, map}
use Prim.Native.Nat.{ℕ, ◌+◌, ◌*◌, ◌≤◌}
use native.Mathlib.Omega.{arith}
use lib.Dec.{eqb}
use lib.ListN.{length}
use borrow.Author.Tests.{eqb-false}
use mathlib.Core.Option.{none, some}
use Rattle.utf8.specs.Chars.{All, nil, cons}
use Rattle.memory_table.specs.Order.{Entry}
use Rattle.model.specs.Chunk.{Chunk}
use Rattle.memory_layout.specs.Layout.{NONE}
use Rattle.memory.specs.Layout.{Place, bytes_at, piece_at, run_of, replacement_of, chunk_of}
use Rattle.memory.specs.WellFormed.{RunIn, ReplacementIn, EntryIn, Readable}
use Rattle.memory_texts.proofs.Over.{part_kept}
use Rattle.memory_texts.proofs.Texts.{tabulate_ext, run_tabulate}
use Rattle.memory_used.specs.Below.{Below}
use Rattle.memory_texts.specs.Low.{RowsKept, BytesKept, TextLow, RunsLow, EntryLow, DeskLow}

pub rows_same : (top : ℕ) (p : List ℕ) → RowsKept top p p
rows_same top p = record { len = refl; rows = λ j h. refl }

pub bytes_same : (byte : ℕ) (s : List ℕ) → BytesKept byte s s
bytes_same byte s = record { len = refl; bytes = refl }

-- a run of no piece lies below any row
pub none_below : (p : List ℕ) (byte top at : ℕ) → Below p byte top (at, 0)
none_below p byte top at k h = absurd (omega arith)

-- ---- what lies below can be read

module _ (p s : List ℕ) (top byte : ℕ) (hp : top * 2 ≤ length p) (hs : byte ≤ length s) where
  pub run_in : (r : Place) → Below p byte top r → RunIn p s r
  unfolding RunIn
  run_in r h k g = record { row = omega (arith, (h k g).0); text = omega (arith, (h k g).1) }

  pub entry_in : (e : Entry) → EntryLow p top byte e → EntryIn p s e
  unfolding ReplacementIn
  entry_in e h =
      record {
        runs = record { intro = run_in e.intro h.runs.intro; outro = run_in e.outro h.runs.outro };
        replacement = λ n. omega (arith, h.text n);
      }

  all_in : {es : List Entry} → All (EntryLow p top byte) es → All (EntryIn p s) es
  all_in nil = nil
  all_in (cons {x = e} h k) = cons (entry_in e h) (all_in k)

  pub desk_in : (t : List ℕ) → DeskLow t p top byte → Readable t p s
  desk_in t h =
      record {
        linked = h.linked;
        desk = record { intro = run_in _ h.desk.intro; outro = run_in _ h.desk.outro };
        chunks = all_in h.chunks;
      }

-- ---- and reads the same in tables that have grown

module _ (top byte : ℕ) (p s p' s' : List ℕ) (kp : RowsKept top p p') (ks : BytesKept byte s s') where
  pub run_same : (r : Place) → Below p byte top r → run_of p' s' r ≡ run_of p s r
  run_same r h =
      run_tabulate p' s' r.0 r.1
      ∙ tabulate_ext (λ k. bytes_at s' (piece_at p' (r.0 + k))) (λ k. bytes_at s (piece_at p (r.0 + k))) r.1
      (λ k g.
      let q = piece_at p (r.0 + k) in
      ap (bytes_at s') (kp.rows (r.0 + k) (h k g).0) ∙ part_kept q.1 q.0 byte s s' ks.bytes (h k g).1)
      ∙ sym (run_tabulate p s r.0 r.1)

  pub text_same : (r : Place) → TextLow byte r → replacement_of s' r ≡ replacement_of s r
  unfolding replacement_of
  text_same r h = go (eqb r.0 NONE) refl
    where
      go : (b : Bool) → eqb r.0 NONE ≡ b → cond (eqb r.0 NONE) none (some (bytes_at s' r)) ≡ cond (eqb r.0 NONE) none (some (bytes_at s r))
      go true e = rw e
      go false e = rw (e, part_kept r.1 r.0 byte s s' ks.bytes (h (eqb-false r.0 NONE e)))

  pub entry_same : (e : Entry) → EntryLow p top byte e → chunk_of p' s' e ≡ chunk_of p s e
  entry_same e h = rw (run_same e.intro h.runs.intro, run_same e.outro h.runs.outro, text_same e.text h.text)

  pub entries_same : {es : List Entry} → All (EntryLow p top byte) es → map (chunk_of p' s') es ≡ map (chunk_of p s) es
  entries_same nil = refl
  entries_same (cons {x = e} h k) = ap₂ (λ (x : Chunk) (l : List Chunk). x ∷ l) (entry_same e h) (entries_same k)

-- ---- it stays below

module _ (top byte : ℕ) (p p' : List ℕ) (kp : RowsKept top p p') (top' byte' : ℕ) (ht : top ≤ top') (hb : byte ≤ byte') where
  pub run_still : (r : Place) → Below p byte top r → Below p' byte' top' r
  run_still r h k g =
      let e = ap (λ (x : Place). x.0 + x.1) (kp.rows (r.0 + k) (h k g).0) in
      (omega (arith, (h k g).0), omega (arith, (h k g).1))

  pub runs_still : (e : Entry) → RunsLow p top byte e → RunsLow p' top' byte' e
  runs_still e h = record { intro = run_still e.intro h.intro; outro = run_still e.outro h.outro }

  pub entry_still : (e : Entry) → EntryLow p top byte e → EntryLow p' top' byte' e
  entry_still e h = record { runs = runs_still e h.runs; text = λ n. omega (arith, h.text n) }

  pub entries_still : {es : List Entry} → All (EntryLow p top byte) es → All (EntryLow p' top' byte') es
  entries_still nil = nil
  entries_still (cons {x = e} h k) = cons (entry_still e h) (entries_still k)
