-- Laws of what `Lift` in specs/ defines.
use mathlib.Core.Path.{◌≡◌, refl, sym, ap, subst}
use mathlib.Core.Bool.{true, false, not}
use mathlib.Core.List.{List, [], ◌∷◌, map}
use mathlib.Core.Logic.{inl, inr}
use Prim.Native.Nat.{ℕ, zero, suc, ◌+◌, ◌≤◌}
use native.Mathlib.Omega.{arith}
use lib.Dec.{ltb, eqb}
use lib.ListN.{length, take, drop, length-drop}
use borrow.Author.Tests.{eqb-true, eqb-false, lt-ltb, ltb-false}
use Rattle.utf8.specs.Chars.{All, nil, cons, concat}
use Rattle.memory_table.specs.Table.{row_at}
use Rattle.memory_table.specs.Order.{Entry, entry_at, entries, Linked}
use Rattle.model.specs.Text.{Text, is_nil, sum}
use Rattle.model.specs.Limits.{full, within, chunk_pieces, chunk_bytes}
use Rattle.model.specs.Chunk.{is_filled, first_half, second_half}
use Rattle.model.specs.MagicString.{with_chunks}
use Rattle.model.proofs.Lists.{bool-elim, concat_sum}
use Rattle.memory_layout.specs.Layout.{NONE}
use Rattle.memory.specs.Layout.{run_of, replacement_of, chunk_of, magic_string_of}
use Rattle.memory.specs.WellFormed.{RunIn, ReplacementIn, EntryIn, Readable}
use Rattle.memory.proofs.Desks.{desk_same, no_run, no_run_in, within_keeps}
use Rattle.memory_texts.proofs.Texts.{concat_nil}
use Rattle.memory_list.specs.Insert.{runs_of}
use Rattle.memory_list.specs.Split.{first, second}
use Rattle.edit_row_laws.proofs.Steps.{Unfilled}
use Rattle.edit_split_at.specs.Lift.{RunSmall, EntrySmall, DeskSmall, filled}

-- ── the runs of row 0 stay ──
module _ (t t' : List ℕ) (k : runs_of (row_at t' 0) ≡ runs_of (row_at t 0)) where
  pub same_head : (entry_at t' 0).intro ≡ (entry_at t 0).intro
  same_head = ap (λ (x : (ℕ × ℕ) × (ℕ × ℕ)). x.0) k

  pub same_tail : (entry_at t' 0).outro ≡ (entry_at t 0).outro
  same_tail = ap (λ (x : (ℕ × ℕ) × (ℕ × ℕ)). x.1) k

-- the rows have the entries es, and the desk's own runs are as they were
pub record Reordered (t t' : List ℕ) (es : List Entry) : Type 0 where
  pub linked : Linked t'
  pub chunks : entries t' ≡ es
  pub desk : runs_of (row_at t' 0) ≡ runs_of (row_at t 0)

module _ (t p s t' : List ℕ) {es : List Entry} (h : Readable t p s) (d : Reordered t t' es) where
  pub still_readable : All (EntryIn p s) es → Readable t' p s
  still_readable i =
      record {
        linked = d.linked;
        desk =
            record {
              intro = subst (RunIn p s) (sym (same_head t t' d.desk)) h.desk.intro;
              outro = subst (RunIn p s) (sym (same_tail t t' d.desk)) h.desk.outro;
            };
        chunks = rw d.chunks i;
      }

  pub with_entries : (source : List ℕ) → magic_string_of source t' p s ≡ with_chunks (magic_string_of source t p s) (map (chunk_of p s) es)
  unfolding magic_string_of
  with_entries source = desk_same source (ap (run_of p s) (same_head t t' d.desk)) (ap (run_of p s) (same_tail t t' d.desk)) (ap (map (chunk_of p s)) d.chunks)

-- ── runs that keep the limits by themselves ──
small_entry : (p s : List ℕ) (e : Entry) → chunk_pieces (chunk_of p s e) ≤ full.most_pieces → chunk_bytes (chunk_of p s e) ≤ full.most_bytes → EntrySmall p s e
small_entry p s e h k =
    record {
      intro = record { pieces = omega arith; bytes = omega (arith, concat_sum (run_of p s e.intro)) };
      outro = record { pieces = omega arith; bytes = omega (arith, concat_sum (run_of p s e.outro)) };
    }

small_entries : (p s : List ℕ) (a b : ℕ) (es : List Entry)
    → a + sum chunk_pieces (map (chunk_of p s) es) ≤ full.most_pieces → b + sum chunk_bytes (map (chunk_of p s) es) ≤ full.most_bytes → All (EntrySmall p s) es
small_entries p s a b [] h k = nil
small_entries p s a b (e ∷ es) h k =
    let c = small_entry p s e (omega arith) (omega arith) in
    cons c (small_entries p s (a + chunk_pieces (chunk_of p s e)) (b + chunk_bytes (chunk_of p s e)) es (omega arith) (omega arith))

-- a desk that keeps the limits
pub desk_small : (source t p s : List ℕ) → within full (magic_string_of source t p s) ≡ true → DeskSmall t p s
unfolding magic_string_of
desk_small source t p s e =
    let m = magic_string_of source t p s in
    let kept = within_keeps full m e in
    let a = kept.pieces in
    let b = kept.bytes in
    let own : Entry = record { start = 0; end = 0; frozen = (entry_at t 0).frozen; intro = (entry_at t 0).intro; outro = (entry_at t 0).outro; text = (NONE, 0) } in
    let c = small_own p s own (omega (arith, a)) (omega (arith, b)) in
    record {
      desk = record { intro = c.intro; outro = c.outro };
      chunks = small_entries p s (length m.intro + length m.outro) (sum length m.intro + sum length m.outro) (entries t) a b;
    }
  where
    small_own : (p s : List ℕ) (e : Entry)
        → length (run_of p s e.intro) + length (run_of p s e.outro) ≤ full.most_pieces → sum length (run_of p s e.intro) + sum length
        (run_of p s e.outro) ≤ full.most_bytes → EntrySmall p s e
    small_own p s e h k =
        record {
          intro = record { pieces = omega arith; bytes = omega (arith, concat_sum (run_of p s e.intro)) };
          outro = record { pieces = omega arith; bytes = omega (arith, concat_sum (run_of p s e.outro)) };
        }

-- ── an empty run, and the two halves of a chunk ──
module _ (p s : List ℕ) (q : ℕ) (e : Entry) where
  pub lift_first : chunk_of p s (first q e) ≡ first_half q (chunk_of p s e)
  lift_first = rw (no_run p s 0)

  pub lift_second : chunk_of p s (second q e) ≡ second_half q (chunk_of p s e)
  lift_second = rw (no_run p s 0)

  pub first_in : EntryIn p s e → EntryIn p s (first q e)
  first_in h = record { runs = record { intro = h.runs.intro; outro = no_run_in p s 0 }; replacement = h.replacement }

  pub second_in : EntryIn p s e → EntryIn p s (second q e)
  second_in h = record { runs = record { intro = no_run_in p s 0; outro = h.runs.outro }; replacement = h.replacement }

pub no_run_small : (p s : List ℕ) (a : ℕ) → RunSmall p s (a, 0)
no_run_small p s a =
    record {
      pieces = omega (arith, ap length (no_run p s a));
      bytes = omega (arith, ap (λ (l : List Text). length (concat l)) (no_run p s a), ap length concat_nil);
    }

pub first_small : (p s : List ℕ) (q : ℕ) (e : Entry) → EntrySmall p s e → EntrySmall p s (first q e)
first_small p s q e h = record { intro = h.intro; outro = no_run_small p s 0 }

pub second_small : (p s : List ℕ) (q : ℕ) (e : Entry) → EntrySmall p s e → EntrySmall p s (second q e)
second_small p s q e h = record { intro = no_run_small p s 0; outro = h.outro }

-- ── a replacement that is not empty ──
pub not_filled : (e : Entry) → filled e ≡ false → Unfilled e
not_filled e f =
    bool-elim (eqb e.text.0 NONE) (λ k. inl (eqb-true _ _ k))
    (λ k. let g : ltb 0 e.text.1 ≡ false = rw k at f in inr (let h = ltb-false 0 e.text.1 g in omega arith))

pub lift_filled : (s : List ℕ) (e : Entry) → ReplacementIn s e.text → is_filled (replacement_of s e.text) ≡ filled e
unfolding replacement_of ReplacementIn
lift_filled s e h =
    bool-elim (eqb e.text.0 NONE) (λ k. rw k)
    (λ k. rw k (size e.text.1 (drop e.text.0 s) (simp length-drop (omega (arith, h (eqb-false _ _ k))))))
  where
    size : (n : ℕ) (l : List ℕ) → n ≤ length l → not (is_nil (take n l)) ≡ ltb 0 n
    size zero l g = refl
    size (suc n) [] g = absurd (omega arith)
    size (suc n) (x ∷ l) g = sym (lt-ltb 0 (suc n) (omega arith))
