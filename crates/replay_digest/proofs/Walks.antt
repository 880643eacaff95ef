-- Laws of the digest: its walks over a text, the rows and the fragments, and that what they give is the desk's.
use mathlib.Core.Path.{◌≡◌, refl, ap, sym, ◌∙◌, subst}
use mathlib.Core.Bool.{Bool, true, false, cond}
use mathlib.Core.List.{List, [], ◌∷◌, ◌++◌, map}
use mathlib.Core.Option.{none, some}
use Prim.Native.Nat.{ℕ, suc, ◌+◌, ◌*◌, ◌≤◌, ◌<◌}
use native.Mathlib.Omega.{arith}
use native.Mathlib.Numerals.{add-one}
use lib.Dec.{eqb}
use lib.ListN.{length, get_or, drop, drop_of_length-le}
use lib.Seq.{drop-cons}
use borrow.Author.Tests.{eq-eqb, ne_eqb}
use Rattle.memory_layout.specs.Layout.{ROW}
use Rattle.memory_table.specs.declared.Row.{Row}
use Rattle.memory_table.specs.Order.{Entry, entry_at, entry_of, entries, next_of, count_of, Linked}
use Rattle.model.specs.Text.{Text}
use Rattle.memory.specs.Layout.{Place, bytes_at, run_of, replacement_of, chunk_of, magic_string_of}
use Rattle.memory_texts.proofs.Texts.{run_length}
use Rattle.memory_fragments.specs.Sections.{tail_part_of, row_no, section, section_at, sections, fragments_all, SectionRow}
use Rattle.memory_fragments.proofs.Sections.{row_first, row_in, row_edge, sections_are, sections_drop, sections_end}
use Rattle.memory_fragments.proofs.Output.{output_sections}
use Rattle.replay_digest.specs.Digest.{mixed, mixed_all, mixed_texts, mixed_section, replaced, mixed_chunk, mixed_chunks, digest_of, mixed_entry}
use Rattle.replay_digest.specs.Digest.{mixed_entries}

-- ---- one text

pub mixed_step : (s : List ℕ) (h d i : ℕ) {d' : ℕ} → i < length s → mixed_all d (drop i s) ≡ mixed_all h s → d' ≡ mixed d (get_or s i 0) → mixed_all d' (drop (i + 1) s) ≡ mixed_all h s
mixed_step s h d i l e m = rw (m, add-one i) (ap (mixed_all d) (sym (drop-cons s i 0 l)) ∙ e)

pub mixed_done : (s : List ℕ) (h d i : ℕ) → length s ≤ i → mixed_all d (drop i s) ≡ mixed_all h s → d ≡ mixed_all h s
mixed_done s h d i l e = ap (mixed_all d) (sym (drop_of_length-le s {i = i} l)) ∙ e

-- ---- one row

pub flag_none : (x : ℕ) → x ≡ 0xFFFF_FFFF → ◌≡◌ {A = ℕ} (cond (eqb x 0xFFFF_FFFF) 0 1) 0
flag_none x e = rw (eq-eqb x 0xFFFF_FFFF e)

pub flag_some : (x : ℕ) → (x ≡ 0xFFFF_FFFF → ⊥) → ◌≡◌ {A = ℕ} (cond (eqb x 0xFFFF_FFFF) 0 1) 1
flag_some x e = rw (ne_eqb x 0xFFFF_FFFF e)

-- ---- all rows: d is the digest up to section g, whose row is `row`

pub record Rows (t : List ℕ) (h stop d g row : ℕ) : Type 0 where
  pub stop_is : stop ≡ count_of t + 2
  pub below : g ≤ stop
  pub row_is : g < stop → row ≡ row_no t g
  pub digest_is : mixed_entries d (drop g (sections t)) ≡ mixed_entries h (sections t)

pub rows_none : (t : List ℕ) (h stop : ℕ) → stop ≡ count_of t + 2 → Rows t h stop h 0 0
rows_none t h stop e = record { stop_is = e; below = omega arith; row_is = λ k. sym (row_first t); digest_is = refl }

module _ {t : List ℕ} {h stop d g row : ℕ} (c : Rows t h stop d g row) where
  pub rows_done : stop ≤ g → d ≡ mixed_entries h (sections t)
  rows_done l = ap (mixed_entries d) (sym (sections_end t g (omega (arith, c.stop_is)))) ∙ c.digest_is

  module _ (k : Linked t) (l : g < stop) where
    pub rows_row : row * ROW + ROW ≤ length t
    rows_row = rw (c.row_is l) (row_in t g k)

    pub rows_more : (r : Row) → SectionRow t g row r → {d' : ℕ} → d' ≡ mixed_entry d (entry_of r) → Rows t h stop d' (g + 1) r.next
    rows_more r sr {d'} e =
        let q : entry_of r ≡ section t g = sr.entry ∙ ap (section_at t g) (c.row_is l) in
        record {
          stop_is = c.stop_is;
          below = omega arith;
          row_is = λ m. rw add-one (sr.next ∙ ap (next_of t) (c.row_is l) ∙ (row_edge t g k (omega (arith, c.stop_is))).fwd);
          digest_is =
              rw (add-one g, e)
              (subst (λ (x : Entry). mixed_entries (mixed_entry d x) (drop (suc g) (sections t)) ≡ mixed_entries h (sections t)) (sym q)
              (ap (mixed_entries d) (sym (sections_drop t g (omega (arith, c.stop_is)))) ∙ c.digest_is));
        }

-- ---- what the walks give is the desk's digest

entries_append : (h : ℕ) (xs ys : List Entry) → mixed_entries h (xs ++ ys) ≡ mixed_entries (mixed_entries h xs) ys
entries_append h [] ys = refl
entries_append h (x ∷ xs) ys = entries_append (mixed_entry h x) xs ys

flag_is : (b : Bool) (x : Text) → ◌≡◌ {A = ℕ} (cond b 0 1) (replaced (cond b none (some x)))
flag_is true x = refl
flag_is false x = refl

replaced_is : (s : List ℕ) (r : Place) → cond (eqb r.0 0xFFFF_FFFF) 0 1 ≡ replaced (replacement_of s r)
unfolding replacement_of
replaced_is s r = flag_is (eqb r.0 0xFFFF_FFFF) (bytes_at s r)

chunk_is : (p s : List ℕ) (h : ℕ) (e : Entry) → mixed_entry h e ≡ mixed_chunk h (chunk_of p s e)
chunk_is p s h e =
    rw (replaced_is s e.text, run_length p s e.intro.0 e.intro.1, run_length p s e.outro.0 e.outro.1)

chunks_are : (p s : List ℕ) (h : ℕ) (es : List Entry) → mixed_entries h es ≡ mixed_chunks h (map (chunk_of p s) es)
chunks_are p s h [] = refl
chunks_are p s h (e ∷ es) = ap (λ (k : ℕ). mixed_entries k es) (chunk_is p s h e) ∙ chunks_are p s (mixed_chunk h (chunk_of p s e)) es

pub digest_is : (source t p s : List ℕ) {h d : ℕ} → Linked t → h ≡ mixed_entries 1 (sections t) → d ≡ mixed_texts h (fragments_all source p s (sections t))
    → d ≡ digest_of (magic_string_of source t p s)
unfolding digest_of magic_string_of
digest_is source t p s {h} {d} l e f =
    let head = (entry_at t 0).intro in
    let tail = (entry_at t 0).outro in
    let a = mixed_section 1 0 0 head.1 0 1 in
    let q : h ≡ mixed_section (mixed_chunks (mixed_section 1 0 0 (length (run_of p s head)) 0 1) (map (chunk_of p s) (entries t))) 0 0 0 (length (run_of p s tail)) 1 =
    e ∙ ap (mixed_entries 1) (sections_are t l) ∙ entries_append a (entries t) (tail_part_of t ∷ [])
    ∙ rw (chunks_are p s a (entries t), run_length p s head.0 head.1, run_length p s tail.0 tail.1) in
    f ∙ ap (mixed_texts h) (output_sections source t p s l) ∙ ap (λ (k : ℕ). mixed_texts k ((run_of p s head ++ ([] ∷ [])) ++ (fragments_all source p s (entries t) ++ ([] ∷ run_of p s tail)))) q
