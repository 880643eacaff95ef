-- The first loop of a slice.
use mathlib.Core.Path.{◌≡◌, refl, ap, sym, ◌∙◌}
use mathlib.Core.Bool.{Bool, true, false}
use mathlib.Core.List.{List, ◌∷◌}
use Prim.Native.Nat.{ℕ, suc, ◌+◌, ◌*◌, ◌≤◌, ◌<◌}
use native.Mathlib.Omega.{arith}
use native.Mathlib.Numerals.{add-one}
use lib.ListN.{length, drop}
use Rattle.memory_layout.specs.Layout.{ROW}
use Rattle.memory_table.specs.declared.Row.{Row}
use Rattle.memory_table.specs.Table.{row_at}
use Rattle.memory_table.specs.Order.{Entry, entry_of, entry_at, entries, count_of, next_of, Linked}
use Rattle.model.specs.Chunk.{Chunk, start_of, end_of}
use Rattle.model.specs.Slice.{contains_end, find_start, from, nothing, Start}
use Rattle.memory.specs.Layout.{chunk_of}
use Rattle.memory_fragments.specs.Sections.{section, row_no}
use Rattle.memory_fragments.proofs.Sections.{row_edge, row_first, row_in, section_chunk, entries_drop, entries_end}
use Rattle.std.specs.Prelude.{Some, None}
use Rattle.report_slice_chunk.specs.Given.{holds_end}
use Rattle.report_slice_walk.specs.Walk.{chunks_of}
use Rattle.report_slice_walk.proofs.Walk.{contains_is}
use Rattle.report_slice.specs.Seek.{misses, FoundStart}

-- k chunks passed, row the next
pub record Seeking (t : List ℕ) (start end n k row : ℕ) : Type 0 where
  pub count_is : n ≡ count_of t
  pub below : k ≤ n
  pub row_is : k < n → row ≡ row_no t (suc k)
  pub find : (p s : List ℕ) → find_start start end (chunks_of p s (entries t)) ≡ find_start start end (chunks_of p s (drop k (entries t)))

-- one chunk of `find_start`
abbrev step : Bool → Bool → Chunk → List Chunk → Start → Start
step m f c cs r = elim m [ false ↦ from c cs | true ↦ elim f [ true ↦ nothing | false ↦ r ] ]

module _ (start end : ℕ) (c : Chunk) (cs : List Chunk) where
  find_here : misses start (start_of c) (end_of c) ≡ false → find_start start end (c ∷ cs) ≡ from c cs
  find_here e = ap (λ (m : Bool). step m (contains_end c end) c cs (find_start start end cs)) e

  find_stop : misses start (start_of c) (end_of c) ≡ true → contains_end c end ≡ true → find_start start end (c ∷ cs) ≡ nothing
  find_stop e f =
      ap (λ (m : Bool). step m (contains_end c end) c cs (find_start start end cs)) e ∙ ap (λ (m : Bool). step true m c cs (find_start start end cs)) f

  find_on : misses start (start_of c) (end_of c) ≡ true → contains_end c end ≡ false → find_start start end (c ∷ cs) ≡ find_start start end cs
  find_on e f =
      ap (λ (m : Bool). step m (contains_end c end) c cs (find_start start end cs)) e ∙ ap (λ (m : Bool). step true m c cs (find_start start end cs)) f

pub seek_none : (t : List ℕ) (start end n row : ℕ) → Linked t → n ≡ count_of t → row ≡ next_of t 0 → Seeking t start end n 0 row
seek_none t start end n row l e r = record {
  count_is = e;
  below = omega arith;
  row_is = λ h. r ∙ ap (next_of t) (sym (row_first t)) ∙ (row_edge t 0 l (omega arith)).fwd;
  find = λ p s. refl;
}

module _ {t : List ℕ} {start end n k row : ℕ} (c : Seeking t start end n k row) (l : Linked t) where
  pub seek_done : n ≤ k → FoundStart t start end None
  unfolding FoundStart
  seek_done h p s = c.find p s ∙ ap (λ (x : List Entry). find_start start end (chunks_of p s x)) (entries_end t k l (omega (arith, c.count_is)))

  module _ (h : k < n) where
    inside : k < count_of t
    inside = omega (arith, c.count_is)

    pub seek_row : row * ROW + ROW ≤ length t
    seek_row = rw (c.row_is h) (row_in t (suc k) l)

    split : (p s : List ℕ) → find_start start end (chunks_of p s (entries t)) ≡ find_start start end (chunk_of p s (section t (suc k)) ∷ chunks_of p s (drop (suc k) (entries t)))
    split p s = c.find p s ∙ ap (λ (x : List Entry). find_start start end (chunks_of p s x)) (entries_drop t k l inside)

    module _ (r : Row) (e : r ≡ row_at t row) where
      pub seek_entry : entry_of r ≡ section t (suc k)
      seek_entry = ap entry_of e ∙ ap (entry_at t) (c.row_is h) ∙ sym (section_chunk t k l inside)

      at_entry : misses start r.start r.end ≡ misses start (section t (suc k)).start (section t (suc k)).end
      at_entry = ap (λ (x : Entry). misses start x.start x.end) seek_entry

      end_entry : (p s : List ℕ) → holds_end r.start r.end end ≡ contains_end (chunk_of p s (section t (suc k))) end
      end_entry p s = ap (λ (x : Entry). holds_end x.start x.end end) seek_entry ∙ sym (contains_is p s (section t (suc k)) end)

      pub seek_found : misses start r.start r.end ≡ false → FoundStart t start end (Some (record { chunk = k; row = row }))
      unfolding FoundStart
      seek_found m = record {
        inside = inside;
        row_is = c.row_is h;
        holds = sym at_entry ∙ m;
        find = λ p s. split p s ∙ find_here start end (chunk_of p s (section t (suc k))) _ (sym at_entry ∙ m);
      }

      pub seek_stop : misses start r.start r.end ≡ true → holds_end r.start r.end end ≡ true → FoundStart t start end None
      unfolding FoundStart
      seek_stop m f p s = split p s ∙ find_stop start end (chunk_of p s (section t (suc k))) _ (sym at_entry ∙ m) (sym (end_entry p s) ∙ f)

      pub seek_more : misses start r.start r.end ≡ true → holds_end r.start r.end end ≡ false → Seeking t start end n (k + 1) r.next
      seek_more m f = record {
        count_is = c.count_is;
        below = omega arith;
        row_is = λ j. rw add-one (ap (λ (x : Row). x.next) e ∙ ap (next_of t) (c.row_is h) ∙ (row_edge t (suc k) l (omega (arith, c.count_is))).fwd);
        find = λ p s. rw add-one (split p s ∙ find_on start end (chunk_of p s (section t (suc k))) _ (sym at_entry ∙ m) (sym (end_entry p s) ∙ f));
      }
