-- What a slice gives, from where it begins to the report.
use mathlib.Core.Path.{◌≡◌, refl, ap, sym, ◌∙◌, subst}
use mathlib.Core.Bool.{Bool, true, false, ◌&&◌, not, cond}
use mathlib.Core.List.{List, [], ◌∷◌, ◌++◌}
use mathlib.Core.Option.{Option, none, some}
use Prim.Native.Nat.{ℕ, suc, ◌+◌, ◌*◌, ◌-◌, ◌≤◌, ◌<◌}
use native.Mathlib.Omega.{arith}
use lib.Dec.{ltb, leb, eqb}
use lib.ListN.{length, drop}
use borrow.Author.Tests.{le-leb, ltb-false}
use Rattle.memory_layout.specs.Layout.{ROW}
use Rattle.utf8.specs.Rfc3629.{between}
use Rattle.memory_table.specs.declared.Row.{Row}
use Rattle.memory_table.specs.Table.{row_at}
use Rattle.memory_table.specs.Order.{Entry, entry_of, entry_at, entries, count_of, Linked}
use Rattle.model.specs.Chunk.{is_edited}
use Rattle.model.specs.MagicString.{MagicString}
use Rattle.model.specs.Slice.{Sliced, text, refused, slice_from, find_start, slice}
use Rattle.model.specs.Call.{Shown, show, refusal, sliced_into, slice as Slice}
use Rattle.model.proofs.Lists.{neither}
use Rattle.memory.specs.Layout.{chunk_of, magic_string_of}
use Rattle.memory.specs.Calls.{Told, end_of}
use Rattle.memory.proofs.Desks.{edited_is}
use Rattle.memory_fragments.specs.Sections.{section, row_no}
use Rattle.memory_fragments.proofs.Sections.{section_chunk, row_in, entries_drop}
use Rattle.std.specs.Prelude.{Some, None, Option as Answer}
use Rattle.report_slice_walk.specs.Walk.{chunks_of, slice_walk, Gives}
use Rattle.report_slice.specs.Seek.{span_starts_inside, Starts, FoundStart, given}

-- ---- where the slice begins

slice_is : (source t p s : List ℕ) (start end : ℕ) → slice start end (magic_string_of source t p s) ≡ slice_from source start end (find_start start end (chunks_of p s (entries t)))
unfolding slice magic_string_of
slice_is source t p s start end = refl

pub given_nothing : (source t p s : List ℕ) (start end : ℕ) (d : List ℕ) → FoundStart t start end None → Gives (sliced_into (length d) (slice start end (magic_string_of source t p s))) d d 0 0
unfolding FoundStart
given_nothing source t p s start end d f =
    let e : slice start end (magic_string_of source t p s) ≡ text [] = slice_is source t p s start end ∙ ap (slice_from source start end) (f p s) in
    subst (λ (x : Sliced). Gives (sliced_into (length d) x) d d 0 0) (sym e) (rw (le-leb 0 (length d) (omega arith)) (record { number_is = refl; value_is = refl; written = refl }))

starts_of : {t : List ℕ} {start end k row : ℕ} → FoundStart t start end (Some (record { chunk = k; row = row })) → Starts t start end k row
unfolding FoundStart
starts_of f = f

module _ (source t p s : List ℕ) (start end k row : ℕ) (found : FoundStart t start end (Some (record { chunk = k; row = row }))) (l : Linked t) where
  f : Starts t start end k row
  f = starts_of found

  pub found_in : k < count_of t
  found_in = f.inside

  pub found_row : row ≡ row_no t (suc k)
  found_row = f.row_is

  pub found_fits : row * ROW + ROW ≤ length t
  found_fits = rw found_row (row_in t (suc k) l)

  module _ (r : Row) (e : r ≡ row_at t row) where
    entry : entry_of r ≡ section t (suc k)
    entry = ap entry_of e ∙ ap (entry_at t) found_row ∙ sym (section_chunk t k l found_in)

    pub found_start : r.start ≤ start
    found_start =
        let h = f.holds in
        let b = neither (ltb start (section t (suc k)).start) (leb (section t (suc k)).end start) h in
        omega (arith, ltb-false start (section t (suc k)).start b.0, ap (λ (x : Entry). x.start) entry)

    abbrev walk : Sliced
    walk = slice_walk source (eqb r.start start) (start - r.start) end (chunks_of p s (drop k (entries t)))

    abbrev pick : Bool → Sliced → Sliced
    pick b x = elim b [ true ↦ refused 11 | false ↦ x ]

    split : slice start end (magic_string_of source t p s) ≡ pick (span_starts_inside r.start r.text_at start) walk
    split =
        slice_is source t p s start end ∙ ap (slice_from source start end) (f.find p s)
        ∙ ap (λ (x : Entry). pick (is_edited (chunk_of p s x) && not (eqb x.start start))
        (slice_walk source (eqb x.start start) (start - x.start) end (chunk_of p s x ∷ chunks_of p s (drop (suc k) (entries t))))) (sym entry)
        ∙ ap (λ (b : Bool). pick (b && not (eqb r.start start))
        (slice_walk source (eqb r.start start) (start - r.start) end (chunk_of p s (entry_of r) ∷ chunks_of p s (drop (suc k) (entries t)))))
        (edited_is s (r.text_at, r.text_n))
        ∙ ap (λ (x : List Entry). pick (span_starts_inside r.start r.text_at start) (slice_walk source (eqb r.start start) (start - r.start) end (chunks_of p s x)))
        (ap (λ (x : Entry). x ∷ drop (suc k) (entries t)) entry ∙ sym (entries_drop t k l found_in))

    pub given_11 : (d : List ℕ) → span_starts_inside r.start r.text_at start ≡ true → Gives (sliced_into (length d) (slice start end (magic_string_of source t p s))) d d 11 0
    given_11 d h =
        subst (λ (x : Sliced). Gives (sliced_into (length d) x) d d 11 0) (sym (split ∙ ap (λ (b : Bool). pick b walk) h)) (record { number_is = refl; value_is = refl; written = refl })

    pub given_walk : (d d' : List ℕ) (number value : ℕ) → span_starts_inside r.start r.text_at start ≡ false → Gives (sliced_into (length d) walk) d d' number value
        → Gives (sliced_into (length d) (slice start end (magic_string_of source t p s))) d d' number value
    given_walk d d' number value h g = subst (λ (x : Sliced). Gives (sliced_into (length d) x) d d' number value) (sym (split ∙ ap (λ (b : Bool). pick b walk) h)) g

-- ---- the report

told : (start : ℕ) (end : Option ℕ) (m : MagicString) (d d' : List ℕ) (number value : ℕ) (x : Shown) → show (Slice start end (length d)) m ≡ x →
    Gives x d d' number value → Told (Slice start end (length d)) m d d' number value
told start end m d d' number value x e g = record {
  number_is = g.number_is ∙ sym (ap (λ (y : Shown). y.number) e);
  value_is = g.value_is ∙ sym (ap (λ (y : Shown). y.value) e);
  written = g.written ∙ sym (ap (λ (y : Shown). y.written ++ drop (length y.written) d) e);
}

gives_3 : (d : List ℕ) → Gives (refusal 3) d d 3 0
gives_3 d = record { number_is = refl; value_is = refl; written = refl }

module _ (source t p s : List ℕ) (start end : ℕ) (d : List ℕ) where
  abbrev m : MagicString
  m = magic_string_of source t p s

  shown_some : (b : Bool) → between source start ≡ true → between source end ≡ b → show (Slice start (some end) (length d)) m ≡ cond (not b) (refusal 3) (sliced_into (length d) (slice start end m))
  unfolding show magic_string_of
  shown_some b e f = ap (λ (x : Bool). cond (not (x && (between source end && true))) (refusal 3) (sliced_into (length d) (slice start end m))) e
      ∙ ap (λ (x : Bool). cond (not (x && true)) (refusal 3) (sliced_into (length d) (slice start end m))) f
      ∙ ap (λ (x : Bool). cond (not x) (refusal 3) (sliced_into (length d) (slice start end m))) (mathlib.Core.Bool.and-true b)

  shown_none : between source start ≡ true → show (Slice start none (length d)) m ≡ sliced_into (length d) (slice start (length source) m)
  unfolding show magic_string_of
  shown_none e = ap (λ (x : Bool). cond (not (x && true)) (refusal 3) (sliced_into (length d) (slice start (length source) m))) e

  shown_3 : (o : Answer ℕ) → between source start ≡ false → show (Slice start (given o) (length d)) m ≡ refusal 3
  unfolding show magic_string_of
  shown_3 (Some v) e = ap (λ (x : Bool). cond (not (x && (between source v && true))) (refusal 3) (sliced_into (length d) (slice start v m))) e
  shown_3 None e = ap (λ (x : Bool). cond (not (x && true)) (refusal 3) (sliced_into (length d) (slice start (length source) m))) e

  pub told_3_start : (o : Answer ℕ) → between source start ≡ false → Told (Slice start (given o) (length d)) m d d 3 0
  told_3_start o e = told start (given o) m d d 3 0 (refusal 3) (shown_3 o e) (gives_3 d)

  pub told_3_end : (o : Answer ℕ) → o ≡ Some end → between source start ≡ true → between source end ≡ false → Told (Slice start (given o) (length d)) m d d 3 0
  told_3_end o q e f = rw q (told start (some end) m d d 3 0 (refusal 3) (shown_some false e f) (gives_3 d))

  pub told_end : (o : Answer ℕ) (d' : List ℕ) (number value : ℕ) → o ≡ Some end → between source start ≡ true → between source end ≡ true
      → Gives (sliced_into (length d) (slice start end m)) d d' number value → Told (Slice start (given o) (length d)) m d d' number value
  told_end o d' number value q e f g = rw q (told start (some end) m d d' number value _ (shown_some true e f) g)

  pub told_all : (o : Answer ℕ) (d' : List ℕ) (number value : ℕ) → o ≡ None → between source start ≡ true
      → Gives (sliced_into (length d) (slice start (length source) m)) d d' number value → Told (Slice start (given o) (length d)) m d d' number value
  told_all o d' number value q e g = rw q (told start none m d d' number value _ (shown_none e) g)

-- a flag and an end, as one option
pub given_is : (b : Bool) (e : ℕ) → given (cond b (Some e) None) ≡ end_of b e
given_is true e = refl
given_is false e = refl
