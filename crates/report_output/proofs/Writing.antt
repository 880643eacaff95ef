-- What each report tells, and the walk that writes the output.
use mathlib.Core.Path.{◌≡◌, refl, ap, sym, ◌∙◌, subst}
use mathlib.Core.List.{List, [], ◌++◌}
use Prim.Native.Nat.{ℕ, suc, ◌+◌, ◌*◌, ◌≤◌, ◌<◌}
use native.Mathlib.Omega.{arith}
use native.Mathlib.Numerals.{add-one}
use lib.ListN.{length, drop}
use Rattle.memory_layout.specs.Layout.{ROW}
use Rattle.utf8.specs.Chars.{concat}
use Rattle.utf8.proofs.CharLaws.{concat_append}
use Rattle.memory_table.specs.declared.Row.{Row}
use Rattle.memory_table.specs.Order.{Entry, entry_of, count_of, next_of}
use Rattle.model.specs.MagicString.{MagicString, to_string, len, len_utf16}
use Rattle.model.specs.Call.{show, value_of, to_string as ToString, len as Len, len_utf16 as LenUtf16}
use Rattle.memory.specs.Layout.{magic_string_of}
use Rattle.memory.specs.WellFormed.{WellFormed, EntryIn}
use Rattle.memory.specs.Calls.{Told}
use Rattle.memory_texts.specs.Texts.{SpanIn, text_of_chunk}
use Rattle.memory_texts.proofs.Texts.{concat_nil}
use Rattle.memory_texts.specs.Over.{Wrote}
use Rattle.report_measures.specs.declared.Measure.TheVariants.{Bytes, Utf16}
use Rattle.memory_fragments.specs.Sections.{SectionRow, section_at, section, sections, fragments_of, fragments_all, row_no}
use Rattle.memory_fragments.proofs.Sections.{sections_drop, sections_end, row_edge, row_first}
use Rattle.memory_fragments.proofs.Output.{ready, concat_sections}
use Rattle.memory_fragments.proofs.Telling.{told_value, told_short, told_text}
use Rattle.memory_fragments.proofs.Writing.{Writing, writing_none, writing_room, writing_more, writing_done}
use Rattle.report_totals.specs.Totals.{OfChunks}

-- ---- what each report tells

module _ (d : MagicString) (n : ℕ) where
  pub told_len : OfChunks Bytes d n → Told Len d [] [] 0 n
  unfolding show len
  told_len h = told_value Len d n (ap value_of (sym h.total))

  pub told_len_utf16 : OfChunks Utf16 d n → Told LenUtf16 d [] [] 0 n
  unfolding show len_utf16
  told_len_utf16 h = told_value LenUtf16 d n (ap value_of (sym h.total))

module _ (d : MagicString) (n : ℕ) (e : n ≡ length (to_string d)) where
  pub told_14 : (out : List ℕ) → length out < n → Told (ToString (length out)) d out out 14 0
  unfolding show
  told_14 out k = told_short (ToString (length out)) d (length out) (to_string d) out refl (omega arith)

  pub told_output : (out out' : List ℕ) → n ≤ length out → out' ≡ to_string d ++ drop (length (to_string d)) out → Told (ToString (length out)) d out out' 0 n
  unfolding show
  told_output out out' k w = told_text (ToString (length out)) d (length out) (to_string d) out out' n refl (omega arith) e w

-- ---- a walk that writes section by section

pub record Sectioning (source t p s d₀ : List ℕ) (stop : ℕ) (d : List ℕ) (g row o : ℕ) : Type 0 where
  pub stop_is : stop ≡ count_of t + 2
  pub below : g ≤ stop
  pub row_is : g < stop → row ≡ row_no t g
  pub writing : Writing d₀ (to_string (magic_string_of source t p s)) d o (concat (fragments_all source p s (drop g (sections t))))

pub sectioning_none : (source t p s d : List ℕ) (stop : ℕ) → WellFormed source t p s → stop ≡ count_of t + 2 → length (to_string (magic_string_of source t p s)) ≤ length d
    → Sectioning source t p s d stop d 0 0 0
sectioning_none source t p s d stop w e h = record {
  stop_is = e;
  below = omega arith;
  row_is = λ k. sym (row_first t);
  writing = writing_none d _ _ (concat_sections source t p s w.readable.linked) h;
}

module _ {source t p s d₀ : List ℕ} {stop : ℕ} {d : List ℕ} {g row o : ℕ} (c : Sectioning source t p s d₀ stop d g row o) (w : WellFormed source t p s) where
  pub sectioning_done : stop ≤ g → d ≡ to_string (magic_string_of source t p s) ++ drop (length (to_string (magic_string_of source t p s))) d₀
  sectioning_done h =
      writing_done c.writing (ap (λ (x : List Entry). concat (fragments_all source p s x)) (sections_end t g (omega (arith, c.stop_is))) ∙ concat_nil)

  module _ (h : g < stop) where
    pub sectioning_row : row * ROW + ROW ≤ length t
    sectioning_row = rw (c.row_is h) (Rattle.memory_fragments.proofs.Sections.row_in t g w.readable.linked)

    module _ (r : Row) (sr : SectionRow t g row r) where
      entry : entry_of r ≡ section t g
      entry = sr.entry ∙ ap (section_at t g) (c.row_is h)

      parts : concat (fragments_all source p s (drop g (sections t))) ≡ text_of_chunk source p s (entry_of r) ++ concat (fragments_all source p s (drop (suc g) (sections t)))
      parts =
          ap (λ (x : List Entry). concat (fragments_all source p s x)) (sections_drop t g (omega (arith, c.stop_is)))
          ∙ concat_append (fragments_of source p s (section t g)) _
          ∙ ap (λ (x : Entry). text_of_chunk source p s x ++ concat (fragments_all source p s (drop (suc g) (sections t)))) (sym entry)

      pub sectioning_requires : EntryIn p s (entry_of r) × SpanIn source (entry_of r) × (o + length (text_of_chunk source p s (entry_of r)) ≤ length d)
      sectioning_requires =
          let x = (ready source t p s w).shown g in (
            subst (EntryIn p s) (sym entry) x.entry,
            subst (SpanIn source) (sym entry) x.span,
            writing_room c.writing (text_of_chunk source p s (entry_of r)) (concat (fragments_all source p s (drop (suc g) (sections t)))) parts,
          )

      pub sectioning_more : {d' : List ℕ} {o' : ℕ} → Wrote d o (text_of_chunk source p s (entry_of r)) d' o' → Sectioning source t p s d₀ stop d' (g + 1) r.next o'
      sectioning_more v = record {
        stop_is = c.stop_is;
        below = omega arith;
        row_is = λ k. rw add-one (sr.next ∙ ap (next_of t) (c.row_is h) ∙ (row_edge t g w.readable.linked (omega (arith, c.stop_is))).fwd);
        writing = rw add-one (writing_more c.writing (text_of_chunk source p s (entry_of r)) (concat (fragments_all source p s (drop (suc g) (sections t)))) parts v);
      }
