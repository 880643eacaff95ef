-- The walk of `line_count`: the line feeds so far, and the last byte so far.
use mathlib.Core.Path.{◌≡◌, refl, ap, ap₂, sym, ◌∙◌}
use mathlib.Core.List.{List, [], ◌∷◌}
use Prim.Native.Nat.{ℕ, ◌+◌, ◌-◌, ◌≤◌}
use native.Mathlib.Omega.{arith}
use lib.ListN.{length}
use Rattle.std.specs.List.{slice_get}
use Rattle.std.specs.Option.{unwrap_or}
use Rattle.std.specs.Prelude.{Option}
use Rattle.std.proofs.lemmas.Option.{slice_get-get_or}
use Rattle.utf8.specs.Chars.{All, concat}
use Rattle.model.specs.Text.{Text, LF, sum, line_feeds}
use Rattle.model.specs.MagicString.{MagicString, fragments, to_string, line_count, line_count_of}
use Rattle.model.specs.Call.{show, value_of, line_count as LineCount}
use Rattle.model.specs.WellFormed.{Valid}
use Rattle.model.proofs.LineCount.{last, last_append, last_get, count_by_last}
use Rattle.memory.specs.Layout.{magic_string_of}
use Rattle.memory.specs.WellFormed.{WellFormed}
use Rattle.memory.specs.Calls.{Told}
use Rattle.memory_texts.proofs.Texts.{concat_cons, concat_nil}
use Rattle.memory_fragments.specs.Output.{most_output}
use Rattle.memory_fragments.specs.Sections.{sections, fragments_all}
use Rattle.memory_fragments.proofs.Output.{concat_sections, output_bound, sum_sections}
use Rattle.memory_fragments.proofs.Telling.{told_value}
use Rattle.memory_fragments.proofs.Valid.{output_valid}
use Rattle.report_measures.specs.Measures.{feed_of}
use Rattle.report_measures.proofs.ByCharacters.{feeds_concat, feeds_le}
use Rattle.report_totals.proofs.Counting.{Counting, counting_more, sum_le}

-- ---- the last byte of a text, read at its last index

pub last_or : (b : ℕ) (t : Text) → unwrap_or (slice_get t (length t - 1)) b ≡ last b t
last_or b [] = refl
last_or b (a ∷ s) =
    ap (λ (o : Option ℕ). unwrap_or o b) (slice_get-get_or (a ∷ s) (length (a ∷ s) - 1) 0 (omega arith)) ∙ last_get b (a ∷ s) (λ z. omega arith)

-- ---- what the report tells

told_lines : (d : MagicString) (k : ℕ) → k ≡ line_count_of (to_string d) → Told LineCount d [] [] 0 k
unfolding show line_count
told_lines d k e = told_value LineCount d k (ap value_of (sym e))

-- ---- the walk over the texts `whole`, of which `left` are left

pub record Lines (whole left : List Text) (n b : ℕ) : Type 0 where
  pub counting : Counting line_feeds whole left n
  pub last_is : last b (concat left) ≡ last LF (concat whole)

pub lines_none : {whole left : List Text} → left ≡ whole → All Valid left → sum length left ≤ most_output → Lines whole left 0 LF
lines_none e v h = record {
  counting = record { valid = v; short = h; sum_is = omega (arith, ap (sum line_feeds) e) };
  last_is = ap (λ (l : List Text). last LF (concat l)) e;
}

pub lines_more : {whole left left' : List Text} {t : Text} {n n' b b' : ℕ} → Lines whole left n b → left ≡ t ∷ left' → n' ≡ n + line_feeds t → b' ≡ last b t → Lines whole left' n' b'
lines_more {left' = left'} {t = t} {b = b} c e k f = record {
  counting = counting_more c.counting e k;
  last_is = ap (λ (x : ℕ). last x (concat left')) f ∙ sym (ap (λ (l : List Text). last b (concat l)) e ∙ ap (last b) (concat_cons t left') ∙ last_append b t (concat left')) ∙ c.last_is;
}

pub lines_here : {whole left left' : List Text} {t : Text} {n b : ℕ} → Lines whole left n b → sum (λ (x : Text). line_feeds x) whole ≤ most_output → left ≡ t ∷ left' → n + line_feeds t ≤ most_output
lines_here c h e = omega (arith, h, c.counting.sum_is, ap (sum line_feeds) e)

-- ---- of a whole desk

module _ (source t p s : List ℕ) (w : WellFormed source t p s) where
  abbrev whole : List Text
  whole = fragments_all source p s (sections t)

  pub feeds_short : sum line_feeds (fragments_all source p s (sections t)) ≤ most_output
  feeds_short = omega (arith, sum_le line_feeds (λ x v. feeds_le x) whole (output_valid source t p s w), output_bound source t p s w)

  pub lines_bound : {left : List Text} {n b : ℕ} → Lines (fragments_all source p s (sections t)) left n b → n ≤ most_output
  lines_bound c = omega (arith, c.counting.sum_is, feeds_short)

  pub lines_done : {left : List Text} {n b x : ℕ} → Lines (fragments_all source p s (sections t)) left n b → left ≡ [] → x ≡ feed_of b → Told LineCount (magic_string_of source t p s) [] [] 0 (n + (1 - x))
  unfolding to_string
  lines_done {left} {n} {b} {x} c z e =
      let d = magic_string_of source t p s in
      let whole_is : concat whole ≡ to_string d = concat_sections source t p s w.readable.linked in
      let feeds : n ≡ line_feeds (to_string d) =
      omega (arith, c.counting.sum_is, ap (sum line_feeds) z, sum_sections line_feeds refl source t p s w.readable.linked, feeds_concat (fragments d)) in
      let byte : b ≡ last LF (to_string d) = sym (ap (λ (l : List Text). last b (concat l)) z ∙ ap (last b) concat_nil) ∙ c.last_is ∙ ap (last LF) whole_is in
      told_lines d (n + (1 - x)) (ap₂ (λ (j k : ℕ). j + (1 - k)) feeds (e ∙ ap feed_of byte) ∙ sym (count_by_last (to_string d)))
