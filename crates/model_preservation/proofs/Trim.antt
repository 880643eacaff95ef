-- The trims change texts only and leave valid ones, and so keep a desk formed.
use Prim.Native.Nat.{ℕ}
use mathlib.Core.Path.{◌≡◌, refl}
use mathlib.Core.Bool.{Bool}
use mathlib.Core.List.{List, ◌∷◌}
use mathlib.Core.Option.{Option, some}
use lib.Dec.{eqb}
use lib.ListN.{length}
use Rattle.utf8.specs.Chars.{All, nil, cons, code}
use Rattle.utf8.proofs.Texts.{utf8_nil}
use Rattle.utf8.proofs.Between.{utf8_part}
use Rattle.utf8.proofs.CharLaws.{chars_utf8, concat_utf8}
use Rattle.model.specs.Text.{Text, is_nil, trim_start_matches, trim_end_matches, unwrap_or}
use Rattle.model.specs.Chunk.{Chunk, start_of, end_of, span_text, content}
use Rattle.model.specs.MagicString.{MagicString}
use Rattle.model.specs.Trim.{matches, trim_start_pattern, trim_end_pattern, trim_deque_start, trim_reversed, trim_deque_end, Trimmed, trim_chunk_start, trim_chunk_end}
use Rattle.model.specs.Trim.{trim_chunks, trim_start, trim_end, trim}
use Rattle.model.specs.WellFormed.{Valid, ValidReplacement, ValidTexts}
use Rattle.model.proofs.Lists.{all_reverse, all_skip_while}
use Rattle.model_preservation.proofs.Lists.{of_cond, of_either}
use Rattle.model_preservation.proofs.Spans.{Inside, spans_inside}
use Rattle.model_preservation.proofs.Desk.{FormedOf}
use Rattle.model_preservation.proofs.Retexts.{Retexts, none, more, retexts_keep, retexts_same, retexts_backwards}
use Rattle.model_preservation.proofs.Edits.{with_intro_keeps, with_outro_keeps}

-- ---- texts

pub trim_start_valid : (f : ℕ → Bool) (s : Text) → Valid s → Valid (trim_start_matches f s)
unfolding trim_start_matches
trim_start_valid f s h = concat_utf8 _ (all_skip_while (λ c. f (code c)) (chars_utf8 s h))

pub trim_end_valid : (f : ℕ → Bool) (s : Text) → Valid s → Valid (trim_end_matches f s)
unfolding trim_end_matches
trim_end_valid f s h = concat_utf8 _ (all_reverse (all_skip_while (λ c. f (code c)) (all_reverse (chars_utf8 s h))))

content_or_valid : (e : Option Text) (s : Text) → ValidReplacement e → Valid s → Valid (unwrap_or e s)
content_or_valid Option.none s h k = k
content_or_valid (some t) s h k = h

-- a chunk's content, its replacement or its part of the source, is valid
pub content_valid : (source : Text) (c : Chunk) → Valid source → Inside source c → ValidTexts c.texts → Valid (content source c)
content_valid source c v i h =
    content_or_valid c.texts.edited_content (span_text c.span source) h.replacement
    (utf8_part source (start_of c) (end_of c) v i.start_between i.end_between i.ordered)

-- ---- piece lists

module _ (p : ℕ) where
  pub deque_start_valid : {l : List Text} → All Valid l → All Valid (trim_deque_start p l)
  deque_start_valid nil = nil
  deque_start_valid (cons {x = s} h k) =
      of_cond (All Valid) (is_nil (trim_start_pattern p s)) (λ _. deque_start_valid k) (λ _. cons (trim_start_valid (matches p) s h) k)

  reversed_valid : {l : List Text} → All Valid l → All Valid (trim_reversed p l)
  reversed_valid nil = nil
  reversed_valid (cons {x = s} h k) =
      of_cond (All Valid) (is_nil (trim_end_pattern p s)) (λ _. reversed_valid k) (λ _. cons (trim_end_valid (matches p) s h) k)

  pub deque_end_valid : {l : List Text} → All Valid l → All Valid (trim_deque_end p l)
  deque_end_valid h = all_reverse (reversed_valid (all_reverse h))

-- ---- one chunk

record Trims (c : Chunk) (t : Trimmed) : Type 0 where
  span : t.chunk.span ≡ c.span
  texts : ValidTexts t.chunk.texts

module _ (p : ℕ) (source : Text) (c : Chunk) (v : Valid source) (i : Inside source c) (h : ValidTexts c.texts) where
  chunk_start_trims : Trims c (trim_chunk_start p source c)
  unfolding trim_chunk_start
  chunk_start_trims =
      let s : Text = content source c in
      let intro : List Text = trim_deque_start p c.texts.intro in
      let t : Text = trim_start_pattern p s in
      let a : All Valid intro = deque_start_valid p h.intro in
      let b : Valid t = trim_start_valid (matches p) s (content_valid source c v i h) in
      let d = deque_start_valid p h.outro in
      of_either (Trims c) (is_nil intro)
      (of_either (Trims c) (is_nil s) (record { span = refl; texts = record { intro = a; outro = d; replacement = h.replacement } })
      (of_either (Trims c) (eqb (length t) (length s)) (record { span = refl; texts = record { intro = a; outro = h.outro; replacement = h.replacement } })
      (of_either (Trims c) (is_nil t) (record { span = refl; texts = record { intro = a; outro = d; replacement = utf8_nil } })
      (record { span = refl; texts = record { intro = a; outro = h.outro; replacement = b } }))))
      (record { span = refl; texts = record { intro = a; outro = h.outro; replacement = h.replacement } })

  chunk_end_trims : Trims c (trim_chunk_end p source c)
  unfolding trim_chunk_end
  chunk_end_trims =
      let s : Text = content source c in
      let outro : List Text = trim_deque_end p c.texts.outro in
      let t : Text = trim_end_pattern p s in
      let a : All Valid outro = deque_end_valid p h.outro in
      let b : Valid t = trim_end_valid (matches p) s (content_valid source c v i h) in
      let d = deque_end_valid p h.intro in
      of_either (Trims c) (is_nil outro)
      (of_either (Trims c) (is_nil s) (record { span = refl; texts = record { intro = d; outro = a; replacement = h.replacement } })
      (of_either (Trims c) (eqb (length t) (length s)) (record { span = refl; texts = record { intro = h.intro; outro = a; replacement = h.replacement } })
      (of_either (Trims c) (is_nil t) (record { span = refl; texts = record { intro = d; outro = a; replacement = utf8_nil } })
      (record { span = refl; texts = record { intro = h.intro; outro = a; replacement = b } }))))
      (record { span = refl; texts = record { intro = h.intro; outro = a; replacement = h.replacement } })

-- ---- the chunks, in the direction of the trim

trim_retexts : (source : Text) (f : Chunk → Trimmed) → ((c : Chunk) → Inside source c → ValidTexts c.texts → Trims c (f c))
    → {cs : List Chunk} → All (Inside source) cs → All (λ c. ValidTexts c.texts) cs → Retexts cs (trim_chunks f cs)
trim_retexts source f g nil nil = none
trim_retexts source f g (cons {x = c} {xs = cs} i j) (cons h k) =
    let t = g c i h in
    of_cond (λ (l : List Chunk). Retexts (c ∷ cs) ((f c).chunk ∷ l)) (f c).goes_on
    (λ _. more t.span t.texts (trim_retexts source f g j k)) (λ _. more t.span t.texts (retexts_same k))

-- ---- the calls

module _ (source : Text) (p : ℕ) (m : MagicString) (h : FormedOf source m) where
  pub trim_start_keeps : FormedOf source (trim_start p m)
  unfolding trim_start
  trim_start_keeps =
      let f = h.formed in
      let a = deque_start_valid p f.intro in
      let r = trim_retexts m.source (trim_chunk_start p m.source) (λ c. chunk_start_trims p m.source c f.source) (spans_inside m.source m.chunks f.covered) f.texts in
      of_cond (FormedOf source) (is_nil (trim_deque_start p m.intro))
      (λ _. record { formed = retexts_keep m _ _ _ f a f.outro r; source_is = h.source_is })
      (λ _. with_intro_keeps source m _ a h)

  pub trim_end_keeps : FormedOf source (trim_end p m)
  unfolding trim_end
  trim_end_keeps =
      let f = h.formed in
      let a = deque_end_valid p f.outro in
      let r = trim_retexts m.source (trim_chunk_end p m.source) (λ c. chunk_end_trims p m.source c f.source)
      (all_reverse (spans_inside m.source m.chunks f.covered)) (all_reverse {P = λ c. ValidTexts c.texts} f.texts) in
      of_cond (FormedOf source) (is_nil (trim_deque_end p m.outro))
      (λ _. record { formed = retexts_keep m _ _ _ f f.intro a (retexts_backwards m.chunks _ r); source_is = h.source_is })
      (λ _. with_outro_keeps source m _ a h)

pub trim_keeps : (source : Text) (p : ℕ) (m : MagicString) → FormedOf source m → FormedOf source (trim p m)
trim_keeps source p m h = trim_end_keeps source p (trim_start p m) (trim_start_keeps source p m h)
