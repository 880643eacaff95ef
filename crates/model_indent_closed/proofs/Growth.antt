-- `indent_with` only adds: chunks, pieces and bytes. So a desk past a limit on the way is past it in the end (number 13).
use Prim.Native.Nat.{ℕ, ◌+◌, ◌≤◌, ◌<◌}
use native.Mathlib.Omega.{arith}
use native.Mathlib.Decide.{dec_lt}
use mathlib.Core.Path.{◌≡◌, refl, ap}
use mathlib.Core.Bool.{Bool, true, false, ◌&&◌}
use mathlib.Core.List.{List, [], ◌∷◌, ◌++◌, flatten}
use mathlib.Core.Option.{Option, none, some}
use lib.Dec.{leb}
use lib.ListN.{length, length-append}
use borrow.Author.Tests.{lt-leb}
use Rattle.utf8.specs.Chars.{chars, concat}
use Rattle.utf8.proofs.CharLaws.{concat_chars}
use Rattle.model.specs.Text.{Text, sum}
use Rattle.model.specs.Chunk.{Chunk, with_texts, start_of, span_text, second_half, prepend_intro}
use Rattle.model.specs.MagicString.{MagicString}
use Rattle.model.specs.Limits.{Limits, chunk_pieces, replacement_bytes, chunk_bytes, piece_count, byte_count, within}
use Rattle.model.specs.Indent.{Indented, is_line_feed, takes_mark, indent_chars, indent_frag, indent_pieces, excluded, line_starts}
use Rattle.model.proofs.Lists.{sum_append, concat_length}
use Rattle.model_preservation.proofs.Lists.{of_either}
use Rattle.model_indent_closed.specs.Indent.{split_lines, IndentedChunks, indented_chunk, indented_chunks, indented}
use Rattle.model_indent_closed.proofs.Indent.{split_lines_inside, split_lines_at_start, indented_lines, indented_excluded, indented_replaced}

-- ── one text, and pieces ──
chars_grow : (indentor : Text) (mark : Bool) (cs : List Text) → length (concat cs) ≤ length (indent_chars indentor mark cs).text
unfolding flatten
chars_grow indentor mark [] = omega arith
chars_grow indentor mark (c ∷ cs) =
    let P : Indented → Type 0 = λ r. length (concat (c ∷ cs)) ≤ length r.text in
    let q = concat_length c cs in
    let plain : (mark : Bool) → length (concat (c ∷ cs)) ≤ length (c ++ (indent_chars indentor mark cs).text) =
    λ mark. omega (arith, chars_grow indentor mark cs, length-append c (indent_chars indentor mark cs).text) in
    of_either P (is_line_feed c) (plain true)
    (of_either P (takes_mark mark c)
    (omega (arith, chars_grow indentor false cs, length-append (indentor ++ c) (indent_chars indentor false cs).text, length-append indentor c))
    (plain mark))

pub text_grows : (indentor : Text) (mark : Bool) (t : Text) → length t ≤ length (indent_frag indentor mark t).text
text_grows indentor mark t = omega (arith, chars_grow indentor mark (chars t), ap length (concat_chars t))

-- ── chunks ──
-- what cs becomes has as many chunks, pieces and bytes or more
pub record Grows (cs ds : List Chunk) : Type 0 where
  pub chunks : length cs ≤ length ds
  pub pieces : sum chunk_pieces cs ≤ sum chunk_pieces ds
  pub bytes : sum chunk_bytes cs ≤ sum chunk_bytes ds

pub grows_append : (us vs cs ds : List Chunk) → Grows us vs → Grows cs ds → Grows (us ++ cs) (vs ++ ds)
grows_append us vs cs ds g h =
    record {
      chunks = omega (arith, g.chunks, h.chunks, length-append us cs, length-append vs ds);
      pieces = omega (arith, g.pieces, h.pieces, sum_append chunk_pieces us cs, sum_append chunk_pieces vs ds);
      bytes = omega (arith, g.bytes, h.bytes, sum_append chunk_bytes us cs, sum_append chunk_bytes vs ds);
    }

pub grows_same : (cs : List Chunk) → Grows cs cs
grows_same cs = record { chunks = omega arith; pieces = omega arith; bytes = omega arith }

-- ── a source chunk cut at line starts ──
-- a piece more for each
pub lines_pieces : (indentor : Text) (c : Chunk) (l : List ℕ) → sum chunk_pieces (split_lines indentor c l) ≡ chunk_pieces c + length l
lines_pieces indentor c [] = omega arith
lines_pieces indentor c (i ∷ l) =
    elim (dec_lt (start_of c) i) [
      | yes h ↦ rw (split_lines_inside indentor c i l h) (omega (arith, lines_pieces indentor (with_texts (prepend_intro indentor) (second_half i c)) l))
      | no h ↦ rw (split_lines_at_start indentor c i l (omega arith)) (omega (arith, lines_pieces indentor (with_texts (prepend_intro indentor) c) l))
    ]

-- the indentor's bytes more for each
pub lines_bytes : (indentor : Text) (c : Chunk) (l : List ℕ) → c.texts.edited_content ≡ none → sum chunk_bytes (split_lines indentor c l) ≡ chunk_bytes c + sum (λ i. length indentor) l
lines_bytes indentor c [] e = omega arith
lines_bytes indentor c (i ∷ l) e =
    let z : replacement_bytes c.texts.edited_content ≡ 0 = ap replacement_bytes e in
    elim (dec_lt (start_of c) i) [
      | yes h ↦ rw (split_lines_inside indentor c i l h) (omega (arith, lines_bytes indentor (with_texts (prepend_intro indentor) (second_half i c)) l e))
      | no h ↦ rw (split_lines_at_start indentor c i l (omega arith)) (omega (arith, lines_bytes indentor (with_texts (prepend_intro indentor) c) l e))
    ]

-- one chunk or more, two where a line start lies inside
pub lines_some : (indentor : Text) (c : Chunk) (l : List ℕ) → 1 ≤ length (split_lines indentor c l)
lines_some indentor c [] = omega arith
lines_some indentor c (i ∷ l) =
    elim (dec_lt (start_of c) i) [
      | yes h ↦ rw (split_lines_inside indentor c i l h) (omega arith)
      | no h ↦ rw (split_lines_at_start indentor c i l (omega arith)) (lines_some indentor (with_texts (prepend_intro indentor) c) l)
    ]

pub lines_indentor : (indentor : Text) (c : Chunk) (i : ℕ) (l : List ℕ) → c.texts.edited_content ≡ none → chunk_bytes c + length indentor ≤ sum chunk_bytes (split_lines indentor c (i ∷ l))
lines_indentor indentor c i l e = omega (arith, lines_bytes indentor c (i ∷ l) e)

pub lines_grow : (indentor : Text) (c : Chunk) (l : List ℕ) → c.texts.edited_content ≡ none → Grows (c ∷ []) (split_lines indentor c l)
lines_grow indentor c l e =
    record {
      chunks = omega (arith, lines_some indentor c l);
      pieces = omega (arith, lines_pieces indentor c l);
      bytes = omega (arith, lines_bytes indentor c l e);
    }

-- ── a turn, and the loop ──
module _ (indentor : Text) (exclude : List ℕ) (source : Text) where
  pub chunk_grows : (mark : Bool) (c : Chunk) → Grows (c ∷ []) (indented_chunk indentor exclude source mark c).chunks
  chunk_grows mark c = go c.texts.edited_content refl (excluded exclude (start_of c)) refl
    where
      go : (o : Option Text) → c.texts.edited_content ≡ o → (b : Bool) → excluded exclude (start_of c) ≡ b → Grows (c ∷ []) (indented_chunk indentor exclude source mark c).chunks
      go none e b x = rw (indented_lines indentor exclude source mark c e) (lines_grow indentor c (line_starts exclude mark (start_of c) (chars (span_text c.span source))).starts e)
      go (some t) e true x = rw (indented_excluded indentor exclude source mark c e x) (grows_same (c ∷ []))
      go (some t) e false x =
          let z : replacement_bytes c.texts.edited_content ≡ length t = ap replacement_bytes e in
          rw (indented_replaced indentor exclude source mark c e x) (record { chunks = omega arith; pieces = omega arith; bytes = omega (arith, text_grows indentor mark t) })

  pub chunks_grow : (mark : Bool) (cs : List Chunk) → Grows cs (indented_chunks indentor exclude source mark cs).chunks
  chunks_grow mark [] = grows_same []
  chunks_grow mark (c ∷ cs) =
      let r : IndentedChunks = indented_chunk indentor exclude source mark c in
      grows_append (c ∷ []) r.chunks cs (indented_chunks indentor exclude source r.mark cs).chunks (chunk_grows mark c) (chunks_grow r.mark cs)

  -- a replacement's new bytes
  pub replaced_bytes : (mark : Bool) (c : Chunk) {t : Text} → c.texts.edited_content ≡ some t → excluded exclude (start_of c) ≡ false
      → length (indent_frag indentor mark t).text ≤ sum chunk_bytes (indented_chunk indentor exclude source mark c).chunks
  replaced_bytes mark c e x = rw (indented_replaced indentor exclude source mark c e x) (omega arith)

-- a desk has no fewer chunks behind an indent
pub desk_grows : (indentor : Text) (exclude : List ℕ) (m : MagicString) → length m.chunks ≤ length (indented indentor exclude m).chunks
unfolding indented
desk_grows indentor exclude m = (chunks_grow indentor exclude m.source (indent_pieces indentor true m.intro).mark m.chunks).chunks

-- ── a desk past a limit ──
and_none : (a b : Bool) → b ≡ false → a && b ≡ false
and_none true b e = e
and_none false b e = refl

module _ (k : Limits) (m : MagicString) where
  pub past_chunks : k.most_chunks < length m.chunks → within k m ≡ false
  unfolding within
  past_chunks h = rw (lt-leb (length m.chunks) k.most_chunks h) (and_none (leb (length m.source) k.most_source) false refl)

  pub past_bytes : k.most_bytes < byte_count m → within k m ≡ false
  unfolding within
  past_bytes h =
      rw (lt-leb (byte_count m) k.most_bytes h)
      (and_none (leb (length m.source) k.most_source) _ (and_none (leb (length m.chunks) k.most_chunks) _ (and_none (leb (piece_count m) k.most_pieces) false refl)))
