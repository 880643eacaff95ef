-- What `indent_with` leaves has a chunk more for each cut at a line start that was made. The cuts alone are followed here, without the indentor put in.
use Prim.Native.Nat.{ℕ, suc, ◌+◌, ◌<◌}
use native.Mathlib.Omega.{arith}
use native.Mathlib.Decide.{dec_lt}
use mathlib.Core.Path.{◌≡◌, refl, ap, ◌∙◌}
use mathlib.Core.Bool.{Bool, true, false, cond}
use mathlib.Core.List.{List, [], ◌∷◌, ◌++◌, append_assoc}
use mathlib.Core.Option.{Option, none, some}
use lib.ListN.{length, length-append}
use Rattle.utf8.specs.Chars.{chars}
use Rattle.model.specs.Text.{Text, unwrap_or}
use Rattle.model.specs.Chunk.{Span, Chunk, with_texts, start_of, end_of, span_text, is_filled, first_half, second_half, prepend_intro}
use Rattle.model.specs.MagicString.{MagicString, with_chunks}
use Rattle.model.specs.Indent.{get_indent_string, indent_pieces, excluded, line_starts, indent_chunk, is_empty_indentor, indent_with}
use Rattle.model.specs.Cut.{made, edge, outside, refused, is_outside}
use Rattle.model.proofs.Lists.{bool-elim, first_of}
use Rattle.utf8.proofs.CharLaws.{all_back}
use Rattle.model_closed_forms.proofs.Cuts.{Contains}
use Rattle.model_closed_forms.specs.Spans.{Cover}
use Rattle.model_closed_forms.proofs.SplitAt.{cover_once}
use Rattle.model_closed_forms.proofs.CutAt.{start_aligned, halves_cover, cut_nothing, cut_made, cut_at_aligned, cut_at_inside}
use Rattle.model_indent_closed.specs.Indent.{split_lines, IndentedChunks, indented_chunk, indented_chunks, indented}
use Rattle.model_indent_closed.proofs.Indent.{split_lines_inside, split_lines_at_start, indented_lines, indented_excluded, indented_replaced}
use Rattle.model_indent_closed.proofs.Walk.{Ascends, ascends_from, Fits, cover_fits, chunk_ascends, indent_by_cover}
use Rattle.model_cuts.specs.Cuts.{then_cuts, count_made, starts_in, starts_from, indent_starts}
use Rattle.model_cuts.proofs.Cuts.{count_step, Grows}

module _ (m : MagicString) where
  -- ── the cuts at l, which lie in c, then those at r ──
  -- n is how many chunks c becomes; `done` stands before ds by then
  record Passed (l r : List ℕ) (xs : List Chunk) (c : Chunk) (ds : List Chunk) (n : ℕ) : Type 0 where
    done : List Chunk
    cover : Cover m.source (done ++ ds)
    count : suc (count_made (l ++ r) (with_chunks m (xs ++ c ∷ ds))) ≡ n + count_made r (with_chunks m (done ++ ds))

  pass_none : (r : List ℕ) (xs : List Chunk) (c : Chunk) (ds : List Chunk) → Cover m.source (xs ++ c ∷ ds) → Passed [] r xs c ds 1
  pass_none r xs c ds v = record { done = xs ++ c ∷ []; cover = rw (append_assoc xs (c ∷ []) ds) v; count = rw (append_assoc xs (c ∷ []) ds) (omega arith) }

  module _ (i : ℕ) (l r : List ℕ) (xs : List Chunk) (c : Chunk) (ds : List Chunk) (v : Cover m.source (xs ++ c ∷ ds)) where
    -- inside the chunk: made
    pass_inside : {n : ℕ} → Contains i c → c.texts.edited_content ≡ none → Passed l r (xs ++ first_half i c ∷ []) (second_half i c) ds n → Passed (i ∷ l) r xs c ds (suc n)
    pass_inside j e k =
        let d = with_chunks m (xs ++ c ∷ ds) in
        let f = ap is_filled e in
        let s = count_step i (l ++ r) d (cut_at_inside i d v xs c ds refl j ∙ ap (λ (b : Bool). cond b refused made) f) (cut_made i d v xs c ds refl j f).0 in
        let a = ap (λ (cs : List Chunk). count_made (l ++ r) (with_chunks m cs)) (append_assoc xs (first_half i c ∷ []) (second_half i c ∷ ds)) in
        record { done = k.done; cover = k.cover; count = omega (arith, s, a, k.count) }

    -- at its start: an edge, or outside
    not_made : (b : Bool) (n : ℕ) → then_cuts (cond b outside edge) n ≡ n
    not_made true n = refl
    not_made false n = refl

    pass_start : {n : ℕ} → start_of c ≡ i → i < end_of c → Passed l r xs c ds n → Passed (i ∷ l) r xs c ds n
    pass_start q h k =
        let d = with_chunks m (xs ++ c ∷ ds) in
        let al = start_aligned i xs c ds (cover_once v) q h in
        let s = count_step i (l ++ r) d (cut_at_aligned i d v al) (cut_nothing i d v al).0 in
        record { done = k.done; cover = k.cover; count = omega (arith, s, not_made (is_outside i d) (count_made (l ++ r) d), k.count) }

  -- the chunk d as the cuts leave it, and c with the indentor put in before it
  pass_lines : (t : Text) (l r : List ℕ) (xs : List Chunk) (c d : Chunk) (ds : List Chunk) → d.span ≡ c.span → Cover m.source (xs ++ d ∷ ds) → d.texts.edited_content ≡ none
      → Ascends (start_of d) (end_of d) l → Passed l r xs d ds (length (split_lines t c l))
  pass_lines t [] r xs c d ds s v e a = pass_none r xs d ds v
  pass_lines t (i ∷ l) r xs c d ds s v e a =
      let b : start_of d ≡ start_of c = ap (λ p. p.start) s in
      elim (dec_lt (start_of d) i) [
        | yes h ↦ rw (split_lines_inside t c i l (omega arith))
            (pass_inside i l r xs d ds v (h, a.1.0) e
            (pass_lines t l r (xs ++ first_half i d ∷ []) (with_texts (prepend_intro t) (second_half i c)) (second_half i d) ds
            (ap (λ (p : Span). record { start = i; end = p.end }) s) (halves_cover i xs d ds v (h, a.1.0)) e (ascends_from i (suc i) (end_of d) l (omega arith) a.1.1)))
        | no h ↦ rw (split_lines_at_start t c i l (omega arith))
            (pass_start i l r xs d ds v (omega arith) a.1.0
            (pass_lines t l r xs (with_texts (prepend_intro t) c) d ds s v e (ascends_from (start_of d) (suc i) (end_of d) l (omega arith) a.1.1)))
      ]

  -- ── a turn of the loop, and the loop ──
  source_starts : (exclude : List ℕ) (mark : Bool) (c : Chunk) → c.texts.edited_content ≡ none
      → starts_in exclude mark c m ≡ (line_starts exclude mark (start_of c) (chars (span_text c.span m.source))).starts
  source_starts exclude mark c e = rw e

  replaced_starts : (exclude : List ℕ) (mark : Bool) (c : Chunk) {w : Text} → c.texts.edited_content ≡ some w → starts_in exclude mark c m ≡ []
  replaced_starts exclude mark c e = rw e

  module _ (t : Text) (exclude : List ℕ) where
    abbrev one : Bool → Chunk → IndentedChunks
    one mark c = indented_chunk t exclude m.source mark c

    turn : (mark : Bool) (r : List ℕ) (xs : List Chunk) (c : Chunk) (ds : List Chunk) → Cover m.source (xs ++ c ∷ ds)
        → Passed (starts_in exclude mark c m) r xs c ds (length (one mark c).chunks)
    turn mark r xs c ds v = go c.texts.edited_content refl (excluded exclude (start_of c)) refl
      where
        go : (o : Option Text) → c.texts.edited_content ≡ o → (b : Bool) → excluded exclude (start_of c) ≡ b → Passed (starts_in exclude mark c m) r xs c ds (length (one mark c).chunks)
        go none e b x =
            let f : Fits m.source c = first_of (all_back (Fits m.source) xs (c ∷ ds) (cover_fits v)) in
            rw (source_starts exclude mark c e, indented_lines t exclude m.source mark c e)
            (pass_lines t (line_starts exclude mark (start_of c) (chars (span_text c.span m.source))).starts r xs c c ds refl v e (chunk_ascends m.source c f exclude mark))
        go (some w) e true x = rw (replaced_starts exclude mark c e, indented_excluded t exclude m.source mark c e x) (pass_none r xs c ds v)
        go (some w) e false x = rw (replaced_starts exclude mark c e, indented_replaced t exclude m.source mark c e x) (pass_none r xs c ds v)

    same_mark : (mark : Bool) (c : Chunk) → (indent_chunk t exclude mark c m).mark ≡ (one mark c).mark
    unfolding indent_chunk indented_chunk
    same_mark mark c = go c.texts.edited_content refl (excluded exclude (start_of c)) refl
      where
        go : (o : Option Text) → c.texts.edited_content ≡ o → (b : Bool) → excluded exclude (start_of c) ≡ b → (indent_chunk t exclude mark c m).mark ≡ (one mark c).mark
        go none e b x = rw (e, indent_chunk, indented_chunk)
        go (some w) e true x = rw (e, x, indent_chunk, indented_chunk)
        go (some w) e false x = rw (e, x, indent_chunk, indented_chunk)

    turns : (mark : Bool) (xs ds : List Chunk) → Cover m.source (xs ++ ds)
        → length (indented_chunks t exclude m.source mark ds).chunks ≡ length ds + count_made (starts_from t exclude mark ds m) (with_chunks m (xs ++ ds))
    turns mark xs [] v = refl
    turns mark xs (c ∷ ds) v =
        let k : Bool = (one mark c).mark in
        let p = turn mark (starts_from t exclude k ds m) xs c ds v in
        let s = ap (λ (b : Bool). count_made (starts_in exclude mark c m ++ starts_from t exclude b ds m) (with_chunks m (xs ++ c ∷ ds))) (same_mark mark c) in
        omega (arith, s, p.count, turns k p.done ds p.cover, length-append (one mark c).chunks (indented_chunks t exclude m.source k ds).chunks)

pub indent_grows : (i : Option Text) (l : List ℕ) (m : MagicString) → Cover m.source m.chunks → Grows (indent_starts i l m) m (indent_with i l m)
unfolding indent_with indented
indent_grows i l m v =
    let t : Text = unwrap_or i (get_indent_string m.source) in
    let body = turns m t l (indent_pieces t true m.intro).mark [] m.chunks v in
    bool-elim (is_empty_indentor i) (λ e. rw e (omega arith)) (λ e. rw (e, indent_by_cover t l m v) body)
