-- The walk of `indent_with` leaves what specs/Indent.antt says: each turn changes its own chunk alone.
use Prim.Native.Nat.{ℕ, zero, suc, ◌+◌, ◌-◌, ◌≤◌, ◌<◌}
use native.Mathlib.Omega.{arith}
use native.Mathlib.Decide.{dec_lt}
use mathlib.Core.Path.{◌≡◌, refl, ap, sym, ◌∙◌, subst}
use mathlib.Core.Bool.{Bool, true, false}
use mathlib.Core.List.{List, [], ◌∷◌, ◌++◌, map, append_assoc, map-append}
use mathlib.Core.Option.{Option, none, some}
use lib.Dec.{eqb}
use lib.ListN.{length, drop, length-append, length-take, length-drop}
use borrow.Author.Tests.{eq-eqb, ne_eqb}
use Rattle.utf8.specs.Chars.{All, nil, cons, chars, concat}
use Rattle.utf8.proofs.CharLaws.{concat_chars, all_front}
use Rattle.model.specs.Text.{Text}
use Rattle.model.specs.Chunk.{Chunk, Texts, chunk_from, with_texts, start_of, end_of, span_text, is_filled, first_half, second_half, prepend_intro, edit}
use Rattle.model.specs.MagicString.{MagicString, Result, ok, and_then, with_chunks, with_intro, with_outro, by_start, at_start, by_edge_mut}
use Rattle.model.specs.Insert.{right, front, push, insert, insert_step}
use Rattle.model.specs.Indent.{Indented, is_line_feed, takes_mark, indent_frag, Pieces, indent_pieces, excluded, Starts, line_starts, insert_all, Marked, indent_chunk}
use Rattle.model.specs.Indent.{indent_chunks, indent_by}
use Rattle.model.specs.WellFormed.{covers, Formed}
use Rattle.model.proofs.Lists.{all_map₂, concat_length}
use Rattle.model.proofs.Spans.{covers_key}
use Rattle.model_closed_forms.proofs.Cuts.{Contains}
use Rattle.model_closed_forms.specs.Spans.{Proper, Cover, empty, tiled}
use Rattle.model_closed_forms.proofs.Spans.{Once, others, cover_of, formed_cover}
use Rattle.model_closed_forms.proofs.SplitAt.{cover_once}
use Rattle.model_closed_forms.proofs.CutAt.{start_aligned, halves_cover, cut_nothing, cut_made}
use Rattle.model_closed_forms.proofs.Steps.{cover_proper}
use Rattle.model_closed_forms.proofs.Found.{edge_at, edge_set, some_is}
use Rattle.model_preservation.proofs.Lists.{of_either, all_key, sum_key}
use Rattle.model_preservation.proofs.Indent.{chars_some}
use Rattle.model_indent_closed.specs.Indent.{split_lines, IndentedChunks, indented_chunk, indented_chunks, indented}
use Rattle.model_indent_closed.proofs.Indent.{split_lines_inside, split_lines_at_start}

-- ── spans ──
-- the same spans with other texts
cover_spans : {s : Text} {cs : List Chunk} → Cover s cs → (ds : List Chunk) → map (λ c. c.span) ds ≡ map (λ c. c.span) cs → Cover s ds
cover_spans (empty z t) ds e = cover_of [] ds e
cover_spans (tiled {source = s} {cs = cs} l t) ds e =
    tiled l (record {
      proper = all_key (λ (c : Chunk). c.span) Proper (λ c d q h. rw q h) cs ds e t.proper;
      within = all_key (λ (c : Chunk). c.span) (λ c. end_of c ≤ length s) (λ c d q h. rw q h) cs ds e t.within;
      exact = λ x h. sum_key (λ (c : Chunk). c.span) (covers x) (covers_key x) cs ds e ∙ t.exact x h;
    })

-- one chunk with other texts
pub cover_texts : {s : Text} (f : Texts → Texts) (xs : List Chunk) (c : Chunk) (ys : List Chunk) → Cover s (xs ++ c ∷ ys) → Cover s (xs ++ with_texts f c ∷ ys)
cover_texts f xs c ys v =
    cover_spans v (xs ++ with_texts f c ∷ ys) (map-append (λ (d : Chunk). d.span) xs (with_texts f c ∷ ys) ∙ sym (map-append (λ (d : Chunk). d.span) xs (c ∷ ys)))

-- a span that ends inside the source, not before it starts
pub record Fits (s : Text) (c : Chunk) : Type 0 where
  pub ordered : start_of c ≤ end_of c
  pub inside : end_of c ≤ length s

pub cover_fits : {s : Text} {cs : List Chunk} → Cover s cs → All (Fits s) cs
cover_fits (empty z t) = cons {x = chunk_from 0 0 z t} (record { ordered = omega arith; inside = omega arith }) nil
cover_fits (tiled l t) = all_map₂ (λ c p w. record { ordered = omega arith; inside = w }) t.proper t.within

middle : {P : Chunk → Type 0} (xs : List Chunk) (c : Chunk) (ys : List Chunk) → All P (xs ++ c ∷ ys) → P c
middle [] c ys (cons h k) = h
middle (x ∷ xs) c ys (cons h k) = middle xs c ys k

-- no chunk before this one starts where it holds a byte
none_start : (q : ℕ) (xs : List Chunk) (c : Chunk) (ys : List Chunk) → Once (xs ++ c ∷ ys) → All Proper (xs ++ c ∷ ys) → start_of c ≤ q → q < end_of c
    → All (λ d. eqb (start_of d) q ≡ false) xs
none_start q xs c ys o p l h =
    let w : (d : Chunk) → ((start_of d ≤ q) × (q < end_of d) → ⊥) → start_of d < end_of d → eqb (start_of d) q ≡ false = λ d k r. ne_eqb (start_of d) q (λ e. k (omega arith)) in
    all_map₂ w (others q xs c ys o (l, h)).0 (all_front Proper xs (c ∷ ys) p)

-- nor where it starts
starts_apart : (xs : List Chunk) (c : Chunk) (ys : List Chunk) {s : Text} {cs : List Chunk} → cs ≡ xs ++ c ∷ ys → Cover s cs → All (λ d. eqb (start_of d) (start_of c) ≡ false) xs
starts_apart [] c ys e (empty z t) = nil
starts_apart (x ∷ xs) c ys e (empty z t) = absurd (omega (arith, ap length e, length-append xs (c ∷ ys)))
starts_apart xs c ys e (tiled {source = s} {cs = cs} l t) =
    let v : Cover s (xs ++ c ∷ ys) = subst (Cover s) e (tiled l t) in
    let p : All Proper (xs ++ c ∷ ys) = cover_proper v l in
    let r : start_of c < end_of c = middle xs c ys p in
    none_start (start_of c) xs c ys (cover_once v) p (omega arith) r

-- ── one line start ──
module _ (t : Text) (m : MagicString) (xs : List Chunk) (c : Chunk) (ys : List Chunk) where
  step_found : (q : ℕ) → All (λ d. eqb (start_of d) q ≡ false) xs → eqb (start_of c) q ≡ true
      → insert_step q t right front (with_chunks m (xs ++ c ∷ ys)) ≡ ok (with_chunks m (xs ++ with_texts (prepend_intro t) c ∷ ys))
  step_found q n h =
      some_is (by_start q (xs ++ c ∷ ys)) c (ok (with_outro (with_chunks m (xs ++ c ∷ ys)) (push front t m.outro)))
      (ok (with_chunks m (at_start q (prepend_intro t) (xs ++ c ∷ ys)))) (edge_at right q c ys n h)
      ∙ ap (λ (l : List Chunk). ok (with_chunks m l)) (edge_set right q (prepend_intro t) c ys n h)

module _ (i : ℕ) (t : Text) (m : MagicString) (xs : List Chunk) (c : Chunk) (ys : List Chunk) (v : Cover m.source (xs ++ c ∷ ys)) where
  -- at the chunk's start: no cut
  at_its_start : start_of c ≡ i → i < end_of c → insert i t right front (with_chunks m (xs ++ c ∷ ys)) ≡ ok (with_chunks m (xs ++ with_texts (prepend_intro t) c ∷ ys))
  unfolding by_edge_mut
  at_its_start e h =
      let z = (cut_nothing i (with_chunks m (xs ++ c ∷ ys)) v (start_aligned i xs c ys (cover_once v) e h)).0 in
      ap (λ r. and_then r (insert_step i t right front)) z ∙ step_found t m xs c ys i (rw e at (starts_apart xs c ys refl v)) (eq-eqb (start_of c) i e)

  -- inside it: the cut, then the second half
  inside_it : 0 < length m.source → Contains i c → c.texts.edited_content ≡ none
      → insert i t right front (with_chunks m (xs ++ c ∷ ys)) ≡ ok (with_chunks m ((xs ++ first_half i c ∷ []) ++ with_texts (prepend_intro t) (second_half i c) ∷ ys))
  unfolding by_edge_mut
  inside_it l j e =
      let zs : List Chunk = xs ++ first_half i c ∷ [] in
      let w : Cover m.source (zs ++ second_half i c ∷ ys) = halves_cover i xs c ys v j in
      ap (λ r. and_then r (insert_step i t right front)) (cut_made i (with_chunks m (xs ++ c ∷ ys)) v xs c ys refl j (ap is_filled e)).0
      ∙ (ap (λ (l : List Chunk). insert_step i t right front (with_chunks m l)) (sym (append_assoc xs (first_half i c ∷ []) (second_half i c ∷ ys)))
      ∙ step_found t m zs (second_half i c) ys i (none_start i zs (second_half i c) ys (cover_once w) (cover_proper w l) (omega arith) j.1) (eq-eqb i i refl))

-- ── the line starts of a chunk ──
-- positions from a on and below e, each greater than the one before
abbrev pub Ascends : ℕ → ℕ → List ℕ → Type 0
Ascends a e [] = Unit {0}
Ascends a e (i ∷ l) = (a ≤ i) × ((i < e) × Ascends (suc i) e l)

pub ascends_from : (a b e : ℕ) (l : List ℕ) → a ≤ b → Ascends b e l → Ascends a e l
ascends_from a b e [] h k = k
ascends_from a b e (i ∷ l) h k = (omega arith, k.1)

starts_ascend : (exclude : List ℕ) (e : ℕ) (mark : Bool) (i : ℕ) {cs : List Text} → All (λ c. 0 < length c) cs → i + length (concat cs) ≤ e
    → Ascends i e (line_starts exclude mark i cs).starts
starts_ascend exclude e mark i nil h = tt
starts_ascend exclude e mark i (cons {x = c} {xs = cs} n ns) h =
    let q = concat_length c cs in
    let P : Starts → Type 0 = λ r. Ascends i e r.starts in
    let behind : (mark : Bool) → Ascends (i + length c) e (line_starts exclude mark (i + length c) cs).starts = λ mark. starts_ascend exclude e mark (i + length c) ns (omega arith) in
    let rest : (mark : Bool) → Ascends i e (line_starts exclude mark (i + length c) cs).starts = λ mark. ascends_from i (i + length c) e
    (line_starts exclude mark (i + length c) cs).starts (omega arith) (behind mark) in
    let here : Ascends i e (i ∷ (line_starts exclude false (i + length c) cs).starts) = (
      omega arith,
      (
        omega arith,
        ascends_from (suc i) (i + length c) e (line_starts exclude false (i + length c) cs).starts (omega arith)
            (behind false),
      ),
    ) in
    of_either P (excluded exclude i) (rest mark)
    (of_either P (is_line_feed c) (rest true)
    (of_either P (takes_mark mark c) here (rest mark)))

-- they lie in the chunk, and ascend
pub chunk_ascends : (source : Text) (c : Chunk) → Fits source c → (exclude : List ℕ) (mark : Bool)
    → Ascends (start_of c) (end_of c) (line_starts exclude mark (start_of c) (chars (span_text c.span source))).starts
chunk_ascends source c h exclude mark =
    let n : ℕ = end_of c - start_of c in
    let l : length (concat (chars (span_text c.span source))) ≡ n = ap length (concat_chars (span_text c.span source)) ∙ length-take n (drop (start_of c) source)
    ∙ omega (arith, length-drop (start_of c) source) in
    starts_ascend exclude (end_of c) mark (start_of c) (chars_some (span_text c.span source)) (omega arith)

-- what a step leaves, and that its spans still cover the source
record Left (m : MagicString) (r : Result) (cs : List Chunk) : Type 0 where
  result : r ≡ ok (with_chunks m cs)
  cover : Cover m.source cs

-- one line start more, in the middle of the chunk or at its start
module _ (t : Text) (m : MagicString) (i : ℕ) (l : List ℕ) (xs : List Chunk) (c : Chunk) (ys : List Chunk) (v : Cover m.source (xs ++ c ∷ ys)) (e : c.texts.edited_content ≡ none) where
  abbrev zs : List Chunk
  zs = xs ++ first_half i c ∷ []

  abbrev part : Chunk
  part = with_texts (prepend_intro t) (second_half i c)

  part_cover : Contains i c → Cover m.source (zs ++ part ∷ ys)
  part_cover j = cover_texts (prepend_intro t) zs (second_half i c) ys (halves_cover i xs c ys v j)

  more_inside : Contains i c → Left m (insert_all t l (with_chunks m (zs ++ part ∷ ys))) (zs ++ (split_lines t part l ++ ys))
      → Left m (insert_all t (i ∷ l) (with_chunks m (xs ++ c ∷ ys))) (xs ++ (split_lines t c (i ∷ l) ++ ys))
  more_inside j k =
      let f : Fits m.source c = middle xs c ys (cover_fits v) in
      let q : xs ++ (split_lines t c (i ∷ l) ++ ys) ≡ zs ++ (split_lines t part l ++ ys) =
      ap (λ (r : List Chunk). xs ++ (r ++ ys)) (split_lines_inside t c i l j.0) ∙ sym (append_assoc xs (first_half i c ∷ []) (split_lines t part l ++ ys)) in
      subst (Left m (insert_all t (i ∷ l) (with_chunks m (xs ++ c ∷ ys)))) (sym q)
      (record { result = ap (λ r. and_then r (insert_all t l)) (inside_it i t m xs c ys v (omega (arith, f.inside)) j e) ∙ k.result; cover = k.cover })

  abbrev whole : Chunk
  whole = with_texts (prepend_intro t) c

  more_at_start : start_of c ≡ i → i < end_of c → Left m (insert_all t l (with_chunks m (xs ++ whole ∷ ys))) (xs ++ (split_lines t whole l ++ ys))
      → Left m (insert_all t (i ∷ l) (with_chunks m (xs ++ c ∷ ys))) (xs ++ (split_lines t c (i ∷ l) ++ ys))
  more_at_start q h k =
      subst (Left m (insert_all t (i ∷ l) (with_chunks m (xs ++ c ∷ ys)))) (sym (ap (λ (r : List Chunk). xs ++ (r ++ ys)) (split_lines_at_start t c i l (omega arith))))
      (record { result = ap (λ r. and_then r (insert_all t l)) (at_its_start i t m xs c ys v q h) ∙ k.result; cover = k.cover })

insert_all_closed : (t : Text) (m : MagicString) (l : List ℕ) (xs : List Chunk) (c : Chunk) (ys : List Chunk) → Cover m.source (xs ++ c ∷ ys) → c.texts.edited_content ≡ none
    → Ascends (start_of c) (end_of c) l → Left m (insert_all t l (with_chunks m (xs ++ c ∷ ys))) (xs ++ (split_lines t c l ++ ys))
insert_all_closed t m [] xs c ys v e a = record { result = refl; cover = v }
insert_all_closed t m (i ∷ l) xs c ys v e a =
    elim (dec_lt (start_of c) i) [
      | yes h ↦ more_inside t m i l xs c ys v e (h, a.1.0)
          (insert_all_closed t m l (zs t m i l xs c ys v e) (part t m i l xs c ys v e) ys (part_cover t m i l xs c ys v e (h, a.1.0)) e (ascends_from i (suc i) (end_of c) l (omega arith) a.1.1))
      | no h ↦ more_at_start t m i l xs c ys v e (omega arith) a.1.0
          (insert_all_closed t m l xs (whole t m i l xs c ys v e) ys (cover_texts (prepend_intro t) xs c ys v) e (ascends_from (start_of c) (suc i) (end_of c) l (omega arith) a.1.1))
    ]

-- ── one turn of the loop ──
-- what a turn leaves, and that its spans still cover the source
record Turned (m : MagicString) (r : Marked) (mark : Bool) (cs : List Chunk) : Type 0 where
  result : r ≡ record { mark = mark; result = ok (with_chunks m cs) }
  cover : Cover m.source cs

module _ (indentor : Text) (exclude : List ℕ) (m : MagicString) where
  abbrev one : Bool → Chunk → IndentedChunks
  one mark c = indented_chunk indentor exclude m.source mark c

  turn : (mark : Bool) (xs : List Chunk) (c : Chunk) (ys : List Chunk) → Cover m.source (xs ++ c ∷ ys)
      → Turned m (indent_chunk indentor exclude mark c (with_chunks m (xs ++ c ∷ ys))) (one mark c).mark (xs ++ ((one mark c).chunks ++ ys))
  unfolding indent_chunk indented_chunk
  turn mark xs c ys v = go c.texts.edited_content refl
    where
      go : (o : Option Text) → c.texts.edited_content ≡ o
          → Turned m (indent_chunk indentor exclude mark c (with_chunks m (xs ++ c ∷ ys))) (one mark c).mark (xs ++ ((one mark c).chunks ++ ys))
      go none e =
          let s : Starts = line_starts exclude mark (start_of c) (chars (span_text c.span m.source)) in
          let k : Left m (insert_all indentor s.starts (with_chunks m (xs ++ c ∷ ys))) (xs ++ (split_lines indentor c s.starts ++ ys)) =
          insert_all_closed indentor m s.starts xs c ys v e (chunk_ascends m.source c (middle xs c ys (cover_fits v)) exclude mark) in
          rw (e, indent_chunk, indented_chunk) (record { result = ap (λ (r : Result). record { mark = s.mark; result = r }) k.result; cover = k.cover })
      go (some t) e = replaced (excluded exclude (start_of c)) refl
        where
          replaced : (b : Bool) → excluded exclude (start_of c) ≡ b
              → Turned m (indent_chunk indentor exclude mark c (with_chunks m (xs ++ c ∷ ys))) (one mark c).mark (xs ++ ((one mark c).chunks ++ ys))
          replaced true x = rw (e, x, indent_chunk, indented_chunk) (record { result = refl; cover = v })
          replaced false x =
              let r : Indented = indent_frag indentor mark t in
              rw (e, x, indent_chunk, indented_chunk)
              (record {
                result = ap (λ (cs : List Chunk). record { mark = r.mark; result = ok (with_chunks m cs) })
                    (edge_set right (start_of c) (edit r.text false) c ys (starts_apart xs c ys refl v) (eq-eqb (start_of c) (start_of c) refl));
                cover = cover_texts (edit r.text false) xs c ys v;
              })

  -- ── the loop: xs is done, ds is left ──
  abbrev next : List Chunk → Marked → Marked
  next ds r = elim r.result.number [ zero ↦ indent_chunks indentor exclude r.mark ds r.result.desk | suc k ↦ r ]

  turns : (mark : Bool) (xs ds : List Chunk) → Cover m.source (xs ++ ds)
      → indent_chunks indentor exclude mark ds (with_chunks m (xs ++ ds))
      ≡ record { mark = (indented_chunks indentor exclude m.source mark ds).mark; result = ok (with_chunks m (xs ++ (indented_chunks indentor exclude m.source mark ds).chunks)) }
  turns mark xs [] v = refl
  turns mark xs (c ∷ ds) v =
      let r : IndentedChunks = one mark c in
      let w = turn mark xs c ds v in
      let q : (l : List Chunk) → (xs ++ r.chunks) ++ l ≡ xs ++ (r.chunks ++ l) = append_assoc xs r.chunks in
      let ih = turns r.mark (xs ++ r.chunks) ds (subst (Cover m.source) (sym (q ds)) w.cover) in
      let b : IndentedChunks = indented_chunks indentor exclude m.source r.mark ds in
      ap (next ds) w.result
      ∙ (ap (λ (l : List Chunk). indent_chunks indentor exclude r.mark ds (with_chunks m l)) (sym (q ds))
      ∙ (ih ∙ ap (λ (l : List Chunk). record { mark = b.mark; result = ok (with_chunks m l) }) (q b.chunks)))

-- ── the call ──
pub indent_by_cover : (indentor : Text) (exclude : List ℕ) (m : MagicString) → Cover m.source m.chunks → indent_by indentor exclude m ≡ ok (indented indentor exclude m)
unfolding indent_by indented
indent_by_cover indentor exclude m v =
    let head : Pieces = indent_pieces indentor true m.intro in
    let n : MagicString = with_intro m head.pieces in
    let finish : Marked → Result = λ body. and_then body.result (λ m. ok (with_outro m (indent_pieces indentor body.mark m.outro).pieces)) in
    ap finish (turns indentor exclude n head.mark [] m.chunks v)

pub indent_by_closed : (indentor : Text) (exclude : List ℕ) (m : MagicString) → Formed m → indent_by indentor exclude m ≡ ok (indented indentor exclude m)
indent_by_closed indentor exclude m f = indent_by_cover indentor exclude m (formed_cover f)
