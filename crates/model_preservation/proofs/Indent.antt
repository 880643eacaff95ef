-- `indent_with` keeps a desk formed: it leaves valid texts, and cuts only where a character begins.
use Prim.Native.Nat.{ℕ, zero, suc, ◌+◌, ◌-◌, ◌≤◌, ◌<◌}
use native.Mathlib.Omega.{arith}
use mathlib.Core.Path.{◌≡◌, refl, sym, ap, ◌∙◌, subst}
use mathlib.Core.Bool.{Bool, true, false}
use mathlib.Core.List.{List, [], ◌∷◌, ◌++◌, append_assoc, flatten}
use mathlib.Core.Option.{Option, none, some}
use lib.Dec.{leb}
use lib.ListN.{length, get_or, take, drop, replicate, length-take, length-drop, take-append-drop}
use lib.Seq.{take-add, drop-drop, take-append_seam, drop-append_seam}
use Rattle.utf8.specs.Rfc3629.{follows, utf8, between}
use Rattle.utf8.specs.Chars.{All, nil, cons, chars, concat, to_first}
use Rattle.utf8.proofs.Texts.{utf8_nil}
use Rattle.utf8.proofs.Between.{utf8_append, utf8_part, ascii_utf8, between_take, take_between}
use Rattle.utf8.proofs.CharLaws.{concat_chars, chars_utf8}
use Rattle.model.specs.Text.{Text, TAB, SPACE, lines, unwrap_or}
use Rattle.model.specs.Chunk.{Chunk, start_of, end_of, span_text, edit}
use Rattle.model.specs.MagicString.{MagicString, Result, ok, with_intro, with_outro}
use Rattle.model.specs.Insert.{right, front, insert}
use Rattle.model.specs.Indent.{count, spaced, tabbed, least_spaces, get_indent_string, Indented, is_line_feed, takes_mark, indent_chars, indent_frag, Pieces, indent_pieces}
use Rattle.model.specs.Indent.{excluded, Starts, line_starts, insert_all, Marked, indent_chunk, indent_chunks, indent_by, is_empty_indentor, indent_with}
use Rattle.model.specs.WellFormed.{Valid, ValidReplacement, ValidTexts}
use Rattle.model.proofs.Lists.{all_map, all_map₂, concat_length}
use Rattle.model_preservation.proofs.Lists.{of_cond, of_either, of_option, of_number}
use Rattle.model_preservation.proofs.Spans.{Inside, spans_inside}
use Rattle.model_preservation.proofs.Desk.{Leaves, of_and_then, FormedOf}
use Rattle.model_preservation.proofs.Retexts.{KeepsValid, at_edge_retexts}
use Rattle.model_preservation.proofs.Edits.{with_intro_keeps, with_outro_keeps, with_chunks_keeps, insert_keeps}

-- ---- the guessed indentor is ASCII

spaces_ascii : (n : ℕ) → All (λ b. b < 0x80) (replicate n SPACE)
spaces_ascii zero = nil
spaces_ascii (suc n) = cons {x = SPACE} (omega arith) (spaces_ascii n)

pub guess_valid : (source : Text) → Valid (get_indent_string source)
unfolding get_indent_string
guess_valid source =
    of_cond Valid (leb (count spaced (lines source)) (count tabbed (lines source)))
    (λ _. ascii_utf8 (TAB ∷ []) (cons {x = TAB} (omega arith) nil)) (λ _. ascii_utf8 _ (spaces_ascii (least_spaces (length source) (lines source))))

pub indentor_valid : (indentor : Option Text) (source : Text) → ValidReplacement indentor → Valid (unwrap_or indentor (get_indent_string source))
indentor_valid none source h = guess_valid source
indentor_valid (some t) source h = h

-- as many pieces as before
pub pieces_length : (indentor : Text) (mark : Bool) (l : List Text) → length (indent_pieces indentor mark l).pieces ≡ length l
pieces_length indentor mark [] = refl
pieces_length indentor mark (t ∷ l) = ap suc (pieces_length indentor (indent_frag indentor mark t).mark l)

-- ---- an indented text is valid

module _ (indentor : Text) (v : Valid indentor) where
  indent_chars_valid : (mark : Bool) {cs : List Text} → All Valid cs → Valid (indent_chars indentor mark cs).text
  indent_chars_valid mark nil = utf8_nil
  indent_chars_valid mark (cons {x = c} {xs = cs} h k) =
      let P : Indented → Type 0 = λ r. Valid r.text in
      of_either P (is_line_feed c) (utf8_append c _ h (indent_chars_valid true k))
      (of_either P (takes_mark mark c) (utf8_append (indentor ++ c) _ (utf8_append indentor c v h) (indent_chars_valid false k))
      (utf8_append c _ h (indent_chars_valid mark k)))

  pub indent_frag_valid : (mark : Bool) (t : Text) → Valid t → Valid (indent_frag indentor mark t).text
  indent_frag_valid mark t h = indent_chars_valid mark (chars_utf8 t h)

  pub indent_pieces_valid : (mark : Bool) {l : List Text} → All Valid l → All Valid (indent_pieces indentor mark l).pieces
  indent_pieces_valid mark nil = nil
  indent_pieces_valid mark (cons {x = t} h k) = cons (indent_frag_valid mark t h) (indent_pieces_valid (indent_frag indentor mark t).mark k)

-- ---- line starts

-- a character has a byte or more
first_some : (a : ℕ) {cs : List Text} → All (λ c. 0 < length c) cs → All (λ c. 0 < length c) (to_first a cs)
unfolding to_first
first_some a nil = cons {x = a ∷ []} (omega arith) nil
first_some a (cons {x = c} h k) = cons {x = a ∷ c} (omega arith) k

pub chars_some : (s : Text) → All (λ c. 0 < length c) (chars s)
unfolding chars
chars_some [] = nil
chars_some (a ∷ s) =
    of_cond (All (λ c. 0 < length c)) (follows (get_or s 0 0)) (λ _. first_some a (chars_some s)) (λ _. cons {x = a ∷ []} (omega arith) (chars_some s))

record Character (c : Text) : Type 0 where
  valid : Valid c
  some_byte : 0 < length c

-- a place between characters, from one place up to another
pub record Between (source : Text) (from to x : ℕ) : Type 0 where
  pub is_between : between source x ≡ true
  pub from_on : from ≤ x
  pub below : x < to

next_between : (source : Text) (i : ℕ) (c r : Text) → between source i ≡ true → drop i source ≡ c ++ r → Valid c → between source (i + length c) ≡ true
next_between source i c r b e v =
    take_between source (i + length c)
    (ap utf8 (take-add i (length c) source ∙ ap (λ (l : Text). take i source ++ take (length c) l) e ∙ ap (λ (l : Text). take i source ++ l) (take-append_seam c r))
    ∙ utf8_append (take i source) c (between_take source i b) v)

next_drop : (source : Text) (i : ℕ) (c r : Text) → drop i source ≡ c ++ r → drop (i + length c) source ≡ r
next_drop source i c r e = sym (drop-drop (length c) i source) ∙ ap (drop (length c)) e ∙ drop-append_seam c r

concat_cons : (c : Text) (cs : List Text) (r : Text) → concat (c ∷ cs) ++ r ≡ c ++ (concat cs ++ r)
unfolding flatten
concat_cons c cs r = append_assoc c (concat cs) r

starts_between : (source : Text) (exclude : List ℕ) (mark : Bool) (i : ℕ) (r : Text) {cs : List Text} → All Character cs → between source i ≡ true
    → drop i source ≡ concat cs ++ r → All (Between source i (i + length (concat cs))) (line_starts exclude mark i cs).starts
starts_between source exclude mark i r nil b e = nil
starts_between source exclude mark i r (cons {x = c} {xs = cs} h k) b e =
    let to : ℕ = i + length (concat (c ∷ cs)) in
    let P : Starts → Type 0 = λ t. All (Between source i to) t.starts in
    let l = concat_length c cs in
    let q = e ∙ concat_cons c cs r in
    let rest : (mark : Bool) → All (Between source i to) (line_starts exclude mark (i + length c) cs).starts =
    λ mark. all_map (λ x w. record { is_between = w.is_between; from_on = omega (arith, w.from_on); below = omega (arith, w.below) })
    (starts_between source exclude mark (i + length c) r k (next_between source i c (concat cs ++ r) b q h.valid) (next_drop source i c (concat cs ++ r) q))
    in
    of_either P (excluded exclude i) (rest mark)
    (of_either P (is_line_feed c) (rest true)
    (of_either P (takes_mark mark c) (cons (record { is_between = b; from_on = omega arith; below = omega (arith, h.some_byte) }) (rest false))
    (rest mark)))

-- the line starts of a chunk's part of the source lie in the chunk, between characters
pub chunk_starts : (source : Text) (c : Chunk) → Valid source → Inside source c → (exclude : List ℕ) (mark : Bool)
    → All (Between source (start_of c) (end_of c)) (line_starts exclude mark (start_of c) (chars (span_text c.span source))).starts
chunk_starts source c v h exclude mark =
    let a : ℕ = start_of c in
    let n : ℕ = end_of c - start_of c in
    let t : Text = span_text c.span source in
    let w : Valid t = utf8_part source a (end_of c) v h.start_between h.end_between h.ordered in
    let q : drop a source ≡ concat (chars t) ++ drop n (drop a source) =
    sym (take-append-drop n (drop a source)) ∙ ap (λ (l : Text). l ++ drop n (drop a source)) (sym (concat_chars t))
    in
    let l : length (concat (chars t)) ≡ n = ap length (concat_chars t) ∙ length-take n (drop a source) ∙ omega (arith, length-drop a source, h.inside, h.ordered) in
    all_map (λ x b. record { is_between = b.is_between; from_on = b.from_on; below = omega (arith, b.below, h.ordered) })
    (starts_between source exclude mark a (drop n (drop a source)) (all_map₂ {R = Character} (λ x i j. record { valid = i; some_byte = j }) (chars_utf8 t w) (chars_some t)) h.start_between q)

-- ---- the walk

module _ (source indentor : Text) (v : Valid indentor) where
  abbrev Keeps : Result → Type 0
  Keeps = Leaves (FormedOf source)

  insert_all_keeps : {l : List ℕ} → All (λ x. between source x ≡ true) l → (m : MagicString) → FormedOf source m → Keeps (insert_all indentor l m)
  insert_all_keeps nil m h = record { desk = h }
  insert_all_keeps (cons {x = i} {xs = l} b k) m h =
      of_and_then (FormedOf source) (insert i indentor right front m) (insert_all indentor l) (insert_keeps source i indentor right front v b m h) (λ n. insert_all_keeps k n)

  set_edited_valid : (t : Text) → Valid t → KeepsValid (edit t false)
  set_edited_valid t w x h = record { intro = h.intro; outro = h.outro; replacement = w }

  indent_chunk_keeps : (exclude : List ℕ) (mark : Bool) (c : Chunk) → Inside source c → ValidTexts c.texts
      → (m : MagicString) → FormedOf source m → Keeps (indent_chunk indentor exclude mark c m).result
  unfolding indent_chunk
  indent_chunk_keeps exclude mark c i w m h =
      let P : Marked → Type 0 = λ r. Keeps r.result in
      let e : Option Text = c.texts.edited_content in
      let s : Inside m.source c = rw h.source_is i in
      of_option P e
      (λ _. insert_all_keeps
      (all_map (λ x b. rw (← h.source_is) b.is_between) (chunk_starts m.source c h.formed.source s exclude mark)) m h)
      (λ t q. of_either P (excluded exclude (start_of c)) (record { desk = h })
      (record {
        desk = with_chunks_keeps source m _
            (at_edge_retexts right (start_of c) _ (set_edited_valid _ (indent_frag_valid indentor v mark t (subst ValidReplacement q w.replacement))) h.formed.texts) h;
      }))

  indent_chunks_keeps : (exclude : List ℕ) (mark : Bool) {cs : List Chunk} → All (Inside source) cs → All (λ c. ValidTexts c.texts) cs
      → (m : MagicString) → FormedOf source m → Keeps (indent_chunks indentor exclude mark cs m).result
  indent_chunks_keeps exclude mark nil nil m h = record { desk = h }
  indent_chunks_keeps exclude mark (cons {x = c} {xs = cs} i j) (cons w x) m h =
      let r : Marked = indent_chunk indentor exclude mark c m in
      let k : Keeps r.result = indent_chunk_keeps exclude mark c i w m h in
      of_number (λ (r : Marked). Keeps r.result) r.result.number
      (λ _. indent_chunks_keeps exclude r.mark j x r.result.desk k.desk) (λ _ _. k)

  pub indent_by_keeps : (exclude : List ℕ) (m : MagicString) → FormedOf source m → Leaves (FormedOf source) (indent_by indentor exclude m)
  unfolding indent_by
  indent_by_keeps exclude m h =
      let head : Pieces = indent_pieces indentor true m.intro in
      let body : Marked = indent_chunks indentor exclude head.mark m.chunks (with_intro m head.pieces) in
      let f = h.formed in
      let k = with_intro_keeps source m head.pieces (indent_pieces_valid indentor v true f.intro) h in
      let i : All (Inside source) m.chunks = rw (← h.source_is) (spans_inside m.source m.chunks f.covered) in
      of_and_then (FormedOf source) body.result (λ n. ok (with_outro n (indent_pieces indentor body.mark n.outro).pieces))
      (indent_chunks_keeps exclude head.mark i f.texts _ k)
      (λ n l. record { desk = with_outro_keeps source n _ (indent_pieces_valid indentor v body.mark l.formed.outro) l })

pub indent_with_keeps : (source : Text) (indentor : Option Text) → ValidReplacement indentor → (exclude : List ℕ) (m : MagicString)
    → FormedOf source m → Leaves (FormedOf source) (indent_with indentor exclude m)
unfolding indent_with
indent_with_keeps source indentor v exclude m h =
    of_cond (Leaves (FormedOf source)) (is_empty_indentor indentor) (λ _. record { desk = h })
    (λ _. indent_by_keeps source (unwrap_or indentor (get_indent_string m.source)) (indentor_valid indentor m.source v) exclude m h)
