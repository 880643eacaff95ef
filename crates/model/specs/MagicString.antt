-- mod.rs: a desk, what it shows, and `split_at`.
use Rattle.std.specs.Prelude.{ℕ, zero, suc, ◌+◌, Bool, true, false, ◌&&◌, ◌||◌, not, cond, List, [], ◌∷◌, ◌++◌, reverse, leb, eqb, length}
use Rattle.std.proofs.Math.Option.{Option, none, some}
use Rattle.utf8.specs.Chars.{chars, concat, code, utf16_width}
use Rattle.model.specs.Text.{Text, same, is_nil, is_some, back, any, all, sum, trim_white_space, behind_last_line_feed, LF, line_feeds, ends_with}
use Rattle.model.specs.Chunk.{Span, Chunk, Texts, new_chunk, with_texts, start_of, end_of, contains, is_edited, is_filled, first_half, second_half, content}
use Rattle.model.specs.Chunk as chunk

-- `MagicString`, document 01's desk: the source, the text's head (`intro`) and tail (`outro`), and the chunks in list order
pub record MagicString : Type 0 where
  pub source : Text
  pub intro : List Text
  pub outro : List Text
  pub chunks : List Chunk

-- `MagicString::new`: one chunk over the whole source, an empty one too
abbrev pub new : Text → MagicString
new source = record { source = source; intro = []; outro = []; chunks = new_chunk 0 (length source) ∷ [] }

abbrev pub with_chunks : MagicString → List Chunk → MagicString
with_chunks m cs = record { source = m.source; intro = m.intro; outro = m.outro; chunks = cs }

abbrev pub with_intro : MagicString → List Text → MagicString
with_intro m l = record { source = m.source; intro = l; outro = m.outro; chunks = m.chunks }

abbrev pub with_outro : MagicString → List Text → MagicString
with_outro m l = record { source = m.source; intro = m.intro; outro = l; chunks = m.chunks }

-- ── a step that may be refused: Rust's `Result<&mut Self, String>` ──
-- the number is 0 for `Ok`; either way the desk is what the step left
pub record Result : Type 0 where
  pub number : ℕ
  pub desk : MagicString

abbrev pub ok : MagicString → Result
ok m = record { number = 0; desk = m }

abbrev pub err : ℕ → MagicString → Result
err k m = record { number = k; desk = m }

-- the operator `?`
abbrev pub and_then : Result → (MagicString → Result) → Result
and_then r f = elim r.number [ zero ↦ f r.desk | suc k ↦ r ]

-- ── what a desk shows ──
-- the fragments of all chunks, in list order
abbrev pub chunk_fragments : Text → List Chunk → List Text
chunk_fragments source [] = []
chunk_fragments source (c ∷ cs) = chunk.fragments source c ++ chunk_fragments source cs

-- `fragments`: the head, the chunks in list order, the tail
abbrev pub fragments : MagicString → List Text
fragments m = m.intro ++ (chunk_fragments m.source m.chunks ++ m.outro)

-- `to_string`, the output
unfoldable pub to_string : MagicString → Text
to_string m = concat (fragments m)

-- `len`: chunks only, not head and tail
unfoldable pub len : MagicString → ℕ
len m = sum length (chunk_fragments m.source m.chunks)

-- `utf16_len` of `simd_utf16_len`: a text's UTF-16 units
abbrev pub utf16_len : Text → ℕ
utf16_len s = sum utf16_width (chars s)

-- `len_utf16`
unfoldable pub len_utf16 : MagicString → ℕ
len_utf16 m = sum utf16_len (chunk_fragments m.source m.chunks)

-- `output_len`
unfoldable pub output_len : MagicString → ℕ
output_len m = (sum length m.intro + len m) + sum length m.outro

-- `is_empty`: chunks only; white space counts as nothing
unfoldable pub is_empty : MagicString → Bool
is_empty m = all (λ f. is_nil (trim_white_space f)) (chunk_fragments m.source m.chunks)

-- `has_changed`
unfoldable pub has_changed : MagicString → Bool
has_changed m = not (eqb (output_len m) (length m.source)) || not (same m.source (to_string m))

-- document 02, L3: the number of line feeds, plus one if the text is non-empty and does not end in one
abbrev pub line_count_of : Text → ℕ
line_count_of s = line_feeds s + cond (not (is_nil s) && not (ends_with LF s)) 1 0

-- added by document 01, and by 02's L3 the lines of the output as the handset shows them
unfoldable pub line_count : MagicString → ℕ
line_count m = line_count_of (to_string m)

-- `chars().next_back()`
abbrev pub last_code : Text → Option ℕ
last_code s = elim (back (chars s)) [ none ↦ none | some c ↦ some (code c) ]

-- the last character of the last piece of a list, and of no other piece
abbrev pub last_of_pieces : List Text → Option ℕ
last_of_pieces l = elim (back l) [ none ↦ none | some t ↦ last_code t ]

abbrev pub or_else : Option ℕ → Option ℕ → Option ℕ
or_else none b = b
or_else (some v) b = some v

-- the loop of `last_char` over the chunks, last to first
abbrev pub last_of_chunks : Text → List Chunk → Option ℕ
last_of_chunks source [] = none
last_of_chunks source (c ∷ cs) =
    or_else (last_of_pieces c.texts.outro) (or_else (last_code (content source c))
    (or_else (last_of_pieces c.texts.intro) (last_of_chunks source cs)))

-- `last_char`
unfoldable pub last_char : MagicString → Option ℕ
last_char m =
    or_else (last_of_pieces m.outro) (or_else (last_of_chunks m.source (reverse m.chunks))
    (last_of_pieces m.intro))

-- what `last_line` has gathered, and whether a line feed has ended it (the label 'done)
pub record Scan : Type 0 where
  pub done : Bool
  pub line : Text

-- `scan_last_line`: fragments in reverse output order, up to the first with a line feed
abbrev pub scan_last_line : List Text → Text → Scan
scan_last_line [] line = record { done = false; line = line }
scan_last_line (f ∷ fs) line =
    elim (behind_last_line_feed f) [
      | none ↦ scan_last_line fs (f ++ line)
      | some t ↦ record { done = true; line = t ++ line }
    ]

-- go on unless a line feed was met
abbrev pub unless_done : Scan → (Text → Scan) → Scan
unless_done s f = elim s.done [ true ↦ s | false ↦ f s.line ]

-- the loop of `last_line` over the chunks, last to first
abbrev pub scan_chunks : Text → List Chunk → Text → Scan
scan_chunks source [] line = record { done = false; line = line }
scan_chunks source (c ∷ cs) line =
    unless_done (scan_last_line (reverse (chunk.fragments source c)) line) (scan_chunks source cs)

-- `last_line`
unfoldable pub last_line : MagicString → Text
last_line m =
    (unless_done
    (unless_done (scan_last_line (reverse m.outro) []) (scan_chunks m.source (reverse m.chunks)))
    (scan_last_line (reverse m.intro))).line

-- `is_range_within_edited_chunk`
unfoldable pub is_range_within_edited_chunk : ℕ → ℕ → MagicString → Bool
is_range_within_edited_chunk start end m =
    any (λ c. (leb (start_of c) start && leb end (end_of c)) && is_edited c) m.chunks

-- ── chunks by position ──
-- left of a position is the chunk that ends there, right of it the chunk that starts there
abbrev pub edge : Bool → Span → ℕ
edge true s = s.end
edge false s = s.start

abbrev pub by_edge : Bool → ℕ → List Chunk → Option Chunk
by_edge left at [] = none
by_edge left at (c ∷ cs) = cond (eqb (edge left c.span) at) (some c) (by_edge left at cs)

-- `chunk_by_start`, `chunk_by_end`
abbrev pub by_start : ℕ → List Chunk → Option Chunk
by_start = by_edge false

abbrev pub by_end : ℕ → List Chunk → Option Chunk
by_end = by_edge true

-- `self.chunks[idx]` changed, for that chunk
abbrev pub at_edge : Bool → ℕ → (Texts → Texts) → List Chunk → List Chunk
at_edge left at f [] = []
at_edge left at f (c ∷ cs) = cond (eqb (edge left c.span) at) (with_texts f c ∷ cs) (c ∷ at_edge left at f cs)

abbrev pub at_start : ℕ → (Texts → Texts) → List Chunk → List Chunk
at_start = at_edge false

abbrev pub at_end : ℕ → (Texts → Texts) → List Chunk → List Chunk
at_end = at_edge true

-- ── `split_at`, document 01's cut ──
-- the search for the chunk that contains the position, and its split: 6 if its replacement is not empty
abbrev pub holder : ℕ → List Chunk → Option Chunk
holder at [] = none
holder at (c ∷ cs) = cond (contains c at) (some c) (holder at cs)

abbrev pub split_holder : ℕ → List Chunk → List Chunk
split_holder at [] = []
split_holder at (c ∷ cs) =
    let r : List Chunk = split_holder at cs in
    cond (contains c at) (first_half at c ∷ second_half at c ∷ cs) (c ∷ r)

abbrev pub refuses_split : Option Chunk → Bool
refuses_split none = false  -- cannot arise on a formed desk: some chunk contains a position that is no edge
refuses_split (some c) = is_filled c.texts.edited_content

-- nothing at 0, at or past the source's end, or at a chunk's edge
unfoldable pub split_at : ℕ → MagicString → Result
split_at at m =
    cond (eqb at 0 || (leb (length m.source) at || is_some (by_end at m.chunks))) (ok m)
    (cond (refuses_split (holder at m.chunks)) (err 6 m) (ok (with_chunks m (split_holder at m.chunks))))

-- the head changed for left, the tail for right
abbrev pub with_whole : Bool → MagicString → (List Text → List Text) → MagicString
with_whole left m g =
    record { source = m.source; intro = cond left (g m.intro) m.intro; outro = cond left m.outro (g m.outro); chunks = m.chunks }

-- the chunk at the position is changed by f, or where there is none the head or the tail by g
abbrev pub change_at : Bool → ℕ → (Texts → Texts) → (List Text → List Text) → MagicString → Result
change_at left at f g m =
    elim (by_edge left at m.chunks) [
      | none ↦ ok (with_whole left m g)
      | some c ↦ ok (with_chunks m (at_edge left at f m.chunks))
    ]

-- `by_end_mut` for left and `by_start_mut` for right, with what their callers do: the cut, then the change
unfoldable pub by_edge_mut : Bool → ℕ → (Texts → Texts) → (List Text → List Text) → MagicString → Result
by_edge_mut left at f g m = and_then (split_at at m) (change_at left at f g)

abbrev pub by_start_mut : ℕ → (Texts → Texts) → (List Text → List Text) → MagicString → Result
by_start_mut = by_edge_mut false

abbrev pub by_end_mut : ℕ → (Texts → Texts) → (List Text → List Text) → MagicString → Result
by_end_mut = by_edge_mut true
