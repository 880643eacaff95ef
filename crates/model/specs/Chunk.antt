-- span.rs and chunk.rs: a span of the source, and a chunk with its pieces and its replacement.
use Rattle.std.specs.Prelude.{ℕ, Bool, false, ◌&&◌, not, cond, List, [], ◌∷◌, ◌++◌, ltb}
use Rattle.std.proofs.Math.Option.{Option, none, some}
use Rattle.model.specs.Text.{Text, part, is_nil, push_back, is_some, unwrap_or}

-- `Span`: the source bytes from start up to but without end
pub record Span : Type 0 where
  pub start : ℕ
  pub end : ℕ

-- `Span::text`
abbrev pub span_text : Span → Text → Text
span_text p source = part p.start p.end source

-- what a chunk has besides its span: intro pieces, outro pieces, and perhaps a replacement (`edited_content`)
pub record Texts : Type 0 where
  pub intro : List Text
  pub outro : List Text
  pub edited_content : Option Text

-- `Chunk`, and document 02's L8: "Each chunk gains a mark". Links and indices are gone: the list of a desk's chunks is in list order. Span and mark stand apart from the
-- texts, so that what changes the texts keeps them
pub record Chunk : Type 0 where
  pub span : Span
  pub frozen : Bool
  pub texts : Texts

-- every chunk is made here
abbrev pub chunk_from : ℕ → ℕ → Bool → Texts → Chunk
chunk_from start end frozen t = record { span = record { start = start; end = end }; frozen = frozen; texts = t }

-- no pieces and this replacement, or none
abbrev pub bare : Option Text → Texts
bare e = record { intro = []; outro = []; edited_content = e }

-- `Chunk::new`; the mark is "clear on opening"
abbrev pub new_chunk : ℕ → ℕ → Chunk
new_chunk start end = chunk_from start end false (bare none)

-- the chunk with other texts, and the same span and mark
abbrev pub with_texts : (Texts → Texts) → Chunk → Chunk
with_texts f c = record { span = c.span; frozen = c.frozen; texts = f c.texts }

-- `Chunk::start`, `Chunk::end`
abbrev pub start_of : Chunk → ℕ
start_of c = c.span.start

abbrev pub end_of : Chunk → ℕ
end_of c = c.span.end

-- `Chunk::contains`
unfoldable pub contains : Chunk → ℕ → Bool
contains c at = ltb (start_of c) at && ltb at (end_of c)

-- `append_outro`, `append_intro`, `prepend_outro`, `prepend_intro`: append adds at the back of a piece list, prepend at the front
abbrev pub append_outro : Text → Texts → Texts
append_outro t x = record { intro = x.intro; outro = push_back t x.outro; edited_content = x.edited_content }

abbrev pub append_intro : Text → Texts → Texts
append_intro t x = record { intro = push_back t x.intro; outro = x.outro; edited_content = x.edited_content }

abbrev pub prepend_outro : Text → Texts → Texts
prepend_outro t x = record { intro = x.intro; outro = t ∷ x.outro; edited_content = x.edited_content }

abbrev pub prepend_intro : Text → Texts → Texts
prepend_intro t x = record { intro = t ∷ x.intro; outro = x.outro; edited_content = x.edited_content }

-- `Chunk::is_edited`
abbrev pub is_edited : Chunk → Bool
is_edited c = is_some c.texts.edited_content

-- whether the replacement is there and not empty: what `Chunk::split` refuses
abbrev pub is_filled : Option Text → Bool
is_filled none = false
is_filled (some t) = not (is_nil t)

-- the two halves of `Chunk::split`: the first keeps the intro, the second takes the outro, and an empty replacement goes to both. "A cut gives the mark to both halves"
abbrev pub first_half : ℕ → Chunk → Chunk
first_half at c =
    chunk_from (start_of c) at c.frozen (record { intro = c.texts.intro; outro = []; edited_content = c.texts.edited_content })

abbrev pub second_half : ℕ → Chunk → Chunk
second_half at c =
    chunk_from at (end_of c) c.frozen (record { intro = []; outro = c.texts.outro; edited_content = c.texts.edited_content })

-- "A chunk's content is either its part of the source or its replacement text"
abbrev pub content : Text → Chunk → Text
content source c = unwrap_or c.texts.edited_content (span_text c.span source)

-- `Chunk::fragments`
abbrev pub fragments : Text → Chunk → List Text
fragments source c = c.texts.intro ++ (content source c ∷ c.texts.outro)

-- `Chunk::edit`: overwrite clears both piece lists
abbrev pub edit : Text → Bool → Texts → Texts
edit t overwrite x =
    cond overwrite (bare (some t)) (record { intro = x.intro; outro = x.outro; edited_content = some t })

-- `Chunk::reset`
abbrev pub reset_texts : Texts → Texts
reset_texts x = bare none
