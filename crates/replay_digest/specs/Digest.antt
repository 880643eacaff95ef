-- The digest of a desk that the file has for an edit: of the span, the counts and the replacement of each section (head, chunks in list order, tail),
-- and then of every text in output order. tests/oracle/src/replay computes the same.
use Rattle.std.specs.Prelude.{ℕ, ◌+◌, ◌*◌, ◌%◌, cond, List, [], ◌∷◌, ◌++◌, eqb, length}
use Rattle.std.proofs.Math.Option.{Option, none, some}
use Rattle.memory_table.specs.Order.{Entry}
use Rattle.model.specs.Text.{Text}
use Rattle.model.specs.Chunk.{Chunk}
use Rattle.model.specs.MagicString.{MagicString, chunk_fragments}

-- one number more
unfoldable pub mixed : ℕ → ℕ → ℕ
mixed h x = (h * 16777619 + x) % 4294967291

abbrev pub mixed_all : ℕ → List ℕ → ℕ
mixed_all h [] = h
mixed_all h (x ∷ xs) = mixed_all (mixed h x) xs

-- a text, and a mark behind it that is no byte
abbrev pub mixed_text : ℕ → Text → ℕ
mixed_text h s = mixed (mixed_all h s) 256

abbrev pub mixed_texts : ℕ → List Text → ℕ
mixed_texts h [] = h
mixed_texts h (t ∷ ts) = mixed_texts (mixed_text h t) ts

-- a section: its span, how many pieces stand before and behind its content, and 1 if it has a replacement
abbrev pub mixed_section : ℕ → ℕ → ℕ → ℕ → ℕ → ℕ → ℕ
mixed_section h start end intro outro replaced = mixed (mixed (mixed (mixed (mixed h start) end) intro) outro) replaced

abbrev pub replaced : Option Text → ℕ
replaced none = 0
replaced (some t) = 1

abbrev pub mixed_chunk : ℕ → Chunk → ℕ
mixed_chunk h c = mixed_section h c.span.start c.span.end (length c.texts.intro) (length c.texts.outro) (replaced c.texts.edited_content)

abbrev pub mixed_chunks : ℕ → List Chunk → ℕ
mixed_chunks h [] = h
mixed_chunks h (c ∷ cs) = mixed_chunks (mixed_chunk h c) cs

-- head and tail count as sections with an empty replacement
unfoldable pub digest_of : MagicString → ℕ
digest_of m =
    mixed_texts
    (mixed_section (mixed_chunks (mixed_section 1 0 0 (length m.intro) 0 1) m.chunks) 0 0 0 (length m.outro) 1)
    ((m.intro ++ ([] ∷ [])) ++ (chunk_fragments m.source m.chunks ++ ([] ∷ m.outro)))

-- ---- the same, of the rows of a table

abbrev pub mixed_entry : ℕ → Entry → ℕ
mixed_entry h e = mixed_section h e.start e.end e.intro.1 e.outro.1 (cond (eqb e.text.0 0xFFFF_FFFF) 0 1)

abbrev pub mixed_entries : ℕ → List Entry → ℕ
mixed_entries h [] = h
mixed_entries h (e ∷ es) = mixed_entries (mixed_entry h e) es
