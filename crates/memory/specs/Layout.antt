-- The desk that four lent slices hold: the source, the chunk table (row 0 is the desk's own), the piece table and the byte store.
-- docs/LAYOUT.md has the words of each row.
use Rattle.std.specs.Prelude.{ℕ, zero, suc, ◌+◌, ◌*◌, cond, List, [], ◌∷◌, ◌++◌, map, eqb, get_or, take, drop}
use Rattle.std.proofs.Math.Option.{Option, none, some}
use Rattle.memory_layout.specs.Layout.{NONE, PIECE, PIECE_N}
use Rattle.memory_table.specs.Order.{Entry, is_frozen, entry_at, entries}
use Rattle.model.specs.Text.{Text}
use Rattle.model.specs.Chunk.{Chunk, Texts, chunk_from}
use Rattle.model.specs.MagicString.{MagicString}

-- a place in the store, or in the piece table: where it begins and how many bytes, or rows, it has
abbrev pub Place : Type 0
Place = ℕ × ℕ

-- the bytes of the store at a place
abbrev pub bytes_at : List ℕ → Place → Text
bytes_at s r = take r.1 (drop r.0 s)

-- row j of the piece table: the place of one piece's text
abbrev pub piece_at : List ℕ → ℕ → Place
piece_at p j = (get_or p (j * PIECE) 0, get_or p (j * PIECE + PIECE_N) 0)

-- f 0, f 1, .., f (n - 1)
abbrev pub tabulate : {A : Type 0} → (ℕ → A) → ℕ → List A
tabulate f zero = []
tabulate f (suc n) = tabulate f n ++ (f n ∷ [])

-- document 01's piece list: the texts of a run of rows of the piece table
unfoldable pub run_of : List ℕ → List ℕ → Place → List Text
run_of p s r = tabulate (λ k. bytes_at s (piece_at p (r.0 + k))) r.1

-- a chunk's replacement, if it has one
unfoldable pub replacement_of : List ℕ → Place → Option Text
replacement_of s r = cond (eqb r.0 NONE) none (some (bytes_at s r))

-- a chunk, from its row's span, mark and places
abbrev pub texts_of : List ℕ → List ℕ → Entry → Texts
texts_of p s e = record { intro = run_of p s e.intro; outro = run_of p s e.outro; edited_content = replacement_of s e.text }

abbrev pub chunk_of : List ℕ → List ℕ → Entry → Chunk
chunk_of p s e = chunk_from e.start e.end (is_frozen e) (texts_of p s e)

-- the desk: head and tail from row 0, the chunks in list order
unfoldable pub magic_string_of : List ℕ → List ℕ → List ℕ → List ℕ → MagicString
magic_string_of source t p s =
    record {
      source = source;
      intro = run_of p s (entry_at t 0).intro;
      outro = run_of p s (entry_at t 0).outro;
      chunks = map (chunk_of p s) (entries t);
    }
