-- What `indent_with` leaves of a desk, chunk by chunk: head, each chunk cut at its line starts, tail. proofs/Walk.antt has the law that the model's walk leaves this,
-- proofs/Growth.antt that it only grows.
use Rattle.std.specs.Prelude.{ℕ, Bool, true, false, List, [], ◌∷◌, ◌++◌, ltb}
use Rattle.std.proofs.Math.Option.{none, some}
use Rattle.utf8.specs.Chars.{chars}
use Rattle.model.specs.Text.{Text}
use Rattle.model.specs.Chunk.{Chunk, with_texts, start_of, span_text, first_half, second_half, prepend_intro, edit}
use Rattle.model.specs.MagicString.{MagicString}
use Rattle.model.specs.Indent.{Indented, indent_frag, Pieces, indent_pieces, excluded, Starts, line_starts}

-- `prepend_right` of the indentor at each line start of a source chunk: the chunk is cut there, and the part that begins there has the indentor as its first intro piece
abbrev pub split_lines : Text → Chunk → List ℕ → List Chunk
split_lines indentor c [] = c ∷ []
split_lines indentor c (i ∷ l) =
    elim (ltb (start_of c) i) [
      | true ↦ first_half i c ∷ split_lines indentor (with_texts (prepend_intro indentor) (second_half i c)) l
      | false ↦ split_lines indentor (with_texts (prepend_intro indentor) c) l
    ]

-- what chunks become, and the mark behind them
pub record IndentedChunks : Type 0 where
  pub mark : Bool
  pub chunks : List Chunk

-- one turn of `indent_with`'s loop: a replacement is indented in place, unless its start is excluded; a source chunk is cut at its line starts
unfoldable pub indented_chunk : Text → List ℕ → Text → Bool → Chunk → IndentedChunks
indented_chunk indentor exclude source mark c =
    elim c.texts.edited_content [
      | some t ↦ elim (excluded exclude (start_of c)) [
        | true ↦ record { mark = mark; chunks = c ∷ [] }
        | false ↦ let r : Indented = indent_frag indentor mark t in
            record { mark = r.mark; chunks = with_texts (edit r.text false) c ∷ [] }
      ]
      | none ↦ let r : Starts = line_starts exclude mark (start_of c) (chars (span_text c.span source)) in
          record { mark = r.mark; chunks = split_lines indentor c r.starts }
    ]

abbrev pub then_chunks : List Chunk → IndentedChunks → IndentedChunks
then_chunks cs r = record { mark = r.mark; chunks = cs ++ r.chunks }

-- the loop: each chunk in turn, with the mark that the one before left
abbrev pub indented_chunks : Text → List ℕ → Text → Bool → List Chunk → IndentedChunks
indented_chunks indentor exclude source mark [] = record { mark = mark; chunks = [] }
indented_chunks indentor exclude source mark (c ∷ cs) =
    let r : IndentedChunks = indented_chunk indentor exclude source mark c in
    then_chunks r.chunks (indented_chunks indentor exclude source r.mark cs)

-- the desk that `indent_with` leaves, past its tests
unfoldable pub indented : Text → List ℕ → MagicString → MagicString
indented indentor exclude m =
    let head : Pieces = indent_pieces indentor true m.intro in
    let body : IndentedChunks = indented_chunks indentor exclude m.source head.mark m.chunks in
    record {
      source = m.source;
      intro = head.pieces;
      outro = (indent_pieces indentor body.mark m.outro).pieces;
      chunks = body.chunks;
    }
