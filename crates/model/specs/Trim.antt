-- trim.rs: white space, or line ends, taken off piece by piece.
use Rattle.std.specs.Prelude.{ℕ, zero, suc, Bool, true, false, ◌||◌, cond, List, [], ◌∷◌, reverse, eqb, length}
use Rattle.std.proofs.Math.Option.{Option, some}
use Rattle.utf8.specs.WhiteSpace.{white_space}
use Rattle.model.specs.Text.{Text, LF, CR, is_nil, trim_start_matches, trim_end_matches}
use Rattle.model.specs.Chunk.{Chunk, with_texts, content}
use Rattle.model.specs.MagicString.{MagicString, with_chunks, with_intro, with_outro}

-- the patterns of document 01: 0 for `\s`, 1 for `[\r\n]`
abbrev pub matches : ℕ → ℕ → Bool
matches zero v = white_space v
matches (suc k) v = eqb v CR || eqb v LF

-- `trim_start_pattern` and `trim_end_pattern`
abbrev pub trim_start_pattern : ℕ → Text → Text
trim_start_pattern p = trim_start_matches (matches p)

abbrev pub trim_end_pattern : ℕ → Text → Text
trim_end_pattern p = trim_end_matches (matches p)

-- `trim_deque_start`: what is left of the pieces. A piece that becomes empty goes; the first that does not stops the trim. The Rust's answer is whether any is left
abbrev pub trim_deque_start : ℕ → List Text → List Text
trim_deque_start p [] = []
trim_deque_start p (s ∷ l) =
    let t : Text = trim_start_pattern p s in
    let r : List Text = trim_deque_start p l in
    cond (is_nil t) r (t ∷ l)

-- `trim_deque_end`, on the pieces last to first
abbrev pub trim_reversed : ℕ → List Text → List Text
trim_reversed p [] = []
trim_reversed p (s ∷ l) =
    let t : Text = trim_end_pattern p s in
    let r : List Text = trim_reversed p l in
    cond (is_nil t) r (t ∷ l)

abbrev pub trim_deque_end : ℕ → List Text → List Text
trim_deque_end p l = reverse (trim_reversed p (reverse l))

-- one chunk trimmed, and whether the trim goes on to the next
pub record Trimmed : Type 0 where
  pub goes_on : Bool
  pub chunk : Chunk

abbrev pub trimmed : Chunk → List Text → Option Text → List Text → Bool → Trimmed
trimmed c intro edited outro k =
    record { goes_on = k; chunk = with_texts (λ x. record { intro = intro; outro = outro; edited_content = edited }) c }

-- the turn of `trim_start_aborted` at one chunk: its intro, its content, its outro; each stops the trim where something is left
unfoldable pub trim_chunk_start : ℕ → Text → Chunk → Trimmed
trim_chunk_start p source c =
    let s : Text = content source c in
    let intro : List Text = trim_deque_start p c.texts.intro in
    let t : Text = trim_start_pattern p s in
    let outro : List Text = trim_deque_start p c.texts.outro in
    let e : Option Text = c.texts.edited_content in
    elim (is_nil intro) [
      | false ↦ trimmed c intro e c.texts.outro false
      | true ↦ elim (is_nil s) [
        | true ↦ trimmed c intro e outro (is_nil outro)
        | false ↦ elim (eqb (length t) (length s)) [
          | true ↦ trimmed c intro e c.texts.outro false
          | false ↦ elim (is_nil t) [
            | false ↦ trimmed c intro (some t) c.texts.outro false
            | true ↦ trimmed c intro (some []) outro (is_nil outro)
          ]
        ]
      ]
    ]

-- the turn of `trim_end_aborted`: outro, content, intro
unfoldable pub trim_chunk_end : ℕ → Text → Chunk → Trimmed
trim_chunk_end p source c =
    let s : Text = content source c in
    let outro : List Text = trim_deque_end p c.texts.outro in
    let t : Text = trim_end_pattern p s in
    let intro : List Text = trim_deque_end p c.texts.intro in
    let e : Option Text = c.texts.edited_content in
    elim (is_nil outro) [
      | false ↦ trimmed c c.texts.intro e outro false
      | true ↦ elim (is_nil s) [
        | true ↦ trimmed c intro e outro (is_nil intro)
        | false ↦ elim (eqb (length t) (length s)) [
          | true ↦ trimmed c c.texts.intro e outro false
          | false ↦ elim (is_nil t) [
            | false ↦ trimmed c c.texts.intro (some t) outro false
            | true ↦ trimmed c intro (some []) outro (is_nil intro)
          ]
        ]
      ]
    ]

-- the loop over the chunks, in the direction of the trim
abbrev pub trim_chunks : (Chunk → Trimmed) → List Chunk → List Chunk
trim_chunks f [] = []
trim_chunks f (c ∷ cs) =
    let r : List Chunk = trim_chunks f cs in
    (f c).chunk ∷ cond (f c).goes_on r cs

-- `trim_start`: the head first, then the chunks from the first on. It never touches the tail
unfoldable pub trim_start : ℕ → MagicString → MagicString
trim_start p m =
    let intro : List Text = trim_deque_start p m.intro in
    cond (is_nil intro) (with_chunks (with_intro m intro) (trim_chunks (trim_chunk_start p m.source) m.chunks)) (with_intro m intro)

-- `trim_end`: the tail first, then the chunks from the last on. It never touches the head
unfoldable pub trim_end : ℕ → MagicString → MagicString
trim_end p m =
    let outro : List Text = trim_deque_end p m.outro in
    cond (is_nil outro)
    (with_chunks (with_outro m outro) (reverse (trim_chunks (trim_chunk_end p m.source) (reverse m.chunks))))
    (with_outro m outro)

-- `trim`
abbrev pub trim : ℕ → MagicString → MagicString
trim p m = trim_end p (trim_start p m)

-- `trim_lines`: line ends off both ends
abbrev pub trim_lines : MagicString → MagicString
trim_lines m = trim 1 m
