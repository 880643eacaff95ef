-- indent.rs: `guess_indentor`, `get_indent_string`, `indent_with`.
use Rattle.std.specs.Prelude.{ℕ, zero, suc, ◌+◌, min, Bool, true, false, ◌&&◌, ◌||◌, not, cond, List, [], ◌∷◌, ◌++◌, ltb, leb, eqb, length, get_or, replicate}
use Rattle.std.proofs.Math.Option.{Option, none, some}
use Rattle.utf8.specs.Chars.{chars}
use Rattle.model.specs.Text.{Text, TAB, LF, CR, SPACE, is_nil, unwrap_or, same, lines}
use Rattle.model.specs.Chunk.{Chunk, start_of, span_text, edit}
use Rattle.model.specs.MagicString.{MagicString, Result, ok, and_then, with_chunks, with_intro, with_outro, at_start}
use Rattle.model.specs.Insert.{right, front, insert}

-- ── `guess_indentor` ──
-- `starts_with('\t')`, `starts_with("  ")`, and the spaces that a line begins with
abbrev pub tabbed : Text → Bool
tabbed l = eqb (get_or l 0 0) TAB

abbrev pub spaced : Text → Bool
spaced l = eqb (get_or l 0 0) SPACE && eqb (get_or l 1 0) SPACE

abbrev pub leading_spaces : Text → ℕ
leading_spaces [] = 0
leading_spaces (a ∷ s) = let n : ℕ = leading_spaces s in cond (eqb a SPACE) (suc n) 0

abbrev pub count : (Text → Bool) → List Text → ℕ
count f [] = 0
count f (l ∷ ls) = cond (f l) 1 0 + count f ls

-- the least number of leading spaces of the spaced lines, below a first bound
abbrev pub least_spaces : ℕ → List Text → ℕ
least_spaces n [] = n
least_spaces n (l ∷ ls) = cond (spaced l) (min (leading_spaces l) (least_spaces n ls)) (least_spaces n ls)

-- `guess_indentor` and `get_indent_string`: a tab where no line is indented, or as many lines by tabs as by spaces; else the fewest spaces of a spaced line
unfoldable pub get_indent_string : Text → Text
get_indent_string source =
    let ls : List Text = lines source in
    cond (leb (count spaced ls) (count tabbed ls)) (TAB ∷ []) (replicate (least_spaces (length source) ls) SPACE)

-- ── the mark that says the next character begins a line ──
-- a text with the indentor put in, and the mark behind it
pub record Indented : Type 0 where
  pub mark : Bool
  pub text : Text

-- a line feed sets the mark; any other character but a carriage return takes it, and the indentor stands before that character
abbrev pub is_line_feed : Text → Bool
is_line_feed c = same c (LF ∷ [])

abbrev pub takes_mark : Bool → Text → Bool
takes_mark mark c = not (same c (CR ∷ [])) && mark

abbrev pub then_text : Text → Indented → Indented
then_text t r = record { mark = r.mark; text = t ++ r.text }

abbrev pub indent_chars : Text → Bool → List Text → Indented
indent_chars indentor mark [] = record { mark = mark; text = [] }
indent_chars indentor mark (c ∷ cs) =
    elim (is_line_feed c) [
      | true ↦ then_text c (indent_chars indentor true cs)
      | false ↦ elim (takes_mark mark c) [
        | true ↦ then_text (indentor ++ c) (indent_chars indentor false cs)
        | false ↦ then_text c (indent_chars indentor mark cs)
      ]
    ]

-- `indent_frag`
abbrev pub indent_frag : Text → Bool → Text → Indented
indent_frag indentor mark t = indent_chars indentor mark (chars t)

-- the head's and the tail's pieces in turn
pub record Pieces : Type 0 where
  pub mark : Bool
  pub pieces : List Text

abbrev pub then_piece : Text → Pieces → Pieces
then_piece t r = record { mark = r.mark; pieces = t ∷ r.pieces }

abbrev pub indent_pieces : Text → Bool → List Text → Pieces
indent_pieces indentor mark [] = record { mark = mark; pieces = [] }
indent_pieces indentor mark (t ∷ l) =
    let r : Indented = indent_frag indentor mark t in
    then_piece r.text (indent_pieces indentor r.mark l)

-- ── `ExcludeSet::contains`: pairs of positions, start and end ──
abbrev pub excluded : List ℕ → ℕ → Bool
excluded [] i = false
excluded (a ∷ []) i = false
excluded (a ∷ b ∷ l) i = (leb a i && ltb i b) || excluded l i

-- the line starts of a source chunk, and the mark behind it. A character in an excluded place is passed over
pub record Starts : Type 0 where
  pub mark : Bool
  pub starts : List ℕ

abbrev pub then_start : ℕ → Starts → Starts
then_start i r = record { mark = r.mark; starts = i ∷ r.starts }

abbrev pub line_starts : List ℕ → Bool → ℕ → List Text → Starts
line_starts exclude mark i [] = record { mark = mark; starts = [] }
line_starts exclude mark i (c ∷ cs) =
    elim (excluded exclude i) [
      | true ↦ line_starts exclude mark (i + length c) cs
      | false ↦ elim (is_line_feed c) [
        | true ↦ line_starts exclude true (i + length c) cs
        | false ↦ elim (takes_mark mark c) [
          | true ↦ then_start i (line_starts exclude false (i + length c) cs)
          | false ↦ line_starts exclude mark (i + length c) cs
        ]
      ]
    ]

-- the insertion of the indentor at each line start, right of it and at the front: `prepend_right`
abbrev pub insert_all : Text → List ℕ → MagicString → Result
insert_all indentor [] m = ok m
insert_all indentor (i ∷ l) m = and_then (insert i indentor right front m) (insert_all indentor l)

-- ── the loop over the chunks as they stood at the start; intros and outros are passed over ──
pub record Marked : Type 0 where
  pub mark : Bool
  pub result : Result

-- one chunk: its replacement is indented in place, unless its start is excluded; its part of the source gets the indentor as a piece at each line start
unfoldable pub indent_chunk : Text → List ℕ → Bool → Chunk → MagicString → Marked
indent_chunk indentor exclude mark c m =
    elim c.texts.edited_content [
      | some t ↦ elim (excluded exclude (start_of c)) [
        | true ↦ record { mark = mark; result = ok m }
        | false ↦ let r : Indented = indent_frag indentor mark t in
            record { mark = r.mark; result = ok (with_chunks m (at_start (start_of c) (edit r.text false) m.chunks)) }
      ]
      | none ↦ let r : Starts = line_starts exclude mark (start_of c) (chars (span_text c.span m.source)) in
          record { mark = r.mark; result = insert_all indentor r.starts m }
    ]

abbrev pub indent_chunks : Text → List ℕ → Bool → List Chunk → MagicString → Marked
indent_chunks indentor exclude mark [] m = record { mark = mark; result = ok m }
indent_chunks indentor exclude mark (c ∷ cs) m =
    let r : Marked = indent_chunk indentor exclude mark c m in
    elim r.result.number [
      | zero ↦ indent_chunks indentor exclude r.mark cs r.result.desk
      | suc k ↦ r
    ]

-- the body of `indent_with`: head, chunks, tail
unfoldable pub indent_by : Text → List ℕ → MagicString → Result
indent_by indentor exclude m =
    let head : Pieces = indent_pieces indentor true m.intro in
    let body : Marked = indent_chunks indentor exclude head.mark m.chunks (with_intro m head.pieces) in
    and_then body.result (λ m. ok (with_outro m (indent_pieces indentor body.mark m.outro).pieces))

-- whether an indentor is given and empty
abbrev pub is_empty_indentor : Option Text → Bool
is_empty_indentor none = false
is_empty_indentor (some t) = is_nil t

-- `indent_with`: the indentor given, or the guess
unfoldable pub indent_with : Option Text → List ℕ → MagicString → Result
indent_with indentor exclude m =
    cond (is_empty_indentor indentor) (ok m) (indent_by (unwrap_or indentor (get_indent_string m.source)) exclude m)
