-- slice.rs: the text between two places of the source, along the list. It cuts nothing.
use Rattle.std.specs.Prelude.{ℕ, ◌-◌, Bool, true, false, ◌&&◌, ◌||◌, not, cond, List, [], ◌∷◌, ◌++◌, ltb, leb, eqb, length}
use Rattle.utf8.specs.Chars.{concat}
use Rattle.model.specs.Text.{Text, part}
use Rattle.model.specs.Chunk.{Chunk, start_of, end_of, is_edited, content}
use Rattle.model.specs.MagicString.{MagicString}

-- the text, or the refusal 11 or 12
pub data Sliced : Type 0 where
  text : Text → Sliced
  refused : ℕ → Sliced

-- the chunk that holds the end: document 01's "a chunk holding the end"
unfoldable pub contains_end : Chunk → ℕ → Bool
contains_end c end = ltb (start_of c) end && leb end (end_of c)

-- the list from the chunk that holds the start; nothing if the end is met first or no chunk holds the start
pub data Start : Type 0 where
  from : Chunk → List Chunk → Start
  nothing : Start

-- the first loop
abbrev pub find_start : ℕ → ℕ → List Chunk → Start
find_start start end [] = nothing
find_start start end (c ∷ cs) =
    elim (ltb start (start_of c) || leb (end_of c) start) [
      | false ↦ from c cs
      | true ↦ elim (contains_end c end) [ true ↦ nothing | false ↦ find_start start end cs ]
    ]

-- what one chunk gives, from `slice_start` on: its intro if `with_intro`, its content up to the end, its outro unless the end lies before the chunk's end
unfoldable pub chunk_slice : Text → Bool → ℕ → ℕ → Chunk → Text
chunk_slice source with_intro slice-start end c =
    let s : Text = content source c in
    let slice-end : ℕ = cond (contains_end c end) (length s - (end_of c - end)) (length s) in
    cond with_intro (concat c.texts.intro) []
    ++ (part slice-start slice-end s
    ++ cond (not (contains_end c end) || eqb (end_of c) end) (concat c.texts.outro) [])

-- the end lies inside a replaced chunk
unfoldable pub ends_inside : Chunk → ℕ → Bool
ends_inside c end = (contains_end c end && is_edited c) && not (eqb (end_of c) end)

abbrev pub before : Text → Sliced → Sliced
before t (text s) = text (t ++ s)
before t (refused k) = refused k

-- the second loop, behind the start chunk
abbrev pub slice_rest : Text → ℕ → List Chunk → Sliced
slice_rest source end [] = text []
slice_rest source end (c ∷ cs) =
    elim (ends_inside c end) [
      | true ↦ refused 12
      | false ↦ before (chunk_slice source true 0 end c) (elim (contains_end c end) [ true ↦ text [] | false ↦ slice_rest source end cs ])
    ]

-- the second loop, at the start chunk
abbrev pub slice_from : Text → ℕ → ℕ → Start → Sliced
slice_from source start end nothing = text []
slice_from source start end (from c cs) =
    elim (is_edited c && not (eqb (start_of c) start)) [
      | true ↦ refused 11
      | false ↦ elim (ends_inside c end) [
        | true ↦ refused 12
        | false ↦ before (chunk_slice source (eqb (start_of c) start) (start - start_of c) end c)
            (elim (contains_end c end) [ true ↦ text [] | false ↦ slice_rest source end cs ])
      ]
    ]

-- `slice`, the end given: an absent end is the source's end
unfoldable pub slice : ℕ → ℕ → MagicString → Sliced
slice start end m = slice_from m.source start end (find_start start end m.chunks)
