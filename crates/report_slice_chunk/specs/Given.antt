-- What a chunk gives of a slice, on a desk in lent memory.
use Rattle.std.specs.Prelude.{Bool, ◌&&◌, ◌||◌, not, cond, List, ◌++◌, ℕ, ◌-◌, ltb, leb, eqb, length}
use Rattle.utf8.specs.Chars.{concat}
use Rattle.memory_table.specs.Order.{Entry}
use Rattle.model.specs.Text.{Text, part}
use Rattle.model.specs.Slice.{chunk_slice}
use Rattle.memory.specs.Layout.{run_of, chunk_of}
use Rattle.memory_texts.specs.Texts.{content_at}

abbrev pub holds_end : ℕ → ℕ → ℕ → Bool
holds_end start stop end = ltb start end && leb end stop

-- what a chunk gives of its content
abbrev pub slice_content : List ℕ → List ℕ → Entry → ℕ → ℕ → Text
slice_content source s e begin end =
    let t : Text = content_at source s e.start e.end e.text in
    part begin (cond (holds_end e.start e.end end) (length t - (e.end - end)) (length t)) t

-- whether its outro is shown
abbrev pub shows_outro : ℕ → ℕ → ℕ → Bool
shows_outro start stop end = not (holds_end start stop end) || eqb stop end

-- its intro, if that is shown, and what it gives of its content
abbrev pub front_text : List ℕ → List ℕ → List ℕ → Bool → ℕ → ℕ → Entry → Text
front_text source p s with_intro begin end e = concat (run_of p s (e.intro.0, cond with_intro e.intro.1 0)) ++ slice_content source s e begin end

abbrev pub slice_of_entry : List ℕ → List ℕ → List ℕ → Bool → ℕ → ℕ → Entry → Text
slice_of_entry source p s with_intro begin end e = chunk_slice source with_intro begin end (chunk_of p s e)
