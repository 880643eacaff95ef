-- Laws of what `Given` in specs/ defines.
use mathlib.Core.Path.{◌≡◌, refl, ap, sym, ◌∙◌}
use mathlib.Core.Bool.{Bool, true, false, cond}
use mathlib.Core.List.{List, [], ◌++◌, append_assoc}
use Prim.Native.Nat.{ℕ}
use native.Mathlib.Omega.{arith}
use Rattle.utf8.specs.Chars.{concat}
use Rattle.memory_table.specs.Order.{Entry}
use Rattle.model.specs.Text.{Text}
use Rattle.model.specs.Slice.{contains_end, chunk_slice}
use Rattle.memory.specs.Layout.{run_of}
use Rattle.memory.specs.WellFormed.{RunIn}
use Rattle.memory_texts.proofs.Texts.{run_tabulate, concat_nil}
use Rattle.report_slice_chunk.specs.Given.{slice_content, shows_outro, front_text, slice_of_entry}

abbrev pub outro_text : List ℕ → List ℕ → ℕ → Entry → Text
outro_text p s end e = concat (run_of p s (e.outro.0, cond (shows_outro e.start e.end end) e.outro.1 0))

-- a list that is shown or not
run_shown : (p s : List ℕ) (at n : ℕ) (b : Bool) → concat (run_of p s (at, cond b n 0)) ≡ cond b (concat (run_of p s (at, n))) []
run_shown p s at n true = refl
run_shown p s at n false = ap concat (run_tabulate p s at 0) ∙ concat_nil

pub run_shown_in : (p s : List ℕ) (at n : ℕ) (b : Bool) → RunIn p s (at, n) → RunIn p s (at, cond b n 0)
unfolding RunIn
run_shown_in p s at n true h = h
run_shown_in p s at n false h = λ k l. absurd (omega arith)

pub chunk_slice_is : (source p s : List ℕ) (w : Bool) (begin end : ℕ) (e : Entry)
    → slice_of_entry source p s w begin end e ≡ front_text source p s w begin end e ++ outro_text p s end e
unfolding chunk_slice contains_end
chunk_slice_is source p s w begin end e =
    ap (λ (x : Text). x ++ (slice_content source s e begin end ++ cond (shows_outro e.start e.end end) (concat (run_of p s e.outro)) [])) (sym (run_shown p s e.intro.0 e.intro.1 w))
    ∙ ap (λ (x : Text). concat (run_of p s (e.intro.0, cond w e.intro.1 0)) ++ (slice_content source s e begin end ++ x))
    (sym (run_shown p s e.outro.0 e.outro.1 (shows_outro e.start e.end end)))
    ∙ sym (append_assoc (concat (run_of p s (e.intro.0, cond w e.intro.1 0))) (slice_content source s e begin end) (outro_text p s end e))
