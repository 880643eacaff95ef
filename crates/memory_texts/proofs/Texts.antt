-- Laws of what `Texts` in specs/ defines.
use mathlib.Core.Path.{◌≡◌, refl, ap, ◌∙◌}
use mathlib.Core.List.{List, [], ◌∷◌, ◌++◌, append-nil, flatten}
use Prim.Native.Nat.{ℕ, zero, suc, ◌+◌, ◌≤◌, ◌<◌}
use native.Mathlib.Omega.{arith}
use native.Mathlib.Decide.{le_ind}
use lib.ListN.{length, get_or, drop, length-append}
use Rattle.utf8.specs.Chars.{concat}
use Rattle.utf8.proofs.CharLaws.{concat_append}
use Rattle.memory_table.specs.Order.{Entry}
use Rattle.model.specs.Text.{Text}
use Rattle.memory.specs.Layout.{bytes_at, piece_at, tabulate, run_of}
use Rattle.memory.specs.WellFormed.{PieceIn, RunIn}
use Rattle.memory.proofs.Desks.{length_tabulate}
use Rattle.memory_texts.specs.Texts.{content_at, text_of_chunk}

-- ---- lists f 0, f 1, ..

pub tabulate_ext : {A : Type 0} (f g : ℕ → A) (n : ℕ) → ((k : ℕ) → k < n → f k ≡ g k) → tabulate f n ≡ tabulate g n
tabulate_ext f g zero h = refl
tabulate_ext f g (suc n) h = rw (tabulate_ext f g n (λ k hk. h k (omega arith)), h n (omega arith))

pub tabulate_cons : {A : Type 0} (f : ℕ → A) (n : ℕ) → tabulate f (suc n) ≡ f 0 ∷ tabulate (λ k. f (suc k)) n
tabulate_cons f zero = refl
tabulate_cons f (suc n) = rw (tabulate_cons f n)

pub tabulate_list : {A : Type 0} (d : A) (us : List A) → tabulate (λ k. get_or us k d) (length us) ≡ us
tabulate_list d [] = refl
tabulate_list d (u ∷ us) = tabulate_cons (λ k. get_or (u ∷ us) k d) (length us) ∙ ap (λ l. u ∷ l) (tabulate_list d us)

-- the rest from k on
pub tabulate_drop : {A : Type 0} (f : ℕ → A) (n k : ℕ) → k < n → drop k (tabulate f n) ≡ f k ∷ drop (suc k) (tabulate f n)
tabulate_drop f zero k h = absurd (omega arith)
tabulate_drop f (suc n) zero h = rw (tabulate_cons f n)
tabulate_drop f (suc n) (suc k) h = rw (tabulate_cons f n) (tabulate_drop (λ j. f (suc j)) n k (omega arith))

-- ---- texts one behind the other

pub concat_cons : (t : Text) (ts : List Text) → concat (t ∷ ts) ≡ t ++ concat ts
unfolding flatten
concat_cons t ts = refl

pub concat_nil : concat [] ≡ []
unfolding flatten
concat_nil = refl

pub concat_one : (t : Text) → concat (t ∷ []) ≡ t
concat_one t = concat_cons t [] ∙ ap (λ (l : Text). t ++ l) concat_nil ∙ append-nil t

pub concat_snoc : (ts : List Text) (t : Text) → concat (ts ++ (t ∷ [])) ≡ concat ts ++ t
concat_snoc ts t = concat_append ts (t ∷ []) ∙ ap (λ (l : Text). concat ts ++ l) (concat_one t)

-- a chunk's text is its intro, its content and its outro
pub chunk_text : (source p s : List ℕ) (e : Entry)
    → text_of_chunk source p s e ≡ concat (run_of p s e.intro) ++ (content_at source s e.start e.end e.text ++ concat (run_of p s e.outro))
chunk_text source p s e =
    concat_append (run_of p s e.intro) _ ∙ ap (λ (l : Text). concat (run_of p s e.intro) ++ l) (concat_cons _ (run_of p s e.outro))

pub concat_mono : (f : ℕ → Text) (i n : ℕ) → i ≤ n → length (concat (tabulate f i)) ≤ length (concat (tabulate f n))
concat_mono f i n h =
    le_ind (λ k. length (concat (tabulate f i)) ≤ length (concat (tabulate f k))) (omega arith)
    (λ m (hm : i ≤ m) ih. simp (concat_snoc, length-append) (omega arith)) n h

-- there is room for one more
pub concat_room : (f : ℕ → Text) (i n : ℕ) → i < n → length (concat (tabulate f i)) + length (f i) ≤ length (concat (tabulate f n))
concat_room f i n h = simp (concat_snoc, length-append) at (concat_mono f (suc i) n h)

-- ---- a run's texts

pub run_piece : (p s : List ℕ) (at n k : ℕ) → RunIn p s (at, n) → k < n → PieceIn p s (at + k)
unfolding RunIn
run_piece p s at n k h l = h k l

pub run_tabulate : (p s : List ℕ) (at n : ℕ) → run_of p s (at, n) ≡ tabulate (λ k. bytes_at s (piece_at p (at + k))) n
unfolding run_of
run_tabulate p s at n = refl

pub run_length : (p s : List ℕ) (at n : ℕ) → length (run_of p s (at, n)) ≡ n
run_length p s at n = ap length (run_tabulate p s at n) ∙ length_tabulate _ n
