-- Laws of what `Sections` in specs/ defines.
use mathlib.Core.Path.{◌≡◌, refl, ap, sym, ◌∙◌}
use mathlib.Core.List.{List, [], ◌∷◌, ◌++◌, map}
use mathlib.Core.Logic.{inl, inr}
use Prim.Native.Nat.{ℕ, zero, suc, ◌+◌, ◌*◌, ◌-◌, ◌≤◌, ◌<◌}
use native.Mathlib.Omega.{arith}
use native.Mathlib.Nat.{le_of_suc-le-suc}
use native.Mathlib.Decide.{dec_lt, ℕ_discrete}
use lib.ListN.{length, get_or, drop, length-append, get_or-append, get_or-eq_default, drop_of_length-le}
use lib.Seq.{drop-cons, get_or-append-add, get_or-append_seam, drop-append_seam, drop-nil}
use borrow.Author.Tests.{ne_eqb}
use Rattle.memory_layout.specs.Layout.{ROW}
use Rattle.utf8.specs.Chars.{All}
use Rattle.memory_table.specs.Ring.{Links, Edge, Each}
use Rattle.memory_table.proofs.Ring.{each_append, each_at, each_map}
use Rattle.memory_table.specs.Order.{Entry, entry_at, entries, order, next_of, prev_of, count_of, Linked}
use Rattle.model.specs.Text.{Text}
use Rattle.memory.specs.Layout.{Place, tabulate, run_of, bytes_at, piece_at}
use Rattle.memory.proofs.Desks.{tabulate_all, length_tabulate}
use Rattle.memory_table.proofs.Order.{order_length}
use Rattle.memory_texts.specs.Texts.{content_at}
use Rattle.memory_texts.proofs.Texts.{tabulate_ext, tabulate_cons, tabulate_drop, run_length, run_tabulate}
use Rattle.memory_fragments.specs.Sections.{rows, row_no, head_of, tail_part_of, section_at, section, sections, fragments_of, fragments_all, size, rest, up_to, On, Went}

-- ---- the fragments of a section, and of several

pub size_is : (source p s : List ℕ) (e : Entry) → length (fragments_of source p s e) ≡ size e
size_is source p s e =
    length-append (run_of p s e.intro) _
    ∙ ap (λ (n : ℕ). n + suc (length (run_of p s e.outro))) (run_length p s e.intro.0 e.intro.1)
    ∙ ap (λ (n : ℕ). e.intro.1 + suc n) (run_length p s e.outro.0 e.outro.1)

get_d_tabulate : {A : Type 0} (f : ℕ → A) (n k : ℕ) (d : A) → k < n → get_or (tabulate f n) k d ≡ f k
get_d_tabulate f zero k d h = absurd (omega arith)
get_d_tabulate f (suc n) zero d h = rw (tabulate_cons f n)
get_d_tabulate f (suc n) (suc k) d h = rw (tabulate_cons f n) (get_d_tabulate (λ j. f (suc j)) n k d (omega arith))

-- which they are: a piece of the intro, the content, a piece of the outro
module _ (source p s : List ℕ) (e : Entry) where
  run_at : (r : Place) (k : ℕ) → k < r.1 → get_or (run_of p s r) k [] ≡ bytes_at s (piece_at p (r.0 + k))
  run_at r k h = ap (λ (l : List Text). get_or l k []) (run_tabulate p s r.0 r.1) ∙ get_d_tabulate (λ j. bytes_at s (piece_at p (r.0 + j))) r.1 k [] h

  pub fragment_intro : (k : ℕ) → k < e.intro.1 → get_or (fragments_of source p s e) k [] ≡ bytes_at s (piece_at p (e.intro.0 + k))
  fragment_intro k h =
      get_or-append (run_of p s e.intro) _ [] k (omega (arith, run_length p s e.intro.0 e.intro.1)) ∙ run_at e.intro k h

  pub fragment_content : (k : ℕ) → k ≡ e.intro.1 → get_or (fragments_of source p s e) k [] ≡ content_at source s e.start e.end e.text
  fragment_content k h =
      ap (λ (n : ℕ). get_or (fragments_of source p s e) n []) (h ∙ sym (run_length p s e.intro.0 e.intro.1))
      ∙ get_or-append_seam (run_of p s e.intro) _ (run_of p s e.outro) []

  pub fragment_outro : (k : ℕ) → e.intro.1 < k → k < size e → get_or (fragments_of source p s e) k [] ≡ bytes_at s (piece_at p (e.outro.0 + (k - e.intro.1 - 1)))
  fragment_outro k h l =
      let n = run_length p s e.intro.0 e.intro.1 in
      let q : k ≡ length (run_of p s e.intro) + suc (k - e.intro.1 - 1) = omega arith in
      ap (λ (n : ℕ). get_or (fragments_of source p s e) n []) q
      ∙ get_or-append-add (run_of p s e.intro) _ (suc (k - e.intro.1 - 1)) []
      ∙ run_at e.outro (k - e.intro.1 - 1) (omega arith)

-- ---- along the rows

links_at : (E : ℕ → ℕ → Type 0) (i : ℕ) (xs : List ℕ) (j k : ℕ) → Links E i xs j → k ≤ length xs
    → E (get_or (i ∷ (xs ++ (j ∷ []))) k 0) (get_or (i ∷ (xs ++ (j ∷ []))) (suc k) 0)
links_at E i [] j zero l h = l
links_at E i [] j (suc k) l h = absurd (omega arith)
links_at E i (x ∷ xs) j zero l h = l.0
links_at E i (x ∷ xs) j (suc k) l h = links_at E x xs j k l.1 (le_of_suc-le-suc h)

-- from a section to the next, and back
pub row_edge : (t : List ℕ) (g : ℕ) → Linked t → g ≤ count_of t → Edge (next_of t) (prev_of t) (row_no t g) (row_no t (suc g))
unfolding row_no order
row_edge t g l h = links_at (Edge (next_of t) (prev_of t)) 0 (order t) 0 g l.ring.links (omega (arith, order_length t))

pub row_first : (t : List ℕ) → row_no t 0 ≡ 0
unfolding row_no
row_first t = refl

pub row_last : (t : List ℕ) → row_no t (suc (count_of t)) ≡ 0
unfolding row_no
row_last t = ap (λ (n : ℕ). get_or (order t ++ (0 ∷ [])) n 0) (sym (order_length t)) ∙ get_or-append_seam (order t) 0 [] 0

row_chunk : (t : List ℕ) (k : ℕ) → k < count_of t → row_no t (suc k) ≡ get_or (order t) k 0
unfolding row_no
row_chunk t k h = get_or-append (order t) (0 ∷ []) 0 k (omega (arith, order_length t))

each_get_d : {A : Type 0} (P : A → Type 0) (xs : List A) (k : ℕ) (d : A) → Each P xs → P d → P (get_or xs k d)
each_get_d P [] k d e h = h
each_get_d P (x ∷ xs) zero d e h = e.0
each_get_d P (x ∷ xs) (suc k) d e h = each_get_d P xs k d e.1 h

inside : (t : List ℕ) → Linked t → Each (λ x. (0 < x) × (x ≤ count_of t)) (order t)
unfolding order
inside t l = l.ring.inside

row_le : (t : List ℕ) (g : ℕ) → Linked t → row_no t g ≤ count_of t
unfolding row_no
row_le t g l =
    let P : ℕ → Type 0 = λ x. x ≤ count_of t in
    let z : P 0 = omega arith in
    each_get_d P (rows t) g 0 (z, each_append P (order t) (0 ∷ []) (each_map (λ x. (0 < x) × (x ≤ count_of t)) P (λ a h. h.1) (order t) (inside t l)) (z, tt)) z

pub row_in : (t : List ℕ) (g : ℕ) → Linked t → row_no t g * ROW + ROW ≤ length t
row_in t g l = omega (arith, row_le t g l, l.room)

pub row_pos : (t : List ℕ) (k : ℕ) → Linked t → k < count_of t → 0 < row_no t (suc k)
row_pos t k l h =
    rw (row_chunk t k h)
    (each_at (λ x. (0 < x) × (x ≤ count_of t)) (order t) 0 k (inside t l) (omega (arith, order_length t))).0

-- ---- what each section is

pub section_head : (t : List ℕ) → section t 0 ≡ head_of t
unfolding section_at
section_head t = rw row_first

pub section_tail : (t : List ℕ) → section t (suc (count_of t)) ≡ tail_part_of t
unfolding section_at
section_tail t = rw (row_last, ne_eqb (suc (count_of t)) 0 (omega arith))

pub section_chunk : (t : List ℕ) (k : ℕ) → Linked t → k < count_of t → section t (suc k) ≡ entry_at t (row_no t (suc k))
unfolding section_at
section_chunk t k l h = let p = row_pos t k l h in rw (ne_eqb (row_no t (suc k)) 0 (omega arith))

-- past the tail
pub section_past : (t : List ℕ) (k : ℕ) → count_of t ≤ k → section t (suc k) ≡ tail_part_of t
unfolding section_at row_no
section_past t k h =
    let e : get_or (order t ++ (0 ∷ [])) k 0 ≡ 0 =
    elim (ℕ_discrete k (count_of t)) [
      | yes q ↦ ap (λ (n : ℕ). get_or (order t ++ (0 ∷ [])) n 0) q ∙ row_last t
      | no q ↦ get_or-eq_default (order t ++ (0 ∷ [])) 0 (simp length-append (omega (arith, order_length t)))
    ] in
    rw (e, ne_eqb (suc k) 0 (omega arith))

map_tabulate : {A B : Type 0} (f : A → B) (d : A) (xs : List A) → map f xs ≡ tabulate (λ k. f (get_or xs k d)) (length xs)
map_tabulate f d [] = refl
map_tabulate f d (x ∷ xs) = ap (λ l. f x ∷ l) (map_tabulate f d xs) ∙ sym (tabulate_cons (λ k. f (get_or (x ∷ xs) k d)) (length xs))

pub entries_tabulate : (t : List ℕ) → Linked t → entries t ≡ tabulate (λ k. section t (suc k)) (count_of t)
entries_tabulate t l =
    map_tabulate (entry_at t) 0 (order t)
    ∙ ap (tabulate (λ k. entry_at t (get_or (order t) k 0))) (order_length t)
    ∙ tabulate_ext (λ k. entry_at t (get_or (order t) k 0)) (λ k. section t (suc k)) (count_of t)
    (λ k h. sym (section_chunk t k l h ∙ ap (entry_at t) (row_chunk t k h)))

-- the head, the chunks, the tail
pub sections_are : (t : List ℕ) → Linked t → sections t ≡ head_of t ∷ (entries t ++ (tail_part_of t ∷ []))
sections_are t l =
    rw (tabulate_cons (section t) (count_of t), section_head t, section_tail t, ← entries_tabulate t l)

-- the list from chunk k on
pub entries_drop : (t : List ℕ) (k : ℕ) → Linked t → k < count_of t → drop k (entries t) ≡ section t (suc k) ∷ drop (suc k) (entries t)
entries_drop t k l h = rw (entries_tabulate t l) (tabulate_drop (λ j. section t (suc j)) (count_of t) k h)

pub entries_end : (t : List ℕ) (k : ℕ) → Linked t → count_of t ≤ k → drop k (entries t) ≡ []
entries_end t k l h = drop_of_length-le (entries t) {i = k} (rw (entries_tabulate t l, length_tabulate (λ j. section t (suc j)) (count_of t)) h)

-- an entry of the list, by its number
pub each_section : {P : Entry → Type 0} (t : List ℕ) → Linked t → All P (entries t) → P (head_of t) → P (tail_part_of t) → (g : ℕ) → P (section t g)
each_section t l a h k zero = rw section_head h
each_section {P} t l a h k (suc g) =
    elim (dec_lt g (count_of t)) [
      | yes q ↦ tabulate_all (λ k. section t (suc k)) (count_of t) (rw (entries_tabulate t l) at a) g q
      | no q ↦ rw (section_past t g (omega arith)) k
    ]

-- ---- the fragments that are left from a place on

pub sections_drop : (t : List ℕ) (g : ℕ) → g < count_of t + 2 → drop g (sections t) ≡ section t g ∷ drop (suc g) (sections t)
sections_drop t g h = tabulate_drop (section t) (suc (suc (count_of t))) g (omega arith)

pub sections_end : (t : List ℕ) (g : ℕ) → count_of t + 2 ≤ g → drop g (sections t) ≡ []
sections_end t g h = drop_of_length-le (sections t) {i = g} (rw (length_tabulate (section t) (suc (suc (count_of t)))) (omega arith))

module _ (source t p s : List ℕ) where
  pub rest_first : rest source t p s 0 0 ≡ fragments_all source p s (sections t)
  unfolding rest
  rest_first = refl

  pub rest_end : (g item : ℕ) → count_of t + 2 ≤ g → rest source t p s g item ≡ []
  unfolding rest
  rest_end g item h = rw (sections_end t g h) (drop-nil item)

  -- the fragment at a place, and those behind it
  module _ (stop : ℕ) where
    pub up_to_end : (item : ℕ) → up_to source t p s stop stop item ≡ []
    unfolding up_to
    up_to_end item =
        let e : drop stop (tabulate (section t) stop) ≡ [] = drop_of_length-le (tabulate (section t) stop) {i = stop} (rw (length_tabulate (section t) stop) (omega arith)) in
        rw e (drop-nil item)

    pub up_to_cons : (g item : ℕ) → g < stop → item < size (section t g)
        → up_to source t p s stop g item ≡ get_or (fragments_of source p s (section t g)) item [] ∷ up_to source t p s stop g (suc item)
    unfolding up_to
    up_to_cons g item h k =
        let fs = fragments_of source p s (section t g) in
        let more = fragments_all source p s (drop (suc g) (tabulate (section t) stop)) in
        let e = size_is source p s (section t g) in
        let d : drop item (fs ++ more) ≡ get_or (fs ++ more) item [] ∷ drop (suc item) (fs ++ more) = drop-cons (fs ++ more) item [] (omega (arith, length-append fs more)) in
        rw (tabulate_drop (section t) stop g h) (d ∙ ap (λ (x : Text). x ∷ drop (suc item) (fs ++ more)) (get_or-append fs more [] item (omega arith)))

    up_to_over : (g : ℕ) → g < stop → up_to source t p s stop g (size (section t g)) ≡ up_to source t p s stop (suc g) 0
    unfolding up_to
    up_to_over g h =
        let fs = fragments_of source p s (section t g) in
        let more = fragments_all source p s (drop (suc g) (tabulate (section t) stop)) in
        rw (tabulate_drop (section t) stop g h) (ap (λ (n : ℕ). drop n (fs ++ more)) (sym (size_is source p s (section t g))) ∙ drop-append_seam fs more)

    pub up_to_went : {g item g' row' item' : ℕ} → g < stop → item < size (section t g) → Went t g item g' row' item'
        → up_to source t p s stop g item ≡ get_or (fragments_of source p s (section t g)) item [] ∷ up_to source t p s stop g' item'
    up_to_went {g} {item} h k w =
        up_to_cons g item h k
        ∙ ap (λ (l : List Text). get_or (fragments_of source p s (section t g)) item [] ∷ l)
        (elim w.step [
          | inl x ↦ rw (x.0, x.1)
          | inr x ↦ rw (x.0, x.1, x.2) (up_to_over g h)
        ])

  pub rest_cons : (g item : ℕ) → g < count_of t + 2 → item < size (section t g)
      → rest source t p s g item ≡ get_or (fragments_of source p s (section t g)) item [] ∷ rest source t p s g (suc item)
  unfolding rest up_to
  rest_cons g item h k = up_to_cons (suc (suc (count_of t))) g item (omega arith) k

  pub rest_over : (g : ℕ) → g < count_of t + 2 → rest source t p s g (size (section t g)) ≡ rest source t p s (suc g) 0
  unfolding rest up_to
  rest_over g h = up_to_over (suc (suc (count_of t))) g (omega arith)

  pub rest_went : {g item g' row' item' : ℕ} → g < count_of t + 2 → item < size (section t g) → Went t g item g' row' item'
      → rest source t p s g item ≡ get_or (fragments_of source p s (section t g)) item [] ∷ rest source t p s g' item'
  unfolding rest up_to
  rest_went h k w = up_to_went (suc (suc (count_of t))) (omega arith) k w

  -- the whole rest, and the chunks alone
  pub up_to_rest : (n g item : ℕ) → n ≡ count_of t → up_to source t p s (n + 2) g item ≡ rest source t p s g item
  unfolding rest up_to
  up_to_rest n g item e =
      let q : n + 2 ≡ suc (suc (count_of t)) = omega arith in
      ap (λ (k : ℕ). drop item (fragments_all source p s (drop g (tabulate (section t) k)))) q

  pub up_to_chunks : (n : ℕ) → Linked t → n ≡ count_of t → up_to source t p s (n + 1) 1 0 ≡ fragments_all source p s (entries t)
  unfolding up_to
  up_to_chunks n l e =
      let q : n + 1 ≡ suc (count_of t) = omega arith in
      ap (λ (k : ℕ). fragments_all source p s (drop 1 (tabulate (section t) k))) q
      ∙ ap (λ (es : List Entry). fragments_all source p s (drop 1 es)) (tabulate_cons (section t) (count_of t))
      ∙ ap (fragments_all source p s) (sym (entries_tabulate t l))

-- ---- the places where the walks begin

pub on_first : (t : List ℕ) → On t 0 0 0
on_first t = record { row_is = λ h. sym (row_first t); inside = omega arith; item_in = omega arith }

pub on_chunks : (t : List ℕ) (row : ℕ) → Linked t → row ≡ next_of t 0 → On t 1 row 0
on_chunks t row l e = record {
  row_is = λ h. e ∙ ap (next_of t) (sym (row_first t)) ∙ (row_edge t 0 l (omega arith)).fwd;
  inside = omega arith;
  item_in = omega arith;
}

pub on_tail : (t : List ℕ) (g : ℕ) → g ≡ count_of t + 1 → On t g 0 0
on_tail t g e =
    let q : g ≡ suc (count_of t) = omega (arith, e) in
    record { row_is = λ h. sym (row_last t) ∙ ap (row_no t) (sym q); inside = omega (arith, e); item_in = omega arith }
