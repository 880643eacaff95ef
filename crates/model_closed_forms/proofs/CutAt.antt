-- What a cut does and says on a desk whose spans cover the source: where no chunk contains the position, and where the chunk that does is known.
use Prim.Native.Nat.{ℕ, ◌<◌}
use native.Mathlib.Omega.{arith}
use mathlib.Core.Path.{◌≡◌, ap, ◌∙◌, subst}
use mathlib.Core.Bool.{Bool, true, false, ◌||◌, not, cond, and-true, not-not}
use mathlib.Core.List.{List, [], ◌∷◌, ◌++◌, append_assoc}
use lib.Dec.{leb, eqb}
use lib.ListN.{length}
use borrow.Author.Tests.{leb-false, eqb-false, lt-ltb, le-leb}
use Rattle.utf8.specs.Chars.{All, cons}
use Rattle.utf8.proofs.CharLaws.{all_back}
use Rattle.model.specs.Text.{Text, all}
use Rattle.model.specs.Chunk.{Chunk, start_of, end_of, is_filled, first_half, second_half}
use Rattle.model.specs.MagicString.{MagicString, ok, err, with_chunks, split_at}
use Rattle.model.specs.Cut.{made, edge, outside, refused, is_outside, is_edge, is_refused, cut_at}
use Rattle.model.proofs.Lists.{and_left, and_right, neither, bool-elim, false_of, first_of, all_append, all_map}
use Rattle.model_closed_forms.specs.Plan.{cut, splittable}
use Rattle.model_closed_forms.proofs.Cuts.{Contains, contains_true, split_in, cut_append, cut_none}
use Rattle.model_closed_forms.specs.Spans.{Cover}
use Rattle.model_closed_forms.proofs.Spans.{Inside, Once, others}
use Rattle.model_closed_forms.proofs.SplitAt.{cover_once, cover_cut, idle_aligned, aligned_splittable, refuses_law, split_at_cover}
use Rattle.model_closed_forms.proofs.ByPosition.{chunk_is_found}

-- no other chunk contains a position at this one's start or inside it
pub others_aligned : (q : ℕ) (xs : List Chunk) (c : Chunk) (ys : List Chunk) → Once (xs ++ c ∷ ys) → Inside (start_of c) (end_of c) q
    → All (λ d. Contains q d → ⊥) xs × All (λ d. Contains q d → ⊥) ys
others_aligned q xs c ys o i =
    let n = others q xs c ys o i in
    (all_map (λ d k j. k (omega arith)) n.0, all_map (λ d k j. k (omega arith)) n.1)

-- and none a position at its start
pub start_aligned : (q : ℕ) (xs : List Chunk) (c : Chunk) (ys : List Chunk) → Once (xs ++ c ∷ ys) → start_of c ≡ q → q < end_of c → All (λ d. Contains q d → ⊥) (xs ++ c ∷ ys)
start_aligned q xs c ys o e h =
    let n = others_aligned q xs c ys o (omega arith) in
    let k : Contains q c → ⊥ = λ i. omega arith in
    all_append {P = λ d. Contains q d → ⊥} n.0 (cons k n.1)

-- a cut inside this one
cut_mid : (q : ℕ) (xs : List Chunk) (c : Chunk) (ys : List Chunk) → Once (xs ++ c ∷ ys) → Contains q c → cut q (xs ++ c ∷ ys) ≡ xs ++ first_half q c ∷ second_half q c ∷ ys
cut_mid q xs c ys o i =
    let n = others_aligned q xs c ys o (omega arith) in
    cut_append q xs (c ∷ ys) ∙ rw (split_in q c i, cut_none q n.0, cut_none q n.1)

pub halves_cover : {s : Text} (q : ℕ) (xs : List Chunk) (c : Chunk) (ys : List Chunk) → Cover s (xs ++ c ∷ ys) → Contains q c
    → Cover s ((xs ++ first_half q c ∷ []) ++ second_half q c ∷ ys)
halves_cover q xs c ys v i =
    rw (append_assoc xs (first_half q c ∷ []) (second_half q c ∷ ys)) (rw (cut_mid q xs c ys (cover_once v) i) at (cover_cut q v))

all_mid : {A : Type 0} (f : A → Bool) (xs : List A) (c : A) (ys : List A) → all f xs ≡ true → all f ys ≡ true → all f (xs ++ c ∷ ys) ≡ f c
all_mid f [] c ys a b = rw b (and-true (f c))
all_mid f (x ∷ xs) c ys a b = rw (and_left (f x) (all f xs) a) (all_mid f xs c ys (and_right (f x) (all f xs) a) b)

module _ (q : ℕ) (m : MagicString) (v : Cover m.source m.chunks) where
  -- ── no chunk contains the position ──
  pub cut_nothing : All (λ c. Contains q c → ⊥) m.chunks → (split_at q m ≡ ok m) × (cut q m.chunks ≡ m.chunks)
  cut_nothing n = (split_at_cover q m v ∙ rw (aligned_splittable q n, cut_none q n), cut_none q n)

  -- inside the source a chunk ends there
  pub cut_at_aligned : All (λ c. Contains q c → ⊥) m.chunks → cut_at q m ≡ cond (is_outside q m) outside edge
  unfolding cut_at
  cut_at_aligned n = bool-elim (is_outside q m) (λ h. rw h) (λ h. rw (h, ends h))
    where
      ends : is_outside q m ≡ false → is_edge q m ≡ true
      ends h =
          let o = neither (eqb q 0) (leb (length m.source) q) h in
          let z : q ≡ 0 → ⊥ = eqb-false q 0 o.0 in
          let l = leb-false (length m.source) q o.1 in
          chunk_is_found true q v n ∙ rw (le-leb q (length m.source) (omega arith), lt-ltb 0 q (omega arith))

  -- ── the chunk that contains it ──
  module _ (xs : List Chunk) (c : Chunk) (ys : List Chunk) (e : m.chunks ≡ xs ++ c ∷ ys) (i : Contains q c) where
    apart : All (λ d. Contains q d → ⊥) xs × All (λ d. Contains q d → ⊥) ys
    apart = others_aligned q xs c ys (subst Once e (cover_once v)) (omega arith)

    can : all (splittable q) m.chunks ≡ not (is_filled c.texts.edited_content)
    unfolding splittable
    can =
        ap (all (splittable q)) e
        ∙ all_mid (splittable q) xs c ys (aligned_splittable q apart.0) (aligned_splittable q apart.1)
        ∙ rw (contains_true q c i)

    cut_is : cut q m.chunks ≡ xs ++ first_half q c ∷ second_half q c ∷ ys
    cut_is = ap (cut q) e ∙ cut_mid q xs c ys (subst Once e (cover_once v)) i

    pub cut_refused : is_filled c.texts.edited_content ≡ true → split_at q m ≡ err 6 m
    cut_refused f = split_at_cover q m v ∙ rw (can, f)

    pub cut_made : is_filled c.texts.edited_content ≡ false
        → (split_at q m ≡ ok (with_chunks m (xs ++ first_half q c ∷ second_half q c ∷ ys))) × (cut q m.chunks ≡ xs ++ first_half q c ∷ second_half q c ∷ ys)
    cut_made f = (split_at_cover q m v ∙ rw (can, f, cut_is), cut_is)

    -- neither an end of the source nor an edge
    not_idle : eqb q 0 || (leb (length m.source) q || is_edge q m) ≡ false
    not_idle =
        false_of (eqb q 0 || (leb (length m.source) q || is_edge q m)) (idle_aligned q v)
        (λ n. first_of (all_back (λ d. Contains q d → ⊥) xs (c ∷ ys) (subst (All (λ d. Contains q d → ⊥)) e n)) i)

    pub cut_at_inside : cut_at q m ≡ cond (is_filled c.texts.edited_content) refused made
    unfolding cut_at
    cut_at_inside =
        let a = neither (eqb q 0) (leb (length m.source) q || is_edge q m) not_idle in
        let b = neither (leb (length m.source) q) (is_edge q m) a.1 in
        let r : is_refused q m ≡ is_filled c.texts.edited_content = refuses_law q m.chunks (cover_once v) ∙ ap not can ∙ not-not (is_filled c.texts.edited_content) in
        rw (a.0, b.0, b.1, r)
