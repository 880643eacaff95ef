-- Cuts: of one chunk, of a list, and that they commute.
use Prim.Native.Nat.{ℕ, ◌≤◌, ◌<◌}
use native.Mathlib.Omega.{arith}
use native.Mathlib.Decide.{dec_le, dec_lt}
use mathlib.Core.Path.{◌≡◌, refl, ap, sym, ◌∙◌}
use mathlib.Core.Bool.{Bool, true, false, ◌&&◌, not}
use mathlib.Core.List.{List, [], ◌∷◌, ◌++◌, append_assoc}
use lib.Dec.{ltb}
use borrow.Author.Tests.{ltb-true, lt-ltb}
use Rattle.utf8.specs.Chars.{All, nil, cons}
use Rattle.utf8.proofs.CharLaws.{all_front, all_back}
use Rattle.model.specs.Text.{all}
use Rattle.model.specs.Chunk.{Chunk, start_of, end_of, contains, is_filled, first_half, second_half}
use Rattle.model.proofs.Lists.{both, and_left, and_right, false_of, first_of, rest_of, all_append, all_of, all_map, all_map₂, all_true, true_all}
use Rattle.model_closed_forms.specs.Plan.{split, cut, cut_all, splittable, cuttable}

-- ── one chunk ──
-- the position lies in the chunk, between its start and its end: `Chunk::contains`
abbrev pub Contains : ℕ → Chunk → Type 0
Contains p c = (start_of c < p) × (p < end_of c)

pub dec_contains : (p : ℕ) (c : Chunk) → Dec (Contains p c)
dec_contains p c = go (dec_lt (start_of c) p) (dec_lt p (end_of c))
  where
    go : Dec (start_of c < p) → Dec (p < end_of c) → Dec (Contains p c)
    go (yes a) (yes b) = yes (a, b)
    go (yes a) (no b) = no (λ h. b h.1)
    go (no a) _ = no (λ h. a h.0)

pub contains_true : (p : ℕ) (c : Chunk) → Contains p c → contains c p ≡ true
unfolding contains
contains_true p c h = both (lt-ltb (start_of c) p h.0) (lt-ltb p (end_of c) h.1)

pub contains_of : (p : ℕ) (c : Chunk) → contains c p ≡ true → Contains p c
unfolding contains
contains_of p c h =
    (ltb-true _ _ (and_left (ltb (start_of c) p) (ltb p (end_of c)) h), ltb-true _ _ (and_right (ltb (start_of c) p) (ltb p (end_of c)) h))

pub contains_false : (p : ℕ) (c : Chunk) → (Contains p c → ⊥) → contains c p ≡ false
contains_false p c n = false_of (contains c p) (contains_of p c) n

pub split_in : (p : ℕ) (c : Chunk) → Contains p c → split p c ≡ first_half p c ∷ second_half p c ∷ []
unfolding split
split_in p c h = rw (contains_true p c h)

pub split_out : (p : ℕ) (c : Chunk) → (Contains p c → ⊥) → split p c ≡ c ∷ []
unfolding split
split_out p c h = rw (contains_false p c h)

-- a chunk that does not contain p lies on one side of it
pub ends_by : (p : ℕ) (c : Chunk) → (Contains p c → ⊥) → start_of c < p → end_of c ≤ p
ends_by p c n h = go (dec_le (end_of c) p)
  where
    go : Dec (end_of c ≤ p) → end_of c ≤ p
    go (yes k) = k
    go (no k) = absurd (n (h, omega arith))

pub starts_from : (p : ℕ) (c : Chunk) → (Contains p c → ⊥) → p < end_of c → p ≤ start_of c
starts_from p c n h = go (dec_le p (start_of c))
  where
    go : Dec (p ≤ start_of c) → p ≤ start_of c
    go (yes k) = k
    go (no k) = absurd (n (omega arith, h))

-- ── lists ──
pub cut_append : (p : ℕ) (xs ys : List Chunk) → cut p (xs ++ ys) ≡ cut p xs ++ cut p ys
cut_append p [] ys = refl
cut_append p (x ∷ xs) ys = rw (cut_append p xs ys, append_assoc (split p x) (cut p xs) (cut p ys))

pub cut_none : (p : ℕ) {cs : List Chunk} → All (λ c. Contains p c → ⊥) cs → cut p cs ≡ cs
cut_none p nil = refl
cut_none p (cons {x = c} n ns) = rw (split_out p c n, cut_none p ns)

-- two cuts of one chunk
cut_below : (p q : ℕ) (c : Chunk) → start_of c < p → p < q → q < end_of c → cut q (split p c) ≡ cut p (split q c)
cut_below p q c a b d =
    rw (
      split_in p c (omega arith),
      split_in q c (omega arith),
      split_out q (first_half p c) (λ h. omega arith),
      split_in q (second_half p c) (omega arith),
      split_in p (first_half q c) (omega arith),
      split_out p (second_half q c) (λ h. omega arith),
    )

cut_split : (p q : ℕ) (c : Chunk) → cut q (split p c) ≡ cut p (split q c)
cut_split p q c = go (dec_contains p c) (dec_contains q c) (dec_lt p q) (dec_lt q p)
  where
    go : Dec (Contains p c) → Dec (Contains q c) → Dec (p < q) → Dec (q < p) → cut q (split p c) ≡ cut p (split q c)
    go (yes a) (yes b) (yes l) _ = cut_below p q c a.0 l b.1
    go (yes a) (yes b) (no l) (yes k) = sym (cut_below q p c b.0 k a.1)
    go (yes a) (yes b) (no l) (no k) = let e : p ≡ q = omega arith in rw e
    go (yes a) (no b) _ _ =
        rw (
          split_in p c a,
          split_out q c b,
          split_out q (first_half p c) (λ h. b (omega arith)),
          split_out q (second_half p c) (λ h. b (omega arith)),
          split_in p c a,
        )
    go (no a) (yes b) _ _ =
        rw (
          split_in q c b,
          split_out p c a,
          split_out p (first_half q c) (λ h. a (omega arith)),
          split_out p (second_half q c) (λ h. a (omega arith)),
          split_in q c b,
        )
    go (no a) (no b) _ _ = rw (split_out p c a, split_out q c b, split_out p c a)

-- cuts commute
pub cut_cut : (p q : ℕ) (cs : List Chunk) → cut q (cut p cs) ≡ cut p (cut q cs)
cut_cut p q [] = refl
cut_cut p q (c ∷ cs) = rw (cut_append q (split p c) (cut p cs), cut_append p (split q c) (cut q cs), cut_split p q c, cut_cut p q cs)

pub cut_cut_all : (p : ℕ) (qs : List ℕ) (cs : List Chunk) → cut_all qs (cut p cs) ≡ cut p (cut_all qs cs)
cut_cut_all p [] cs = refl
cut_cut_all p (q ∷ qs) cs = rw (cut_cut p q cs) (cut_cut_all p qs (cut q cs))

pub cut_all_cut_all : (ps qs : List ℕ) (cs : List Chunk) → cut_all qs (cut_all ps cs) ≡ cut_all ps (cut_all qs cs)
cut_all_cut_all [] qs cs = refl
cut_all_cut_all (p ∷ ps) qs cs = cut_all_cut_all ps qs (cut p cs) ∙ ap (cut_all ps) (cut_cut_all p qs cs)

-- ── what a cut keeps ──
module _ {P : Chunk → Type 0} (p : ℕ) where
  split_keeps : (c : Chunk) → (Contains p c → P (first_half p c) × P (second_half p c)) → P c → All P (split p c)
  split_keeps c f h = go (dec_contains p c)
    where
      go : Dec (Contains p c) → All P (split p c)
      go (yes i) = rw (split_in p c i) (cons (f i).0 (cons (f i).1 nil))
      go (no i) = rw (split_out p c i) (cons h nil)

  pub cut_keeps : ((c : Chunk) → P c → Contains p c → P (first_half p c) × P (second_half p c)) → {cs : List Chunk} → All P cs → All P (cut p cs)
  cut_keeps f nil = nil
  cut_keeps f (cons {x = c} h hs) = all_append (split_keeps c (f c h) h) (cut_keeps f hs)

pub cut_all_keeps : {P : Chunk → Type 0} → ((p : ℕ) (c : Chunk) → P c → Contains p c → P (first_half p c) × P (second_half p c)) → (ps : List ℕ) {cs : List Chunk} → All P cs → All P (cut_all ps cs)
cut_all_keeps f [] h = h
cut_all_keeps f (p ∷ ps) h = cut_all_keeps f ps (cut_keeps p (f p) h)

-- ── no position of ps lies in the chunk ──
abbrev pub Aligned : List ℕ → Chunk → Type 0
Aligned ps c = All (λ p. Contains p c → ⊥) ps

pub aligned_halves : (ps : List ℕ) (q : ℕ) (c : Chunk) → Aligned ps c → Contains q c → Aligned ps (first_half q c) × Aligned ps (second_half q c)
aligned_halves ps q c h i = (all_map (λ p k j. k (omega arith)) h, all_map (λ p k j. k (omega arith)) h)

-- after a cut at p no chunk contains p
pub cut_aligned : (p : ℕ) (cs : List Chunk) → All (λ c. Contains p c → ⊥) (cut p cs)
cut_aligned p [] = nil
cut_aligned p (c ∷ cs) = all_append (go (dec_contains p c)) (cut_aligned p cs)
  where
    go : Dec (Contains p c) → All (λ c. Contains p c → ⊥) (split p c)
    go (yes i) =
        let u : Contains p (first_half p c) → ⊥ = λ h. omega arith in
        let v : Contains p (second_half p c) → ⊥ = λ h. omega arith in
        rw (split_in p c i) (cons u (cons v nil))
    go (no i) = rw (split_out p c i) (cons i nil)

pub cut_all_aligned : (ps : List ℕ) (cs : List Chunk) → All (Aligned ps) (cut_all ps cs)
cut_all_aligned [] cs = all_of (λ c. nil) cs
cut_all_aligned (p ∷ ps) cs =
    all_map₂ (λ c h k. cons h k)
    (cut_all_keeps (λ q c h i. ((λ j. h (omega arith)), (λ j. h (omega arith)))) ps (cut_aligned p cs))
    (cut_all_aligned ps (cut p cs))

-- ── which cuts are refused ──
-- a chunk that contains a position of ps has no replacement, or an empty one
abbrev pub Splittable : List ℕ → Chunk → Type 0
Splittable ps c = All (λ p. Contains p c → is_filled c.texts.edited_content ≡ false) ps

pub splittable_of : (p : ℕ) (c : Chunk) → splittable p c ≡ true → Contains p c → is_filled c.texts.edited_content ≡ false
unfolding splittable
splittable_of p c h i = go (is_filled c.texts.edited_content) (rw (contains_true p c i) at h)
  where
    go : (b : Bool) → not (true && b) ≡ true → b ≡ false
    go true e = sym e
    go false e = refl

pub splittable_true : (p : ℕ) (c : Chunk) → (Contains p c → is_filled c.texts.edited_content ≡ false) → splittable p c ≡ true
unfolding splittable
splittable_true p c h = go (dec_contains p c)
  where
    go : Dec (Contains p c) → not (contains c p && is_filled c.texts.edited_content) ≡ true
    go (yes i) = rw (contains_true p c i, h i)
    go (no i) = rw (contains_false p c i)

pub splittable_halves : (ps : List ℕ) (p : ℕ) (c : Chunk) → Splittable ps c → Contains p c → Splittable ps (first_half p c) × Splittable ps (second_half p c)
splittable_halves ps p c k i = (all_map (λ q m j. m (omega arith)) k, all_map (λ q m j. m (omega arith)) k)

uncut : (p : ℕ) (ps : List ℕ) (cs : List Chunk) → All (λ c. splittable p c ≡ true) cs → All (Splittable ps) (cut p cs) → All (Splittable (p ∷ ps)) cs
uncut p ps [] a b = nil
uncut p ps (c ∷ cs) (cons x xs) b =
    cons (cons (splittable_of p c x) (go (dec_contains p c))) (uncut p ps cs xs (all_back (Splittable ps) (split p c) (cut p cs) b))
  where
    go : Dec (Contains p c) → Splittable ps c
    go (yes i) = all_of (λ q j. splittable_of p c x i) ps
    go (no i) = first_of (rw (split_out p c i) at (all_front (Splittable ps) (split p c) (cut p cs) b))

pub cuttable_of : (ps : List ℕ) (cs : List Chunk) → cuttable ps cs ≡ true → All (Splittable ps) cs
cuttable_of [] cs h = all_of (λ c. nil) cs
cuttable_of (p ∷ ps) cs h =
    let a : All (λ c. splittable p c ≡ true) cs = all_true (splittable p) cs (and_left (all (splittable p) cs) (cuttable ps (cut p cs)) h) in
    let b : All (Splittable ps) (cut p cs) = cuttable_of ps (cut p cs) (and_right (all (splittable p) cs) (cuttable ps (cut p cs)) h) in
    uncut p ps cs a b

pub cuttable_true : (ps : List ℕ) {cs : List Chunk} → All (Splittable ps) cs → cuttable ps cs ≡ true
cuttable_true [] h = refl
cuttable_true (p ∷ ps) h =
    both (true_all (splittable p) (all_map (λ c k. splittable_true p c (first_of k)) h))
    (cuttable_true ps (cut_keeps p (λ c. splittable_halves ps p c) (all_map (λ c k. rest_of k) h)))
