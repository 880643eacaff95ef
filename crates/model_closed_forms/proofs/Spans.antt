-- Laws of what `Spans` in specs/ defines.
use Prim.Native.Nat.{ℕ, ◌+◌, ◌-◌, ◌≤◌, ◌<◌}
use native.Mathlib.Omega.{arith}
use native.Mathlib.Decide.{dec_le, dec_lt}
use mathlib.Core.Path.{◌≡◌, refl, sym, ◌∙◌, subst}
use mathlib.Core.Bool.{true, false}
use mathlib.Core.List.{List, [], ◌∷◌, ◌++◌, map}
use lib.Dec.{ltb, leb}
use borrow.Author.Tests.{ltb-true, leb-true, lt-ltb, le-leb}
use Rattle.utf8.specs.Chars.{All, nil, cons}
use Rattle.model.specs.Text.{Text, sum}
use Rattle.model.specs.Chunk.{Span, Texts, Chunk, with_texts, start_of, end_of, first_half, second_half}
use Rattle.model.specs.MagicString.{MagicString}
use Rattle.model.specs.WellFormed.{covers, Covered, Formed}
use Rattle.model.proofs.Lists.{both, and_left, and_right, false_of, all_of, all_map, all_map₂, sum_append}
use Rattle.model.proofs.Spans.{covers_in, covers_out, covers_halves}
use Rattle.model_closed_forms.specs.Plan.{inside, split, cut, cut_all}
use Rattle.model_closed_forms.proofs.Cuts.{Contains, dec_contains, split_in, split_out, cut_keeps}
use Rattle.model_closed_forms.specs.Spans.{Proper, Tiling, Cover, empty, tiled}

-- ── a range of numbers, from a up to but without b ──
abbrev pub Inside : ℕ → ℕ → ℕ → Type 0
Inside a b x = (a ≤ x) × (x < b)

pub inside_true : (a b x : ℕ) → Inside a b x → inside a b x ≡ true
inside_true a b x h = both (le-leb a x h.0) (lt-ltb x b h.1)

pub inside_of : (a b x : ℕ) → inside a b x ≡ true → Inside a b x
inside_of a b x h = (leb-true a x (and_left (leb a x) (ltb x b) h), ltb-true x b (and_right (leb a x) (ltb x b) h))

pub inside_false : (a b x : ℕ) → (Inside a b x → ⊥) → inside a b x ≡ false
inside_false a b x n = false_of (inside a b x) (inside_of a b x) n

pub dec_inside : (a b x : ℕ) → Dec (Inside a b x)
dec_inside a b x = go (dec_le a x) (dec_lt x b)
  where
    go : Dec (a ≤ x) → Dec (x < b) → Dec (Inside a b x)
    go (yes p) (yes q) = yes (p, q)
    go (yes p) (no q) = no (λ h. q h.1)
    go (no p) _ = no (λ h. p h.0)

-- ── a chunk's bytes ──
-- other texts, the same bytes
pub covers_texts : (x : ℕ) (f : Texts → Texts) (c : Chunk) → covers x (with_texts f c) ≡ covers x c
unfolding covers
covers_texts x f c = refl

-- ── lists ──
-- a sum over chunks that a split keeps is kept by a cut
pub sum_cut : (w : Chunk → ℕ) (p : ℕ) {cs : List Chunk} → All (λ c. Contains p c → w (first_half p c) + w (second_half p c) ≡ w c) cs → sum w (cut p cs) ≡ sum w cs
sum_cut w p nil = refl
sum_cut w p (cons {x = c} {xs = cs} f fs) = go (dec_contains p c) (sum_cut w p fs)
  where
    go : Dec (Contains p c) → sum w (cut p cs) ≡ sum w cs → sum w (split p c ++ cut p cs) ≡ w c + sum w cs
    go (yes i) ih = rw (split_in p c i) (omega (arith, f i))
    go (no i) ih = rw (split_out p c i) (omega arith)

pub covers_cut : (x p : ℕ) (cs : List Chunk) → sum (covers x) (cut p cs) ≡ sum (covers x) cs
covers_cut x p cs = sum_cut (covers x) p (all_of (covers_halves x p) cs)

pub covers_cut_all : (x : ℕ) (ps : List ℕ) (cs : List Chunk) → sum (covers x) (cut_all ps cs) ≡ sum (covers x) cs
covers_cut_all x [] cs = refl
covers_cut_all x (p ∷ ps) cs = covers_cut_all x ps (cut p cs) ∙ covers_cut x p cs

-- f may look at the whole chunk, and gives new texts
pub covers_map : (x : ℕ) (f : Chunk → Texts → Texts) (cs : List Chunk) → sum (covers x) (map (λ c. with_texts (f c) c) cs) ≡ sum (covers x) cs
covers_map x f [] = refl
covers_map x f (c ∷ cs) = omega (arith, covers_texts x (f c) c, covers_map x f cs)

-- no chunk covers a byte that is covered 0 times
pub none_cover : (x : ℕ) (cs : List Chunk) → sum (covers x) cs ≡ 0 → All (λ c. Inside (start_of c) (end_of c) x → ⊥) cs
none_cover x [] h = nil
none_cover x (c ∷ cs) h = cons out (none_cover x cs (omega arith))
  where
    out : Inside (start_of c) (end_of c) x → ⊥
    out i = omega (arith, covers_in x c i)

-- a byte that a chunk of the list covers
pub member_covers : (cs : List Chunk) → All (λ d. (x : ℕ) → Inside (start_of d) (end_of d) x → 1 ≤ sum (covers x) cs) cs
member_covers [] = nil
member_covers (c ∷ cs) =
    let h : (x : ℕ) → Inside (start_of c) (end_of c) x → 1 ≤ covers x c + sum (covers x) cs = λ x i. omega (arith, covers_in x c i) in
    let w : (d : Chunk) → ((x : ℕ) → Inside (start_of d) (end_of d) x → 1 ≤ sum (covers x) cs) → (x : ℕ) → Inside (start_of d) (end_of d) x →
    1 ≤ covers x c + sum (covers x) cs = λ d k x i. omega (arith, k x i) in
    cons h (all_map w (member_covers cs))

-- each chunk covers its own first byte, and its own last
pub self_covered : {cs : List Chunk} → All Proper cs → All (λ d. 1 ≤ sum (covers (start_of d)) cs) cs
self_covered {cs} pr = all_map₂ (λ d p k. k (start_of d) (omega arith)) pr (member_covers cs)

pub end_covered : {cs : List Chunk} → All Proper cs → All (λ d. 1 ≤ sum (covers (end_of d - 1)) cs) cs
end_covered {cs} pr = all_map₂ (λ d p k. k (end_of d - 1) (omega arith)) pr (member_covers cs)

-- ── each byte is covered at most once ──
abbrev pub Once : List Chunk → Type 0
Once cs = (x : ℕ) → sum (covers x) cs ≤ 1

-- then no other chunk starts, or ends, where one does
pub one_start : (c : Chunk) (cs : List Chunk) → Once (c ∷ cs) → All Proper (c ∷ cs) → All (λ d. start_of d ≡ start_of c → ⊥) cs
one_start c cs o (cons p pr) =
    let w : (d : Chunk) → 1 ≤ sum (covers (start_of d)) cs → start_of d ≡ start_of c → ⊥ = λ d k e. omega (arith, o (start_of d), covers_in (start_of d) c (omega arith)) in
    all_map w (self_covered pr)

pub one_end : (c : Chunk) (cs : List Chunk) → Once (c ∷ cs) → All Proper (c ∷ cs) → All (λ d. end_of d ≡ end_of c → ⊥) cs
one_end c cs o (cons p pr) =
    let w : (d : Chunk) → 1 ≤ sum (covers (end_of d - 1)) cs → end_of d ≡ end_of c → ⊥ = λ d k e. omega (arith, o (end_of d - 1), covers_in (end_of d - 1) c (omega arith)) in
    all_map w (end_covered pr)

pub once_rest : (c : Chunk) (cs : List Chunk) → Once (c ∷ cs) → Once cs
once_rest c cs o x = omega (arith, o x)

-- no other chunk has a byte that this one has
pub others : (x : ℕ) (xs : List Chunk) (c : Chunk) (ys : List Chunk) → Once (xs ++ c ∷ ys) → Inside (start_of c) (end_of c) x
    → All (λ d. Inside (start_of d) (end_of d) x → ⊥) xs × All (λ d. Inside (start_of d) (end_of d) x → ⊥) ys
others x xs c ys o i =
    let a = sum_append (covers x) xs (c ∷ ys) in
    let b = covers_in x c i in
    let n = o x in
    (none_cover x xs (omega arith), none_cover x ys (omega arith))

-- ── the spans of a desk over a source of n bytes that is not empty ──
none_past : (n x : ℕ) → n ≤ x → {cs : List Chunk} → All (λ c. end_of c ≤ n) cs → sum (covers x) cs ≡ 0
none_past n x l nil = refl
none_past n x l (cons {x = c} h hs) = rw (covers_out x c (λ i. omega arith), none_past n x l hs)

pub tiling_once : {n : ℕ} {cs : List Chunk} → Tiling n cs → Once cs
tiling_once {n} {cs} t x = go (dec_lt x n)
  where
    go : Dec (x < n) → sum (covers x) cs ≤ 1
    go (yes h) = omega (arith, t.exact x h)
    go (no h) = omega (arith, none_past n x (omega arith) t.within)

pub tiling_cut : {n : ℕ} {cs : List Chunk} (p : ℕ) → Tiling n cs → Tiling n (cut p cs)
tiling_cut {n} {cs} p t = record {
  proper = cut_keeps p (λ c h i. (i.0, i.1)) t.proper;
  within = cut_keeps p (λ c h i. (omega arith, h)) t.within;
  exact = λ x h. covers_cut x p cs ∙ t.exact x h;
}

-- ── a well-formed desk's spans: a tiling, or the one chunk of an empty source ──
span_of_none : {A : Type 0} {x : A} {l : List A} → [] ≡ x ∷ l → ⊥
span_of_none e = let z : ◌≡◌ {A = ℕ} 0 1 = cc in omega arith

pub cover_of : (source : Text) (cs : List Chunk) → Covered source cs → Cover source cs
cover_of [] [] h = absurd (span_of_none h)
cover_of [] (c ∷ []) h =
    let e : c.span ≡ record { start = 0; end = 0 } = cc in
    subst (λ (s : Span). Cover [] (record { span = s; frozen = c.frozen; texts = c.texts } ∷ [])) (sym e) (empty c.frozen c.texts)
cover_of [] (c ∷ d ∷ l) h = let e : ◌≡◌ {A = List Span} [] (d.span ∷ map (λ x. x.span) l) = cc in absurd (span_of_none e)
cover_of (a ∷ s) cs h =
    tiled {source = a ∷ s} (omega arith) (record { proper = all_map (λ c p. p.proper) h.spans; within = all_map (λ c p. p.inside) h.spans; exact = h.once })

pub formed_cover : {m : MagicString} → Formed m → Cover m.source m.chunks
formed_cover {m} f = cover_of m.source m.chunks f.covered
