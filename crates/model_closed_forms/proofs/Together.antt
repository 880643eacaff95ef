-- A range whose chunks stand together in the list: the test, and the list taken apart around the range.
use Prim.Native.Nat.{ℕ, ◌+◌, ◌≤◌, ◌<◌}
use native.Mathlib.Omega.{arith}
use native.Mathlib.Decide.{dec_lt, ℕ_discrete}
use mathlib.Core.Path.{◌≡◌, refl, ap, sym, ◌∙◌}
use mathlib.Core.Bool.{Bool, true, false, ◌&&◌, cond, or-false}
use mathlib.Core.List.{List, [], ◌∷◌, ◌++◌, append_assoc}
use mathlib.Core.Logic.{◌⊎◌, inl, inr}
use lib.Dec.{eqb}
use borrow.Author.Tests.{eqb-true, eq-eqb, ne_eqb}
use Rattle.utf8.specs.Chars.{All, nil, cons}
use Rattle.model.specs.Text.{sum}
use Rattle.model.specs.Chunk.{Chunk, start_of, end_of}
use Rattle.model.specs.Movement.{insert_before}
use Rattle.model.specs.WellFormed.{covers}
use Rattle.model.proofs.Lists.{both, and_left, and_right, or_cases, or_left, or_right, rest_of, all_map, sum_append}
use Rattle.model.proofs.Spans.{covers_in}
use Rattle.model_closed_forms.specs.Plan.{keep, ascends, stands_together}
use Rattle.model_closed_forms.proofs.Spans.{Inside, Once, once_rest, one_start}
use Rattle.model_closed_forms.specs.Spans.{Proper}

-- cs covers the range from a up to b in ascending order
abbrev pub Tiles : ℕ → ℕ → List Chunk → Type 0
Tiles a b [] = a ≡ b
Tiles a b (c ∷ cs) = (start_of c ≡ a) × (start_of c < end_of c) × Tiles (end_of c) b cs

-- the list as what stands before the range, the range, and what stands behind it
pub record Together (a b : ℕ) (cs : List Chunk) : Type 0 where
  pub before : List Chunk
  pub range : List Chunk
  pub behind : List Chunk
  pub parts : cs ≡ before ++ (range ++ behind)
  pub tiles : Tiles a b range

pub together_at : (a b : ℕ) (xs ys zs : List Chunk) → Tiles a b ys → Together a b (xs ++ (ys ++ zs))
together_at a b xs ys zs t = record { before = xs; range = ys; behind = zs; parts = refl; tiles = t }

pub together_after : (a b : ℕ) (l : List Chunk) {cs : List Chunk} → Together a b cs → Together a b (l ++ cs)
together_after a b l g = record {
  before = l ++ g.before;
  range = g.range;
  behind = g.behind;
  parts = ap (λ k. l ++ k) g.parts ∙ sym (append_assoc l g.before (g.range ++ g.behind));
  tiles = g.tiles;
}

-- ── the test ──
record Begins (a b : ℕ) (cs : List Chunk) : Type 0 where
  range : List Chunk
  behind : List Chunk
  parts : cs ≡ range ++ behind
  tiles : Tiles a b range

begins_of : (a b : ℕ) (cs : List Chunk) → All Proper cs → ascends a b cs ≡ true → Begins a b cs
begins_of a b [] pr h = record { range = []; behind = []; parts = refl; tiles = eqb-true a b h }
begins_of a b (c ∷ cs) (cons p pr) h = go (or_cases (eqb a b) (eqb (start_of c) a && ascends (end_of c) b cs) h) (begins_of (end_of c) b cs pr)
  where
    go : (eqb a b ≡ true) ⊎ (eqb (start_of c) a && ascends (end_of c) b cs ≡ true) → (ascends (end_of c) b cs ≡ true → Begins (end_of c) b cs) → Begins a b (c ∷ cs)
    go (inl e) ih = record { range = []; behind = c ∷ cs; parts = refl; tiles = eqb-true a b e }
    go (inr e) ih =
        let r : Begins (end_of c) b cs = ih (and_right (eqb (start_of c) a) (ascends (end_of c) b cs) e) in
        record {
          range = c ∷ r.range;
          behind = r.behind;
          parts = ap (λ l. c ∷ l) r.parts;
          tiles = (eqb-true (start_of c) a (and_left (eqb (start_of c) a) (ascends (end_of c) b cs) e), p, r.tiles);
        }

pub together_of : (a b : ℕ) (cs : List Chunk) → All Proper cs → stands_together a b cs ≡ true → Together a b cs
together_of a b [] pr h = record { before = []; range = []; behind = []; parts = refl; tiles = eqb-true a b h }
together_of a b (c ∷ cs) pr h = go (or_cases (ascends a b (c ∷ cs)) (stands_together a b cs) h) (together_of a b cs (rest_of pr))
  where
    go : (ascends a b (c ∷ cs) ≡ true) ⊎ (stands_together a b cs ≡ true) → (stands_together a b cs ≡ true → Together a b cs) → Together a b (c ∷ cs)
    go (inl e) ih =
        let r : Begins a b (c ∷ cs) = begins_of a b (c ∷ cs) pr e in
        record { before = []; range = r.range; behind = r.behind; parts = r.parts; tiles = r.tiles }
    go (inr e) ih = together_after a b (c ∷ []) (ih e)

tiles_ascends : (a b : ℕ) (ys zs : List Chunk) → Tiles a b ys → ascends a b (ys ++ zs) ≡ true
tiles_ascends a b [] [] t = eq-eqb a b t
tiles_ascends a b [] (z ∷ zs) t = or_left (eqb a b) (eqb (start_of z) a && ascends (end_of z) b zs) (eq-eqb a b t)
tiles_ascends a b (c ∷ ys) zs t =
    or_right (eqb a b) (eqb (start_of c) a && ascends (end_of c) b (ys ++ zs))
    (both (eq-eqb (start_of c) a t.0) (tiles_ascends (end_of c) b ys zs t.2))

ascends_together : (a b : ℕ) (cs : List Chunk) → ascends a b cs ≡ true → stands_together a b cs ≡ true
ascends_together a b [] h = h
ascends_together a b (c ∷ cs) h = or_left (ascends a b (c ∷ cs)) (stands_together a b cs) h

at_together : (a b : ℕ) (xs ys zs : List Chunk) → Tiles a b ys → stands_together a b (xs ++ (ys ++ zs)) ≡ true
at_together a b [] ys zs t = ascends_together a b (ys ++ zs) (tiles_ascends a b ys zs t)
at_together a b (x ∷ xs) ys zs t = or_right (ascends a b (x ∷ (xs ++ (ys ++ zs)))) (stands_together a b (xs ++ (ys ++ zs))) (at_together a b xs ys zs t)

pub together_true : (a b : ℕ) {cs : List Chunk} → Together a b cs → stands_together a b cs ≡ true
together_true a b g = ap (stands_together a b) g.parts ∙ at_together a b g.before g.range g.behind g.tiles

-- ── what tiles a range ──
pub tiles_le : (a b : ℕ) (ys : List Chunk) → Tiles a b ys → a ≤ b
tiles_le a b [] t = omega arith
tiles_le a b (c ∷ ys) t = omega (arith, tiles_le (end_of c) b ys t.2)

pub tiles_inside : (a b : ℕ) (ys : List Chunk) → Tiles a b ys → All (λ c. Inside a b (start_of c)) ys
tiles_inside a b [] t = nil
tiles_inside a b (c ∷ ys) t =
    let h : Inside a b (start_of c) = omega (arith, tiles_le (end_of c) b ys t.2) in
    let w : (d : Chunk) → Inside (end_of c) b (start_of d) → Inside a b (start_of d) = λ d k. omega arith in
    cons h (all_map w (tiles_inside (end_of c) b ys t.2))

pub tiles_cover : (a b x : ℕ) (ys : List Chunk) → Tiles a b ys → a ≤ x → x < b → 1 ≤ sum (covers x) ys
tiles_cover a b x [] t l h = absurd (omega arith)
tiles_cover a b x (c ∷ ys) t l h = go (dec_lt x (end_of c)) (tiles_cover (end_of c) b x ys t.2)
  where
    go : Dec (x < end_of c) → (end_of c ≤ x → x < b → 1 ≤ sum (covers x) ys) → 1 ≤ covers x c + sum (covers x) ys
    go (yes k) ih = omega (arith, covers_in x c (omega arith))
    go (no k) ih = omega (arith, ih (omega arith) h)

pub together_cover : (a b x : ℕ) (cs : List Chunk) → Together a b cs → a ≤ x → x < b → 1 ≤ sum (covers x) cs
together_cover a b x cs g l h =
    omega (
      arith,
      ap (sum (covers x)) g.parts,
      sum_append (covers x) g.before (g.range ++ g.behind),
      sum_append (covers x) g.range g.behind,
      tiles_cover a b x g.range g.tiles l h,
    )

-- ── the walk of 7 and 9: from the chunk that starts at a ──
abbrev pub ascends_from : ℕ → ℕ → List Chunk → Bool
ascends_from a b [] = false
ascends_from a b (c ∷ cs) = cond (eqb (start_of c) a) (ascends (end_of c) b cs) (ascends_from a b cs)

apart_from : (a b : ℕ) → (a ≡ b → ⊥) → {cs : List Chunk} → All (λ d. start_of d ≡ a → ⊥) cs → stands_together a b cs ≡ false
apart_from a b n nil = ne_eqb a b n
apart_from a b n (cons {x = c} m ms) = rw (ne_eqb a b n, ne_eqb (start_of c) a m, apart_from a b n ms)

pub ascends_from_is_together : (a b : ℕ) (cs : List Chunk) → (a ≡ b → ⊥) → Once cs → All Proper cs → ascends_from a b cs ≡ stands_together a b cs
ascends_from_is_together a b [] n o pr = sym (ne_eqb a b n)
ascends_from_is_together a b (c ∷ cs) n o pr = go (ℕ_discrete (start_of c) a) (ascends_from_is_together a b cs n (once_rest c cs o) (rest_of pr))
  where
    go : Dec (start_of c ≡ a) → ascends_from a b cs ≡ stands_together a b cs → ascends_from a b (c ∷ cs) ≡ stands_together a b (c ∷ cs)
    go (yes e) ih =
        let u : All (λ d. start_of d ≡ a → ⊥) cs = all_map (λ d k j. k (j ∙ sym e)) (one_start c cs o pr) in
        rw (eq-eqb (start_of c) a e, ne_eqb a b n, apart_from a b n u) (sym (or-false (ascends (end_of c) b cs)))
    go (no e) ih = rw (ne_eqb (start_of c) a e, ne_eqb a b n) ih

pub ascends_le : (y b : ℕ) {cs : List Chunk} → All Proper cs → ascends y b cs ≡ true → y ≤ b
ascends_le y b nil h = let e : y ≡ b = eqb-true y b h in omega arith
ascends_le y b (cons {x = c} {xs = cs} p pr) h = go (or_cases (eqb y b) (eqb (start_of c) y && ascends (end_of c) b cs) h) (ascends_le (end_of c) b pr)
  where
    go : (eqb y b ≡ true) ⊎ (eqb (start_of c) y && ascends (end_of c) b cs ≡ true) → (ascends (end_of c) b cs ≡ true → end_of c ≤ b) → y ≤ b
    go (inl k) ih = let e : y ≡ b = eqb-true y b k in omega arith
    go (inr k) ih =
        let e : start_of c ≡ y = eqb-true (start_of c) y (and_left (eqb (start_of c) y) (ascends (end_of c) b cs) k) in
        omega (arith, ih (and_right (eqb (start_of c) y) (ascends (end_of c) b cs) k))

-- ── the chunks of a range, and the others ──
pub keep_append : (f : ℕ → Bool) (xs ys : List Chunk) → keep f (xs ++ ys) ≡ keep f xs ++ keep f ys
keep_append f [] ys = refl
keep_append f (x ∷ xs) ys = rw (keep_append f xs ys) (go (f (start_of x)))
  where
    go : (b : Bool) → cond b (x ∷ (keep f xs ++ keep f ys)) (keep f xs ++ keep f ys) ≡ cond b (x ∷ keep f xs) (keep f xs) ++ keep f ys
    go true = refl
    go false = refl

pub keep_every : (f : ℕ → Bool) {ys : List Chunk} → All (λ c. f (start_of c) ≡ true) ys → keep f ys ≡ ys
keep_every f nil = refl
keep_every f (cons {x = c} e es) = rw (e, keep_every f es)

pub keep_no : (f : ℕ → Bool) {ys : List Chunk} → All (λ c. f (start_of c) ≡ false) ys → keep f ys ≡ []
keep_no f nil = refl
keep_no f (cons {x = c} e es) = rw (e, keep_no f es)

pub insert_skips : (to : ℕ) (range zs : List Chunk) {ys : List Chunk} → All (λ c. start_of c ≡ to → ⊥) ys → insert_before to range (ys ++ zs) ≡ ys ++ insert_before to range zs
insert_skips to range zs nil = refl
insert_skips to range zs (cons {x = c} n ns) = rw (ne_eqb (start_of c) to n, insert_skips to range zs ns)
