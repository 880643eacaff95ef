-- Laws of what `Ring` in specs/ defines.
use mathlib.Core.Path.{◌≡◌, refl, sym, ap, ap₂, ◌∙◌}
use mathlib.Core.List.{List, [], ◌∷◌, ◌++◌, map}
use Prim.Native.Nat.{ℕ, zero, suc, ◌+◌, ◌≤◌, ◌<◌}
use native.Mathlib.Nat.{le_of_suc-le-suc, not-suc-le-zero}
use native.Mathlib.Omega.{arith}
use lib.ListN.{length, get_or, drop, length-drop, length-append}
use Rattle.memory_table.specs.Ring.{Each, Not, follow, Edge, Links, Ring}

module _ {ℓ} {A : Type ℓ} (P : A → Type 0) where
  pub each_append : (xs ys : List A) → Each P xs → Each P ys → Each P (xs ++ ys)
  each_append [] ys p q = q
  each_append (x ∷ xs) ys p q = (p.0, each_append xs ys p.1 q)

  pub each_left : (xs ys : List A) → Each P (xs ++ ys) → Each P xs
  each_left [] ys p = tt
  each_left (x ∷ xs) ys p = (p.0, each_left xs ys p.1)

  pub each_right : (xs ys : List A) → Each P (xs ++ ys) → Each P ys
  each_right [] ys p = p
  each_right (x ∷ xs) ys p = each_right xs ys p.1

  pub each_at : (xs : List A) (d : A) (k : ℕ) → Each P xs → k < length xs → P (get_or xs k d)
  each_at [] d k p h = absurd (not-suc-le-zero h)
  each_at (x ∷ xs) d zero p h = p.0
  each_at (x ∷ xs) d (suc k) p h = each_at xs d k p.1 (le_of_suc-le-suc h)

  pub each_of : (xs : List A) (d : A) → ((k : ℕ) → k < length xs → P (get_or xs k d)) → Each P xs
  each_of [] d f = tt
  each_of (x ∷ xs) d f = (f 0 (omega arith), each_of xs d (λ k h. f (suc k) (omega arith)))

pub each_both {ℓ} : {A : Type ℓ} (P Q : A → Type 0) (xs : List A) → Each P xs → Each Q xs → Each (λ x. P x × Q x) xs
each_both P Q [] p q = tt
each_both P Q (x ∷ xs) p q = ((p.0, q.0), each_both P Q xs p.1 q.1)

abbrev pub Pos : ℕ → Type 0
Pos x = 0 < x

pub each_map {ℓ} : {A : Type ℓ} (P Q : A → Type 0) → ((a : A) → P a → Q a) → (xs : List A) → Each P xs → Each Q xs
each_map P Q f [] p = tt
each_map P Q f (x ∷ xs) p = (f x p.0, each_map P Q f xs p.1)

-- two functions that agree on every element
pub map_same : {B : Type 0} (f g : ℕ → B) (xs : List ℕ) → Each (λ x. f x ≡ g x) xs → map f xs ≡ map g xs
map_same f g [] e = refl
map_same {B} f g (x ∷ xs) e = ap₂ (λ (a : B) (l : List B). a ∷ l) e.0 (map_same f g xs e.1)

walk : (ℕ → ℕ) → ℕ → ℕ → ℕ
walk nx zero i = i
walk nx (suc n) i = walk nx n (nx i)

pub length_follow : (nx : ℕ → ℕ) (n i : ℕ) → length (follow nx n i) ≡ n
length_follow nx zero i = refl
length_follow nx (suc n) i = ap suc (length_follow nx n (nx i))

module _ (nx pv : ℕ → ℕ) where
  -- the order is what the links say
  pub follow_links : (i : ℕ) (xs : List ℕ) (j : ℕ) → Links (Edge nx pv) i xs j → follow nx (length xs) (nx i) ≡ xs
  follow_links i [] j l = refl
  follow_links i (x ∷ xs) j l =
      ap (λ (y : ℕ). y ∷ follow nx (length xs) (nx y)) l.0.fwd ∙ ap (λ (ys : List ℕ). x ∷ ys) (follow_links x xs j l.1)

  walk_end : (i : ℕ) (xs : List ℕ) (j : ℕ) → Links (Edge nx pv) i xs j → walk nx (suc (length xs)) i ≡ j
  unfolding walk
  walk_end i [] j l = l.fwd
  walk_end i (x ∷ xs) j l = ap (walk nx (suc (length xs))) l.0.fwd ∙ walk_end x xs j l.1

  walk_at : (i : ℕ) (xs : List ℕ) (j k : ℕ) → Links (Edge nx pv) i xs j → k < length xs → walk nx (suc k) i ≡ get_or xs k 0
  unfolding walk
  walk_at i [] j k l h = absurd (not-suc-le-zero h)
  walk_at i (x ∷ xs) j zero l h = l.0.fwd
  walk_at i (x ∷ xs) j (suc k) l h = ap (walk nx (suc k)) l.0.fwd ∙ walk_at x xs j k l.1 (le_of_suc-le-suc h)

  links_drop : (i : ℕ) (xs : List ℕ) (j k : ℕ) → Links (Edge nx pv) i xs j → k < length xs
      → Links (Edge nx pv) (get_or xs k 0) (drop (suc k) xs) j
  links_drop i [] j k l h = absurd (not-suc-le-zero h)
  links_drop i (x ∷ xs) j zero l h = l.1
  links_drop i (x ∷ xs) j (suc k) l h = links_drop x xs j k l.1 (le_of_suc-le-suc h)

  -- an index does not come again before the sentinel
  pub later : (i : ℕ) (xs : List ℕ) → Links (Edge nx pv) i xs 0 → Each Pos xs → Each (Not i) xs
  later i xs l p =
      each_of (Not i) xs 0 λ k h e.
      let m = length (drop (suc k) xs) in
      let lm : m < length xs = omega (arith, length-drop (suc k) xs) in
      let z : get_or xs m 0 ≡ 0 =
      sym (walk_at i xs 0 m l lm) ∙ ap (walk nx (suc m)) (sym e) ∙ walk_end (get_or xs k 0) (drop (suc k) xs) 0 (links_drop i xs 0 k l h) in
      let q : 0 < get_or xs m 0 = each_at Pos xs 0 m p lm in
      omega arith

  pub earlier : (h : ℕ) (us : List ℕ) (i : ℕ) (bs : List ℕ) → Links (Edge nx pv) h (us ++ i ∷ bs) 0 → Each Pos (us ++ i ∷ bs) → Each (Not i) us
  earlier h [] i bs l p = tt
  earlier h (x ∷ us) i bs l p =
      (λ e. (each_right (Not x) us (i ∷ bs) (later x (us ++ i ∷ bs) l.1 p.1)).0 (sym e), earlier x us i bs l.1 p.1)

  pub first_back : (i : ℕ) (xs : List ℕ) (j : ℕ) → Links (Edge nx pv) i xs j → pv (nx i) ≡ i
  first_back i [] j l = ap pv l.fwd ∙ l.bwd
  first_back i (x ∷ xs) j l = ap pv l.0.fwd ∙ l.0.bwd

module _ (E : ℕ → ℕ → Type 0) where
  pub links_append : (i : ℕ) (xs : List ℕ) (y : ℕ) (ys : List ℕ) (j : ℕ) → Links E i xs y → Links E y ys j → Links E i (xs ++ y ∷ ys) j
  links_append i [] y ys j l m = (l, m)
  links_append i (x ∷ xs) y ys j l m = (l.0, links_append x xs y ys j l.1 m)

  pub links_left : (i : ℕ) (xs : List ℕ) (y : ℕ) (ys : List ℕ) (j : ℕ) → Links E i (xs ++ y ∷ ys) j → Links E i xs y
  links_left i [] y ys j l = l.0
  links_left i (x ∷ xs) y ys j l = (l.0, links_left x xs y ys j l.1)

  pub links_right : (i : ℕ) (xs : List ℕ) (y : ℕ) (ys : List ℕ) (j : ℕ) → Links E i (xs ++ y ∷ ys) j → Links E y ys j
  links_right i [] y ys j l = l.1
  links_right i (x ∷ xs) y ys j l = links_right x xs y ys j l.1

-- links that hold elsewhere still hold; the first one may be another
module _ (E E' : ℕ → ℕ → Type 0) (P Q : ℕ → Type 0) (f : (a b : ℕ) → P a → Q b → E a b → E' a b) where
  pub links_keep : (i : ℕ) (xs : List ℕ) (j : ℕ) → P i → Each P xs → Each Q xs → Q j → Links E i xs j → Links E' i xs j
  links_keep i [] j p ps qs q l = f i j p q l
  links_keep i (x ∷ xs) j p ps qs q l = (f i x p qs.0 l.0, links_keep x xs j ps.0 ps.1 qs.1 q l.1)

  pub links_first : (i n : ℕ) (xs : List ℕ) (j : ℕ) → ((b : ℕ) → Q b → E i b → E' n b) → Each P xs → Each Q xs → Q j → Links E i xs j → Links E' n xs j
  links_first i n [] j g ps qs q l = g j q l
  links_first i n (x ∷ xs) j g ps qs q l = (g x qs.0 l.0, links_keep x xs j ps.0 ps.1 qs.1 q l.1)

-- n goes in after i
pub record Inserted (nx pv nx' pv' : ℕ → ℕ) (i n : ℕ) : Type 0 where
  pub next_i : nx' i ≡ n
  pub next_n : nx' n ≡ nx i
  pub next_a : (a : ℕ) → Not i a → Not n a → nx' a ≡ nx a
  pub prev_n : pv' n ≡ i
  pub prev_q : pv' (nx i) ≡ n
  pub prev_b : (b : ℕ) → Not (nx i) b → Not n b → pv' b ≡ pv b

module _ (nx pv nx' pv' : ℕ → ℕ) (us : List ℕ) (i : ℕ) (bs : List ℕ) (n : ℕ)
    (l : Links (Edge nx pv) 0 (us ++ i ∷ bs) 0) (pos : Each Pos (us ++ i ∷ bs)) (new : Each (Not n) (us ++ i ∷ bs)) (n0 : 0 ≡ n → ⊥)
    (d : Inserted nx pv nx' pv' i n) where
  pub insert_links : Links (Edge nx' pv') 0 (us ++ i ∷ n ∷ bs) 0
  insert_links =
      let E = Edge nx pv in
      let E' = Edge nx' pv' in
      let P : ℕ → Type 0 = λ x. Not i x × Not n x in
      let li = links_right E 0 us i bs 0 l in
      let ip = (each_right Pos us (i ∷ bs) pos).0 in
      let back = first_back nx pv i bs 0 li in
      let f : (a b : ℕ) → P a → Not n b → E a b → E' a b =
      λ a b p q e.
      record {
        fwd = d.next_a a p.0 p.1 ∙ e.fwd;
        bwd = d.prev_b b (λ h. p.0 (sym e.bwd ∙ ap pv h ∙ back)) q ∙ e.bwd;
      } in
      let ni = each_right (Not n) us (i ∷ bs) new in
      let a0 : Not i 0 = λ h. omega arith in
      links_append E' 0 us i (n ∷ bs) 0
      (links_keep E E' P (Not n) f 0 us i (a0, n0)
      (each_both (Not i) (Not n) us (earlier nx pv 0 us i bs l pos) (each_left (Not n) us (i ∷ bs) new))
      (each_left (Not n) us (i ∷ bs) new) ni.0 (links_left E 0 us i bs 0 l)) (
        record { fwd = d.next_i; bwd = d.prev_n },
        links_first E E' P (Not n) f i n bs 0
            (λ b q e. record { fwd = d.next_n ∙ e.fwd; bwd = ap pv' (sym e.fwd) ∙ d.prev_q })
            (each_both (Not i) (Not n) bs (later nx pv i bs li (each_right Pos us (i ∷ bs) pos).1) ni.1)
            ni.1 n0 li,
      )

-- a ring known by its order
pub ring_of : (nx pv : ℕ → ℕ) (n : ℕ) (xs : List ℕ) → length xs ≡ n → Links (Edge nx pv) 0 xs 0 → Each (λ x. (0 < x) × (x ≤ n)) xs
    → (follow nx n (nx 0) ≡ xs) × Ring nx pv n
ring_of nx pv n xs e l p =
    let o : follow nx n (nx 0) ≡ xs = ap (λ (m : ℕ). follow nx m (nx 0)) (sym e) ∙ follow_links nx pv 0 xs 0 l in
    (o, record { links = rw o l; inside = rw o p })

-- a new chunk, n + 1, after i
pub ring_insert : (nx pv nx' pv' : ℕ → ℕ) (n : ℕ) (us : List ℕ) (i : ℕ) (bs : List ℕ) → Ring nx pv n → follow nx n (nx 0) ≡ us ++ i ∷ bs
    → Inserted nx pv nx' pv' i (n + 1)
    → (follow nx' (n + 1) (nx' 0) ≡ us ++ i ∷ (n + 1) ∷ bs) × Ring nx' pv' (n + 1)
ring_insert nx pv nx' pv' n us i bs r o d =
    let P : ℕ → Type 0 = λ x. (0 < x) × (x ≤ n) in
    let P' : ℕ → Type 0 = λ x. (0 < x) × (x ≤ n + 1) in
    let p : Each P (us ++ i ∷ bs) = rw o at r.inside in
    let p' : Each P' (us ++ i ∷ bs) = each_map P P' (λ a h. omega arith) (us ++ i ∷ bs) p in
    let q = each_right P' us (i ∷ bs) p' in
    let e : length (us ++ i ∷ bs) ≡ n = sym (ap length o) ∙ length_follow nx n (nx 0) in
    ring_of nx' pv' (n + 1) (us ++ i ∷ (n + 1) ∷ bs) (omega (arith, e, length-append us (i ∷ bs), length-append us (i ∷ (n + 1) ∷ bs)))
    (insert_links nx pv nx' pv' us i bs (n + 1) (rw o at r.links)
    (each_map P Pos (λ a h. h.0) (us ++ i ∷ bs) p)
    (each_map P (Not (n + 1)) (λ a h e. omega arith) (us ++ i ∷ bs) p)
    (λ e. omega arith) d)
    (each_append P' us (i ∷ (n + 1) ∷ bs) (each_left P' us (i ∷ bs) p') (q.0, ((omega arith, omega arith), q.1)))

pub next_le : (nx pv : ℕ → ℕ) (n i : ℕ) (bs : List ℕ) → Links (Edge nx pv) i bs 0 → Each (λ x. (0 < x) × (x ≤ n)) bs → nx i ≤ n
next_le nx pv n i [] l p = omega (arith, l.fwd)
next_le nx pv n i (x ∷ bs) l p = omega (arith, l.0.fwd, p.0)
