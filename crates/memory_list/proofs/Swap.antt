-- Laws of what `Swap` in specs/ defines.
use mathlib.Core.Path.{◌≡◌, refl, sym, ap, ◌∙◌, subst}
use mathlib.Core.List.{List, [], ◌∷◌, ◌++◌}
use Prim.Native.Nat.{ℕ, ◌≤◌, ◌<◌}
use native.Mathlib.Omega.{arith}
use lib.ListN.{length, length-append}
use Rattle.memory_table.specs.Ring.{Each, Not, follow, Edge, Links, Ring}
use Rattle.memory_table.proofs.Ring.{each_append, each_left, each_right, each_map, each_both, Pos, length_follow, later, links_left, links_right, links_append, ring_of}
use Rattle.memory_list.specs.Swap.{last_of}

-- the sources of the links from i through xs: all but the last, and the last
abbrev pub inits : ℕ → List ℕ → List ℕ
inits i [] = []
inits i (x ∷ xs) = i ∷ inits x xs

inits_last : (i : ℕ) (xs zs : List ℕ) → i ∷ (xs ++ zs) ≡ inits i xs ++ last_of i xs ∷ zs
inits_last i [] zs = refl
inits_last i (x ∷ xs) zs = ap (λ (l : List ℕ). i ∷ l) (inits_last x xs zs)

-- no element twice
abbrev pub Distinct : List ℕ → Type 0
Distinct [] = Unit {0}
Distinct (x ∷ xs) = Each (Not x) xs × Distinct xs

distinct : (nx pv : ℕ → ℕ) (i : ℕ) (xs : List ℕ) → Links (Edge nx pv) i xs 0 → Each Pos xs → Distinct (i ∷ xs)
distinct nx pv i [] l p = (tt, tt)
distinct nx pv i (x ∷ xs) l p = (later nx pv i (x ∷ xs) l p, distinct nx pv x xs l.1 p.1)

-- each of the first is none of the second
cross : (xs ys : List ℕ) → Distinct (xs ++ ys) → Each (λ x. Each (Not x) ys) xs × Distinct ys
cross [] ys d = (tt, d)
cross (x ∷ xs) ys d =
    let r = cross xs ys d.1 in
    ((each_right (Not x) xs ys d.0, r.0), r.1)

each_three : (P Q R : ℕ → Type 0) (xs : List ℕ) → Each P xs → Each Q xs → Each R xs → Each (λ x. P x × Q x × R x) xs
each_three P Q R [] p q r = tt
each_three P Q R (x ∷ xs) p q r = ((p.0, q.0, r.0), each_three P Q R xs p.1 q.1 r.1)

-- a list of links cut anywhere: up to y, and from y on
abbrev pub Tail : (ℕ → ℕ → Type 0) → ℕ → List ℕ → ℕ → Type 0
Tail E y [] j = y ≡ j
Tail E y (z ∷ zs) j = (y ≡ z) × Links E z zs j

module _ (E : ℕ → ℕ → Type 0) where
  tail_of : (i : ℕ) (ys : List ℕ) (j : ℕ) → Links E i ys j → (y : ℕ) × E i y × Tail E y ys j
  tail_of i [] j l = (j, l, refl)
  tail_of i (z ∷ zs) j l = (z, l.0, (refl, l.1))

  pub links_split : (i : ℕ) (xs ys : List ℕ) (j : ℕ) → Links E i (xs ++ ys) j → (y : ℕ) × Links E i xs y × Tail E y ys j
  links_split i [] ys j l = tail_of i ys j l
  links_split i (x ∷ xs) ys j l = let r = links_split x xs ys j l.1 in (r.0, (l.0, r.1), r.2)

  of_tail : (i : ℕ) (ys : List ℕ) (y j : ℕ) → E i y → Tail E y ys j → Links E i ys j
  of_tail i [] y j e t = subst (E i) t e
  of_tail i (z ∷ zs) y j e t = (subst (E i) t.0 e, t.1)

  links_join : (i : ℕ) (xs ys : List ℕ) (y j : ℕ) → Links E i xs y → Tail E y ys j → Links E i (xs ++ ys) j
  links_join i [] ys y j l t = of_tail i ys y j l t
  links_join i (x ∷ xs) ys y j l t = (l.0, links_join x xs ys y j l.1 t)

-- all links but the last are kept, and the last goes elsewhere
module _ (E E' : ℕ → ℕ → Type 0) (P : ℕ → Type 0) (f : (a b : ℕ) → P a → E a b → E' a b) where
  links_last : (i : ℕ) (xs : List ℕ) (j j' : ℕ) → Each P (inits i xs) → (E (last_of i xs) j → E' (last_of i xs) j') → Links E i xs j → Links E' i xs j'
  links_last i [] j j' p g l = g l
  links_last i (x ∷ xs) j j' p g l = (f i x p.0 l.0, links_last x xs j j' p.1 g l.1)

  keep_each : (i : ℕ) (xs : List ℕ) (j : ℕ) → P i → Each P xs → Links E i xs j → Links E' i xs j
  keep_each i [] j p ps l = f i j p l
  keep_each i (x ∷ xs) j p ps l = (f i x p l.0, keep_each x xs j ps.0 ps.1 l.1)

  keep_tail : (y : ℕ) (ys : List ℕ) (j : ℕ) → Each P ys → Tail E y ys j → Tail E' y ys j
  keep_tail y [] j p t = t
  keep_tail y (z ∷ zs) j p t = (t.0, keep_each z zs j p.0 p.1 t.1)

pub last_edge : (E : ℕ → ℕ → Type 0) (i : ℕ) (xs : List ℕ) (j : ℕ) → Links E i xs j → E (last_of i xs) j
last_edge E i [] j l = l
last_edge E i (x ∷ xs) j l = last_edge E x xs j l.1

-- the three links that change: x, a and b are the last of three parts, and lead to what b, ..
pub record Turned (nx pv nx' pv' : ℕ → ℕ) (x a b : ℕ) : Type 0 where
  pub next_x : nx' x ≡ nx a
  pub next_a : nx' a ≡ nx b
  pub next_b : nx' b ≡ nx x
  pub next_o : (c : ℕ) → Not x c → Not a c → Not b c → nx' c ≡ nx c
  pub prev_x : pv' (nx a) ≡ x
  pub prev_a : pv' (nx b) ≡ a
  pub prev_b : pv' (nx x) ≡ b
  pub prev_o : (c : ℕ) → Not (nx x) c → Not (nx a) c → Not (nx b) c → pv' c ≡ pv c

module _ (nx pv nx' pv' : ℕ → ℕ) (us : List ℕ) (a : ℕ) (ws : List ℕ) (b : ℕ) (bs ys : List ℕ)
    (l : Links (Edge nx pv) 0 (us ++ a ∷ (ws ++ b ∷ (bs ++ ys))) 0) (pos : Each Pos (us ++ a ∷ (ws ++ b ∷ (bs ++ ys))))
    (d : Turned nx pv nx' pv' (last_of 0 us) (last_of a ws) (last_of b bs)) where
  swap_links : Links (Edge nx' pv') 0 (us ++ b ∷ (bs ++ a ∷ (ws ++ ys))) 0
  swap_links =
      let E = Edge nx pv in
      let E' = Edge nx' pv' in
      let x = last_of 0 us in
      let y = last_of a ws in
      let z = last_of b bs in
      let P : ℕ → Type 0 = λ c. Not x c × Not y c × Not z c in
      let l1 = links_left E 0 us a (ws ++ b ∷ (bs ++ ys)) 0 l in
      let r1 = links_right E 0 us a (ws ++ b ∷ (bs ++ ys)) 0 l in
      let l2 = links_left E a ws b (bs ++ ys) 0 r1 in
      let r2 = links_right E a ws b (bs ++ ys) 0 r1 in
      let s3 = links_split E b bs ys 0 r2 in
      let e1 = last_edge E 0 us a l1 in
      let e2 = last_edge E a ws b l2 in
      let e3 = last_edge E b bs s3.0 s3.1 in
      let f : (u v : ℕ) → P u → E u v → E' u v =
      λ u v p e.
      record {
        fwd = d.next_o u p.0 p.1 p.2 ∙ e.fwd;
        bwd =
            d.prev_o v (λ h. p.0 (sym e.bwd ∙ ap pv (h ∙ e1.fwd) ∙ e1.bwd)) (λ h. p.1 (sym e.bwd ∙ ap pv (h ∙ e2.fwd) ∙ e2.bwd))
            (λ h. p.2 (sym e.bwd ∙ ap pv (h ∙ e3.fwd) ∙ e3.bwd))
            ∙ e.bwd;
      } in
      let z1 = ws ++ b ∷ (bs ++ ys) in
      let c1 = cross (inits 0 us) (x ∷ a ∷ z1) (subst Distinct (inits_last 0 us (a ∷ z1)) (distinct nx pv 0 (us ++ a ∷ z1) l pos)) in
      let c2 = cross (inits a ws) (y ∷ b ∷ (bs ++ ys)) (subst Distinct (inits_last a ws (b ∷ (bs ++ ys))) c1.1.1) in
      let c3 = cross (inits b bs) (z ∷ ys) (subst Distinct (inits_last b bs ys) c2.1.1) in
      let x1 : Each (Not x) (inits a ws ++ y ∷ b ∷ (bs ++ ys)) = subst (Each (Not x)) (inits_last a ws (b ∷ (bs ++ ys))) c1.1.0 in
      let x2 : Each (Not x) (inits b bs ++ z ∷ ys) = subst (Each (Not x)) (inits_last b bs ys) (each_right (Not x) (inits a ws) (y ∷ b ∷ (bs ++ ys)) x1).1 in
      let y2 : Each (Not y) (inits b bs ++ z ∷ ys) = subst (Each (Not y)) (inits_last b bs ys) c2.1.0 in
      let at-z : (u : ℕ) → Each (Not u) (b ∷ (bs ++ ys)) → Not z u =
      λ u h e. (each_right (Not u) (inits b bs) (z ∷ ys) (subst (Each (Not u)) (inits_last b bs ys) h)).0 (sym e) in
      let at_y : (u : ℕ) → Each (Not u) (a ∷ z1) → Not y u × Not z u =
      λ u h.
      let g = each_right (Not u) (inits a ws) (y ∷ b ∷ (bs ++ ys)) (subst (Each (Not u)) (inits_last a ws (b ∷ (bs ++ ys))) h) in
      (λ e. g.0 (sym e), at-z u g.1) in
      let p1 : Each P (inits 0 us) =
      each_map (λ u. Each (Not u) (x ∷ a ∷ z1)) P (λ u h. (λ e. h.0 (sym e), (at_y u h.1).0, (at_y u h.1).1)) (inits 0 us) c1.0 in
      let p2 : Each P (inits a ws) =
      each_map (λ u. Not x u × Each (Not u) (y ∷ b ∷ (bs ++ ys))) P (λ u h. (h.0, λ e. h.1.0 (sym e), at-z u h.1.1)) (inits a ws)
      (each_both (Not x) (λ u. Each (Not u) (y ∷ b ∷ (bs ++ ys))) (inits a ws) (each_left (Not x) (inits a ws) (y ∷ b ∷ (bs ++ ys)) x1) c2.0) in
      let p3 : Each P (inits b bs) =
      each_three (Not x) (Not y) (Not z) (inits b bs) (each_left (Not x) (inits b bs) (z ∷ ys) x2) (each_left (Not y) (inits b bs) (z ∷ ys) y2)
      (each_map (λ u. Each (Not u) (z ∷ ys)) (Not z) (λ u h e. h.0 (sym e)) (inits b bs) c3.0) in
      let p4 : Each P ys =
      each_three (Not x) (Not y) (Not z) ys (each_right (Not x) (inits b bs) (z ∷ ys) x2).1 (each_right (Not y) (inits b bs) (z ∷ ys) y2).1 c3.1.0 in
      links_append E' 0 us b (bs ++ a ∷ (ws ++ ys)) 0
      (links_last E E' P f 0 us a b p1 (λ e. record { fwd = d.next_x ∙ e2.fwd; bwd = ap pv' (sym e2.fwd) ∙ d.prev_x }) l1)
      (links_append E' b bs a (ws ++ ys) 0
      (links_last E E' P f b bs s3.0 a p3 (λ e. record { fwd = d.next_b ∙ e1.fwd; bwd = ap pv' (sym e1.fwd) ∙ d.prev_b }) s3.1)
      (links_join E' a ws ys s3.0 0
      (links_last E E' P f a ws b s3.0 p2 (λ e. record { fwd = d.next_a ∙ e3.fwd; bwd = ap pv' (sym e3.fwd) ∙ d.prev_a }) l2)
      (keep_tail E E' P f s3.0 ys 0 p4 s3.2)))

-- the same of a ring
pub ring_swap : (nx pv nx' pv' : ℕ → ℕ) (n : ℕ) (us : List ℕ) (a : ℕ) (ws : List ℕ) (b : ℕ) (bs ys : List ℕ) → Ring nx pv n
    → follow nx n (nx 0) ≡ us ++ a ∷ (ws ++ b ∷ (bs ++ ys)) → Turned nx pv nx' pv' (last_of 0 us) (last_of a ws) (last_of b bs)
    → (follow nx' n (nx' 0) ≡ us ++ b ∷ (bs ++ a ∷ (ws ++ ys))) × Ring nx' pv' n
ring_swap nx pv nx' pv' n us a ws b bs ys r o d =
    let P : ℕ → Type 0 = λ x. (0 < x) × (x ≤ n) in
    let old = us ++ a ∷ (ws ++ b ∷ (bs ++ ys)) in
    let p : Each P old = rw o at r.inside in
    let q = each_right P us (a ∷ (ws ++ b ∷ (bs ++ ys))) p in
    let w = each_right P ws (b ∷ (bs ++ ys)) q.1 in
    let e : length old ≡ n = sym (ap length o) ∙ length_follow nx n (nx 0) in
    ring_of nx' pv' n (us ++ b ∷ (bs ++ a ∷ (ws ++ ys)))
    (omega (
      arith,
      e,
      length-append us (a ∷ (ws ++ b ∷ (bs ++ ys))),
      length-append ws (b ∷ (bs ++ ys)),
      length-append bs ys,
      length-append us (b ∷ (bs ++ a ∷ (ws ++ ys))),
      length-append bs (a ∷ (ws ++ ys)),
      length-append ws ys,
    ))
    (swap_links nx pv nx' pv' us a ws b bs ys (rw o at r.links) (each_map P Pos (λ a h. h.0) old p) d)
    (each_append P us (b ∷ (bs ++ a ∷ (ws ++ ys))) (each_left P us (a ∷ (ws ++ b ∷ (bs ++ ys))) p) (
      w.0,
      each_append P bs (a ∷ (ws ++ ys)) (each_left P bs ys w.1)
          (q.0, each_append P ws ys (each_left P ws (b ∷ (bs ++ ys)) q.1) (each_right P bs ys w.1)),
    ))

-- the last of three parts are three
pub lasts : (nx pv : ℕ → ℕ) (us : List ℕ) (a : ℕ) (ws : List ℕ) (b : ℕ) (bs ys : List ℕ)
    → Links (Edge nx pv) 0 (us ++ a ∷ (ws ++ b ∷ (bs ++ ys))) 0 → Each Pos (us ++ a ∷ (ws ++ b ∷ (bs ++ ys)))
    → Not (last_of a ws) (last_of 0 us) × Not (last_of b bs) (last_of 0 us) × Not (last_of b bs) (last_of a ws)
lasts nx pv us a ws b bs ys l pos =
    let z2 = bs ++ ys in
    let x = last_of 0 us in
    let y = last_of a ws in
    let c1 =
    cross (inits 0 us) (x ∷ a ∷ (ws ++ b ∷ z2))
    (subst Distinct (inits_last 0 us (a ∷ (ws ++ b ∷ z2))) (distinct nx pv 0 (us ++ a ∷ (ws ++ b ∷ z2)) l pos)) in
    let c2 = cross (inits a ws) (y ∷ b ∷ z2) (subst Distinct (inits_last a ws (b ∷ z2)) c1.1.1) in
    let x1 = each_right (Not x) (inits a ws) (y ∷ b ∷ z2) (subst (Each (Not x)) (inits_last a ws (b ∷ z2)) c1.1.0) in
    let at-z : (u : ℕ) → Each (Not u) (b ∷ z2) → Not (last_of b bs) u =
    λ u h e. (each_right (Not u) (inits b bs) (last_of b bs ∷ ys) (subst (Each (Not u)) (inits_last b bs ys) h)).0 (sym e) in
    (λ e. x1.0 (sym e), at-z x x1.1, at-z y c2.1.0)

-- the last of a part is its first or stands in it
pub each_last : (P : ℕ → Type 0) (i : ℕ) (xs : List ℕ) → P i → Each P xs → P (last_of i xs)
each_last P i [] p ps = p
each_last P i (x ∷ xs) p ps = each_last P x xs ps.0 ps.1

pub tail_le : (E : ℕ → ℕ → Type 0) (n y : ℕ) (ys : List ℕ) → Tail E y ys 0 → Each (λ x. (0 < x) × (x ≤ n)) ys → y ≤ n
tail_le E n y [] t p = omega (arith, t)
tail_le E n y (z ∷ zs) t p = omega (arith, t.0, p.0)
