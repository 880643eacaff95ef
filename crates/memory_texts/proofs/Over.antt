-- Laws of what `Over` in specs/ defines.
use mathlib.Core.Path.{◌≡◌, refl, ap, ap₂, sym, ◌∙◌}
use mathlib.Core.List.{List, [], ◌∷◌, ◌++◌, append_assoc, append-nil}
use Prim.Native.Nat.{ℕ, zero, suc, ◌+◌, ◌-◌, ◌≤◌, ◌<◌}
use native.Mathlib.Nat.{add-zero, add_assoc}
use native.Mathlib.Omega.{arith}
use native.Mathlib.Numerals.{add-one}
use lib.ListN.{length, get_or, take, drop, set, length-append, length-take, length-drop, take-append-drop, drop_of_length-le}
use lib.Seq.{drop-drop, take_at, drop_at, take-take, take_all, get_or-take, get_or-drop, drop-append-add, sets-eq}
use Rattle.memory_texts.specs.Over.{over, Wrote}

pub over_nil : (d : List ℕ) (a : ℕ) → d ≡ over d a []
unfolding over
over_nil d a = rw (add-zero, take-append-drop)

-- at the front
pub over_front : (d xs : List ℕ) → over d 0 xs ≡ xs ++ drop (length xs) d
unfolding over
over_front d xs = let e : 0 + length xs ≡ length xs = omega arith in rw e

pub length_over : (d : List ℕ) (a : ℕ) (xs : List ℕ) → a + length xs ≤ length d → length (over d a xs) ≡ length d
unfolding over
length_over d a xs h = simp (length-append, length-take, length-drop) (omega arith)

-- two writes, one after the other, are one
pub over_over : (d : List ℕ) (a : ℕ) (xs ys : List ℕ) → a + length xs + length ys ≤ length d
    → over (over d a xs) (a + length xs) ys ≡ over d a (xs ++ ys)
unfolding over
over_over d a xs ys h =
    let l : length (take a d ++ xs) ≡ a + length xs = simp (length-append, length-take) (omega arith) in
    let t : take (a + length xs) (take a d ++ (xs ++ drop (a + length xs) d)) ≡ take a d ++ xs = rw (← append_assoc) (take_at (take a d ++ xs) (drop (a + length xs) d) (a + length xs) l) in
    let r : drop (a + length xs + length ys) (take a d ++ (xs ++ drop (a + length xs) d)) ≡ drop (a + length xs + length ys) d =
    rw (← append_assoc, ← drop-drop (length ys) (a + length xs) (take a d ++ xs ++ drop (a + length xs) d), drop_at (take a d ++ xs) (drop (a + length xs) d) (a + length xs) l, drop-drop) in
    rw (t, r) (simp (length-append, append_assoc, add_assoc))

-- what stood before is as it was
pub take_over : (d : List ℕ) (a : ℕ) (xs : List ℕ) → a ≤ length d → take a (over d a xs) ≡ take a d
unfolding over
take_over d a xs h = take_at (take a d) (xs ++ drop (a + length xs) d) a (simp length-take (omega arith))

-- the middle of what was written
pub over_part : (d : List ℕ) (a : ℕ) (xs ys zs : List ℕ) → a ≤ length d → take (length ys) (drop (a + length xs) (over d a (xs ++ (ys ++ zs)))) ≡ ys
unfolding over
over_part d a xs ys zs h =
    let l : length (take a d ++ xs) ≡ a + length xs = simp (length-append, length-take) (omega arith) in
    let r : List ℕ = drop (a + length (xs ++ (ys ++ zs))) d in
    let e : take a d ++ (xs ++ (ys ++ zs) ++ r) ≡ (take a d ++ xs) ++ (ys ++ (zs ++ r)) = simp append_assoc in
    rw (e, drop_at (take a d ++ xs) (ys ++ (zs ++ r)) (a + length xs) l) (take_at ys (zs ++ r) (length ys) refl)

-- all of it
pub over_all : (d : List ℕ) (a : ℕ) (xs : List ℕ) → a ≤ length d → take (length xs) (drop a (over d a xs)) ≡ xs
over_all d a xs h = let z : a + 0 ≡ a = omega arith in rw (z, append-nil xs) at (over_part d a [] xs [] h)

-- a part of what stands before b
take_drop_take : (n a b : ℕ) (l : List ℕ) → a + n ≤ b → take n (drop a (take b l)) ≡ take n (drop a l)
take_drop_take n zero b l h = take-take n b l (omega arith)
take_drop_take n (suc a) zero l h = absurd (omega arith)
take_drop_take n (suc a) (suc b) [] h = refl
take_drop_take n (suc a) (suc b) (x ∷ l) h = take_drop_take n a b l (omega arith)

pub part_kept : (n a b : ℕ) (l l' : List ℕ) → take b l' ≡ take b l → a + n ≤ b → take n (drop a l') ≡ take n (drop a l)
part_kept n a b l l' e h = sym (take_drop_take n a b l' h) ∙ ap (λ x. take n (drop a x)) e ∙ take_drop_take n a b l h

-- what a slice is whose tail from o was lent to a callee that put a text to the tail's front
pub put_back : (d t t' ys : List ℕ) (o : ℕ) → o + length t ≤ length d → ys ≡ t ++ drop (length t) (take (length d - o) (drop o d)) → t ≡ t'
    → take o d ++ (ys ++ drop (length d - o) (drop o d)) ≡ over d o t'
unfolding over
put_back d t t' ys o h e e' =
    let l : length (drop o d) ≤ length d - o = simp length-drop (omega arith) in
    rw (e, e', take_all (length d - o) (drop o d), drop_of_length-le (drop o d) l, append-nil, drop-drop)

-- two words
pub two_sets : (p : List ℕ) (w a b : ℕ) → w + 1 < length p → set (set p w a) (w + 1) b ≡ over p w (a ∷ b ∷ [])
unfolding over
two_sets p w a b h = rw (add-one w, ← append_assoc) (sets-eq (a ∷ b ∷ []) p w (omega arith))

-- behind all of d
pub over_behind : (d y xs : List ℕ) (n : ℕ) → n ≡ length d → over (d ++ y) n xs ≡ d ++ (xs ++ drop (length xs) y)
unfolding over
over_behind d y xs n e =
    rw e (ap₂ (λ (a b : List ℕ). a ++ (xs ++ b)) (take_at d y (length d) refl) (drop-append-add d y (length xs)))

-- two writes
pub wrote_then : {d : List ℕ} {a : ℕ} {xs d' : List ℕ} {r : ℕ} {ys d'' : List ℕ} {r' : ℕ} → Wrote d a xs d' r → Wrote d' r ys d'' r' → a + length (xs ++ ys) ≤ length d → Wrote d a (xs ++ ys) d'' r'
wrote_then {d} {a} {xs} {ys = ys} v w h =
    let l : length (xs ++ ys) ≡ length xs + length ys = length-append xs ys in
    record {
      out_is = rw (w.out_is, v.out_is, v.next_is) (over_over d a xs ys (omega arith));
      next_is = omega (arith, v.next_is, w.next_is);
    }

pub wrote_same : {d : List ℕ} {a : ℕ} {xs d' : List ℕ} {r : ℕ} → Wrote d a xs d' r → a + length xs ≤ length d → length d' ≡ length d
wrote_same {d} {a} {xs} w h = ap length w.out_is ∙ length_over d a xs h

-- ── what a write leaves, before it and behind it ──
module _ (d : List ℕ) (a : ℕ) (xs : List ℕ) (h : a ≤ length d) where
  front : length (take a d ++ xs) ≡ a + length xs
  front = simp (length-append, length-take) (omega arith)

  -- what was written, and what stood before it
  pub take_over_all : take (a + length xs) (over d a xs) ≡ take a d ++ xs
  unfolding over
  take_over_all = rw (← append_assoc) (take_at (take a d ++ xs) (drop (a + length xs) d) (a + length xs) front)

  -- what stands behind is as it was
  pub drop_over : (n : ℕ) → a + length xs ≤ n → drop n (over d a xs) ≡ drop n d
  unfolding over
  drop_over n g =
      let m : a + length xs + (n - (a + length xs)) ≡ n = omega arith in
      let at : drop (a + length xs) (take a d ++ (xs ++ drop (a + length xs) d)) ≡ drop (a + length xs) d =
      rw (← append_assoc) (drop_at (take a d ++ xs) (drop (a + length xs) d) (a + length xs) front) in
      ap (λ i. drop i (take a d ++ (xs ++ drop (a + length xs) d))) (sym m)
      ∙ sym (drop-drop (n - (a + length xs)) (a + length xs) (take a d ++ (xs ++ drop (a + length xs) d)))
      ∙ ap (drop (n - (a + length xs))) at
      ∙ drop-drop (n - (a + length xs)) (a + length xs) d
      ∙ ap (λ i. drop i d) m

  pub get_d_over : (i : ℕ) → a + length xs ≤ i → get_or (over d a xs) i 0 ≡ get_or d i 0
  get_d_over i g =
      let z : i + 0 ≡ i = omega arith in
      ap (λ j. get_or (over d a xs) j 0) (sym z) ∙ sym (get_or-drop i (over d a xs) 0 0) ∙ ap (λ l. get_or l 0 0) (drop_over i g) ∙ get_or-drop i d 0 0 ∙ ap (λ j. get_or d j 0) z

  -- what stands before is as it was
  pub getD_before : (i : ℕ) → i < a → get_or (over d a xs) i 0 ≡ get_or d i 0
  getD_before i g = sym (get_or-take a (over d a xs) i 0 g) ∙ ap (λ l. get_or l i 0) (take_over d a xs h) ∙ get_or-take a d i 0 g

  pub take_before : (n : ℕ) → n ≤ a → take n (over d a xs) ≡ take n d
  take_before n g = sym (take-take n a (over d a xs) g) ∙ ap (take n) (take_over d a xs h) ∙ take-take n a d g

  -- from the place on, what was written and what stands behind
  pub drop_at_over : drop a (over d a xs) ≡ xs ++ drop (a + length xs) d
  unfolding over
  drop_at_over = drop_at (take a d) (xs ++ drop (a + length xs) d) a (simp length-take (omega arith))

-- one element
pub set_over : (d : List ℕ) (i x : ℕ) → i < length d → set d i x ≡ over d i (x ∷ [])
unfolding over
set_over d i x h = rw (← append_assoc) (sets-eq (x ∷ []) d i (omega arith))
