-- Laws of tests and of lists that many crates cite: `&&` and `||`, `All`, `all`, `any`, `sum`, `map`, and texts one behind the other.
use Prim.Native.Nat.{ℕ, ◌+◌, ◌≤◌, ◌<◌}
use native.Mathlib.Omega.{arith}
use mathlib.Core.Path.{◌≡◌, refl, sym, ap, ap₂, ◌∙◌}
use mathlib.Core.Bool.{Bool, true, false, ◌&&◌, ◌||◌, cond, true≢false, and_assoc, and_comm, and-true}
use mathlib.Core.List.{List, [], ◌∷◌, ◌++◌, map, reverse, reverse_aux, reverse-cons, flatten}
use mathlib.Core.Logic.{◌⊎◌, inl, inr}
use lib.ListN.{length, length-append}
use Rattle.utf8.specs.Chars.{All, nil, cons, concat}
use Rattle.utf8.proofs.Sequences as sequences
use Rattle.model.specs.Text.{Text, is_nil, any, all, skip_while, sum}

-- ── tests ──
pub both : {a b : Bool} → a ≡ true → b ≡ true → a && b ≡ true
both p q = rw (p, q)

pub and_left : (a b : Bool) → a && b ≡ true → a ≡ true
and_left a b h = (sequences.both a b h).0

pub and_right : (a b : Bool) → a && b ≡ true → b ≡ true
and_right a b h = (sequences.both a b h).1

pub or_cases : (a b : Bool) → a || b ≡ true → (a ≡ true) ⊎ (b ≡ true)
or_cases true b h = inl refl
or_cases false b h = inr h

pub or_left : (a b : Bool) → a ≡ true → a || b ≡ true
or_left a b h = rw h

pub or_right : (a b : Bool) → b ≡ true → a || b ≡ true
or_right true b h = refl
or_right false b h = h

pub neither : (a b : Bool) → a || b ≡ false → (a ≡ false) × (b ≡ false)
neither true b e = absurd (true≢false e)
neither false b e = (refl, e)

pub bool_cases : (b : Bool) → (b ≡ true) ⊎ (b ≡ false)
bool_cases true = inl refl
bool_cases false = inr refl

pub bool-elim {ℓ} : {A : Type ℓ} (b : Bool) → (b ≡ true → A) → (b ≡ false → A) → A
bool-elim true f g = f refl
bool-elim false f g = g refl

-- a test is not both true and false
pub clash : {X : Type 0} {b : Bool} → b ≡ true → b ≡ false → X
clash p q = absurd (true≢false (sym p ∙ q))

pub no_tf : {X : Type 0} → ◌≡◌ {A = Bool} true false → X
no_tf e = absurd (true≢false e)

-- a test that is true exactly where P holds is false where it does not
pub false_of : {P : Type 0} (b : Bool) → (b ≡ true → P) → (P → ⊥) → b ≡ false
false_of true f n = absurd (n (f refl))
false_of false f n = refl

-- a count of one test
pub one_most : (b : Bool) → cond b 1 0 ≤ 1
one_most true = omega arith
one_most false = omega arith

-- ── every element ──
module _ {A : Type 0} {P : A → Type 0} where
  pub first_of : {x : A} {xs : List A} → All P (x ∷ xs) → P x
  first_of (cons p ps) = p

  pub rest_of : {x : A} {xs : List A} → All P (x ∷ xs) → All P xs
  rest_of (cons p ps) = ps

  pub all_append : {xs ys : List A} → All P xs → All P ys → All P (xs ++ ys)
  all_append nil q = q
  all_append (cons p ps) q = cons p (all_append ps q)

  pub all_snoc : {xs : List A} {x : A} → All P xs → P x → All P (xs ++ (x ∷ []))
  all_snoc ps p = all_append ps (cons p nil)

  pub all_of : ((x : A) → P x) → (xs : List A) → All P xs
  all_of f [] = nil
  all_of f (x ∷ xs) = cons (f x) (all_of f xs)

  all_reverse_onto : {xs ys : List A} → All P xs → All P ys → All P (reverse_aux xs ys)
  all_reverse_onto nil q = q
  all_reverse_onto (cons p ps) q = all_reverse_onto ps (cons p q)

  pub all_reverse : {xs : List A} → All P xs → All P (reverse xs)
  all_reverse ps = all_reverse_onto ps nil

  pub all_skip_while : (f : A → Bool) {xs : List A} → All P xs → All P (skip_while f xs)
  all_skip_while f nil = nil
  all_skip_while f (cons {x = x} {xs = xs} p ps) = go (f x) (all_skip_while f ps)
    where
      go : (b : Bool) → All P (skip_while f xs) → All P (cond b (skip_while f xs) (x ∷ xs))
      go true q = q
      go false q = cons p ps

module _ {A : Type 0} where
  pub all_map : {P Q : A → Type 0} → ((x : A) → P x → Q x) → {xs : List A} → All P xs → All Q xs
  all_map f nil = nil
  all_map f (cons {x = x} p ps) = cons (f x p) (all_map f ps)

  pub all_map₂ : {P Q R : A → Type 0} → ((x : A) → P x → Q x → R x) → {xs : List A} → All P xs → All Q xs → All R xs
  all_map₂ f nil _ = nil
  all_map₂ f (cons {x = x} p ps) q = cons (f x p (first_of q)) (all_map₂ f ps (rest_of q))

-- ── the computed test of every element ──
module _ {A : Type 0} (f : A → Bool) where
  pub all_true : (xs : List A) → all f xs ≡ true → All (λ x. f x ≡ true) xs
  all_true [] h = nil
  all_true (x ∷ xs) h = cons (and_left (f x) (all f xs) h) (all_true xs (and_right (f x) (all f xs) h))

  pub true_all : {xs : List A} → All (λ x. f x ≡ true) xs → all f xs ≡ true
  true_all nil = refl
  true_all (cons h hs) = both h (true_all hs)

  -- the test fails at every element
  pub any_false : (xs : List A) → any f xs ≡ false → All (λ x. f x ≡ false) xs
  any_false [] h = nil
  any_false (x ∷ xs) h = let n = neither (f x) (any f xs) h in cons n.0 (any_false xs n.1)

  pub false_any : {xs : List A} → All (λ x. f x ≡ false) xs → any f xs ≡ false
  false_any nil = refl
  false_any (cons h hs) = rw (h, false_any hs)

  pub tests_append : (xs ys : List A) → all f (xs ++ ys) ≡ all f xs && all f ys
  tests_append [] ys = refl
  tests_append (x ∷ xs) ys = ap (λ (b : Bool). f x && b) (tests_append xs ys) ∙ sym (and_assoc (f x) (all f xs) (all f ys))

  pub tests_reverse : (xs : List A) → all f (reverse xs) ≡ all f xs
  tests_reverse [] = refl
  tests_reverse (x ∷ xs) =
      ap (all f) (reverse-cons x xs) ∙ tests_append (reverse xs) (x ∷ []) ∙ ap (λ (b : Bool). b && (f x && true)) (tests_reverse xs)
      ∙ ap (λ (b : Bool). all f xs && b) (and-true (f x)) ∙ and_comm (all f xs) (f x)

  -- nothing is left exactly where f takes all
  pub skip_nil : (xs : List A) → is_nil (skip_while f xs) ≡ all f xs
  skip_nil [] = refl
  skip_nil (x ∷ xs) = go (f x) (skip_nil xs)
    where
      go : (b : Bool) → is_nil (skip_while f xs) ≡ all f xs → is_nil (cond b (skip_while f xs) (x ∷ xs)) ≡ b && all f xs
      go true h = h
      go false h = refl

-- ── equal parts ──
pub same_around : {A : Type 0} {xs xs' : List A} {x x' : A} {ys ys' : List A} → xs ≡ xs' → x ≡ x' → ys ≡ ys' → xs ++ x ∷ ys ≡ xs' ++ x' ∷ ys'
same_around a b c = cc

-- ── empty lists ──
module _ {A : Type 0} where
  pub nil_true : (l : List A) → length l ≡ 0 → is_nil l ≡ true
  nil_true [] e = refl
  nil_true (x ∷ l) e = absurd (omega arith)

  pub nil_false : (l : List A) → 0 < length l → is_nil l ≡ false
  nil_false [] h = absurd (omega arith)
  nil_false (x ∷ l) h = refl

  pub reverse_nil : (l : List A) → is_nil (reverse l) ≡ is_nil l
  reverse_nil [] = refl
  reverse_nil (x ∷ l) = ap is_nil (reverse-cons x l) ∙ nil_false (reverse l ++ (x ∷ [])) (omega (arith, length-append (reverse l) (x ∷ [])))

-- ── sums ──
module _ {A : Type 0} (f : A → ℕ) where
  pub sum_append : (xs ys : List A) → sum f (xs ++ ys) ≡ sum f xs + sum f ys
  sum_append [] ys = omega arith
  sum_append (x ∷ xs) ys = omega (arith, sum_append xs ys)

  pub sum_snoc : (xs : List A) (x : A) → sum f (xs ++ (x ∷ [])) ≡ sum f xs + f x
  sum_snoc xs x = omega (arith, sum_append xs (x ∷ []))

  -- an element's part of a sum
  pub sum_part : (xs : List A) → All (λ x. f x ≤ sum f xs) xs
  sum_part [] = nil
  sum_part (x ∷ xs) =
      let h : f x ≤ f x + sum f xs = omega arith in
      let w : (y : A) → f y ≤ sum f xs → f y ≤ f x + sum f xs = λ y k. omega arith in
      cons h (all_map w (sum_part xs))

pub sum_same : {A : Type 0} (f g : A → ℕ) {xs : List A} → All (λ x. f x ≡ g x) xs → sum f xs ≡ sum g xs
sum_same f g nil = refl
sum_same f g (cons e es) = ap₂ (λ (m n : ℕ). m + n) e (sum_same f g es)

-- ── maps: `map-append` and `map-map` are the library's ──
module _ {A B : Type 0} (g : A → B) where
  pub map_keeps : {P : B → Type 0} {xs : List A} → All (λ x. P (g x)) xs → All P (map g xs)
  map_keeps nil = nil
  map_keeps (cons p ps) = cons p (map_keeps ps)

  pub map_kept : {P : B → Type 0} (xs : List A) → All P (map g xs) → All (λ x. P (g x)) xs
  map_kept [] ps = nil
  map_kept (x ∷ xs) (cons p ps) = cons p (map_kept xs ps)

  pub sum_map : (f : B → ℕ) (xs : List A) → sum f (map g xs) ≡ sum (λ x. f (g x)) xs
  sum_map f [] = refl
  sum_map f (x ∷ xs) = ap (λ (n : ℕ). f (g x) + n) (sum_map f xs)

-- two functions that agree on every element
pub map_same : {A B : Type 0} (f g : A → B) {xs : List A} → All (λ x. f x ≡ g x) xs → map f xs ≡ map g xs
map_same f g nil = refl
map_same f g (cons e es) = ap₂ (λ y ys. y ∷ ys) e (map_same f g es)

pub map_none : {A : Type 0} (f : A → A) {xs : List A} → All (λ x. f x ≡ x) xs → map f xs ≡ xs
map_none f nil = refl
map_none f (cons e es) = ap₂ (λ y ys. y ∷ ys) e (map_none f es)

-- ── texts one behind the other ──
pub concat_length : (t : Text) (ts : List Text) → length (concat (t ∷ ts)) ≡ length t + length (concat ts)
unfolding flatten
concat_length t ts = length-append t (concat ts)

pub concat_sum : (ts : List Text) → length (concat ts) ≡ sum length ts
unfolding flatten
concat_sum [] = refl
concat_sum (t ∷ ts) = concat_length t ts ∙ ap (λ (n : ℕ). length t + n) (concat_sum ts)
