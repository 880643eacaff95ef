-- Laws of what `Deque` in specs/ defines.
use mathlib.Core.Path.{◌≡◌, refl, ap, ◌∙◌}
use mathlib.Core.Bool.{Bool, true, false, ◌&&◌, cond}
use mathlib.Core.List.{List, [], ◌∷◌, ◌++◌, reverse, reverse-cons, reverse-append, reverse-reverse, append_assoc}
use Prim.Native.Nat.{ℕ}
use native.Mathlib.Omega.{arith}
use Rattle.model.specs.Text.{Text, is_nil, all}
use Rattle.model.specs.Trim.{trim_deque_start, trim_reversed}
use Rattle.trim_text.specs.Sides.{trim_text, blank}
use Rattle.trim_text.proofs.Sides.{trim_nil}
use Rattle.model.proofs.Lists.{tests_reverse as backwards, reverse_nil}
use Rattle.trim_run.specs.Deque.{trim_deque}

-- both go through the pieces from their end
trim_list : (Text → Text) → List Text → List Text
trim_list f [] = []
trim_list f (s ∷ l) = cond (is_nil (f s)) (trim_list f l) (f s ∷ l)

forwards : (p : ℕ) (l : List Text) → trim_deque_start p l ≡ trim_list (trim_text true p) l
unfolding trim_list
forwards p [] = refl
forwards p (s ∷ l) = rw (forwards p l)

reversed : (p : ℕ) (l : List Text) → trim_reversed p l ≡ trim_list (trim_text false p) l
unfolding trim_list
reversed p [] = refl
reversed p (s ∷ l) = rw (reversed p l)

list_nil : (front : Bool) (p : ℕ) (l : List Text) → is_nil (trim_list (trim_text front p) l) ≡ all (blank p) l
unfolding trim_list
list_nil front p [] = refl
list_nil front p (s ∷ l) = rw (trim_nil front p s) (go (blank p s) (list_nil front p l))
  where
    go : (b : Bool) → is_nil (trim_list (trim_text front p) l) ≡ all (blank p) l
        → is_nil (cond b (trim_list (trim_text front p) l) (trim_text front p s ∷ l)) ≡ (b && all (blank p) l)
    go true h = h
    go false h = refl

list_left : (front : Bool) (p : ℕ) (us : List Text) (t : Text) (vs : List Text) → all (blank p) us ≡ true → blank p t ≡ false
    → trim_list (trim_text front p) (us ++ t ∷ vs) ≡ trim_text front p t ∷ vs
unfolding trim_list
list_left front p [] t vs h k = rw (trim_nil front p t, k)
list_left front p (u ∷ us) t vs h k = rw (trim_nil front p u) (go (blank p u) h (λ e. list_left front p us t vs e k))
  where
    go : (b : Bool) → (b && all (blank p) us) ≡ true → (all (blank p) us ≡ true → trim_list (trim_text front p) (us ++ t ∷ vs) ≡ trim_text front p t ∷ vs)
        → cond b (trim_list (trim_text front p) (us ++ t ∷ vs)) (trim_text front p u ∷ (us ++ t ∷ vs)) ≡ trim_text front p t ∷ vs
    go true e f = f e
    go false e f = let z : ◌≡◌ {A = ℕ} 0 1 = cc in absurd (omega arith)

-- nothing is left exactly if each piece is blank
pub deque_nil : (front : Bool) (p : ℕ) (l : List Text) → is_nil (trim_deque front p l) ≡ all (blank p) l
deque_nil true p l = ap is_nil (forwards p l) ∙ list_nil true p l
deque_nil false p l = reverse_nil (trim_reversed p (reverse l)) ∙ ap is_nil (reversed p (reverse l)) ∙ list_nil false p (reverse l) ∙ backwards (blank p) l

-- the first piece that is not blank is trimmed, and those behind it stay
pub deque_front : (p : ℕ) (us : List Text) (t : Text) (vs : List Text) → all (blank p) us ≡ true → blank p t ≡ false
    → trim_deque true p (us ++ t ∷ vs) ≡ trim_text true p t ∷ vs
deque_front p us t vs h k = forwards p (us ++ t ∷ vs) ∙ list_left true p us t vs h k

-- the last one, and those before it
pub deque_back : (p : ℕ) (vs : List Text) (t : Text) (us : List Text) → all (blank p) us ≡ true → blank p t ≡ false
    → trim_deque false p (vs ++ t ∷ us) ≡ vs ++ trim_text false p t ∷ []
deque_back p vs t us h k =
    let e : reverse (vs ++ t ∷ us) ≡ reverse us ++ t ∷ reverse vs =
    reverse-append vs (t ∷ us) ∙ ap (λ l. l ++ reverse vs) (reverse-cons t us) ∙ append_assoc (reverse us) (t ∷ []) (reverse vs) in
    ap reverse (ap (trim_reversed p) e ∙ reversed p (reverse us ++ t ∷ reverse vs) ∙ list_left false p (reverse us) t (reverse vs) (backwards (blank p) us ∙ h) k)
    ∙ reverse-cons (trim_text false p t) (reverse vs)
    ∙ ap (λ l. l ++ (trim_text false p t ∷ [])) (reverse-reverse vs)

pub all_nil_deque : (front : Bool) (p : ℕ) (l : List Text) → all (blank p) l ≡ true → trim_deque front p l ≡ []
all_nil_deque front p l h = nil_is (trim_deque front p l) (deque_nil front p l ∙ h)
  where
    nil_is : (m : List Text) → is_nil m ≡ true → m ≡ []
    nil_is [] e = refl
    nil_is (x ∷ m) e = let z : ◌≡◌ {A = ℕ} 0 1 = cc in absurd (omega arith)
