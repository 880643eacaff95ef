-- Where a list has one move at most, its moves are free exactly if its first one is.
use Prim.Native.Nat.{ℕ}
use native.Mathlib.Omega.{arith}
use mathlib.Core.Path.{◌≡◌, refl, sym, ap, ap₂, ◌∙◌}
use mathlib.Core.Bool.{Bool, true, false, ◌&&◌, not, and-true}
use mathlib.Core.List.{List, [], ◌∷◌, ◌++◌}
use mathlib.Core.Option.{none, some}
use Rattle.utf8.specs.Chars.{All, nil, cons}
use Rattle.model.specs.Text.{all}
use Rattle.model.specs.Call.{Edit, remove, update_with, reset, insert, append, prepend, relocate, trim, trim_start, trim_end}
use Rattle.model.specs.Call.{freeze, trim_lines, indent_with}
use Rattle.model.proofs.Lists.{both, and_left, and_right, bool-elim, clash, all_true}
use Rattle.model_join.specs.Tests.{pairs, is_move, free_of, one_move, moves_free}
use Rattle.join_apart.specs.Moves.{first_move, spared}

-- no edit of a list is a move
abbrev Still : List Edit → Type 0
Still L = All (λ e. is_move e ≡ false) L

still_free : (x y : Edit) → is_move x ≡ false → free_of x y ≡ true
still_free x y e = rw e

-- a move replaces nothing, so that it is free of itself
free_self : (x : Edit) → free_of x x ≡ true
free_self (remove a b) = refl
free_self (update_with a b t o) = refl
free_self (reset a b) = refl
free_self (insert p t left front) = refl
free_self (append t) = refl
free_self (prepend t) = refl
free_self (relocate a b to) = refl
free_self (trim p) = refl
free_self (trim_start p) = refl
free_self (trim_end p) = refl
free_self trim_lines = refl
free_self (indent_with i l) = refl
free_self (freeze a b) = refl

-- ── the first move ──
pub first_here : (e : Edit) (L : List Edit) → is_move e ≡ true → first_move (e ∷ L) ≡ some e
unfolding first_move
first_here e L h = rw (h, first_move)

pub first_later : (e : Edit) (L : List Edit) → is_move e ≡ false → first_move (e ∷ L) ≡ first_move L
unfolding first_move
first_later e L h = rw (h, first_move)

-- of two lists: the first one's, if it has one
pub first_of_first : (E F : List Edit) (x : Edit) → first_move E ≡ some x → first_move (E ++ F) ≡ some x
unfolding first_move
first_of_first [] F x h = let z : ◌≡◌ {A = ℕ} 0 1 = cc in absurd (omega arith)
first_of_first (e ∷ E) F x h =
    bool-elim (is_move e) (λ m. first_here e (E ++ F) m ∙ sym (first_here e E m) ∙ h)
    (λ m. first_later e (E ++ F) m ∙ first_of_first E F x (sym (first_later e E m) ∙ h))

pub first_of_second : (E F : List Edit) → first_move E ≡ none → first_move (E ++ F) ≡ first_move F
unfolding first_move
first_of_second [] F h = refl
first_of_second (e ∷ E) F h =
    bool-elim (is_move e) (λ m. let k = sym (first_here e E m) ∙ h in let z : ◌≡◌ {A = ℕ} 0 1 = cc in absurd (omega arith))
    (λ m. first_later e (E ++ F) m ∙ first_of_second E F (sym (first_later e E m) ∙ h))

pub first_none : first_move [] ≡ none
unfolding first_move
first_none = refl

-- ── no moves ──
pairs_still : {L : List Edit} → Still L → moves_free L ≡ true
pairs_still nil = refl
pairs_still (cons {x = x} h hs) = both (each x h hs) (pairs_still hs)
  where
    each : (x : Edit) → is_move x ≡ false → {L : List Edit} → Still L → all (λ y. free_of x y && free_of y x) L ≡ true
    each x h nil = refl
    each x h (cons {x = y} k ks) = both (both (still_free x y h) (still_free y x k)) (each x h ks)

-- those behind a move are none
still_behind : (x : Edit) → is_move x ≡ true → {L : List Edit} → All (λ y. not (is_move x && is_move y) ≡ true) L → Still L
still_behind x h nil = nil
still_behind x h (cons {x = y} k ks) = cons (go (is_move y) (rw h at k)) (still_behind x h ks)
  where
    go : (b : Bool) → not (true && b) ≡ true → b ≡ false
    go true e = clash e refl
    go false e = refl

-- ── one move at most ──
still_into : (x : Edit) {L : List Edit} → Still L → all (λ y. free_of y x) L ≡ true
still_into x nil = refl
still_into x (cons {x = y} k ks) = both (still_free y x k) (still_into x ks)

-- of a move and others, and of another and a list
only_first : (x : Edit) {L : List Edit} → Still L → all (λ y. free_of x y && free_of y x) L ≡ all (free_of x) L
only_first x nil = refl
only_first x (cons {x = y} k ks) = ap₂ (λ (u v : Bool). u && v) (ap (λ (u : Bool). free_of x y && u) (still_free y x k) ∙ and-true (free_of x y)) (only_first x ks)

only_second : (x : Edit) → is_move x ≡ false → (L : List Edit) → all (λ y. free_of x y && free_of y x) L ≡ all (λ y. free_of y x) L
only_second x h [] = refl
only_second x h (y ∷ L) = ap₂ (λ (u v : Bool). u && v) (ap (λ (u : Bool). u && free_of y x) (still_free x y h)) (only_second x h L)

abbrev alone : Edit → Edit → Bool
alone x y = not (is_move x && is_move y)

behind : (x : Edit) (L : List Edit) → one_move (x ∷ L) ≡ true → is_move x ≡ true → Still L
behind x L h e = still_behind x e (all_true (alone x) L (and_left (all (alone x) L) (pairs alone L) h))

rest_one : (x : Edit) (L : List Edit) → one_move (x ∷ L) ≡ true → one_move L ≡ true
rest_one x L h = and_right (all (alone x) L) (pairs alone L) h

-- what a list's moves must spare in one edit
into : (x : Edit) (L : List Edit) → one_move L ≡ true → all (λ y. free_of y x) L ≡ spared (first_move L) x
unfolding first_move
into x [] h = refl
into x (y ∷ L) h = bool-elim (is_move y) here (later (into x L (rest_one y L h)))
  where
    here : is_move y ≡ true → all (λ z. free_of z x) (y ∷ L) ≡ spared (first_move (y ∷ L)) x
    here e =
        ap (λ (u : Bool). free_of y x && u) (still_into x (behind y L h e)) ∙ and-true (free_of y x)
        ∙ sym (ap (λ o. spared o x) (first_here y L e))

    later : all (λ z. free_of z x) L ≡ spared (first_move L) x → is_move y ≡ false → all (λ z. free_of z x) (y ∷ L) ≡ spared (first_move (y ∷ L)) x
    later rest e =
        ap (λ (u : Bool). u && all (λ z. free_of z x) L) (still_free y x e) ∙ rest
        ∙ sym (ap (λ o. spared o x) (first_later y L e))

pub one_spared : (L : List Edit) → one_move L ≡ true → moves_free L ≡ all (spared (first_move L)) L
unfolding first_move
one_spared [] h = refl
one_spared (x ∷ L) h = bool-elim (is_move x) here (later (one_spared L (rest_one x L h)))
  where
    here : is_move x ≡ true → moves_free (x ∷ L) ≡ all (spared (first_move (x ∷ L))) (x ∷ L)
    here e =
        let s = behind x L h e in
        ap₂ (λ (u v : Bool). u && v) (only_first x s) (pairs_still s) ∙ and-true (all (free_of x) L)
        ∙ sym (ap (λ (u : Bool). u && all (free_of x) L) (free_self x)) ∙ sym (ap (λ o. all (spared o) (x ∷ L)) (first_here x L e))

    later : moves_free L ≡ all (spared (first_move L)) L → is_move x ≡ false → moves_free (x ∷ L) ≡ all (spared (first_move (x ∷ L))) (x ∷ L)
    later rest e =
        ap₂ (λ (u v : Bool). u && v) (only_second x e L ∙ into x L (rest_one x L h)) rest
        ∙ sym (ap (λ o. all (spared o) (x ∷ L)) (first_later x L e))
