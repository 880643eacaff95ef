-- The judgement: from the marks and the move to the premises of the any-order rule.
use Prim.Native.Nat.{ℕ, ◌<◌}
use native.Mathlib.Omega.{arith}
use mathlib.Core.Path.{◌≡◌, refl, sym, ap, ◌∙◌}
use mathlib.Core.Bool.{Bool, true, false, ◌&&◌, cond}
use mathlib.Core.List.{List, [], ◌∷◌, ◌++◌}
use mathlib.Core.Option.{Option, none, some}
use lib.Dec.{ltb, leb, eqb}
use borrow.Author.Tests.{lt-ltb, le-ltb}
use Rattle.utf8.specs.Chars.{All, nil, cons}
use Rattle.model.specs.Text.{all}
use Rattle.model.specs.Call.{Edit, remove, update_with, reset, insert, relocate, positions, listed}
use Rattle.model.proofs.Lists.{both, and_left, and_right, false_of, all_map₂, all_append, all_true, true_all, tests_append}
use Rattle.model_sheet.specs.Record.{Recorded}
use Rattle.model_sheet.specs.Sheet.{inserts_left, inserts_front, call_of, recorded_calls}
use Rattle.model_join.specs.Tests.{is_wide, free_of, all_within, all_apart, one_move, edits_apart}
use Rattle.join_apart.specs.Places.{fits_in}
use Rattle.join_apart.specs.Marking.{Once}
use Rattle.join_apart.specs.Moves.{first_move, spared}
use Rattle.join_apart.proofs.Taking.{Fit, apart_once, once_apart}
use Rattle.join_apart.proofs.Sparing.{one_spared}

-- ── the calls of records are listed ones ──
call_listed : (r : Recorded) → listed (call_of r) ≡ true
unfolding call_of
call_listed r = go (eqb r.kind 1) (eqb r.kind 2) (eqb r.kind 3) (eqb r.kind 8)
  where
    go : (u v w x : Bool)
        → listed
        (cond u (remove r.a r.b)
        (cond v (update_with r.a r.b r.text true)
        (cond w (reset r.a r.b) (cond x (relocate r.a r.b r.c) (insert r.a r.text (inserts_left r.kind) (inserts_front r.kind))))))
        ≡ true
    go true v w x = refl
    go false true w x = refl
    go false false true x = refl
    go false false false true = refl
    go false false false false = refl

pub Listed : List Edit → Type 0
Listed L = All (λ e. listed e ≡ true) L

calls_listed : (l : List Recorded) → Listed (recorded_calls l)
unfolding Listed
calls_listed [] = nil
calls_listed (r ∷ l) = cons (call_listed r) (calls_listed l)

pub both_listed : (l l' : List Recorded) → Listed (recorded_calls l ++ recorded_calls l')
unfolding Listed
both_listed l l' = all_append (calls_listed l) (calls_listed l')

-- ── width and positions ──
module _ (n : ℕ) where
  fits_both : {L : List Edit} → All (λ e. fits_in n e ≡ true) L → (all is_wide L ≡ true) × (all_within n L ≡ true)
  unfolding fits_in
  fits_both nil = (refl, refl)
  fits_both (cons {x = e} h hs) =
      let rest = fits_both hs in
      (both (and_left (is_wide e) (all (λ p. leb p n) (positions e)) h) rest.0, both (and_right (is_wide e) (all (λ p. leb p n) (positions e)) h) rest.1)

  both_fit : (L : List Edit) → all is_wide L ≡ true → all_within n L ≡ true → All (λ e. fits_in n e ≡ true) L
  unfolding fits_in
  both_fit L h k = all_map₂ (λ e p q. both p q) (all_true is_wide L h) (all_true (λ e. all (λ p. leb p n) (positions e)) L k)

  -- ── the premises ──
  pub apart_empty : (L : List Edit) → n ≡ 0 → false ≡ edits_apart n L
  unfolding edits_apart
  apart_empty L e = rw (le-ltb 0 n (omega arith))

  module _ (L : List Edit) (ls : Listed L) where
    -- no place is taken twice: what is left is that the move spares all
    pub apart_yes : 0 < n → Once n L → all (spared (first_move L)) L ≡ edits_apart n L
    unfolding edits_apart Listed
    apart_yes h f =
        let fit = all_true (fits_in n) L f.fits in
        let right = fits_both fit in
        let fits : All (Fit n) L = all_map₂ (λ e p q. (p, q)) ls fit in
        let off = once_apart n fits f.once in
        sym (one_spared L off.1) ∙ sym (rw (lt-ltb 0 n h, true_all listed ls, right.0, right.1, off.0, off.1))

    -- one is, or a record does not fit
    pub apart_no : (Once n L → ⊥) → false ≡ edits_apart n L
    unfolding edits_apart Listed
    apart_no no_place = sym (false_of (edits_apart n L) free no_place)
      where
        free : edits_apart n L ≡ true → Once n L
        free t =
            let h₁ = and_right (ltb 0 n) _ t in
            let h₂ = and_right (all listed L) _ h₁ in
            let wide = and_left (all is_wide L) _ h₂ in
            let h₃ = and_right (all is_wide L) _ h₂ in
            let within = and_left (all_within n L) _ h₃ in
            let h₄ = and_right (all_within n L) _ h₃ in
            let off = and_left (all_apart n L) _ h₄ in
            let h₅ = and_right (all_apart n L) _ h₄ in
            let one = and_left (one_move L) _ h₅ in
            let fit = both_fit L wide within in
            let fits : All (Fit n) L = all_map₂ (λ e p q. (p, q)) ls fit in
            record { fits = true_all (fits_in n) fit; once = apart_once n fits off one }

-- ── the move ──
module _ (E F : List Edit) where
  nothing_spared : (L : List Edit) → all (spared none) L ≡ true
  nothing_spared [] = refl
  nothing_spared (e ∷ L) = nothing_spared L

  pub no_move_free : none ≡ first_move (E ++ F) → true ≡ all (spared (first_move (E ++ F))) (E ++ F)
  no_move_free e = sym (nothing_spared (E ++ F)) ∙ ap (λ o. all (spared o) (E ++ F)) e

  module _ (x : Edit) (e : ◌≡◌ {A = Option Edit} (some x) (first_move (E ++ F))) where
    both_spared : all (free_of x) E && all (free_of x) F ≡ all (spared (first_move (E ++ F))) (E ++ F)
    both_spared = sym (tests_append (free_of x) E F) ∙ ap (λ o. all (spared o) (E ++ F)) e

    pub move_free_second : {u v : Bool} → u ≡ all (free_of x) E → v ≡ all (free_of x) F → u ≡ true → v ≡ all (spared (first_move (E ++ F))) (E ++ F)
    move_free_second h k t = k ∙ ap (λ (b : Bool). b && all (free_of x) F) (sym t ∙ h) ∙ both_spared

    pub move_free_first : {u : Bool} → u ≡ all (free_of x) E → u ≡ false → u ≡ all (spared (first_move (E ++ F))) (E ++ F)
    move_free_first h t = t ∙ ap (λ (b : Bool). b && all (free_of x) F) (sym t ∙ h) ∙ both_spared
