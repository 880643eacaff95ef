-- The three walks over records: marking, finding the move, and what the move spares.
use Prim.Native.Nat.{ℕ}
use mathlib.Core.Path.{◌≡◌, refl, sym, ap, subst, ◌∙◌}
use mathlib.Core.Bool.{Bool, true, false, ◌&&◌}
use mathlib.Core.List.{List, [], ◌∷◌, ◌++◌}
use mathlib.Core.Option.{Option, none, some}
use Rattle.model.specs.Text.{Text, all}
use Rattle.model.specs.Call.{Edit, relocate}
use Rattle.model.proofs.Lists.{both, tests_append}
use Rattle.model_sheet.specs.Sheet.{recorded_calls}
use Rattle.memory.specs.WellFormed.{among}
use Rattle.check_marks.specs.Marks.{Marked}
use Rattle.model_join.specs.Tests.{is_move, free_of}
use Rattle.join_apart.specs.Places.{place_of, fits_in}
use Rattle.join_apart.specs.Moves.{first_move}
use Rattle.join_apart.proofs.Sparing.{first_here, first_later, first_of_second, first_none}
use Rattle.join_apart.proofs.ByKind.{call, is_relocate, no_move}
use Rattle.join_apart.proofs.Marked.{Marks, edits_one, edits_on, edits_no}
use Rattle.join_apart.proofs.Upto.{Upto, Between, upto_on}

-- ── marking ──
module _ (n : ℕ) {m m₁ : ℕ → ℕ} {s : List ℕ} {next : ℕ} {L : List Edit} (e : Edit) (h : Between (λ E. Marks n true m E m₁) s e next L) {r : Bool} {m₂ : ℕ → ℕ}
    (d : Marked r m₁ (fits_in n e ≡ true) (among (place_of n e)) m₂) where
  pub mark_on : r ≡ true → Upto (λ E. Marks n true m E m₂) s next L
  mark_on t =
      let more = edits_on n h.passed (e ∷ []) h.held refl (edits_one n e d) in
      upto_on (λ E. Marks n true m E m₁) (λ E. Marks n true m E m₂) h (subst (λ q. Marks n q m (h.passed ++ (e ∷ [])) m₂) t more)

  pub mark_stop : {m₃ : ℕ → ℕ} → r ≡ false → Marks n false m L m₃
  mark_stop {m₃} f =
      let one : Marks n false m₁ (e ∷ []) m₂ = subst (λ q. Marks n q m₁ (e ∷ []) m₂) f (edits_one n e d) in
      let more : Marks n false m₁ ((e ∷ []) ++ recorded_calls h.rest) m₃ = edits_no n (e ∷ []) (recorded_calls h.rest) one refl in
      subst (λ E. Marks n false m E m₃) (sym h.are) (edits_on n h.passed (e ∷ recorded_calls h.rest) h.held refl more)

-- ── finding the move ──
abbrev pub Unmoved : List Edit → Type 0
Unmoved E = first_move E ≡ none

module _ {s : List ℕ} {next : ℕ} {L : List Edit} (k a b c : ℕ) (t : Text) (h : Between Unmoved s (call k a b c t) next L) where
  pub find_on : (k ≡ 8 → ⊥) → Upto Unmoved s next L
  find_on ne = upto_on Unmoved Unmoved h (first_of_second h.passed (call k a b c t ∷ []) h.held ∙ first_later (call k a b c t) [] (no_move k a b c t ne) ∙ first_none)

  pub find_stop : k ≡ 8 → ◌≡◌ {A = Option Edit} (some (relocate a b c)) (first_move L)
  find_stop e =
      let moved : is_move (call k a b c t) ≡ true = ap is_move (is_relocate k a b c t e) in
      sym
      (ap first_move h.are ∙ first_of_second h.passed (call k a b c t ∷ recorded_calls h.rest) h.held ∙ first_here (call k a b c t) (recorded_calls h.rest) moved
      ∙ ap {B = Option Edit} some (is_relocate k a b c t e))

-- ── what the move spares ──
module _ (x : Edit) {s : List ℕ} {next : ℕ} {L : List Edit} (e : Edit) (h : Between (λ E. all (free_of x) E ≡ true) s e next L) where
  pub spare_on : free_of x e ≡ true → Upto (λ E. all (free_of x) E ≡ true) s next L
  spare_on q = upto_on (λ E. all (free_of x) E ≡ true) (λ E. all (free_of x) E ≡ true) h (tests_append (free_of x) h.passed (e ∷ []) ∙ both h.held (both q refl))

  pub spare_stop : free_of x e ≡ false → false ≡ all (free_of x) L
  spare_stop q =
      sym
      (ap (all (free_of x)) h.are ∙ tests_append (free_of x) h.passed (e ∷ recorded_calls h.rest)
      ∙ ap (λ (u : Bool). u && all (free_of x) (e ∷ recorded_calls h.rest)) h.held ∙ ap (λ (u : Bool). u && all (free_of x) (recorded_calls h.rest)) q)
