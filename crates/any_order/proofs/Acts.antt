-- What a plan makes of texts: which spans it touches, and how it commutes with cuts and with another plan.
use Prim.Native.Nat.{ℕ, suc, ◌-◌, ◌≤◌, ◌<◌}
use native.Mathlib.Omega.{arith}
use native.Mathlib.Decide.{ℕ_discrete}
use mathlib.Core.Path.{◌≡◌, refl, ap, ap₂, sym, ◌∙◌}
use mathlib.Core.Bool.{Bool, true, false, cond}
use mathlib.Core.List.{List, [], ◌∷◌, map, map-append}
use mathlib.Core.Option.{Option, some}
use mathlib.Core.Logic.{◌⊎◌, inl, inr}
use lib.Dec.{eqb}
use borrow.Author.Tests.{eq-eqb, ne_eqb}
use Rattle.utf8.specs.Chars.{All, nil, cons}
use Rattle.model.specs.Text.{Text}
use Rattle.model.specs.Chunk.{Span, Texts, Chunk, bare, edit, start_of, end_of}
use Rattle.model.specs.MagicString.{edge}
use Rattle.model.specs.Insert.{push_to}
use Rattle.model_closed_forms.specs.Plan.{Plan, nothing, clear, replace, insert_piece, insert_whole, move, cuts, split, cut, cut_all, act, acted}
use Rattle.model_closed_forms.proofs.Cuts.{Contains, dec_contains, split_in, split_out, ends_by, starts_from, Aligned, aligned_halves, cut_keeps}
use Rattle.model_closed_forms.proofs.Spans.{Inside, inside_true, inside_false, dec_inside}

-- ── the spans that a plan touches ──
abbrev pub Touch : Plan → Span → Type 0
Touch nothing s = ⊥
Touch (clear a b r) s = Inside a b s.start
Touch (replace a b t o) s = Inside a b s.start
Touch (insert_piece p t left front) s = edge left s ≡ p
Touch (insert_whole t left front) s = ⊥
Touch (move a b to) s = ⊥

never : Dec ⊥
never = no (λ h. h)

pub dec_touch : (P : Plan) (s : Span) → Dec (Touch P s)
dec_touch nothing s = never
dec_touch (clear a b r) s = dec_inside a b s.start
dec_touch (replace a b t o) s = dec_inside a b s.start
dec_touch (insert_piece p t left front) s = ℕ_discrete (edge left s) p
dec_touch (insert_whole t left front) s = never
dec_touch (move a b to) s = never

pub act_out : (P : Plan) (s : Span) (x : Texts) → (Touch P s → ⊥) → act P s x ≡ x
unfolding act
act_out nothing s x h = refl
act_out (clear a b r) s x h = rw (inside_false a b s.start h)
act_out (replace a b t o) s x h = rw (inside_false a b s.start h)
act_out (insert_piece p t left front) s x h = rw (ne_eqb (edge left s) p h)
act_out (insert_whole t left front) s x h = refl
act_out (move a b to) s x h = refl

pub act_clear : (a b : ℕ) (r : Option Text) (s : Span) (x : Texts) → Inside a b s.start → act (clear a b r) s x ≡ bare r
unfolding act
act_clear a b r s x h = rw (inside_true a b s.start h)

pub act_replace : (a b : ℕ) (t : Text) (o : Bool) (s : Span) (x : Texts) → Inside a b s.start → act (replace a b t o) s x ≡ cond (eqb s.start a) (edit t o x) (bare (some []))
unfolding act
act_replace a b t o s x h = rw (inside_true a b s.start h)

pub act_insert : (p : ℕ) (t : Text) (left front : Bool) (s : Span) (x : Texts) → edge left s ≡ p → act (insert_piece p t left front) s x ≡ push_to left front t x
unfolding act
act_insert p t left front s x h = rw (eq-eqb (edge left s) p h)

-- ── with a cut ──
-- q does not fall strictly inside a range that P replaces
abbrev pub OutsideReplaced : Plan → ℕ → Type 0
OutsideReplaced nothing q = Unit {0}
OutsideReplaced (clear a b r) q = Unit {0}
OutsideReplaced (replace a b t o) q = a < q → q < b → ⊥
OutsideReplaced (insert_piece p t left front) q = Unit {0}
OutsideReplaced (insert_whole t left front) q = Unit {0}
OutsideReplaced (move a b to) q = Unit {0}

-- the texts of the two halves
abbrev first_texts : Texts → Texts
first_texts x = record { intro = x.intro; outro = []; edited_content = x.edited_content }

abbrev second_texts : Texts → Texts
second_texts x = record { intro = []; outro = x.outro; edited_content = x.edited_content }

abbrev span : ℕ → ℕ → Span
span a b = record { start = a; end = b }

-- a split of what the plan leaves is what it leaves of the halves
abbrev Halves : Plan → ℕ → Span → Texts → Type 0
Halves P q s x =
    (act P (span s.start q) (first_texts x) ≡ first_texts (act P s x)) × (act P (span q s.end) (second_texts x) ≡ second_texts (act P s x))

halves_out : (P : Plan) (q : ℕ) (s : Span) (x : Texts) → (Touch P s → ⊥) → (Touch P (span s.start q) → ⊥) → (Touch P (span q s.end) → ⊥) → Halves P q s x
halves_out P q s x h k l = (
  act_out P (span s.start q) (first_texts x) k ∙ ap first_texts (sym (act_out P s x h)),
  act_out P (span q s.end) (second_texts x) l ∙ ap second_texts (sym (act_out P s x h)),
)

halves : (P : Plan) (q : ℕ) (c : Chunk) → Aligned (cuts P) c → OutsideReplaced P q → Contains q c → Halves P q c.span c.texts
unfolding cuts
halves nothing q c al ns i = halves_out nothing q c.span c.texts (λ h. h) (λ h. h) (λ h. h)
halves (clear a b r) q c (cons na (cons nb nil)) ns i = go (dec_inside a b (start_of c))
  where
    back : Inside a b q → Inside a b (start_of c)
    back j = (starts_from a c na (omega arith), omega arith)

    go : Dec (Inside a b (start_of c)) → Halves (clear a b r) q c.span c.texts
    go (yes h) =
        let k : end_of c ≤ b = ends_by b c nb h.1 in (
          act_clear a b r (span (start_of c) q) (first_texts c.texts) h ∙ ap first_texts (sym (act_clear a b r c.span c.texts h)),
          act_clear a b r (span q (end_of c)) (second_texts c.texts) (omega arith) ∙ ap second_texts (sym (act_clear a b r c.span c.texts h)),
        )
    go (no h) = halves_out (clear a b r) q c.span c.texts h h (λ j. h (back j))
halves (replace a b t o) q c (cons na (cons nb nil)) ns i =
    halves_out (replace a b t o) q c.span c.texts within within (λ j. within (starts_from a c na (omega arith), omega arith))
  where
    within : Inside a b (start_of c) → ⊥
    within h = ns (omega arith) (omega (arith, ends_by b c nb h.1))
halves (insert_piece p t true front) q c (cons na nil) ns i = go (ℕ_discrete (end_of c) p)
  where
    go : Dec (end_of c ≡ p) → Halves (insert_piece p t true front) q c.span c.texts
    go (yes h) = (
      act_out (insert_piece p t true front) (span (start_of c) q) (first_texts c.texts) (λ j. omega arith) ∙ ap first_texts (sym (act_insert p t true front c.span c.texts h)),
      act_insert p t true front (span q (end_of c)) (second_texts c.texts) h ∙ ap second_texts (sym (act_insert p t true front c.span c.texts h)),
    )
    go (no h) = halves_out (insert_piece p t true front) q c.span c.texts h (λ j. na (omega arith)) h
halves (insert_piece p t false front) q c (cons na nil) ns i = go (ℕ_discrete (start_of c) p)
  where
    go : Dec (start_of c ≡ p) → Halves (insert_piece p t false front) q c.span c.texts
    go (yes h) = (
      act_insert p t false front (span (start_of c) q) (first_texts c.texts) h ∙ ap first_texts (sym (act_insert p t false front c.span c.texts h)),
      act_out (insert_piece p t false front) (span q (end_of c)) (second_texts c.texts) (λ j. omega arith) ∙ ap second_texts (sym (act_insert p t false front c.span c.texts h)),
    )
    go (no h) = halves_out (insert_piece p t false front) q c.span c.texts h h (λ j. na (omega arith))
halves (insert_whole t left front) q c al ns i = halves_out (insert_whole t left front) q c.span c.texts (λ h. h) (λ h. h) (λ h. h)
halves (move a b to) q c al ns i = halves_out (move a b to) q c.span c.texts (λ h. h) (λ h. h) (λ h. h)

split_acted : (P : Plan) (q : ℕ) (c : Chunk) → Aligned (cuts P) c → OutsideReplaced P q → split q (acted P c) ≡ map (acted P) (split q c)
split_acted P q c al ns = go (dec_contains q c)
  where
    go : Dec (Contains q c) → split q (acted P c) ≡ map (acted P) (split q c)
    go (yes i) = let h = halves P q c al ns i in rw (split_in q (acted P c) i, split_in q c i, h.0, h.1)
    go (no i) = rw (split_out q (acted P c) i, split_out q c i)

pub cut_acted : (P : Plan) (q : ℕ) → OutsideReplaced P q → {cs : List Chunk} → All (Aligned (cuts P)) cs → cut q (map (acted P) cs) ≡ map (acted P) (cut q cs)
cut_acted P q ns nil = refl
cut_acted P q ns (cons {x = c} {xs = cs} a als) = rw (map-append (acted P) (split q c) (cut q cs), split_acted P q c a ns, cut_acted P q ns als)

pub cut_all_acted : (P : Plan) {qs : List ℕ} → All (OutsideReplaced P) qs → {cs : List Chunk} → All (Aligned (cuts P)) cs → cut_all qs (map (acted P) cs) ≡ map (acted P) (cut_all qs cs)
cut_all_acted P nil al = refl
cut_all_acted P (cons {x = q} {xs = qs} n ns) {cs} al = rw (cut_acted P q n al) (cut_all_acted P ns (cut_keeps q (λ c. aligned_halves (cuts P) q c) al))

-- ── with another plan ──
-- the bytes that a plan reaches
abbrev pub PlanByte : Plan → ℕ → Type 0
PlanByte nothing x = ⊥
PlanByte (clear a b r) x = Inside a b x
PlanByte (replace a b t o) x = Inside a b x
PlanByte (insert_piece p t left front) x = cond left (suc x) x ≡ p
PlanByte (insert_whole t left front) x = ⊥
PlanByte (move a b to) x = ⊥

data IsLeft : Plan → Type 0 where
  is_left : (p : ℕ) (t : Text) (front : Bool) → IsLeft (insert_piece p t true front)

data IsRight : Plan → Type 0 where
  is_right : (p : ℕ) (t : Text) (front : Bool) → IsRight (insert_piece p t false front)

not_both : (P : Plan) → IsLeft P → IsRight P → ⊥
not_both nothing l r = elim l [ ]
not_both (clear _ _ _) l r = elim l [ ]
not_both (replace _ _ _ _) l r = elim l [ ]
not_both (insert_piece p t false front) l r = elim l [ ]
not_both (insert_whole _ _ _) l r = elim l [ ]
not_both (move _ _ _) l r = elim l [ ]
not_both (insert_piece p t true front) l r = none_right r
  where
    none_right : IsRight (insert_piece p t true front) → ⊥
    none_right = elim [ ]

-- a touched chunk's first byte is reached, or the plan adds at an end
first_byte : (P : Plan) (c : Chunk) → Touch P c.span → PlanByte P (start_of c) ⊎ IsLeft P
first_byte nothing c h = inl h
first_byte (clear a b r) c h = inl h
first_byte (replace a b t o) c h = inl h
first_byte (insert_piece p t true front) c h = inr (is_left p t front)
first_byte (insert_piece p t false front) c h = inl h
first_byte (insert_whole t left front) c h = inl h
first_byte (move a b to) c h = inl h

-- so is its last byte, or the plan adds at a start
last_byte : (P : Plan) (c : Chunk) → start_of c < end_of c → Aligned (cuts P) c → Touch P c.span → PlanByte P (end_of c - 1) ⊎ IsRight P
unfolding cuts
last_byte nothing c p al h = inl h
last_byte (clear a b r) c p (cons na (cons nb nil)) h = inl (omega arith, omega (arith, ends_by b c nb h.1))
last_byte (replace a b t o) c p (cons na (cons nb nil)) h = inl (omega arith, omega (arith, ends_by b c nb h.1))
last_byte (insert_piece q t true front) c p al h = inl (omega arith)
last_byte (insert_piece q t false front) c p al h = inr (is_right q t front)
last_byte (insert_whole t left front) c p al h = inl h
last_byte (move a b to) c p al h = inl h

Commute : Plan → Plan → Chunk → Type 0
Commute P Q c = act P c.span (act Q c.span c.texts) ≡ act Q c.span (act P c.span c.texts)

commute_out : (P Q : Plan) (c : Chunk) → (Touch P c.span → ⊥) → Commute P Q c
unfolding Commute
commute_out P Q c h = act_out P c.span (act Q c.span c.texts) h ∙ ap (act Q c.span) (sym (act_out P c.span c.texts h))

commute_sym : (P Q : Plan) (c : Chunk) → Commute P Q c → Commute Q P c
unfolding Commute
commute_sym P Q c h = sym h

commute_ends : (P Q : Plan) (c : Chunk) → Touch P c.span → Touch Q c.span → IsLeft P → IsRight Q → Commute P Q c
unfolding Commute
commute_ends P Q c h k (is_left p t w) (is_right q u v) =
    let s = c.span in
    let x = c.texts in
    rw (act_insert q u false v s x k, act_insert p t true w s x h, act_insert p t true w s _ h, act_insert q u false v s _ k)

acts_commute : (P Q : Plan) (c : Chunk) → start_of c < end_of c → Aligned (cuts P) c → Aligned (cuts Q) c → ((x : ℕ) → PlanByte P x → PlanByte Q x → ⊥) → Commute P Q c
acts_commute P Q c pr aP aQ dis = go (dec_touch P c.span) (dec_touch Q c.span)
  where
    at_last : Touch P c.span → Touch Q c.span → IsLeft P ⊎ IsLeft Q → PlanByte P (end_of c - 1) ⊎ IsRight P → PlanByte Q (end_of c - 1) ⊎ IsRight Q → Commute P Q c
    at_last h k (inl l) (inl x) (inl y) = absurd (dis _ x y)
    at_last h k (inl l) (inl x) (inr y) = commute_ends P Q c h k l y
    at_last h k (inl l) (inr x) y = absurd (not_both P l x)
    at_last h k (inr l) (inl x) (inl y) = absurd (dis _ x y)
    at_last h k (inr l) (inl x) (inr y) = absurd (not_both Q l y)
    at_last h k (inr l) (inr x) y = commute_sym Q P c (commute_ends Q P c k h l x)

    at_first : Touch P c.span → Touch Q c.span → PlanByte P (start_of c) ⊎ IsLeft P → PlanByte Q (start_of c) ⊎ IsLeft Q → Commute P Q c
    at_first h k (inl x) (inl y) = absurd (dis _ x y)
    at_first h k (inr x) y = at_last h k (inl x) (last_byte P c pr aP h) (last_byte Q c pr aQ k)
    at_first h k (inl x) (inr y) = at_last h k (inr y) (last_byte P c pr aP h) (last_byte Q c pr aQ k)

    go : Dec (Touch P c.span) → Dec (Touch Q c.span) → Commute P Q c
    go (no h) _ = commute_out P Q c h
    go (yes h) (no k) = commute_sym Q P c (commute_out Q P c k)
    go (yes h) (yes k) = at_first h k (first_byte P c h) (first_byte Q c k)

-- a chunk that neither plan cuts
pub record BothAligned (P Q : Plan) (c : Chunk) : Type 0 where
  pub proper : start_of c < end_of c
  pub first : Aligned (cuts P) c
  pub second : Aligned (cuts Q) c

pub acted_acted : (P Q : Plan) → ((x : ℕ) → PlanByte P x → PlanByte Q x → ⊥) → {cs : List Chunk} → All (BothAligned P Q) cs → map (acted P) (map (acted Q) cs) ≡ map (acted Q) (map (acted P) cs)
unfolding Commute
acted_acted P Q dis nil = refl
acted_acted P Q dis (cons {x = c} {xs = cs} r rs) =
    ap₂ (λ x l. record { span = c.span; frozen = c.frozen; texts = x } ∷ l) (acts_commute P Q c r.proper r.first r.second dis) (acted_acted P Q dis rs)
