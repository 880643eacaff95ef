-- Two plans that are apart: both orders leave the same desk, and what lets the second be accepted alone lets it be accepted after the first.
use Prim.Native.Nat.{ℕ, ◌≤◌, ◌<◌}
use native.Mathlib.Omega.{arith}
use mathlib.Core.Path.{◌≡◌, refl, ap, sym, ◌∙◌}
use mathlib.Core.Bool.{Bool, true, false, ◌&&◌}
use mathlib.Core.List.{List, [], ◌∷◌, map}
use mathlib.Core.Logic.{◌⊎◌, inl, inr}
use Rattle.utf8.specs.Chars.{All, nil, cons}
use Rattle.model.specs.Text.{Text, any}
use Rattle.model.specs.Chunk.{Chunk, start_of, is_filled, first_half, second_half}
use Rattle.model.specs.MagicString.{MagicString}
use Rattle.model.specs.Frozen.{starts_within}
use Rattle.model.proofs.Lists.{clash, first_of, rest_of, all_map, all_map₂, any_false, false_any, map_keeps}
use Rattle.model_closed_forms.specs.Plan.{Plan, nothing, clear, replace, insert_piece, insert_whole, move, cuts, cut_all, inside, act, acted, rearrange, on_head}
use Rattle.model_closed_forms.specs.Plan.{on_tail, new_chunks, apply, in_order, frozen_in}
use Rattle.model_closed_forms.proofs.Cuts.{Contains, ends_by, Aligned, aligned_halves, cut_all_keeps, cut_all_aligned, cut_all_cut_all, Splittable, splittable_halves}
use Rattle.model_closed_forms.specs.Spans.{Proper}
use Rattle.model_closed_forms.proofs.Together.{Together, together_of, together_true}
use Rattle.any_order.proofs.Acts.{Touch, dec_touch, act_out, act_clear, act_insert, OutsideReplaced, PlanByte, BothAligned, cut_all_acted, acted_acted}
use Rattle.any_order.proofs.Moves.{rearrange_acted, rearrange_keeps, halves_inside, rearrange_cut_all, together_cut_all, together_acted, together_rearrange}

-- ── plans that are apart ──
abbrev pub PlanHead : Plan → Type 0
PlanHead nothing = ⊥
PlanHead (clear a b r) = ⊥
PlanHead (replace a b t o) = ⊥
PlanHead (insert_piece p t left front) = ⊥
PlanHead (insert_whole t left front) = left ≡ true
PlanHead (move a b to) = ⊥

abbrev pub PlanTail : Plan → Type 0
PlanTail nothing = ⊥
PlanTail (clear a b r) = ⊥
PlanTail (replace a b t o) = ⊥
PlanTail (insert_piece p t left front) = ⊥
PlanTail (insert_whole t left front) = left ≡ false
PlanTail (move a b to) = ⊥

abbrev pub PlanMove : Plan → Type 0
PlanMove nothing = ⊥
PlanMove (clear a b r) = ⊥
PlanMove (replace a b t o) = ⊥
PlanMove (insert_piece p t left front) = ⊥
PlanMove (insert_whole t left front) = ⊥
PlanMove (move a b to) = Unit {0}

pub record PlansApart (P Q : Plan) : Type 0 where
  pub bytes : (x : ℕ) → PlanByte P x → PlanByte Q x → ⊥
  pub heads : PlanHead P → PlanHead Q → ⊥
  pub tails : PlanTail P → PlanTail Q → ⊥
  pub moves : PlanMove P → PlanMove Q → ⊥
  pub first_outside : All (OutsideReplaced P) (cuts Q)
  pub second_outside : All (OutsideReplaced Q) (cuts P)

-- ── order, head and tail: one of the two plans leaves each as it is ──
order_kept : (P : Plan) → (PlanMove P → ⊥) → (cs : List Chunk) → rearrange P cs ≡ cs
unfolding rearrange
order_kept nothing n cs = refl
order_kept (clear a b r) n cs = refl
order_kept (replace a b t o) n cs = refl
order_kept (insert_piece p t left front) n cs = refl
order_kept (insert_whole t left front) n cs = refl
order_kept (move a b to) n cs = absurd (n tt)

moves_or_not : (P : Plan) → PlanMove P ⊎ (PlanMove P → ⊥)
moves_or_not nothing = inr (λ h. h)
moves_or_not (clear a b r) = inr (λ h. h)
moves_or_not (replace a b t o) = inr (λ h. h)
moves_or_not (insert_piece p t left front) = inr (λ h. h)
moves_or_not (insert_whole t left front) = inr (λ h. h)
moves_or_not (move a b to) = inl tt

rearrange_rearrange : (P Q : Plan) → (PlanMove P → PlanMove Q → ⊥) → (cs : List Chunk) → rearrange P (rearrange Q cs) ≡ rearrange Q (rearrange P cs)
rearrange_rearrange P Q n cs = go (moves_or_not P)
  where
    go : PlanMove P ⊎ (PlanMove P → ⊥) → rearrange P (rearrange Q cs) ≡ rearrange Q (rearrange P cs)
    go (inl m) = rw (order_kept Q (n m) cs, order_kept Q (n m) (rearrange P cs))
    go (inr k) = rw (order_kept P k (rearrange Q cs), order_kept P k cs)

head_kept : (P : Plan) → (PlanHead P → ⊥) → (l : List Text) → on_head P l ≡ l
unfolding on_head
head_kept nothing n l = refl
head_kept (clear a b r) n l = refl
head_kept (replace a b t o) n l = refl
head_kept (insert_piece p t left front) n l = refl
head_kept (insert_whole t true front) n l = absurd (n refl)
head_kept (insert_whole t false front) n l = refl
head_kept (move a b to) n l = refl

head_or_not : (P : Plan) → PlanHead P ⊎ (PlanHead P → ⊥)
head_or_not nothing = inr (λ h. h)
head_or_not (clear a b r) = inr (λ h. h)
head_or_not (replace a b t o) = inr (λ h. h)
head_or_not (insert_piece p t left front) = inr (λ h. h)
head_or_not (insert_whole t true front) = inl refl
head_or_not (insert_whole t false front) = inr (λ h. clash h refl)
head_or_not (move a b to) = inr (λ h. h)

head_head : (P Q : Plan) → (PlanHead P → PlanHead Q → ⊥) → (l : List Text) → on_head P (on_head Q l) ≡ on_head Q (on_head P l)
head_head P Q n l = go (head_or_not P)
  where
    go : PlanHead P ⊎ (PlanHead P → ⊥) → on_head P (on_head Q l) ≡ on_head Q (on_head P l)
    go (inl m) = rw (head_kept Q (n m) l, head_kept Q (n m) (on_head P l))
    go (inr k) = rw (head_kept P k (on_head Q l), head_kept P k l)

tail_kept : (P : Plan) → (PlanTail P → ⊥) → (l : List Text) → on_tail P l ≡ l
unfolding on_tail
tail_kept nothing n l = refl
tail_kept (clear a b r) n l = refl
tail_kept (replace a b t o) n l = refl
tail_kept (insert_piece p t left front) n l = refl
tail_kept (insert_whole t true front) n l = refl
tail_kept (insert_whole t false front) n l = absurd (n refl)
tail_kept (move a b to) n l = refl

tail_or_not : (P : Plan) → PlanTail P ⊎ (PlanTail P → ⊥)
tail_or_not nothing = inr (λ h. h)
tail_or_not (clear a b r) = inr (λ h. h)
tail_or_not (replace a b t o) = inr (λ h. h)
tail_or_not (insert_piece p t left front) = inr (λ h. h)
tail_or_not (insert_whole t true front) = inr (λ h. clash refl h)
tail_or_not (insert_whole t false front) = inl refl
tail_or_not (move a b to) = inr (λ h. h)

tail_tail : (P Q : Plan) → (PlanTail P → PlanTail Q → ⊥) → (l : List Text) → on_tail P (on_tail Q l) ≡ on_tail Q (on_tail P l)
tail_tail P Q n l = go (tail_or_not P)
  where
    go : PlanTail P ⊎ (PlanTail P → ⊥) → on_tail P (on_tail Q l) ≡ on_tail Q (on_tail P l)
    go (inl m) = rw (tail_kept Q (n m) l, tail_kept Q (n m) (on_tail P l))
    go (inr k) = rw (tail_kept P k (on_tail Q l), tail_kept P k l)

-- ── the same desk ──
pub proper_cut_all : (ps : List ℕ) {cs : List Chunk} → All Proper cs → All Proper (cut_all ps cs)
proper_cut_all ps pr = cut_all_keeps (λ p c h i. (i.0, i.1)) ps pr

-- the cuts of the second can be made before the first
cuts_first : (P : Plan) {qs : List ℕ} → All (OutsideReplaced P) qs → (cs : List Chunk) → cut_all qs (new_chunks P cs) ≡ rearrange P (map (acted P) (cut_all qs (cut_all (cuts P) cs)))
cuts_first P {qs} fr cs =
    let al : All (Aligned (cuts P)) (cut_all (cuts P) cs) = cut_all_aligned (cuts P) cs in
    let al' : All (Aligned (cuts P)) (map (acted P) (cut_all (cuts P) cs)) = map_keeps (acted P) al in
    sym (rearrange_cut_all P qs al') ∙ ap (rearrange P) (cut_all_acted P fr al)

chunks_chunks : (P Q : Plan) → PlansApart P Q → (cs : List Chunk) → All Proper cs → new_chunks Q (new_chunks P cs) ≡ new_chunks P (new_chunks Q cs)
chunks_chunks P Q d cs pr =
    let X : List Chunk = cut_all (cuts Q) (cut_all (cuts P) cs) in
    let Y : List Chunk = cut_all (cuts P) (cut_all (cuts Q) cs) in
    let same : X ≡ Y = cut_all_cut_all (cuts P) (cuts Q) cs in
    let l : new_chunks Q (new_chunks P cs) ≡ rearrange Q (rearrange P (map (acted Q) (map (acted P) X))) =
    ap (λ k. rearrange Q (map (acted Q) k)) (cuts_first P d.first_outside cs) ∙ ap (rearrange Q) (sym (rearrange_acted P Q (map (acted P) X))) in
    let r : new_chunks P (new_chunks Q cs) ≡ rearrange P (rearrange Q (map (acted P) (map (acted Q) Y))) =
    ap (λ k. rearrange P (map (acted P) k)) (cuts_first Q d.second_outside cs) ∙ ap (rearrange P) (sym (rearrange_acted Q P (map (acted Q) Y))) in
    l
    ∙ (rearrange_rearrange Q P (λ h k. d.moves k h) (map (acted Q) (map (acted P) X))
    ∙ (ap (λ k. rearrange P (rearrange Q k)) (sym (acted_acted P Q d.bytes ready) ∙ ap (λ k. map (acted P) (map (acted Q) k)) same)
    ∙ sym r))
  where
    ready : All (BothAligned P Q) (cut_all (cuts Q) (cut_all (cuts P) cs))
    ready =
        let p : All Proper (cut_all (cuts Q) (cut_all (cuts P) cs)) = proper_cut_all (cuts Q) (proper_cut_all (cuts P) pr) in
        let f : All (Aligned (cuts P)) (cut_all (cuts Q) (cut_all (cuts P) cs)) = cut_all_keeps (λ q c. aligned_halves (cuts P) q c) (cuts Q) (cut_all_aligned (cuts P) cs) in
        let g : All (λ c. Aligned (cuts P) c × Aligned (cuts Q) c) (cut_all (cuts Q) (cut_all (cuts P) cs)) = all_map₂ (λ c h k. (h, k)) f (cut_all_aligned (cuts Q) (cut_all (cuts P) cs)) in
        all_map₂ (λ c h k. record { proper = h; first = k.0; second = k.1 }) p g

pub apply_apply : (P Q : Plan) → PlansApart P Q → (m : MagicString) → All Proper m.chunks → apply Q (apply P m) ≡ apply P (apply Q m)
apply_apply P Q d m pr =
    let h = head_head Q P (λ k l. d.heads l k) m.intro in
    let t = tail_tail Q P (λ k l. d.tails l k) m.outro in
    let b = chunks_chunks P Q d m.chunks pr in
    λ i. record { source = m.source; intro = h i; outro = t i; chunks = b i }

-- ── the cuts of the second are not refused (6) ──
-- a plan as an edit of a list makes it: n is the source's length
abbrev pub WellPlanned : ℕ → Plan → Type 0
WellPlanned n nothing = Unit {0}
WellPlanned n (clear a b r) = (a < b) × (b ≤ n) × (is_filled r ≡ false)
WellPlanned n (replace a b t o) = (a < b) × (b ≤ n)
WellPlanned n (insert_piece p t true front) = (0 < p) × (p ≤ n)
WellPlanned n (insert_piece p t false front) = p < n
WellPlanned n (insert_whole t left front) = Unit {0}
WellPlanned n (move a b to) = (a ≤ n) × (b ≤ n) × (to ≤ n)

splittable_acted : (n : ℕ) (P : Plan) → WellPlanned n P → (q : ℕ) (c : Chunk) → Aligned (cuts P) c → OutsideReplaced P q →
    (Contains q c → is_filled c.texts.edited_content ≡ false) → Contains q c → is_filled (act P c.span c.texts).edited_content ≡ false
unfolding cuts
splittable_acted n P w q c al ns k i = go (dec_touch P c.span)
  where
    touched : (P : Plan) → WellPlanned n P → Aligned (cuts P) c → OutsideReplaced P q → Touch P c.span → is_filled (act P c.span c.texts).edited_content ≡ false
    touched nothing w al ns t = absurd t
    touched (clear a b r) w al ns t = rw (act_clear a b r c.span c.texts t) w.2
    touched (replace a b x o) w (cons na (cons nb nil)) ns t = absurd (ns (omega arith) (omega (arith, ends_by b c nb t.1)))
    touched (insert_piece p x left front) w al ns t = rw (act_insert p x left front c.span c.texts t) (k i)
    touched (insert_whole x left front) w al ns t = absurd t
    touched (move a b to) w al ns t = absurd t

    go : Dec (Touch P c.span) → is_filled (act P c.span c.texts).edited_content ≡ false
    go (yes t) = touched P w al ns t
    go (no t) = rw (act_out P c.span c.texts t) (k i)

pub splittable_after : (n : ℕ) (P : Plan) → WellPlanned n P → {qs : List ℕ} → All (OutsideReplaced P) qs → {cs : List Chunk} → All (Splittable qs) cs → All (Splittable qs) (new_chunks P cs)
splittable_after n P w {qs} fr {cs} h =
    let s : All (Splittable qs) (cut_all (cuts P) cs) = cut_all_keeps (λ p c. splittable_halves qs p c) (cuts P) h in
    rearrange_keeps P (map_keeps (acted P) (all_map₂ (λ c al k. all_map₂ (λ q ns m. splittable_acted n P w q c al ns m) fr k) (cut_all_aligned (cuts P) cs) s))

-- ── its range still stands together (7 and 9) ──
together_new_chunks : (P : Plan) {qs : List ℕ} (a b : ℕ) → All (OutsideReplaced P) qs → ((l : List Chunk) → Together a b l → Together a b (rearrange P l)) →
    (cs : List Chunk) → Together a b (cut_all qs cs) → Together a b (cut_all qs (new_chunks P cs))
together_new_chunks P {qs} a b fr pl cs g = rw (cuts_first P fr cs, cut_all_cut_all (cuts P) qs cs) (pl _ (together_acted P a b (together_cut_all (cuts P) a b g)))

pub order_after : (P Q : Plan) → PlansApart P Q → (cs : List Chunk) → All Proper cs → in_order Q (cut_all (cuts Q) cs) ≡ true → in_order Q (cut_all (cuts Q) (new_chunks P cs)) ≡ true
unfolding in_order
order_after P nothing d cs pr h = refl
order_after P (clear a b r) d cs pr h = refl
order_after P (replace a b t o) d cs pr h =
    together_true a b
    (together_new_chunks P a b d.first_outside (λ l g. together_rearrange P a b d.second_outside g) cs
    (together_of a b (cut_all (cuts (replace a b t o)) cs) (proper_cut_all (cuts (replace a b t o)) pr) h))
order_after P (insert_piece p t left front) d cs pr h = refl
order_after P (insert_whole t left front) d cs pr h = refl
order_after P (move a b to) d cs pr h =
    together_true a b
    (together_new_chunks P a b d.first_outside (λ l g. rw (order_kept P (λ m. d.moves m tt) l) g) cs
    (together_of a b (cut_all (cuts (move a b to)) cs) (proper_cut_all (cuts (move a b to)) pr) h))

-- ── no marked chunk comes to start in its range (20) ──
-- neither end of the range lies in the chunk, and the chunk is not a marked one of the range
record Unmarked (a b : ℕ) (c : Chunk) : Type 0 where
  aligned : Aligned (a ∷ b ∷ []) c
  test : starts_within a b c && c.frozen ≡ false

-- a cut keeps this: both halves have the mark, and the second starts in the range only if the first does
unmarked_halves : (a b q : ℕ) (c : Chunk) → Unmarked a b c → Contains q c → Unmarked a b (first_half q c) × Unmarked a b (second_half q c)
unmarked_halves a b q c u i =
    let al = aligned_halves (a ∷ b ∷ []) q c u.aligned i in
    let same : inside a b q ≡ inside a b (start_of c) = halves_inside a b q c (first_of u.aligned) (first_of (rest_of u.aligned)) i in
    (record { aligned = al.0; test = u.test }, record { aligned = al.1; test = ap (λ (x : Bool). x && c.frozen) same ∙ u.test })

unmarked_after : (P : Plan) (a b : ℕ) → All (OutsideReplaced P) (a ∷ b ∷ []) → (cs : List Chunk) → any (λ c. starts_within a b c && c.frozen) (cut_all (a ∷ b ∷ []) cs) ≡ false
    → any (λ c. starts_within a b c && c.frozen) (cut_all (a ∷ b ∷ []) (new_chunks P cs)) ≡ false
unmarked_after P a b fr cs h =
    let marked : Chunk → Bool = λ c. starts_within a b c && c.frozen in
    let now : List Chunk = cut_all (a ∷ b ∷ []) cs in
    let u : All (Unmarked a b) now = all_map₂ (λ c al t. record { aligned = al; test = t }) (cut_all_aligned (a ∷ b ∷ []) cs) (any_false marked now h) in
    let v : All (Unmarked a b) (cut_all (cuts P) now) = cut_all_keeps (unmarked_halves a b) (cuts P) u in
    let w : All (λ c. marked c ≡ false) (map (acted P) (cut_all (cuts P) now)) = map_keeps (acted P) (all_map (λ c k. k.test) v) in
    rw (cuts_first P fr cs, cut_all_cut_all (cuts P) (a ∷ b ∷ []) cs) (false_any marked (rearrange_keeps P w))

pub unfrozen_after : (P Q : Plan) → PlansApart P Q → (cs : List Chunk) → frozen_in Q (cut_all (cuts Q) cs) ≡ false → frozen_in Q (cut_all (cuts Q) (new_chunks P cs)) ≡ false
unfolding frozen_in cuts
unfrozen_after P nothing d cs h = refl
unfrozen_after P (clear a b r) d cs h = unmarked_after P a b d.first_outside cs h
unfrozen_after P (replace a b t o) d cs h = unmarked_after P a b d.first_outside cs h
unfrozen_after P (insert_piece p t left front) d cs h = refl
unfrozen_after P (insert_whole t left front) d cs h = refl
unfrozen_after P (move a b to) d cs h = refl
