-- The move: how it commutes with other texts and with cuts, and what it keeps; and what keeps a range together.
use Prim.Native.Nat.{ℕ, ◌+◌, ◌≤◌, ◌<◌}
use native.Mathlib.Omega.{arith}
use native.Mathlib.Decide.{dec_le, ℕ_discrete}
use mathlib.Core.Path.{◌≡◌, refl, ap, ap₂, sym, ◌∙◌}
use mathlib.Core.Bool.{Bool, true, false, not, cond}
use mathlib.Core.List.{List, [], ◌∷◌, ◌++◌, map, append_assoc, append-nil, map-append}
use mathlib.Core.Logic.{◌⊎◌, inl, inr}
use lib.Dec.{eqb}
use borrow.Author.Tests.{eq-eqb, ne_eqb}
use Rattle.utf8.specs.Chars.{All, nil, cons}
use Rattle.model.specs.Text.{sum}
use Rattle.model.specs.Chunk.{Chunk, start_of, end_of}
use Rattle.model.specs.Movement.{insert_before}
use Rattle.model.proofs.Lists.{bool_cases, first_of, rest_of, all_map}
use Rattle.model_closed_forms.specs.Plan.{Plan, nothing, clear, replace, insert_piece, insert_whole, move, cuts, split, cut, cut_all, inside, outside, acted}
use Rattle.model_closed_forms.specs.Plan.{keep, rearrange}
use Rattle.model_closed_forms.proofs.Cuts.{Contains, dec_contains, split_in, split_out, ends_by, starts_from, cut_append, Aligned, aligned_halves, cut_keeps}
use Rattle.model_closed_forms.proofs.Spans.{Inside, inside_true, inside_false, dec_inside}
use Rattle.model_closed_forms.proofs.Together.{Tiles, Together, together_at, together_after, tiles_inside, keep_append, keep_every, keep_no, insert_skips}
use Rattle.model_preservation.proofs.Relocate.{insert_all, insert_sum}

-- ── with other texts: the spans alone decide ──
keep_acted : (f : ℕ → Bool) (P : Plan) (cs : List Chunk) → keep f (map (acted P) cs) ≡ map (acted P) (keep f cs)
keep_acted f P [] = refl
keep_acted f P (c ∷ cs) = rw (keep_acted f P cs) (go (f (start_of c)))
  where
    go : (b : Bool) → cond b (acted P c ∷ map (acted P) (keep f cs)) (map (acted P) (keep f cs)) ≡ map (acted P) (cond b (c ∷ keep f cs) (keep f cs))
    go true = refl
    go false = refl

insert_acted : (to : ℕ) (P : Plan) (range cs : List Chunk) → insert_before to (map (acted P) range) (map (acted P) cs) ≡ map (acted P) (insert_before to range cs)
insert_acted to P range [] = refl
insert_acted to P range (c ∷ cs) = rw (insert_acted to P range cs) (go (eqb (start_of c) to))
  where
    go : (b : Bool) → cond b (map (acted P) range ++ (acted P c ∷ map (acted P) cs)) (acted P c ∷ map (acted P) (insert_before to range cs)) ≡ map
        (acted P) (cond b (range ++ (c ∷ cs)) (c ∷ insert_before to range cs))
    go true = sym (map-append (acted P) range (c ∷ cs))
    go false = refl

pub rearrange_acted : (P Q : Plan) (cs : List Chunk) → rearrange P (map (acted Q) cs) ≡ map (acted Q) (rearrange P cs)
unfolding rearrange
rearrange_acted nothing Q cs = refl
rearrange_acted (clear a b r) Q cs = refl
rearrange_acted (replace a b t o) Q cs = refl
rearrange_acted (insert_piece p t left front) Q cs = refl
rearrange_acted (insert_whole t left front) Q cs = refl
rearrange_acted (move a b to) Q cs =
    rw (keep_acted (inside a b) Q cs, keep_acted (outside a b) Q cs) (insert_acted to Q (keep (inside a b) cs) (keep (outside a b) cs))

-- ── with cuts ──
module _ (f : ℕ → Bool) (q : ℕ) where
  -- f gives both halves what it gives the whole
  abbrev SameForHalves : Chunk → Type 0
  SameForHalves c = Contains q c → f q ≡ f (start_of c)

  keep_split : (c : Chunk) (cs : List Chunk) → SameForHalves c → keep f (split q c) ++ cut q cs ≡ cut q (cond (f (start_of c)) (c ∷ cs) cs)
  keep_split c cs ev = go (dec_contains q c) (bool_cases (f (start_of c)))
    where
      go : Dec (Contains q c) → (f (start_of c) ≡ true) ⊎ (f (start_of c) ≡ false) → keep f (split q c) ++ cut q cs ≡ cut q (cond (f (start_of c)) (c ∷ cs) cs)
      go (yes i) (inl t) = rw (split_in q c i, ev i, t) (rw (split_in q c i))
      go (yes i) (inr t) = rw (split_in q c i, ev i, t)
      go (no i) (inl t) = rw (split_out q c i, t) (rw (split_out q c i))
      go (no i) (inr t) = rw (split_out q c i, t)

  keep_cut : {cs : List Chunk} → All SameForHalves cs → keep f (cut q cs) ≡ cut q (keep f cs)
  keep_cut nil = refl
  keep_cut (cons {x = c} {xs = cs} e es) = keep_append f (split q c) (cut q cs) ∙ (ap (λ l. keep f (split q c) ++ l) (keep_cut es) ∙ keep_split c (keep f cs) e)

insert_cut : (to q : ℕ) (range : List Chunk) {cs : List Chunk} → All (λ c. Contains to c → ⊥) cs → insert_before to (cut q range) (cut q cs) ≡ cut q (insert_before to range cs)
insert_cut to q range nil = refl
insert_cut to q range (cons {x = c} {xs = cs} n ns) = go (dec_contains q c) (ℕ_discrete (start_of c) to) (insert_cut to q range ns)
  where
    go : Dec (Contains q c) → Dec (start_of c ≡ to) → insert_before to (cut q range) (cut q cs) ≡ cut q (insert_before to range cs) →
        insert_before to (cut q range) (cut q (c ∷ cs)) ≡ cut q (insert_before to range (c ∷ cs))
    go (yes i) (yes e) ih = rw (split_in q c i, eq-eqb (start_of c) to e) (rw (cut_append q range (c ∷ cs), split_in q c i))
    go (yes i) (no e) ih = rw (split_in q c i, ne_eqb (start_of c) to e, ne_eqb q to (λ j. n (omega arith)), split_in q c i, ih)
    go (no i) (yes e) ih = rw (split_out q c i, eq-eqb (start_of c) to e) (rw (cut_append q range (c ∷ cs), split_out q c i))
    go (no i) (no e) ih = rw (split_out q c i, ne_eqb (start_of c) to e, split_out q c i, ih)

-- ── what it keeps ──
module _ {Z : Chunk → Type 0} where
  keep_keeps : (f : ℕ → Bool) {cs : List Chunk} → All Z cs → All Z (keep f cs)
  keep_keeps f nil = nil
  keep_keeps f (cons {x = c} {xs = cs} z zs) = go (f (start_of c)) (keep_keeps f zs)
    where
      go : (b : Bool) → All Z (keep f cs) → All Z (cond b (c ∷ keep f cs) (keep f cs))
      go true h = cons z h
      go false h = h

  pub rearrange_keeps : (P : Plan) {cs : List Chunk} → All Z cs → All Z (rearrange P cs)
  unfolding rearrange
  rearrange_keeps nothing z = z
  rearrange_keeps (clear a b r) z = z
  rearrange_keeps (replace a b t o) z = z
  rearrange_keeps (insert_piece p t left front) z = z
  rearrange_keeps (insert_whole t left front) z = z
  rearrange_keeps (move a b to) z = insert_all Z to (keep_keeps (inside a b) z) (keep_keeps (outside a b) z)

-- a chunk that contains neither end of a range starts in it exactly if each byte of it lies in it
pub halves_inside : (a b q : ℕ) (c : Chunk) → (Contains a c → ⊥) → (Contains b c → ⊥) → Contains q c → inside a b q ≡ inside a b (start_of c)
halves_inside a b q c na nb i = go (dec_inside a b (start_of c))
  where
    go : Dec (Inside a b (start_of c)) → inside a b q ≡ inside a b (start_of c)
    go (yes h) = rw (inside_true a b (start_of c) h) (inside_true a b q (omega arith, omega (arith, ends_by b c nb h.1)))
    go (no h) = rw (inside_false a b (start_of c) h) (inside_false a b q (λ j. h (starts_from a c na (omega arith), omega arith)))

halves_outside : (a b q : ℕ) (c : Chunk) → (Contains a c → ⊥) → (Contains b c → ⊥) → Contains q c → outside a b q ≡ outside a b (start_of c)
unfolding outside
halves_outside a b q c na nb i = ap not (halves_inside a b q c na nb i)

rearrange_cut : (P : Plan) (q : ℕ) {cs : List Chunk} → All (Aligned (cuts P)) cs → rearrange P (cut q cs) ≡ cut q (rearrange P cs)
unfolding rearrange cuts
rearrange_cut nothing q al = refl
rearrange_cut (clear a b r) q al = refl
rearrange_cut (replace a b t o) q al = refl
rearrange_cut (insert_piece p t left front) q al = refl
rearrange_cut (insert_whole t left front) q al = refl
rearrange_cut (move a b to) q {cs} al =
    ap₂ (insert_before to)
    (keep_cut (inside a b) q (all_map (λ c h i. halves_inside a b q c (first_of h) (first_of (rest_of h)) i) al))
    (keep_cut (outside a b) q (all_map (λ c h i. halves_outside a b q c (first_of h) (first_of (rest_of h)) i) al))
    ∙ insert_cut to q (keep (inside a b) cs) (keep_keeps (outside a b) (all_map (λ c h. first_of (rest_of (rest_of h))) al))

pub rearrange_cut_all : (P : Plan) (qs : List ℕ) {cs : List Chunk} → All (Aligned (cuts P)) cs → rearrange P (cut_all qs cs) ≡ cut_all qs (rearrange P cs)
rearrange_cut_all P [] al = refl
rearrange_cut_all P (q ∷ qs) al = rearrange_cut_all P qs (cut_keeps q (λ c. aligned_halves (cuts P) q c) al) ∙ ap (cut_all qs) (rearrange_cut P q al)

-- ── sums over the chunks ──
sum_parts : (w : Chunk → ℕ) (a b : ℕ) (cs : List Chunk) → sum w (keep (inside a b) cs) + sum w (keep (outside a b) cs) ≡ sum w cs
unfolding outside
sum_parts w a b [] = refl
sum_parts w a b (c ∷ cs) = go (inside a b (start_of c)) (sum_parts w a b cs)
  where
    go : (t : Bool) → sum w (keep (inside a b) cs) + sum w (keep (outside a b) cs) ≡ sum w cs → sum w (cond t (c ∷ keep (inside a b) cs) (keep (inside a b) cs)) + sum w
        (cond (not t) (c ∷ keep (outside a b) cs) (keep (outside a b) cs)) ≡ w c + sum w cs
    go true ih = omega arith
    go false ih = omega arith

pub sum_rearrange : (w : Chunk → ℕ) (P : Plan) (cs : List Chunk) → sum w (rearrange P cs) ≡ sum w cs
unfolding rearrange
sum_rearrange w nothing cs = refl
sum_rearrange w (clear a b r) cs = refl
sum_rearrange w (replace a b t o) cs = refl
sum_rearrange w (insert_piece p t left front) cs = refl
sum_rearrange w (insert_whole t left front) cs = refl
sum_rearrange w (move a b to) cs = insert_sum w to (keep (inside a b) cs) (keep (outside a b) cs) ∙ sum_parts w a b cs

-- ── a range that stands together goes on doing so: after a cut ──
tiles_cut : (q a b : ℕ) (ys : List Chunk) → Tiles a b ys → Tiles a b (cut q ys)
tiles_cut q a b [] t = t
tiles_cut q a b (c ∷ ys) t = go (dec_contains q c) (tiles_cut q (end_of c) b ys t.2)
  where
    go : Dec (Contains q c) → Tiles (end_of c) b (cut q ys) → Tiles a b (cut q (c ∷ ys))
    go (yes i) ih = rw (split_in q c i) (t.0, i.0, (refl, i.1, ih))
    go (no i) ih = rw (split_out q c i) (t.0, t.1, ih)

together_cut : (q a b : ℕ) {cs : List Chunk} → Together a b cs → Together a b (cut q cs)
together_cut q a b g = record {
  before = cut q g.before;
  range = cut q g.range;
  behind = cut q g.behind;
  parts = ap (cut q) g.parts ∙ (cut_append q g.before (g.range ++ g.behind) ∙ ap (λ l. cut q g.before ++ l) (cut_append q g.range g.behind));
  tiles = tiles_cut q a b g.range g.tiles;
}

pub together_cut_all : (qs : List ℕ) (a b : ℕ) {cs : List Chunk} → Together a b cs → Together a b (cut_all qs cs)
together_cut_all [] a b g = g
together_cut_all (q ∷ qs) a b g = together_cut_all qs a b (together_cut q a b g)

-- ── with other texts ──
tiles_acted : (P : Plan) (a b : ℕ) (ys : List Chunk) → Tiles a b ys → Tiles a b (map (acted P) ys)
tiles_acted P a b [] t = t
tiles_acted P a b (c ∷ ys) t = (t.0, t.1, tiles_acted P (end_of c) b ys t.2)

pub together_acted : (P : Plan) (a b : ℕ) {cs : List Chunk} → Together a b cs → Together a b (map (acted P) cs)
together_acted P a b g = record {
  before = map (acted P) g.before;
  range = map (acted P) g.range;
  behind = map (acted P) g.behind;
  parts = ap (map (acted P)) g.parts ∙ (map-append (acted P) g.before (g.range ++ g.behind) ∙ ap (λ l. map (acted P) g.before ++ l) (map-append (acted P) g.range g.behind));
  tiles = tiles_acted P a b g.range g.tiles;
}

-- ── after a move with no position strictly inside it ──
together_behind : (a b : ℕ) (l : List Chunk) {cs : List Chunk} → Together a b cs → Together a b (cs ++ l)
together_behind a b l g = record {
  before = g.before;
  range = g.range;
  behind = g.behind ++ l;
  parts = ap (λ k. k ++ l) g.parts ∙ (append_assoc g.before (g.range ++ g.behind) l ∙ ap (λ k. g.before ++ k) (append_assoc g.range g.behind l));
  tiles = g.tiles;
}

insert_parts : (to : ℕ) (range cs : List Chunk) → (r₁ : List Chunk) × (r₂ : List Chunk) × (insert_before to range cs ≡ r₁ ++ (range ++ r₂))
insert_parts to range [] = ([], [], sym (append-nil range))
insert_parts to range (c ∷ cs) = go (eqb (start_of c) to) (insert_parts to range cs)
  where
    go : (t : Bool) → (r₁ : List Chunk) × (r₂ : List Chunk) × (insert_before to range cs ≡ r₁ ++ (range ++ r₂)) → (r₁ : List Chunk) × (r₂ : List Chunk) ×
        (cond t (range ++ (c ∷ cs)) (c ∷ insert_before to range cs) ≡ r₁ ++ (range ++ r₂))
    go true r = ([], c ∷ cs, refl)
    go false r = (c ∷ r.0, r.1, ap (λ l. c ∷ l) r.2)

module _ (a b to : ℕ) (free : a < to → to < b → ⊥) (range : List Chunk) where
  insert_at : (ys zs : List Chunk) → Tiles a b ys → Together a b (insert_before to range (ys ++ zs))
  insert_at [] zs t = together_at a b [] [] (insert_before to range zs) t
  insert_at (c ∷ ys) zs t = go (ℕ_discrete (start_of c) to)
    where
      away : All (λ d. start_of d ≡ to → ⊥) ys
      away = all_map (λ d h e. free (omega arith) (omega arith)) (tiles_inside (end_of c) b ys t.2)

      go : Dec (start_of c ≡ to) → Together a b (insert_before to range ((c ∷ ys) ++ zs))
      go (yes e) = rw (eq-eqb (start_of c) to e) (together_at a b range (c ∷ ys) zs t)
      go (no e) = rw (ne_eqb (start_of c) to e, insert_skips to range zs away) (together_at a b [] (c ∷ ys) (insert_before to range zs) t)

  insert_together : (xs ys zs : List Chunk) → Tiles a b ys → Together a b (insert_before to range (xs ++ (ys ++ zs)))
  insert_together [] ys zs t = insert_at ys zs t
  insert_together (x ∷ xs) ys zs t = go (eqb (start_of x) to) (insert_together xs ys zs t)
    where
      go : (k : Bool) → Together a b (insert_before to range (xs ++ (ys ++ zs))) → Together a b (cond k (range ++ (x ∷ (xs ++ (ys ++ zs)))) (x ∷ insert_before to range (xs ++ (ys ++ zs))))
      go true ih = together_after a b range (together_at a b (x ∷ xs) ys zs t)
      go false ih = together_after a b (x ∷ []) ih

together_move : (s e to a b : ℕ) → (a < s → s < b → ⊥) → (a < e → e < b → ⊥) → (a < to → to < b → ⊥) → {cs : List Chunk} → Together a b cs →
    Together a b (insert_before to (keep (inside s e) cs) (keep (outside s e) cs))
unfolding outside
together_move s e to a b fs fe ft {cs} g = rw (g.parts, split_up (inside s e), split_up (outside s e)) (go (dec_le b s) (dec_le e a))
  where
    xs : List Chunk
    xs = g.before

    ys : List Chunk
    ys = g.range

    zs : List Chunk
    zs = g.behind

    split_up : (f : ℕ → Bool) → keep f (xs ++ (ys ++ zs)) ≡ keep f xs ++ (keep f ys ++ keep f zs)
    split_up f = keep_append f xs (ys ++ zs) ∙ ap (λ l. keep f xs ++ l) (keep_append f ys zs)

    starts : All (λ c. Inside a b (start_of c)) ys
    starts = tiles_inside a b ys g.tiles

    Goal : Type 0
    Goal = Together a b (insert_before to (keep (inside s e) xs ++ (keep (inside s e) ys ++ keep (inside s e) zs)) (keep (outside s e) xs ++ (keep (outside s e) ys ++ keep (outside s e) zs)))

    stays : ((x : ℕ) → Inside a b x → Inside s e x → ⊥) → Goal
    stays n =
        let i : All (λ c. inside s e (start_of c) ≡ false) ys = all_map (λ c h. inside_false s e (start_of c) (n (start_of c) h)) starts in
        let o : All (λ c. outside s e (start_of c) ≡ true) ys = all_map (λ c h. ap not h) i in
        rw (keep_no (inside s e) i, keep_every (outside s e) o)
        (insert_together a b to ft (keep (inside s e) xs ++ keep (inside s e) zs) (keep (outside s e) xs) ys (keep (outside s e) zs) g.tiles)

    goes : s ≤ a → b ≤ e → Goal
    goes l r =
        let i : All (λ c. inside s e (start_of c) ≡ true) ys = all_map (λ c h. inside_true s e (start_of c) (omega arith, omega arith)) starts in
        let o : All (λ c. outside s e (start_of c) ≡ false) ys = all_map (λ c h. ap not h) i in
        let B : List Chunk = keep (inside s e) xs ++ (ys ++ keep (inside s e) zs) in
        let r = insert_parts to B (keep (outside s e) xs ++ keep (outside s e) zs) in
        rw (keep_every (inside s e) i, keep_no (outside s e) o, r.2)
        (together_after a b r.0 (together_behind a b r.1 (together_at a b (keep (inside s e) xs) ys (keep (inside s e) zs) g.tiles)))

    go : Dec (b ≤ s) → Dec (e ≤ a) → Goal
    go (yes h) _ = stays (λ x i j. omega arith)
    go (no h) (yes k) = stays (λ x i j. omega arith)
    go (no h) (no k) =
        let u : ¬ (a < s) = λ q. fs q (omega arith) in
        let v : ¬ (e < b) = λ q. fe (omega arith) q in
        goes (omega arith) (omega arith)

pub together_rearrange : (P : Plan) (a b : ℕ) → All (λ q. a < q → q < b → ⊥) (cuts P) → {cs : List Chunk} → Together a b cs → Together a b (rearrange P cs)
unfolding rearrange cuts
together_rearrange nothing a b f g = g
together_rearrange (clear x y r) a b f g = g
together_rearrange (replace x y t o) a b f g = g
together_rearrange (insert_piece p t left front) a b f g = g
together_rearrange (insert_whole t left front) a b f g = g
together_rearrange (move s e to) a b (cons fs (cons fe (cons ft nil))) g = together_move s e to a b fs fe ft g
