-- Laws of what `Decide` in specs/ defines.
use Prim.Native.Nat.{ℕ, zero, suc, ◌+◌, ◌≤◌, ◌<◌}
use native.Mathlib.Omega.{arith}
use native.Mathlib.Decide.{dec_le, dec_lt}
use mathlib.Core.Path.{◌≡◌, refl, ap, sym, subst}
use mathlib.Core.Bool.{Bool, true, false, ◌&&◌, ◌||◌, not, cond}
use mathlib.Core.List.{List, [], ◌∷◌}
use mathlib.Core.Logic.{◌↔◌}
use lib.Dec.{ltb, leb, eqb}
use lib.ListN.{length}
use borrow.Author.Tests.{ltb-true, leb-true, eqb-true, lt-ltb, le-ltb, le-leb, eq-eqb}
use Rattle.utf8.specs.Chars.{All}
use Rattle.model.specs.Text.{all, sum}
use Rattle.model.specs.MagicString.{MagicString}
use Rattle.model.specs.Limits.{Limits, piece_count, byte_count}
use Rattle.model.specs.Call.{Edit, remove, update_with, reset, insert, append, prepend, relocate, trim, trim_start, trim_end}
use Rattle.model.specs.Call.{trim_lines, indent_with, freeze, positions, run, listed}
use Rattle.model.specs.WellFormed.{WellFormed}
use Rattle.model.proofs.Lists.{both, and_left, and_right, clash, all_map, all_true, true_all}
use Rattle.model_join.specs.Tests.{most_cuts, new_pieces, new_bytes}
use Rattle.any_order.specs.Claim.{Pairs, Spot, byte, head, tail, left_of, right_of, beside, Bytes, Reach, IsMove, InReplaced, Wide, Space}
use Rattle.any_order.specs.Claim.{Disjoint, FreeOf, EditsApart, Premises}
use Rattle.model_join.specs.Tests.{pairs, Zone, bytes, head_zone, tail_zone, no_zone, left_zone, right_zone, zone, meets, is_move, in_replaced, free_of, is_wide}
use Rattle.model_join.specs.Tests.{edits_apart, each_alone, has_space, any_order_holds}
use Rattle.any_order.specs.Decide.{Decides}

-- ── a test decides a statement ──
always : {P : Type 0} → P → Decides true P
always p = (λ h. p, λ h. refl)

never : {P : Type 0} → (P → ⊥) → Decides false P
never n = (λ h. clash h refl, λ p. absurd (n p))

decide_lt : (a b : ℕ) → Decides (ltb a b) (a < b)
decide_lt a b = (ltb-true a b, lt-ltb a b)

decide_le : (a b : ℕ) → Decides (leb a b) (a ≤ b)
decide_le a b = (leb-true a b, le-leb a b)

decide_eq : (a b : ℕ) → Decides (eqb a b) (a ≡ b)
decide_eq a b = (eqb-true a b, eq-eqb a b)

decide_and : {P Q : Type 0} {a b : Bool} → Decides a P → Decides b Q → Decides (a && b) (P × Q)
decide_and {a = a} {b = b} f g = (λ h. (f.0 (and_left a b h), g.0 (and_right a b h)), λ h. both (f.1 h.0) (g.1 h.1))

decide_not : {P : Type 0} {a : Bool} → Decides a P → Decides (not a) (P → ⊥)
decide_not {P} {a} f = go a f
  where
    go : (a : Bool) → Decides a P → Decides (not a) (P → ⊥)
    go true f = (λ h. clash h refl, λ n. absurd (n (f.0 refl)))
    go false f = (λ h p. clash (f.1 p) refl, λ n. refl)

-- an implication
decide_if : {P Q : Type 0} {a b : Bool} → Decides a P → Decides b Q → Decides (not a || b) (P → Q)
decide_if {P} {Q} {a} {b} f g = go a f
  where
    go : (a : Bool) → Decides a P → Decides (not a || b) (P → Q)
    go true f = (λ h p. g.0 h, λ i. g.1 (i (f.0 refl)))
    go false f = (λ h p. clash (f.1 p) refl, λ i. refl)

module _ {A : Type 0} where
  decide_all : {P : A → Type 0} (f : A → Bool) → ((x : A) → Decides (f x) (P x)) → (xs : List A) → Decides (all f xs) (All P xs)
  decide_all f d xs = (λ h. all_map (λ x e. (d x).0 e) (all_true f xs h), λ h. true_all f (all_map (λ x p. (d x).1 p) h))

  decide_pairs : {R : A → A → Type 0} (f : A → A → Bool) → ((x y : A) → Decides (f x y) (R x y)) → (xs : List A) → Decides (pairs f xs) (Pairs R xs)
  decide_pairs f d [] = always tt
  decide_pairs f d (x ∷ xs) = decide_and (decide_all (f x) (d x) xs) (decide_pairs f d xs)

-- ── reach ──
abbrev InZone : Zone → Spot → Type 0
InZone (bytes a b) (byte x) = (a ≤ x) × (x < b)
InZone (bytes a b) head = ⊥
InZone (bytes a b) tail = ⊥
InZone head_zone (byte x) = ⊥
InZone head_zone head = Unit {0}
InZone head_zone tail = ⊥
InZone tail_zone (byte x) = ⊥
InZone tail_zone head = ⊥
InZone tail_zone tail = Unit {0}
InZone no_zone z = ⊥

bytes_zone : (a b : ℕ) (z : Spot) → Bytes a b z ↔ InZone (bytes a b) z
bytes_zone a b (byte x) = (λ h. h, λ h. h)
bytes_zone a b head = (λ h. h, λ h. h)
bytes_zone a b tail = (λ h. h, λ h. h)

head_is : (z : Spot) → (z ≡ head) ↔ InZone head_zone z
head_is z = (λ h. subst (InZone head_zone) (sym h) tt, back z)
  where
    back : (z : Spot) → InZone head_zone z → z ≡ head
    back (byte x) h = absurd h
    back head h = refl
    back tail h = absurd h

tail_is : (z : Spot) → (z ≡ tail) ↔ InZone tail_zone z
tail_is z = (λ h. subst (InZone tail_zone) (sym h) tt, back z)
  where
    back : (z : Spot) → InZone tail_zone z → z ≡ tail
    back (byte x) h = absurd h
    back head h = absurd h
    back tail h = refl

byte_is : (p : ℕ) (z : Spot) → (z ≡ byte p) ↔ InZone (bytes p (suc p)) z
byte_is p z = (λ h. subst (InZone (bytes p (suc p))) (sym h) (omega arith, omega arith), back z)
  where
    back : (z : Spot) → InZone (bytes p (suc p)) z → z ≡ byte p
    back (byte x) h = ap byte (omega arith)
    back head h = absurd h
    back tail h = absurd h

left_is : (p : ℕ) (z : Spot) → (z ≡ left_of p) ↔ InZone (left_zone p) z
unfolding left_of
left_is zero z = head_is z
left_is (suc p) z = byte_is p z

right_is : (n p : ℕ) (z : Spot) → (z ≡ right_of n p) ↔ InZone (right_zone n p) z
unfolding right_of
right_is n p z = go (dec_lt p n)
  where
    go : Dec (p < n) → (z ≡ cond (ltb p n) (byte p) tail) ↔ InZone (right_zone n p) z
    go (yes l) = rw (lt-ltb p n l) (byte_is p z)
    go (no l) = rw (le-ltb p n (omega arith)) (tail_is z)

beside_is : (n p : ℕ) (left : Bool) (z : Spot) → (z ≡ beside n p left) ↔ InZone (cond left (left_zone p) (right_zone n p)) z
beside_is n p true z = left_is p z
beside_is n p false z = right_is n p z

nothing_reached : (z : Spot) → ⊥ ↔ InZone no_zone z
nothing_reached z = (λ h. h, λ h. h)

reach_zone : (n : ℕ) (e : Edit) (z : Spot) → Reach n e z ↔ InZone (zone n e) z
reach_zone n (remove a b) z = bytes_zone a b z
reach_zone n (update_with a b t o) z = bytes_zone a b z
reach_zone n (reset a b) z = bytes_zone a b z
reach_zone n (insert p t left front) z = beside_is n p left z
reach_zone n (append t) z = tail_is z
reach_zone n (prepend t) z = head_is z
reach_zone n (relocate a b to) z = nothing_reached z
reach_zone n (trim p) z = nothing_reached z
reach_zone n (trim_start p) z = nothing_reached z
reach_zone n (trim_end p) z = nothing_reached z
reach_zone n trim_lines z = nothing_reached z
reach_zone n (indent_with i l) z = nothing_reached z
reach_zone n (freeze a b) z = nothing_reached z

abbrev Common : Zone → Zone → Type 0
Common Z W = (z : Spot) × InZone Z z × InZone W z

-- two ranges have a byte in common exactly if each has one and each starts before the other ends
common_bytes : (a b c d : ℕ) → Decides ((ltb a b && ltb c d) && (ltb a d && ltb c b)) (Common (bytes a b) (bytes c d))
common_bytes a b c d = (λ h. to (tests.0 h), λ h. tests.1 (from h.0 h.1 h.2))
  where
    tests : Decides ((ltb a b && ltb c d) && (ltb a d && ltb c b)) (((a < b) × (c < d)) × ((a < d) × (c < b)))
    tests = decide_and (decide_and (decide_lt a b) (decide_lt c d)) (decide_and (decide_lt a d) (decide_lt c b))

    to : ((a < b) × (c < d)) × ((a < d) × (c < b)) → Common (bytes a b) (bytes c d)
    to h = go (dec_le a c)
      where
        go : Dec (a ≤ c) → Common (bytes a b) (bytes c d)
        go (yes l) = (byte c, (l, h.1.1), (omega arith, h.0.1))
        go (no l) = (byte a, (omega arith, h.0.0), (omega arith, h.1.0))

    from : (z : Spot) → InZone (bytes a b) z → InZone (bytes c d) z → ((a < b) × (c < d)) × ((a < d) × (c < b))
    from (byte x) i j = ((omega arith, omega arith), (omega arith, omega arith))
    from head i j = absurd i
    from tail i j = absurd i

bytes_not_head : (a b : ℕ) (z : Spot) → InZone (bytes a b) z → InZone head_zone z → ⊥
bytes_not_head a b (byte x) i j = j
bytes_not_head a b head i j = i
bytes_not_head a b tail i j = i

bytes_not_tail : (a b : ℕ) (z : Spot) → InZone (bytes a b) z → InZone tail_zone z → ⊥
bytes_not_tail a b (byte x) i j = j
bytes_not_tail a b head i j = i
bytes_not_tail a b tail i j = i

head_not_tail : (z : Spot) → InZone head_zone z → InZone tail_zone z → ⊥
head_not_tail (byte x) i j = i
head_not_tail head i j = j
head_not_tail tail i j = i

decide_meets : (Z W : Zone) → Decides (meets Z W) (Common Z W)
decide_meets (bytes a b) (bytes c d) = common_bytes a b c d
decide_meets (bytes a b) head_zone = never (λ h. bytes_not_head a b h.0 h.1 h.2)
decide_meets (bytes a b) tail_zone = never (λ h. bytes_not_tail a b h.0 h.1 h.2)
decide_meets (bytes a b) no_zone = never (λ h. h.2)
decide_meets head_zone (bytes a b) = never (λ h. bytes_not_head a b h.0 h.2 h.1)
decide_meets head_zone head_zone = always (head, tt, tt)
decide_meets head_zone tail_zone = never (λ h. head_not_tail h.0 h.1 h.2)
decide_meets head_zone no_zone = never (λ h. h.2)
decide_meets tail_zone (bytes a b) = never (λ h. bytes_not_tail a b h.0 h.2 h.1)
decide_meets tail_zone head_zone = never (λ h. head_not_tail h.0 h.2 h.1)
decide_meets tail_zone tail_zone = always (tail, tt, tt)
decide_meets tail_zone no_zone = never (λ h. h.2)
decide_meets no_zone W = never (λ h. h.1)

decide_reach : (n : ℕ) (x y : Edit) → Decides (not (meets (zone n x) (zone n y))) (Disjoint n x y)
decide_reach n x y =
    let d : Decides (not (meets (zone n x) (zone n y))) (Common (zone n x) (zone n y) → ⊥) = decide_not (decide_meets (zone n x) (zone n y)) in (
      λ h z i j. d.0 h (z, (reach_zone n x z).0 i, (reach_zone n y z).0 j),
      λ h. d.1 (λ c. h c.0 ((reach_zone n x c.0).1 c.1) ((reach_zone n y c.0).1 c.2)),
    )

-- ── moves and replaced ranges ──
decide_move : (e : Edit) → Decides (is_move e) (IsMove e)
decide_move (remove a b) = never (λ h. h)
decide_move (update_with a b t o) = never (λ h. h)
decide_move (reset a b) = never (λ h. h)
decide_move (insert p t left front) = never (λ h. h)
decide_move (append t) = never (λ h. h)
decide_move (prepend t) = never (λ h. h)
decide_move (relocate a b to) = always tt
decide_move (trim p) = never (λ h. h)
decide_move (trim_start p) = never (λ h. h)
decide_move (trim_end p) = never (λ h. h)
decide_move trim_lines = never (λ h. h)
decide_move (indent_with i l) = never (λ h. h)
decide_move (freeze a b) = never (λ h. h)

decide_replaced : (e : Edit) (p : ℕ) → Decides (in_replaced e p) (InReplaced e p)
decide_replaced (remove a b) p = never (λ h. h)
decide_replaced (update_with a b t o) p = decide_and (decide_lt a p) (decide_lt p b)
decide_replaced (reset a b) p = never (λ h. h)
decide_replaced (insert q t left front) p = never (λ h. h)
decide_replaced (append t) p = never (λ h. h)
decide_replaced (prepend t) p = never (λ h. h)
decide_replaced (relocate a b to) p = never (λ h. h)
decide_replaced (trim q) p = never (λ h. h)
decide_replaced (trim_start q) p = never (λ h. h)
decide_replaced (trim_end q) p = never (λ h. h)
decide_replaced trim_lines p = never (λ h. h)
decide_replaced (indent_with i l) p = never (λ h. h)
decide_replaced (freeze a b) p = never (λ h. h)

decide_free : (x y : Edit) → Decides (free_of x y) (FreeOf x y)
decide_free x y = decide_if (decide_move x) (decide_all (λ p. not (in_replaced y p)) (λ p. decide_not (decide_replaced y p)) (positions x))

decide_one_move : (x y : Edit) → Decides (not (is_move x && is_move y)) (IsMove x → IsMove y → ⊥)
decide_one_move x y =
    let d : Decides (not (is_move x && is_move y)) (IsMove x × IsMove y → ⊥) = decide_not (decide_and (decide_move x) (decide_move y)) in
    (λ h i j. d.0 h (i, j), λ h. d.1 (λ c. h c.0 c.1))

-- ── width ──
decide_wide : (e : Edit) → Decides (is_wide e) (Wide e)
decide_wide (remove a b) = decide_lt a b
decide_wide (update_with a b t o) = decide_lt a b
decide_wide (reset a b) = decide_lt a b
decide_wide (insert p t left front) = always tt
decide_wide (append t) = always tt
decide_wide (prepend t) = always tt
decide_wide (relocate a b to) = always tt
decide_wide (trim p) = always tt
decide_wide (trim_start p) = always tt
decide_wide (trim_end p) = always tt
decide_wide trim_lines = always tt
decide_wide (indent_with i l) = always tt
decide_wide (freeze a b) = always tt

-- ── all premises ──
pub decide_edits : (n : ℕ) (L : List Edit) → Decides (edits_apart n L) (EditsApart n L)
unfolding edits_apart
decide_edits n L = (λ h. parts (tests.0 h), λ p. tests.1 (p.source_not_empty, (p.edits, (p.width, (p.within_source, (p.reaches, (p.one_move, p.moves_free)))))))
  where
    Parts : Type 0
    Parts =
        (0 < n)
        × (All (λ e. listed e ≡ true) L
        × (All Wide L
        × (All (λ e. All (λ p. p ≤ n) (positions e)) L
        × (Pairs (Disjoint n) L × (Pairs (λ x y. IsMove x → IsMove y → ⊥) L × Pairs (λ x y. FreeOf x y × FreeOf y x) L)))))

    tests : Decides (edits_apart n L) Parts
    tests =
        decide_and (decide_lt 0 n)
        (decide_and (decide_all listed (λ e. (λ h. h, λ h. h)) L)
        (decide_and (decide_all is_wide decide_wide L)
        (decide_and (decide_all (λ e. all (λ p. leb p n) (positions e)) (λ e. decide_all (λ p. leb p n) (λ p. decide_le p n) (positions e)) L)
        (decide_and (decide_pairs (λ x y. not (meets (zone n x) (zone n y))) (decide_reach n) L)
        (decide_and (decide_pairs (λ x y. not (is_move x && is_move y)) decide_one_move L)
        (decide_pairs (λ x y. free_of x y && free_of y x) (λ x y. decide_and (decide_free x y) (decide_free y x)) L))))))

    parts : Parts → EditsApart n L
    parts h = record {
      source_not_empty = h.0;
      edits = h.1.0;
      width = h.1.1.0;
      within_source = h.1.1.1.0;
      reaches = h.1.1.1.1.0;
      one_move = h.1.1.1.1.1.0;
      moves_free = h.1.1.1.1.1.1;
    }

pub decide_alone : (k : Limits) (m : MagicString) (L : List Edit) → Decides (each_alone k m L) (All (λ e. (run k e m).number ≡ 0) L)
unfolding each_alone
decide_alone k m L = decide_all (λ e. eqb (run k e m).number 0) (λ e. decide_eq (run k e m).number 0) L

pub decide_space : (k : Limits) (m : MagicString) (L : List Edit) → Decides (has_space k m L) (Space k m L)
unfolding has_space
decide_space k m L = (λ h. let p = tests.0 h in record { chunks = p.0; pieces = p.1.0; bytes = p.1.1 }, λ s. tests.1 (s.chunks, (s.pieces, s.bytes)))
  where
    tests : Decides (has_space k m L) ((length m.chunks + most_cuts L ≤ k.most_chunks) × ((piece_count m + sum new_pieces L ≤ k.most_pieces) × (byte_count m + sum new_bytes L ≤ k.most_bytes)))
    tests = decide_and (decide_le _ _) (decide_and (decide_le _ _) (decide_le _ _))

-- on a well-formed desk the computed test is the premises
pub decide_premises : (k : Limits) (m : MagicString) (L : List Edit) → WellFormed k m → Decides (any_order_holds k m L) (Premises k m L)
unfolding any_order_holds
decide_premises k m L w =
    (λ h. let p = tests.0 h in record { well_formed = w; apart = p.0; alone = p.1.0; space = p.1.1 }, λ p. tests.1 (p.apart, (p.alone, p.space)))
  where
    tests : Decides (any_order_holds k m L) (EditsApart (length m.source) L × (All (λ e. (run k e m).number ≡ 0) L × Space k m L))
    tests = decide_and (decide_edits (length m.source) L) (decide_and (decide_alone k m L) (decide_space k m L))
