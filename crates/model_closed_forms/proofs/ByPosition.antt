-- Chunks by position: the walk of `remove` and `reset`, and the chunk that an insertion looks for. Each is a map over the chunks, keyed by their spans.
use Prim.Native.Nat.{ℕ, zero, suc, ◌-◌, ◌≤◌, ◌<◌}
use native.Mathlib.Omega.{arith}
use native.Mathlib.Decide.{dec_le, dec_lt, ℕ_discrete}
use mathlib.Core.Path.{◌≡◌, refl, ap, ap₂, sym, ◌∙◌}
use mathlib.Core.Bool.{Bool, true, false, cond}
use mathlib.Core.List.{List, [], ◌∷◌, map, map-map}
use mathlib.Core.Option.{Option, none, some}
use lib.Dec.{ltb, leb, eqb}
use lib.ListN.{length}
use borrow.Author.Tests.{eq-eqb, ne_eqb, lt-ltb, le-ltb, le-leb, lt-leb}
use Rattle.utf8.specs.Chars.{All, nil, cons}
use Rattle.model.specs.Text.{Text, sum, is_some}
use Rattle.model.specs.Chunk.{Texts, Chunk, chunk_from, with_texts, start_of, end_of}
use Rattle.model.specs.MagicString.{edge, by_edge, by_start, by_end, at_edge, at_start}
use Rattle.model.specs.Movement.{change_by_position}
use Rattle.model.specs.WellFormed.{covers}
use Rattle.model.proofs.Lists.{clash, rest_of, all_of, all_map, all_map₂, map_keeps, map_same, map_none}
use Rattle.model.proofs.Spans.{covers_in, covers_out}
use Rattle.model_closed_forms.specs.Plan.{inside, chunk_starts, chunk_ends, has_chunk}
use Rattle.model_closed_forms.proofs.Cuts.{Contains, ends_by, starts_from}
use Rattle.model_closed_forms.proofs.Spans.{Inside, inside_true, inside_false, dec_inside, covers_map, none_cover, self_covered, Once, once_rest, one_start, one_end}
use Rattle.model_closed_forms.proofs.Spans.{tiling_once}
use Rattle.model_closed_forms.specs.Spans.{Proper, Tiling, Cover, empty, tiled}

-- the chunks that start from a up to b are changed by f
abbrev pub in_range : ℕ → ℕ → (Texts → Texts) → Chunk → Chunk
in_range a b f c = with_texts (λ x. cond (inside a b (start_of c)) (f x) x) c

-- the chunk that ends at p (left), or starts there (right), is changed by f
abbrev pub if_edge : Bool → ℕ → (Texts → Texts) → Chunk → Chunk
if_edge left p f c = with_texts (λ x. cond (eqb (edge left c.span) p) (f x) x) c

range_in : (a b : ℕ) (f : Texts → Texts) (c : Chunk) → Inside a b (start_of c) → in_range a b f c ≡ with_texts f c
range_in a b f c h = rw (inside_true a b (start_of c) h)

range_out : (a b : ℕ) (f : Texts → Texts) (c : Chunk) → (Inside a b (start_of c) → ⊥) → in_range a b f c ≡ c
range_out a b f c h = rw (inside_false a b (start_of c) h)

-- ── how many chunks are left for the walk ──
from : ℕ → Chunk → ℕ
from a c = cond (leb a (start_of c)) 1 0

from_in : (a : ℕ) (c : Chunk) → a ≤ start_of c → from a c ≡ 1
unfolding from
from_in a c h = rw (le-leb a (start_of c) h)

from_out : (a : ℕ) (c : Chunk) → start_of c < a → from a c ≡ 0
unfolding from
from_out a c h = rw (lt-leb a (start_of c) h)

from_texts : (a : ℕ) (f : Texts → Texts) (c : Chunk) → from a (with_texts f c) ≡ from a c
unfolding from
from_texts a f c = refl

from_range : (a x y : ℕ) (f : Texts → Texts) (cs : List Chunk) → sum (from a) (map (in_range x y f) cs) ≡ sum (from a) cs
from_range a x y f [] = refl
from_range a x y f (c ∷ cs) = omega (arith, from_texts a (λ t. cond (inside x y (start_of c)) (f t) t) c, from_range a x y f cs)

from_less : (a y : ℕ) (c : Chunk) → a ≤ y → from y c ≤ from a c
from_less a y c l = go (dec_le y (start_of c))
  where
    go : Dec (y ≤ start_of c) → from y c ≤ from a c
    go (yes h) = omega (arith, from_in y c h, from_in a c (omega arith))
    go (no h) = omega (arith, from_out y c (omega arith))

from_fewer : (a y : ℕ) (cs : List Chunk) → a ≤ y → sum (from y) cs ≤ sum (from a) cs
from_fewer a y [] l = omega arith
from_fewer a y (c ∷ cs) l = omega (arith, from_less a y c l, from_fewer a y cs l)

from_length : (a : ℕ) (cs : List Chunk) → sum (from a) cs ≤ length cs
from_length a [] = omega arith
from_length a (c ∷ cs) = omega (arith, from_most, from_length a cs)
  where
    from_most : from a c ≤ 1
    from_most = let l = from_less 0 a c (omega arith) in omega (arith, from_in 0 c (omega arith))

from_none : (a : ℕ) (cs : List Chunk) → sum (from a) cs ≡ 0 → All (λ c. start_of c < a) cs
from_none a [] h = nil
from_none a (c ∷ cs) h = cons (go (dec_lt (start_of c) a)) (from_none a cs (omega arith))
  where
    go : Dec (start_of c < a) → start_of c < a
    go (yes k) = k
    go (no k) = absurd (omega (arith, from_in a c (omega arith)))

-- ── the chunk that starts at a ──
-- its end is y: no other chunk starts before y and behind a, none contains y, and a turn of the walk changes this one
record Next (f : Texts → Texts) (a y : ℕ) (cs : List Chunk) : Type 0 where
  above : a < y
  covered : (z : ℕ) → a ≤ z → z < y → 1 ≤ sum (covers z) cs
  apart : All (λ d. a < start_of d → start_of d < y → ⊥) cs
  edge : All (λ d. Contains y d → ⊥) cs
  fewer : suc (sum (from y) cs) ≤ sum (from a) cs
  turn : at_start a f cs ≡ map (in_range a y f) cs

next_here : (f : Texts → Texts) (c : Chunk) (cs : List Chunk) → Once (c ∷ cs) → All Proper (c ∷ cs) → Next f (start_of c) (end_of c) (c ∷ cs)
next_here f c cs o (cons p pr) =
    let a : ℕ = start_of c in
    let y : ℕ = end_of c in
    let range_found : (z : ℕ) → a ≤ z → z < y → covers z c ≡ 1 = λ z u v. covers_in z c (u, v) in
    let apart-c : a < a → a < y → ⊥ = λ u v. omega arith in
    let apart-d : (d : Chunk) → 1 ≤ sum (covers (start_of d)) cs → a < start_of d → start_of d < y → ⊥ = λ d k u v. omega (arith, o (start_of d), range_found (start_of d) (omega arith) v) in
    let aparts : All (λ d. a < start_of d → start_of d < y → ⊥) cs = all_map apart-d (self_covered pr) in
    let edge-c : Contains y c → ⊥ = λ i. omega arith in
    let gone : sum (covers (y - 1)) cs ≡ 0 = omega (arith, o (y - 1), range_found (y - 1) (omega arith) (omega arith)) in
    let edge-d : (d : Chunk) → (Inside (start_of d) (end_of d) (y - 1) → ⊥) → Contains y d → ⊥ = λ d n i. n (omega arith) in
    let others : (d : Chunk) → (start_of d ≡ a → ⊥) → (a < start_of d → start_of d < y → ⊥) → d ≡ in_range a y f d =
    λ d n m. sym (range_out a y f d (λ i. m (omega (arith, n)) i.1)) in
    record {
      above = p;
      covered = λ z u v. omega (arith, range_found z u v);
      apart = cons apart-c aparts;
      edge = cons edge-c (all_map edge-d (none_cover (y - 1) cs gone));
      fewer = omega (arith, from_in a c (omega arith), from_out y c p, from_fewer a y cs (omega arith));
      turn =
          rw (eq-eqb a a refl)
          (ap₂ (λ d l. d ∷ l) (sym (range_in a y f c (omega arith))) (sym (map_none (in_range a y f) (all_map (λ d e. sym e) (all_map₂ others (one_start c cs o (cons p pr)) aparts)))));
    }

next_later : (f : Texts → Texts) (a y : ℕ) (c : Chunk) (cs : List Chunk) → Once (c ∷ cs) → Proper c → (start_of c ≡ a → ⊥) → Next f a y cs → Next f a y (c ∷ cs)
next_later f a y c cs o p e r =
    let ab : a < y = r.above in
    let apart-c : a < start_of c → start_of c < y → ⊥ = λ u v. omega (arith, o (start_of c), covers_in (start_of c) c (omega arith), r.covered (start_of c) (omega arith) v) in
    let edge-c : Contains y c → ⊥ = λ i. omega (arith, o (y - 1), covers_in (y - 1) c (omega arith), r.covered (y - 1) (omega arith) (omega arith)) in
    record {
      above = ab;
      covered = λ z u v. omega (arith, r.covered z u v);
      apart = cons apart-c r.apart;
      edge = cons edge-c r.edge;
      fewer = omega (arith, r.fewer, from_less a y c (omega arith));
      turn =
          rw (ne_eqb (start_of c) a e)
          (ap₂ (λ d l. d ∷ l) (sym (range_out a y f c (λ i. apart-c (omega (arith, e)) i.1))) r.turn);
    }

next_of : (f : Texts → Texts) (a : ℕ) (cs : List Chunk) → Once cs → All Proper cs → (d : Chunk) → by_start a cs ≡ some d → Next f a (end_of d) cs
next_of f a [] o pr d h = let z : ◌≡◌ {A = ℕ} 0 1 = cc in absurd (omega arith)
next_of f a (c ∷ cs) o (cons p pr) d h = go (ℕ_discrete (start_of c) a) (next_of f a cs (once_rest c cs o) pr d)
  where
    go : Dec (start_of c ≡ a) → (by_start a cs ≡ some d → Next f a (end_of d) cs) → Next f a (end_of d) (c ∷ cs)
    go (yes e) ih =
        let k : some c ≡ some d = rw (eq-eqb (start_of c) a e) at h in
        let s : c ≡ d = cc in
        rw (← s, ← e) (next_here f c cs o (cons p pr))
    go (no e) ih = next_later f a (end_of d) c cs o p e (ih (rw (ne_eqb (start_of c) a e) at h))

-- no chunk starts at a
pub none_starts : (a : ℕ) (cs : List Chunk) → is_some (by_start a cs) ≡ false → All (λ c. start_of c ≡ a → ⊥) cs
none_starts a [] h = nil
none_starts a (c ∷ cs) h = go (ℕ_discrete (start_of c) a) (none_starts a cs)
  where
    go : Dec (start_of c ≡ a) → (is_some (by_start a cs) ≡ false → All (λ c. start_of c ≡ a → ⊥) cs) → All (λ c. start_of c ≡ a → ⊥) (c ∷ cs)
    go (yes e) ih = clash refl (rw (eq-eqb (start_of c) a e) at h)
    go (no e) ih = cons e (ih (rw (ne_eqb (start_of c) a e) at h))

-- ── where chunks start and end, on aligned spans ──
start_found : (p : ℕ) {cs : List Chunk} → All (λ c. Contains p c → ⊥) cs → 1 ≤ sum (covers p) cs → is_some (by_start p cs) ≡ true
start_found p nil h = absurd (omega arith)
start_found p (cons {x = c} {xs = cs} n ns) h = go (ℕ_discrete (start_of c) p) (start_found p ns)
  where
    go : Dec (start_of c ≡ p) → (1 ≤ sum (covers p) cs → is_some (by_start p cs) ≡ true) → is_some (by_start p (c ∷ cs)) ≡ true
    go (yes e) ih = rw (eq-eqb (start_of c) p e)
    go (no e) ih =
        let out : Inside (start_of c) (end_of c) p → ⊥ = λ i. e (omega (arith, starts_from p c n i.1)) in
        rw (ne_eqb (start_of c) p e) (ih (omega (arith, covers_out p c out)))

end_found : (p : ℕ) {cs : List Chunk} → All (λ c. Contains p c → ⊥) cs → 0 < p → 1 ≤ sum (covers (p - 1)) cs → is_some (by_end p cs) ≡ true
end_found p nil q h = absurd (omega arith)
end_found p (cons {x = c} {xs = cs} n ns) q h = go (ℕ_discrete (end_of c) p) (end_found p ns q)
  where
    go : Dec (end_of c ≡ p) → (1 ≤ sum (covers (p - 1)) cs → is_some (by_end p cs) ≡ true) → is_some (by_end p (c ∷ cs)) ≡ true
    go (yes e) ih = rw (eq-eqb (end_of c) p e)
    go (no e) ih =
        let out : Inside (start_of c) (end_of c) (p - 1) → ⊥ = λ i. e (omega (arith, ends_by p c n (omega arith))) in
        rw (ne_eqb (end_of c) p e) (ih (omega (arith, covers_out (p - 1) c out)))

start_missing : (p : ℕ) {cs : List Chunk} → All (λ c. start_of c ≡ p → ⊥) cs → by_start p cs ≡ none
start_missing p nil = refl
start_missing p (cons {x = c} n ns) = rw (ne_eqb (start_of c) p n) (start_missing p ns)

end_missing : (p : ℕ) {cs : List Chunk} → All (λ c. end_of c ≡ p → ⊥) cs → by_end p cs ≡ none
end_missing p nil = refl
end_missing p (cons {x = c} n ns) = rw (ne_eqb (end_of c) p n) (end_missing p ns)

-- ── the walk of `remove` and `reset` ──
range_join : (a y b : ℕ) (f : Texts → Texts) → a ≤ y → y ≤ b → (c : Chunk) → in_range y b f (in_range a y f c) ≡ in_range a b f c
range_join a y b f l k c = go (dec_inside a y (start_of c)) (dec_inside y b (start_of c))
  where
    go : Dec (Inside a y (start_of c)) → Dec (Inside y b (start_of c)) → in_range y b f (in_range a y f c) ≡ in_range a b f c
    go (yes i) (yes j) = absurd (omega arith)
    go (yes i) (no j) = rw (inside_true a y (start_of c) i, inside_false y b (start_of c) j, inside_true a b (start_of c) (omega arith))
    go (no i) (yes j) = rw (inside_false a y (start_of c) i, inside_true y b (start_of c) j, inside_true a b (start_of c) (omega arith))
    go (no i) (no j) = rw (inside_false a y (start_of c) i, inside_false y b (start_of c) j, inside_false a b (start_of c) (λ h. side h (dec_lt (start_of c) y)))
      where
        side : Inside a b (start_of c) → Dec (start_of c < y) → ⊥
        side h (yes q) = i (h.0, q)
        side h (no q) = j (omega arith)

range_range : (a y b : ℕ) (f : Texts → Texts) → a ≤ y → y ≤ b → (cs : List Chunk) → map (in_range y b f) (map (in_range a y f) cs) ≡ map (in_range a b f) cs
range_range a y b f l k cs = map-map (in_range y b f) (in_range a y f) cs ∙ map_same (λ c. in_range y b f (in_range a y f c)) (in_range a b f) (all_of (range_join a y b f l k) cs)

range_past : (a b : ℕ) (f : Texts → Texts) {cs : List Chunk} → All (λ c. start_of c < a) cs → cs ≡ map (in_range a b f) cs
range_past a b f h = sym (map_none (in_range a b f) (all_map (λ c k. range_out a b f c (λ i. omega arith)) h))

tiling_range : (n a b : ℕ) (f : Texts → Texts) (cs : List Chunk) → Tiling n cs → Tiling n (map (in_range a b f) cs)
tiling_range n a b f cs t = record {
  proper = map_keeps (in_range a b f) t.proper;
  within = map_keeps (in_range a b f) t.within;
  exact = λ x h. covers_map x (λ c x. cond (inside a b (start_of c)) (f x) x) cs ∙ t.exact x h;
}

-- a turn of the walk
module _ (k : ℕ) (f : Texts → Texts) (a b : ℕ) (cs : List Chunk) where
  turn_none : by_start a cs ≡ none → change_by_position (suc k) f a b cs ≡ cs
  turn_none e = rw (e, change_by_position)

  turn_more : (c : Chunk) → by_start a cs ≡ some c → ltb (end_of c) b ≡ true → change_by_position (suc k) f a b cs ≡ change_by_position k f (end_of c) b (at_start a f cs)
  turn_more c e h = rw (e, change_by_position, h)

  turn_last : (c : Chunk) → by_start a cs ≡ some c → ltb (end_of c) b ≡ false → change_by_position (suc k) f a b cs ≡ at_start a f cs
  turn_last c e h = rw (e, change_by_position, h)

-- the last turn: the chunk's end may lie past b
range_last : (a y b : ℕ) (f : Texts → Texts) → a < b → b ≤ y → {cs : List Chunk} → All (λ d. a < start_of d → start_of d < y → ⊥) cs → map (in_range a y f) cs ≡ map (in_range a b f) cs
range_last a y b f ab by h = map_same (in_range a y f) (in_range a b f) (all_map same h)
  where
    same : (d : Chunk) → (a < start_of d → start_of d < y → ⊥) → in_range a y f d ≡ in_range a b f d
    same d m = go (ℕ_discrete (start_of d) a)
      where
        go : Dec (start_of d ≡ a) → in_range a y f d ≡ in_range a b f d
        go (yes e) = range_in a y f d (omega arith) ∙ sym (range_in a b f d (omega arith))
        go (no e) = range_out a y f d (λ i. m (omega arith) (omega arith)) ∙ sym (range_out a b f d (λ i. m (omega arith) (omega arith)))

module _ (n : ℕ) (f : Texts → Texts) (b : ℕ) where
  walk : (k a : ℕ) (cs : List Chunk) → a < b → Tiling n cs → All (λ c. Contains a c → ⊥) cs → sum (from a) cs ≤ k → change_by_position k f a b cs ≡ map (in_range a b f) cs
  walk zero a cs ab t al h = range_past a b f (from_none a cs (omega arith))
  walk (suc k) a cs ab t al h = go (by_start a cs) refl (λ y. walk k y (map (in_range a y f) cs))
    where
      past : is_some (by_start a cs) ≡ false → All (λ c. start_of c < a) cs
      past e = side (dec_lt a n)
        where
          side : Dec (a < n) → All (λ c. start_of c < a) cs
          side (yes l) = clash (start_found a al (omega (arith, t.exact a l))) e
          side (no l) = all_map₂ (λ c p w. omega arith) t.proper t.within

      go : (o : Option Chunk) → by_start a cs ≡ o
          → ((y : ℕ) → y < b → Tiling n (map (in_range a y f) cs) → All (λ c. Contains y c → ⊥) (map (in_range a y f) cs) → sum (from y) (map (in_range a y f) cs) ≤ k
          → change_by_position k f y b (map (in_range a y f) cs) ≡ map (in_range y b f) (map (in_range a y f) cs))
          → change_by_position (suc k) f a b cs ≡ map (in_range a b f) cs
      go none e ih = turn_none k f a b cs e ∙ range_past a b f (past (ap is_some e))
      go (some c) e ih = next (dec_lt (end_of c) b)
        where
          y : ℕ
          y = end_of c

          r : Next f a (end_of c) cs
          r = next_of f a cs (tiling_once t) t.proper c e

          next : Dec (end_of c < b) → change_by_position (suc k) f a b cs ≡ map (in_range a b f) cs
          next (yes l) =
              turn_more k f a b cs c e (lt-ltb y b l)
              ∙ (ap (change_by_position k f y b) r.turn
              ∙ (ih y l (tiling_range n a y f cs t) (map_keeps (in_range a y f) r.edge) (omega (arith, r.fewer, from_range y a y f cs))
              ∙ range_range a y b f (omega (arith, r.above)) (omega arith) cs))
          next (no l) = turn_last k f a b cs c e (le-ltb y b (omega arith)) ∙ (r.turn ∙ range_last a y b f ab (omega arith) r.apart)

-- on the one chunk of an empty source: changed once if a is 0
walk_empty : (f : Texts → Texts) (a b : ℕ) (z : Bool) (t : Texts) → a < b → change_by_position 1 f a b (chunk_from 0 0 z t ∷ []) ≡ map (in_range a b f) (chunk_from 0 0 z t ∷ [])
walk_empty f a b z t ab = go (ℕ_discrete 0 a)
  where
    c : Chunk
    c = chunk_from 0 0 z t

    go : Dec (0 ≡ a) → change_by_position 1 f a b (c ∷ []) ≡ map (in_range a b f) (c ∷ [])
    go (yes e) =
        turn_more 0 f a b (c ∷ []) c (rw (eq-eqb 0 a e)) (lt-ltb 0 b (omega arith))
        ∙ rw (eq-eqb 0 a e, inside_true a b 0 (omega arith))
    go (no e) = turn_none 0 f a b (c ∷ []) (rw (ne_eqb 0 a e)) ∙ rw (inside_false a b 0 (λ i. e (omega arith)))

pub by_position : (f : Texts → Texts) (a b : ℕ) → a < b → {s : Text} {cs : List Chunk} → Cover s cs → All (λ c. Contains a c → ⊥) cs → change_by_position (length cs) f a b cs ≡ map (in_range a b f) cs
by_position f a b ab (empty z t) al = walk_empty f a b z t ab
by_position f a b ab (tiled {source = s} {cs = cs} l t) al = walk (length s) f b (length cs) a cs ab t al (from_length a cs)

-- ── the chunk that an insertion looks for ──
-- no other chunk has that edge
one_edge : (left : Bool) (c : Chunk) (cs : List Chunk) → Once (c ∷ cs) → All Proper (c ∷ cs) → All (λ d. edge left d.span ≡ edge left c.span → ⊥) cs
one_edge true c cs o pr = one_end c cs o pr
one_edge false c cs o pr = one_start c cs o pr

at_edge_map : (left : Bool) (p : ℕ) (f : Texts → Texts) (cs : List Chunk) → Once cs → All Proper cs → at_edge left p f cs ≡ map (if_edge left p f) cs
at_edge_map left p f [] o pr = refl
at_edge_map left p f (c ∷ cs) o pr = go (ℕ_discrete (edge left c.span) p) (at_edge_map left p f cs (once_rest c cs o) (rest_of pr))
  where
    go : Dec (edge left c.span ≡ p) → at_edge left p f cs ≡ map (if_edge left p f) cs → at_edge left p f (c ∷ cs) ≡ map (if_edge left p f) (c ∷ cs)
    go (yes e) ih =
        let w : (d : Chunk) → (edge left d.span ≡ edge left c.span → ⊥) → if_edge left p f d ≡ d = λ d n. rw (ne_eqb (edge left d.span) p (λ j. n (j ∙ sym e))) in
        rw (eq-eqb (edge left c.span) p e) (ap (λ l. with_texts f c ∷ l) (sym (map_none (if_edge left p f) (all_map w (one_edge left c cs o pr)))))
    go (no e) ih = rw (ne_eqb (edge left c.span) p e) (ap (λ l. c ∷ l) ih)

-- on the one chunk of an empty source
one_or : (b : Bool) (f : Texts → Texts) (c : Chunk) → cond b (with_texts f c ∷ []) (c ∷ []) ≡ with_texts (λ x. cond b (f x) x) c ∷ []
one_or true f c = refl
one_or false f c = refl

pub at_edge_is_map : (left : Bool) (p : ℕ) (f : Texts → Texts) {s : Text} {cs : List Chunk} → Cover s cs → at_edge left p f cs ≡ map (if_edge left p f) cs
at_edge_is_map true p f (empty z t) = one_or (eqb 0 p) f (chunk_from 0 0 z t)
at_edge_is_map false p f (empty z t) = one_or (eqb 0 p) f (chunk_from 0 0 z t)
at_edge_is_map left p f (tiled {cs = cs} l t) = at_edge_map left p f cs (tiling_once t) t.proper

-- a chunk ends, or starts, where the plan says
end_is_found : (p : ℕ) {s : Text} {cs : List Chunk} → Cover s cs → All (λ c. Contains p c → ⊥) cs → is_some (by_end p cs) ≡ chunk_ends (length s) p
end_is_found zero (empty z t) al = refl
end_is_found (suc p) (empty z t) al = rw (ne_eqb 0 (suc p) (λ e. omega arith), lt-leb (suc p) 0 (omega arith))
end_is_found p (tiled {source = s} {cs = cs} l t) al = go (ℕ_discrete p 0) (dec_le p (length s))
  where
    go : Dec (p ≡ 0) → Dec (p ≤ length s) → is_some (by_end p cs) ≡ chunk_ends (length s) p
    go (yes z) _ = rw (z, end_missing 0 (all_map (λ c k e. omega arith) t.proper), le-leb 0 (length s) (omega arith), ne_eqb (length s) 0 (λ e. omega arith))
    go (no z) (yes k) = rw (end_found p al (omega arith) (omega (arith, t.exact (p - 1) (omega arith))), le-leb p (length s) k, lt-ltb 0 p (omega arith))
    go (no z) (no k) = rw (end_missing p (all_map (λ c w e. omega arith) t.within), lt-leb p (length s) (omega arith))

start_is_found : (p : ℕ) {s : Text} {cs : List Chunk} → Cover s cs → All (λ c. Contains p c → ⊥) cs → is_some (by_start p cs) ≡ chunk_starts (length s) p
start_is_found zero (empty z t) al = refl
start_is_found (suc p) (empty z t) al = rw (ne_eqb 0 (suc p) (λ e. omega arith), le-ltb (suc p) 0 (omega arith), ne_eqb (suc p) 0 (λ e. omega arith))
start_is_found p (tiled {source = s} {cs = cs} l t) al = go (dec_lt p (length s))
  where
    go : Dec (p < length s) → is_some (by_start p cs) ≡ chunk_starts (length s) p
    go (yes k) = rw (start_found p al (omega (arith, t.exact p k)), lt-ltb p (length s) k)
    go (no k) =
        rw (
          start_missing p (all_map₂ (λ c pr w e. omega arith) t.proper t.within),
          le-ltb p (length s) (omega arith),
          ne_eqb p 0 (λ e. omega arith),
        )

pub chunk_is_found : (left : Bool) (p : ℕ) {s : Text} {cs : List Chunk} → Cover s cs → All (λ c. Contains p c → ⊥) cs → is_some (by_edge left p cs) ≡ has_chunk (length s) p left
chunk_is_found true p v al = end_is_found p v al
chunk_is_found false p v al = start_is_found p v al

-- where none does, the position needs no cut
no_end_aligned : (p : ℕ) {s : Text} {cs : List Chunk} → Cover s cs → chunk_ends (length s) p ≡ false → All (λ c. Contains p c → ⊥) cs
no_end_aligned p (empty z t) h = let n : Contains p (chunk_from 0 0 z t) → ⊥ = λ i. omega arith in cons n nil
no_end_aligned p (tiled {source = s} {cs = cs} l t) h = go (ℕ_discrete p 0) (dec_le p (length s))
  where
    go : Dec (p ≡ 0) → Dec (p ≤ length s) → All (λ c. Contains p c → ⊥) cs
    go (yes z) _ = all_of (λ c i. omega arith) cs
    go (no z) (yes k) = clash (rw (le-leb p (length s) k, lt-ltb 0 p (omega arith))) h
    go (no z) (no k) = all_map (λ c w i. omega arith) t.within

no_start_aligned : (p : ℕ) {s : Text} {cs : List Chunk} → Cover s cs → chunk_starts (length s) p ≡ false → All (λ c. Contains p c → ⊥) cs
no_start_aligned p (empty z t) h = let n : Contains p (chunk_from 0 0 z t) → ⊥ = λ i. omega arith in cons n nil
no_start_aligned p (tiled {source = s} {cs = cs} l t) h = go (dec_lt p (length s))
  where
    go : Dec (p < length s) → All (λ c. Contains p c → ⊥) cs
    go (yes k) = clash (rw (lt-ltb p (length s) k)) h
    go (no k) = all_map (λ c w i. omega arith) t.within

pub no_chunk_aligned : (left : Bool) (p : ℕ) {s : Text} {cs : List Chunk} → Cover s cs → has_chunk (length s) p left ≡ false → All (λ c. Contains p c → ⊥) cs
no_chunk_aligned true p v h = no_end_aligned p v h
no_chunk_aligned false p v h = no_start_aligned p v h
