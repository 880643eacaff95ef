-- The walk: after each step, what is left of the list decides.
use mathlib.Core.Path.{◌≡◌, refl, ap, sym, subst, ◌∙◌}
use Rattle.std.specs.Prelude.{Some, None}
use mathlib.Core.Bool.{Bool, true}
use mathlib.Core.List.{List, [], ◌∷◌, reverse}
use Prim.Native.Nat.{ℕ, suc, ◌+◌, ◌-◌, ◌≤◌, ◌<◌}
use native.Mathlib.Omega.{arith}
use native.Mathlib.Nat.{sub-zero}
use lib.ListN.{length, length-reverse}
use Rattle.utf8.specs.Rfc3629.{utf8}
use Rattle.utf8.proofs.Boundaries.{between_zero, between_past}
use Rattle.utf8.specs.Chars.{All, nil, cons}
use Rattle.memory_table.specs.Ring.{Each, Edge, Links}
use Rattle.model.specs.Text.{sum}
use Rattle.model.proofs.Lists.{first_of, rest_of, all_reverse}
use Rattle.memory_counting.specs.Counts.{Decides, indicator}
use Rattle.memory_counting.proofs.Sums.{decides_by}
use Rattle.memory_counting.specs.Once.{In}
use Rattle.check_spans.specs.Spans.{start_of, end_of}
use Rattle.check_spans.proofs.Spans.{indicator_none}
use Rattle.check_links.specs.declared.Side.{Side}
use Rattle.check_row.specs.Row.{leads, Joint, Behind, Proper}
use Rattle.check_links.specs.Walk.{held, pending_size, Sound, Stepped, Ended}
use Rattle.check_links.proofs.Flip.{flip_links, flip_each, flip_sum}

-- 1 if byte b is in the span of row i, else 0; how many bytes it has
abbrev pub holds : List ℕ → ℕ → ℕ → ℕ
holds t i b = indicator (start_of t i) (end_of t i) b

abbrev pub size_of : List ℕ → ℕ → ℕ
size_of t i = end_of t i - start_of t i

-- the rows xs lead from a to b, by word k: with the bytes h that are held, none is in two spans, and with those that are pending they are `left` bytes
pub record Between (source t : List ℕ) (n k a b : ℕ) (h : ℕ → ℕ) (pending left : ℕ) (xs : List ℕ) : Type 0 where
  pub links : Links (Joint t k) a xs b
  pub inside : Each (In n) xs
  pub proper : All (Proper source t) xs
  pub once : (c : ℕ) → h c + sum (λ x. holds t x c) xs ≤ 1
  pub size : pending + sum (size_of t) xs ≡ left

-- what is left of the list between a and b: j rows
pub record Rest (source t : List ℕ) (n k j a b : ℕ) (h : ℕ → ℕ) (pending left : ℕ) : Type 0 where
  pub rows : List ℕ
  pub count : length rows ≡ j
  pub between : Between source t n k a b h pending left rows

-- the whole list, from row 0 to row 0 by word 2
abbrev pub Whole : List ℕ → List ℕ → ℕ → Type 0
Whole source t n = Rest source t n 2 n 0 0 (λ c. 0) 0 (length source)

-- what is held may be said in another way
rest_by : {source t : List ℕ} {n k j a b : ℕ} {h h' : ℕ → ℕ} {p p' l : ℕ} → ((c : ℕ) → h' c ≡ h c) → p' ≡ p → Rest source t n k j a b h p l → Rest source t n k j a b h' p' l
rest_by e q r =
    let z = r.between in
    record {
      rows = r.rows;
      count = r.count;
      between = record { links = z.links; inside = z.inside; proper = z.proper; once = λ c. omega (arith, z.once c, e c); size = omega (arith, z.size) };
    }

-- ── from the other end ──
rest_flip : {source t : List ℕ} {n k k' j a b : ℕ} {h : ℕ → ℕ} {p l : ℕ} → k' ≡ 5 - k → k ≤ 5 → Rest source t n k j a b h p l → Rest source t n k' j b a h p l
rest_flip {source} {t} {n} {k} {k'} {j} {a} {b} {h} {p} {l} e m r =
    let z = r.between in
    let xs = r.rows in
    let back : 5 - k' ≡ k = omega arith in
    let y : Links (Edge (leads t (5 - k)) (leads t k)) b (reverse xs) a = flip_links (leads t k) (leads t (5 - k)) a xs b z.links in
    let y' = subst (λ (v : ℕ). Links (Edge (leads t v) (leads t k)) b (reverse xs) a) (sym e) y in
    record {
      rows = reverse xs;
      count = length-reverse xs ∙ r.count;
      between = record {
        links = subst (λ (v : ℕ). Links (Edge (leads t k') (leads t v)) b (reverse xs) a) (sym back) y';
        inside = flip_each (In n) xs z.inside;
        proper = all_reverse z.proper;
        once = λ c. omega (arith, z.once c, flip_sum (λ x. holds t x c) xs);
        size = omega (arith, z.size, flip_sum (size_of t) xs);
      };
    }

-- ── one row more, x after a ──
module _ {source t : List ℕ} {n k j a b x : ℕ} {h h' : ℕ → ℕ} {p p' l l' : ℕ} (bytes : (c : ℕ) → h' c ≡ h c + holds t x c) (size : p' + l ≡ p + size_of t x + l') where
  rest_cons : Behind t n k a x → Proper source t x → Rest source t n k j x b h' p' l' → Rest source t n k (suc j) a b h p l
  rest_cons y q r =
      let z = r.between in
      record {
        rows = x ∷ r.rows;
        count = ap suc r.count;
        between = record {
          links = (y.edge, z.links);
          inside = (y.near, z.inside);
          proper = cons {x = x} q z.proper;
          once = λ c. omega (arith, z.once c, bytes c);
          size = omega (arith, z.size);
        };
      }

  tail_of : (xs : List ℕ) → length xs ≡ suc j → leads t k a ≡ x → Between source t n k a b h p l xs → Rest source t n k j x b h' p' l'
  tail_of [] e f z = absurd (omega arith)
  tail_of (y ∷ xs) e f z =
      let q : y ≡ x = sym z.links.0.fwd ∙ f in
      let hs : (c : ℕ) → holds t y c ≡ holds t x c = λ c. ap (λ (v : ℕ). holds t v c) q in
      let s = ap (size_of t) q in
      record {
        rows = xs;
        count = omega arith;
        between = record {
          links = rw q at z.links.1;
          inside = z.inside.1;
          proper = rest_of z.proper;
          once = λ c. omega (arith, z.once c, bytes c, hs c);
          size = omega (arith, z.size);
        };
      }

  rest_tail : leads t k a ≡ x → Rest source t n k (suc j) a b h p l → Rest source t n k j x b h' p' l'
  rest_tail f r = tail_of r.rows r.count f r.between

-- what a row that comes after a would need
pub record Ahead (source t : List ℕ) (n k a : ℕ) (h : ℕ → ℕ) (pending left : ℕ) : Type 0 where
  pub row : ℕ
  pub behind : Behind t n k a row
  pub proper : Proper source t row
  pub once : (c : ℕ) → h c ≤ 1
  pub within : pending ≤ left

ahead_of : {source t : List ℕ} {n k j a b : ℕ} {h : ℕ → ℕ} {p l : ℕ} (xs : List ℕ) → length xs ≡ suc j → Between source t n k a b h p l xs → Ahead source t n k a h p l
ahead_of [] e z = absurd (omega arith)
ahead_of (y ∷ xs) e z = record {
  row = y;
  behind = record { near = z.inside.0; edge = z.links.0 };
  proper = first_of z.proper;
  once = λ c. omega (arith, z.once c);
  within = omega (arith, z.size);
}

-- ── the walk ──
-- how often byte c is marked or pending on either side; how many bytes are pending
abbrev held_by : (ℕ → ℕ) → Side → Side → ℕ → ℕ
held_by m near far c = held m near c + indicator far.from far.to c

abbrev size_by : Side → Side → ℕ
size_by near far = pending_size near + pending_size far

-- after i rows, with the two sides where they are, what is left decides; the near side goes on by word k
pub record Walking (source t : List ℕ) (n i k : ℕ) (m : ℕ → ℕ) (near far : Side) : Type 0 where
  pub word : k ≤ 5
  pub near_row : near.row ≤ n
  pub far_row : far.row ≤ n
  pub near_sound : Sound source near
  pub far_sound : Sound source far
  pub to : Rest source t n k (n - i) near.row far.row (held_by m near far) (size_by near far) near.left → Whole source t n
  pub from : Whole source t n → Rest source t n k (n - i) near.row far.row (held_by m near far) (size_by near far) near.left

pub walking_none : {source : List ℕ} (t : List ℕ) (n : ℕ) (m : ℕ → ℕ) → utf8 source ≡ true → ((c : ℕ) → m c ≡ 0)
    → Walking source t n 0 2 m (record { row = 0; from = 0; to = 0; left = length source }) (record { row = 0; from = length source; to = length source; left = length source })
walking_none {source} t n m u clear =
    let e : n - 0 ≡ n = sub-zero n in
    let len = length source in
    let none : (c : ℕ) → m c + indicator 0 0 c + indicator len len c ≡ 0 = λ c. omega (arith, clear c, indicator_none 0 c, indicator_none len c) in
    record {
      word = omega arith;
      near_row = omega arith;
      far_row = omega arith;
      near_sound = record { started = omega arith; inside = omega arith; edged = record { start = between_zero source; end = between_zero source } };
      far_sound = record { started = omega arith; inside = omega arith; edged = record { start = between_past source len u (omega arith); end = between_past source len u (omega arith) } };
      to = rw e (λ r. rest_by (λ c. sym (none c)) (omega arith) r);
      from = rw e (λ r. rest_by none (omega arith) r);
    }

-- no row is left
ended_between : {source t : List ℕ} {n k : ℕ} {m : ℕ → ℕ} {near far : Side} → Ended t k m near far
    → Between source t n k near.row far.row (held_by m near far) (size_by near far) near.left []
ended_between x = record { links = x.edge; inside = tt; proper = nil; once = λ c. omega (arith, x.once c); size = omega (arith, x.all) }

between_ended : {source t : List ℕ} {n k : ℕ} {m : ℕ → ℕ} {near far : Side} (xs : List ℕ) → length xs ≡ 0
    → Between source t n k near.row far.row (held_by m near far) (size_by near far) near.left xs → Ended t k m near far
between_ended [] e z = record { edge = z.links; once = λ c. omega (arith, z.once c); all = omega (arith, z.size) }
between_ended (x ∷ xs) e z = absurd (omega arith)

module _ {source t : List ℕ} {n i k : ℕ} {m : ℕ → ℕ} {near far : Side} (w : Walking source t n i k m near far) where
  before : i < n → Whole source t n → Rest source t n k (suc (n - (i + 1))) near.row far.row (held_by m near far) (size_by near far) near.left
  before h y = let e : n - i ≡ suc (n - (i + 1)) = omega arith in rw e at (w.from y)

  module _ (m' : ℕ → ℕ) (h : i < n) where
    pub walking_stop : Stepped source t n k m near m' None → Whole source t n → ⊥
    walking_stop s y =
        let r = before h y in
        let a = ahead_of r.rows r.count r.between in
        s a.row a.behind a.proper (record { once = λ c. omega (arith, a.once c); within = omega (arith, a.within) })

    pub walking_more : {side : Side} → Stepped source t n k m near m' (Some side) → (k' : ℕ) → k' ≡ 5 - k
        → Walking source t n (i + 1) k' m' (record { row = far.row; from = far.from; to = far.to; left = side.left }) side
    walking_more {side} went k' q =
        let g = went.grown in
        let e : n - i ≡ suc (n - (i + 1)) = omega arith in
        let up : Rest source t n k (suc (n - (i + 1))) near.row far.row (held_by m near far) (size_by near far) near.left → Whole source t n = rw e at w.to in
        let bytes : (c : ℕ) → held_by m' side far c ≡ held_by m near far c + holds t side.row c = λ c. omega (arith, g.bytes c) in
        let size : size_by side far + near.left ≡ size_by near far + size_of t side.row + side.left = omega (arith, g.size) in
        record {
          word = omega (arith, w.word);
          near_row = w.far_row;
          far_row = went.behind.near.1;
          near_sound = record { started = w.far_sound.started; inside = w.far_sound.inside; edged = w.far_sound.edged };
          far_sound = g.sound source went.proper.inside went.proper.edged w.near_sound;
          to = λ r. up (rest_cons bytes size went.behind went.proper (rest_flip (omega (arith, w.word)) (omega (arith, w.word)) (rest_by (λ c. omega arith) (omega arith) r)));
          from = λ y. rest_by (λ c. omega arith) (omega arith) (rest_flip q w.word (rest_tail bytes size went.behind.edge.fwd (before h y)));
        }

  -- ── the end ──
  pub walking_ended : n ≤ i → {r : Bool} → Decides r (Ended t k m near far) → Decides r (Whole source t n)
  walking_ended h d =
      let e : n - i ≡ 0 = omega arith in
      let up : Rest source t n k 0 near.row far.row (held_by m near far) (size_by near far) near.left → Whole source t n = rw e at w.to in
      let down : Whole source t n → Rest source t n k 0 near.row far.row (held_by m near far) (size_by near far) near.left = rw e at w.from in
      decides_by (λ x. up (record { rows = []; count = refl; between = ended_between x })) (λ y. let r = down y in between_ended r.rows r.count r.between) d
