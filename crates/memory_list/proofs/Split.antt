-- Laws of what `Split` in specs/ defines.
use mathlib.Core.Path.{◌≡◌, sym, ap, ◌∙◌}
use mathlib.Core.List.{List, ◌∷◌, ◌++◌, map, map-append}
use Prim.Native.Nat.{ℕ, ◌+◌, ◌≤◌, ◌<◌}
use native.Mathlib.Omega.{arith}
use lib.ListN.{length}
use Rattle.memory_table.specs.declared.Row.{Row}
use Rattle.memory_table.specs.Ring.{Each, Not}
use Rattle.memory_table.proofs.Ring.{each_map, each_both, map_same}
use Rattle.memory_table.specs.Table.{Put}
use Rattle.memory_table.specs.Order.{Entry, entry_of, entry_at, entries, order, next_of, prev_of, count_of, Linked}
use Rattle.memory_table.proofs.Order.{others, ranges, inside_at, write_keeps}
use Rattle.memory_list.specs.Insert.{LinkedIn, Placed, runs_of}
use Rattle.memory_list.proofs.Insert.{start_f}
use Rattle.memory_list.specs.Split.{first, second, RowSet, DeskSet, SplitRow}

-- ── on lists of rows ──
join : {us us' : List Entry} {x x' y y' : Entry} {bs bs' : List Entry} → us ≡ us' → x ≡ x' → y ≡ y' → bs ≡ bs' → us ++ x ∷ y ∷ bs ≡ us' ++ x' ∷ y' ∷ bs'
join a b c d = cc

join_one : {us us' : List Entry} {x x' : Entry} {bs bs' : List Entry} → us ≡ us' → x ≡ x' → bs ≡ bs' → us ++ x ∷ bs ≡ us' ++ x' ∷ bs'
join_one a b d = cc

-- the entries where row i stands in the list
pub entries_at : (t us : List ℕ) (i : ℕ) (bs : List ℕ) → order t ≡ us ++ i ∷ bs → entries t ≡ map (entry_at t) us ++ entry_at t i ∷ map (entry_at t) bs
entries_at t us i bs o = ap (map (entry_at t)) o ∙ map-append (entry_at t) us (i ∷ bs)

-- ── row i of the list written as r, its links kept ──
pub row_set : (t t' : List ℕ) (i : ℕ) (r : Row) → Linked t → Placed t i → Put t t' i r → r.next ≡ next_of t i → r.prev ≡ prev_of t i → length t' ≡ length t
    → RowSet t t' i (entry_of r)
row_set t t' i r l w p en ep len =
    let b = inside_at t w.us i w.bs l w.place in
    let i0 : Not i 0 = λ h. omega arith in
    let k = write_keeps t t' i r p en ep (λ h. absurd (omega arith)) len l in
    let same : (xs : List ℕ) → Each (Not i) xs → map (entry_at t') xs ≡ map (entry_at t) xs =
    λ xs n. map_same (entry_at t') (entry_at t) xs (each_map (Not i) (λ x. entry_at t' x ≡ entry_at t x) (λ x h. ap entry_of (p.off x h)) xs n) in
    record {
      linked = k.1;
      order_is = k.0;
      here = ap entry_of p.at;
      off = p.off;
      place = λ us bs o.
          let v = others t us i bs l o in
          entries_at t' us i bs (k.0 ∙ o) ∙ join_one (same us v.0) (ap entry_of p.at) (same bs v.1);
      desk = ap runs_of (p.off 0 i0);
      count = ap start_f (p.off 0 i0);
    }

-- ── row 0 written with other runs ──
pub desk_set : (t t' : List ℕ) (r : Row) → Linked t → Put t t' 0 r → r.next ≡ next_of t 0 → r.prev ≡ prev_of t 0 → r.start ≡ count_of t → length t' ≡ length t
    → DeskSet t t' (runs_of r)
unfolding order
desk_set t t' r l p en ep es len =
    let k = write_keeps t t' 0 r p en ep (λ h. es) len l in
    record {
      linked = k.1;
      chunks =
          ap (map (entry_at t')) k.0
          ∙ map_same (entry_at t') (entry_at t) (order t)
          (each_map (λ x. (0 < x) × (x ≤ count_of t)) (λ x. entry_at t' x ≡ entry_at t x) (λ x h. ap entry_of (p.off x (λ e. omega arith))) (order t) l.ring.inside);
      desk = ap runs_of p.at;
      count = ap start_f p.at ∙ es;
    }

-- ── the split: row i becomes the first half, then the second half is linked in after it ──
module _ (t ta tb : List ℕ) (p i : ℕ) (s : Row) (l : Linked t) (w : Placed t i) (ra : RowSet t ta i (first p (entry_at t i)))
    (es : entry_of s ≡ second p (entry_at t i)) (d : LinkedIn ta tb i s) where
  pub split_row : SplitRow t tb i p
  split_row =
      let b = inside_at t w.us i w.bs l w.place in
      let ca = ra.count in
      let same : (xs : List ℕ) → Each (Not i) xs → Each (λ x. (0 < x) × (x ≤ count_of t)) xs → map (entry_at tb) xs ≡ map (entry_at t) xs =
      λ xs n m.
      map_same (entry_at tb) (entry_at t) xs
      (each_map (λ x. Not i x × ((0 < x) × (x ≤ count_of t))) (λ x. entry_at tb x ≡ entry_at t x)
      (λ x h. d.old x (λ e. omega arith) (λ e. omega arith) ∙ ap entry_of (ra.off x h.0)) xs
      (each_both (Not i) (λ x. (0 < x) × (x ≤ count_of t)) xs n m)) in
      record {
        linked = d.linked;
        place = λ us bs o.
            let v = others t us i bs l o in
            let g = ranges t us i bs l o in
            ap (map (entry_at tb)) (d.place us bs (ra.order_is ∙ o))
            ∙ map-append (entry_at tb) us (i ∷ (count_of ta + 1) ∷ bs)
            ∙ join (same us v.0 g.0) (d.old i (λ e. omega arith) (λ e. omega arith) ∙ ra.here) (d.new ∙ es) (same bs v.1 g.1);
        order_is = λ us bs o. d.place us bs (ra.order_is ∙ o) ∙ ap (λ (n : ℕ). us ++ i ∷ (n + 1) ∷ bs) ca;
        here = d.old i (λ e. omega arith) (λ e. omega arith) ∙ ra.here;
        new = ap (λ (n : ℕ). entry_at tb (n + 1)) (sym ca) ∙ d.new ∙ es;
        off = λ a h0 hn hi. d.old a h0 (λ e. hn (e ∙ ap (λ (n : ℕ). n + 1) ca)) ∙ ap entry_of (ra.off a hi);
        desk = d.desk ∙ ra.desk;
        count = omega (arith, d.count);
      }

pub placed_still : (t ta : List ℕ) (i : ℕ) {e : Entry} → Placed t i → RowSet t ta i e → Placed ta i
placed_still t ta i w r = record { us = w.us; bs = w.bs; place = r.order_is ∙ w.place }
