-- Laws of what `Splice` in specs/ defines.
use mathlib.Core.Path.{◌≡◌, refl, sym, ap, ap₂, ◌∙◌, subst}
use mathlib.Core.Bool.{Bool, true, false}
use mathlib.Core.List.{List, [], ◌∷◌, ◌++◌, map, append_assoc, map-append}
use Prim.Native.Nat.{ℕ, suc, ◌+◌, ◌*◌, ◌≤◌, ◌<◌}
use native.Mathlib.Omega.{arith}
use lib.ListN.{length, length-append}
use Rattle.memory_table.specs.declared.Row.{Row}
use Rattle.memory_table.specs.Ring.{Each, Not}
use Rattle.memory_table.proofs.Ring.{each_map, each_both, map_same}
use Rattle.memory_table.specs.Table.{row_at, Put}
use Rattle.memory_table.specs.Order.{Entry, entry_of, entry_at, order, count_of, Linked}
use Rattle.memory_table.specs.Sides.{side, with_side}
use Rattle.memory_table.proofs.Order.{inside_at, others, ranges}
use Rattle.memory.specs.Layout.{Place, bytes_at, run_of}
use Rattle.model.specs.Insert.{push}
use Rattle.memory_list.specs.Insert.{Placed, runs_of}
use Rattle.memory_list.specs.Split.{first, RowSet, SplitRow}
use Rattle.memory_list.proofs.Split.{row_set}
use Rattle.edit_room_above.specs.Run.{TopRoom}
use Rattle.edit_room_above.proofs.Longer.{longer_kept, longer_texts, longer_below}
use Rattle.edit_insert_row.specs.Added.{RowAdded}
use Rattle.indent_cuts.specs.Splice.{with_intro_at, Rewritten, Spliced, CutPart, Begun, CutDone}

-- written in its place
pub rewritten_set : {t t' : List ℕ} {i : ℕ} {r q : Row} {e : Entry} → Linked t → Placed t i → r ≡ row_at t i → Rewritten r q e → Put t t' i q → length t' ≡ length t → RowSet t t' i e
rewritten_set {t} {t'} {i} {r} {q} l w er c u m =
    subst (RowSet t t' i) c.entry_is
    (row_set t t' i q l w u (c.next ∙ ap (λ (x : Row). x.next) er) (c.prev ∙ ap (λ (x : Row). x.prev) er) m)

-- ---- the other rows

kept : (t t' xs : List ℕ) (i : ℕ) → ((a : ℕ) → 0 < a → a ≤ count_of t → Not i a → entry_at t' a ≡ entry_at t a) → Each (Not i) xs → Each (λ x. (0 < x) × (x ≤ count_of t)) xs
    → map (entry_at t') xs ≡ map (entry_at t) xs
kept t t' xs i f n r =
    map_same (entry_at t') (entry_at t) xs
    (each_map (λ x. Not i x × ((0 < x) × (x ≤ count_of t))) (λ x. entry_at t' x ≡ entry_at t x) (λ x h. f x h.1.0 h.1.1 h.0) xs (each_both (Not i) (λ x. (0 < x) × (x ≤ count_of t)) xs n r))

module _ {t t' : List ℕ} {i : ℕ} {es : List Entry} (l : Linked t) (d : Spliced t t' i es) (us bs : List ℕ) (o : order t ≡ us ++ i ∷ bs) where
  pub spliced_before : map (entry_at t') us ≡ map (entry_at t) us
  spliced_before = kept t t' us i d.off (others t us i bs l o).0 (ranges t us i bs l o).0

  pub spliced_behind : map (entry_at t') bs ≡ map (entry_at t) bs
  spliced_behind = kept t t' bs i d.off (others t us i bs l o).1 (ranges t us i bs l o).1

-- ---- nothing done

pub spliced_same : (t : List ℕ) (i : ℕ) → Linked t → Spliced t t i (entry_at t i ∷ [])
spliced_same t i l =
    record {
      linked = l;
      place = λ us bs o. record { vs = i ∷ []; order_is = o; here = refl };
      off = λ a h k n. refl;
      desk = refl;
      count = refl;
      len = refl;
    }

-- ---- the row written anew

pub spliced_set : {t t' : List ℕ} {i : ℕ} {e : Entry} → RowSet t t' i e → length t' ≡ length t → Spliced t t' i (e ∷ [])
spliced_set {t} {t'} {i} {e} r m =
    record {
      linked = r.linked;
      place = λ us bs o. record { vs = i ∷ []; order_is = r.order_is ∙ o; here = ap (λ (x : Entry). x ∷ []) r.here };
      off = λ a h k n. ap entry_of (r.off a n);
      desk = r.desk;
      count = omega (arith, r.count);
      len = m;
    }

-- and then replaced
pub set_then : {t t1 t2 : List ℕ} {i : ℕ} {e : Entry} {es : List Entry} → RowSet t t1 i e → length t1 ≡ length t → Spliced t1 t2 i es → Spliced t t2 i es
set_then {t} {t1} {t2} {i} r m d =
    record {
      linked = d.linked;
      place = λ us bs o. d.place us bs (r.order_is ∙ o);
      off = λ a h k n. d.off a h (omega (arith, r.count)) n ∙ ap entry_of (r.off a n);
      desk = d.desk ∙ r.desk;
      count = omega (arith, d.count, r.count);
      len = d.len ∙ m;
    }

-- ---- the row cut at q: row n, behind it, has the intro `run`

cut_part : {t t1 t2 : List ℕ} {i n q : ℕ} {run : Place} → Linked t → Placed t i → n ≡ count_of t + 1 → SplitRow t t1 i q → length t1 ≡ length t
    → RowSet t1 t2 n (with_intro_at run (entry_at t1 n)) → length t2 ≡ length t1 → CutPart t t2 i n q run
cut_part {t} {t1} {t2} {i} {n} {q} {run} l w en d m r k =
    let b = inside_at t w.us i w.bs l w.place in
    record {
      linked = r.linked;
      number = en;
      order_is = λ us bs o. r.order_is ∙ d.order_is us bs o ∙ ap (λ (x : ℕ). us ++ i ∷ x ∷ bs) (sym en);
      here = ap entry_of (r.off i (λ e. omega arith)) ∙ d.here;
      new = r.here ∙ ap (with_intro_at run) (ap (entry_at t1) en ∙ d.new);
      off = λ a h c x. ap entry_of (r.off a (λ e. omega arith)) ∙ d.off a (λ e. omega arith) (λ e. omega arith) x;
      desk = r.desk ∙ d.desk;
      count = omega (arith, r.count, d.count);
      len = k ∙ m;
    }

-- ---- the indentor in front of an intro, by the insertion's step on a row

module _ {front : Bool} {y : Place} {top : ℕ} {t p t' p' : List ℕ} {i above : ℕ} (d : RowAdded false front y top t p t' p' i above) where
  pub begun_set : Linked t → Placed t i → length t' ≡ length t → RowSet t t' i (with_intro_at (d.first, suc (entry_at t i).intro.1) (entry_at t i))
  begun_set l w m = row_set t t' i (with_side false (d.first, suc (entry_at t i).intro.1) (row_at t i)) l w d.put refl refl m

  pub begun : front ≡ true → Begun y (entry_at t i).intro top p p' (d.first, suc (entry_at t i).intro.1) above
  begun f =
      record {
        rows = longer_kept d.longer;
        texts = λ s. longer_texts d.longer s ∙ ap (λ (v : Bool). push v (bytes_at s y) (run_of p s (entry_at t i).intro)) f;
        low = λ byte h b. rw d.above_is (longer_below d.longer byte h (λ k g. (b k g).1));
        up = omega (arith, d.longer.from, d.above_is);
      }

-- the cut row's second half has no intro
module _ {t t1 : List ℕ} {i n q : ℕ} (l : Linked t) (w : Placed t i) (en : n ≡ count_of t + 1) (d : SplitRow t t1 i q) where
  no_intro : (entry_at t1 n).intro ≡ (0, 0)
  no_intro = ap (λ (e : Entry). e.intro) (ap (entry_at t1) en ∙ d.new)

  pub cut_top : {p : List ℕ} {top : ℕ} → (top + 1) * 2 ≤ length p → TopRoom (side false (entry_at t1 n)) p top
  cut_top h = rw no_intro (record { under = λ k. absurd (omega arith); rows_in = omega arith })

  new_placed : Placed t1 n
  new_placed =
      record {
        us = w.us ++ i ∷ [];
        bs = w.bs;
        place = d.order_is w.us w.bs w.place ∙ ap (λ (x : ℕ). w.us ++ i ∷ x ∷ w.bs) (sym en) ∙ sym (append_assoc w.us (i ∷ []) (n ∷ w.bs));
      }

  pub cut_done : {y : Place} {top : ℕ} {p t2 p' : List ℕ} {above : ℕ} → length t1 ≡ length t → RowAdded false true y top t1 p t2 p' n above → length t2 ≡ length t1
      → CutDone t p t2 p' i n q y top
  cut_done {y} {top} {p} {t2} {p'} {above} m r k =
      let z : (entry_at t1 n).intro.1 ≡ 0 = ap (λ (x : Place). x.1) no_intro in
      let e : above ≡ top + 1 = omega (arith, r.above_is, r.longer.to, r.longer.from) in
      record {
        run = (r.first, suc (entry_at t1 n).intro.1);
        part = cut_part l w en d m (begun_set r d.linked new_placed k) k;
        begun = subst (λ (a : ℕ). Begun y (0, 0) top p p' (r.first, suc (entry_at t1 n).intro.1) a) e
            (subst (λ (x : Place). Begun y x top p p' (r.first, suc (entry_at t1 n).intro.1) above) no_intro (begun r refl));
      }

-- ---- cuts one after another: the parts ds are done, row cur is the last part

pub record CuttingAt (t us bs : List ℕ) (cur : ℕ) (ds : List Entry) : Type 0 where
  pub ws : List ℕ
  pub order_is : order t ≡ us ++ (ws ++ cur ∷ bs)
  pub here : map (entry_at t) ws ≡ ds

pub record Cutting (t₀ t : List ℕ) (i cur : ℕ) (ds : List Entry) : Type 0 where
  pub linked : Linked t
  pub place : (us bs : List ℕ) → order t₀ ≡ us ++ i ∷ bs → CuttingAt t us bs cur ds
  pub off : (a : ℕ) → 0 < a → a ≤ count_of t₀ → Not i a → entry_at t a ≡ entry_at t₀ a
  pub apart : (a : ℕ) → a ≤ count_of t₀ → Not i a → Not cur a
  pub desk : runs_of (row_at t 0) ≡ runs_of (row_at t₀ 0)
  pub count : count_of t ≡ count_of t₀ + length ds
  pub len : length t ≡ length t₀

pub cutting_none : (t : List ℕ) (i : ℕ) → Linked t → Cutting t t i i []
cutting_none t i l =
    record {
      linked = l;
      place = λ us bs o. record { ws = []; order_is = o; here = refl };
      off = λ a h k n. refl;
      apart = λ a k n. n;
      desk = refl;
      count = omega arith;
      len = refl;
    }

pub cutting_placed : {t₀ t : List ℕ} {i cur : ℕ} {ds : List Entry} → Cutting t₀ t i cur ds → Placed t₀ i → Placed t cur
cutting_placed {t₀} {t} {i} {cur} c w =
    let k = c.place w.us w.bs w.place in
    record { us = w.us ++ k.ws; bs = w.bs; place = k.order_is ∙ sym (append_assoc w.us k.ws (cur ∷ w.bs)) }

pub cutting_more : {t₀ t t' : List ℕ} {i cur n q : ℕ} {run : Place} {ds : List Entry} → Cutting t₀ t i cur ds → CutPart t t' cur n q run → Cutting t₀ t' i n (ds ++ first q (entry_at t cur) ∷ [])
cutting_more {t₀} {t} {t'} {i} {cur} {n} {q} {run} {ds} c d =
    record {
      linked = d.linked;
      place = λ us bs o.
          let k = c.place us bs o in
          let ws = k.ws in
          let o1 : order t ≡ (us ++ ws) ++ cur ∷ bs = k.order_is ∙ sym (append_assoc us ws (cur ∷ bs)) in
          let h : map (entry_at t') (us ++ ws) ≡ map (entry_at t) (us ++ ws) = kept t t' (us ++ ws) cur d.off (others t (us ++ ws) cur bs c.linked o1).0
          (ranges t (us ++ ws) cur bs c.linked o1).0 in
          record {
            ws = ws ++ cur ∷ [];
            order_is = d.order_is (us ++ ws) bs o1 ∙ append_assoc us ws (cur ∷ n ∷ bs) ∙ ap (λ (l : List ℕ). us ++ l) (sym (append_assoc ws (cur ∷ []) (n ∷ bs)));
            here = map-append (entry_at t') ws (cur ∷ []) ∙ ap₂ (λ (xs ys : List Entry). xs ++ ys) (right us ws h ∙ k.here) (ap (λ (x : Entry). x ∷ []) d.here);
          };
      off = λ a h k x. d.off a h (omega (arith, c.count)) (c.apart a k x) ∙ c.off a h k x;
      apart = λ a k x z. omega (arith, d.number, c.count);
      desk = d.desk ∙ c.desk;
      count = omega (arith, d.count, c.count, length-append ds (first q (entry_at t cur) ∷ []));
      len = d.len ∙ c.len;
    }
  where
    right : (us ws : List ℕ) → map (entry_at t') (us ++ ws) ≡ map (entry_at t) (us ++ ws) → map (entry_at t') ws ≡ map (entry_at t) ws
    right [] ws h = h
    right (x ∷ us) ws h = right us ws (ap rest h)
      where
        rest : List Entry → List Entry
        rest [] = []
        rest (y ∷ l) = l

pub cutting_end : {t₀ t : List ℕ} {i cur : ℕ} {ds : List Entry} → Cutting t₀ t i cur ds → Spliced t₀ t i (ds ++ entry_at t cur ∷ [])
cutting_end {t₀} {t} {i} {cur} {ds} c =
    record {
      linked = c.linked;
      place = λ us bs o.
          let k = c.place us bs o in
          record {
            vs = k.ws ++ cur ∷ [];
            order_is = k.order_is ∙ ap (λ (l : List ℕ). us ++ l) (sym (append_assoc k.ws (cur ∷ []) bs));
            here = map-append (entry_at t) k.ws (cur ∷ []) ∙ ap (λ (l : List Entry). l ++ entry_at t cur ∷ []) k.here;
          };
      off = c.off;
      desk = c.desk;
      count = omega (arith, c.count, length-append ds (entry_at t cur ∷ []));
      len = c.len;
    }
