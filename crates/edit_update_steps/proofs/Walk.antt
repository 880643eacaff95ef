-- Laws of what `Walk` in specs/ defines.
use mathlib.Core.Path.{◌≡◌, refl, sym, ap, ap₂, ◌∙◌, subst}
use mathlib.Core.Bool.{Bool, true, false}
use mathlib.Core.List.{List, [], ◌∷◌, ◌++◌, map, append_assoc, map-append}
use Prim.Native.Nat.{ℕ, suc, ◌+◌, ◌*◌, ◌≤◌, ◌<◌}
use native.Mathlib.Omega.{arith}
use lib.Dec.{eqb}
use lib.ListN.{length, length-append}
use borrow.Author.Tests.{eq-eqb, ne_eqb}
use Rattle.memory_layout.specs.Layout.{ROW}
use Rattle.memory_table.specs.declared.Row.{Row}
use Rattle.memory_table.specs.Ring.{Each, Not, Edge}
use Rattle.memory_table.proofs.Ring.{each_map, each_right, links_right}
use Rattle.memory_table.specs.Table.{row_at, Put}
use Rattle.memory_table.specs.Order.{Entry, entry_of, entry_at, entries, order, next_of, prev_of, count_of, Linked}
use Rattle.memory_table.proofs.Order.{put_keep, others, order_length}
use Rattle.std.specs.Prelude.{Some, None}
use Rattle.memory_list.specs.declared.Key.TheVariants.{Start}
use Rattle.memory_list.specs.Find.{meets, First}
use Rattle.memory_list.specs.Insert.{Placed, runs_of}
use Rattle.memory_list.specs.Split.{RowSet}
use Rattle.memory_list.proofs.Split.{row_set, entries_at}
use Rattle.edit_update_steps.specs.Walk.{RunWalk, onto, emptied, runs, walk_from, RunCleared, Emptied, Walked}

-- ── the run behind row i ──
-- what is next in the list
next_none : (t pre : List ℕ) (cur : ℕ) → Linked t → order t ≡ pre ++ cur ∷ [] → next_of t cur ≡ 0
unfolding order
next_none t pre cur l o = (links_right (Edge (next_of t) (prev_of t)) 0 pre cur [] 0 (rw o at l.ring.links)).fwd

next_some : (t pre : List ℕ) (cur x : ℕ) (rest : List ℕ) → Linked t → order t ≡ pre ++ cur ∷ x ∷ rest → (next_of t cur ≡ x) × (0 < x) × (x ≤ count_of t)
unfolding order
next_some t pre cur x rest l o =
    let p = each_right (λ y. (0 < y) × (y ≤ count_of t)) pre (cur ∷ x ∷ rest) (rw o at l.ring.inside) in
    ((links_right (Edge (next_of t) (prev_of t)) 0 pre cur (x ∷ rest) 0 (rw o at l.ring.links)).0.fwd, p.1.0.0, p.1.0.1)

-- the walk under way: `cur` is the last row passed, which ends at `at`; the end of the walk is known already
pub record Running (t₀ t : List ℕ) (cur at end k : ℕ) (goal : List Entry) (fin : Bool) : Type 0 where
  pub pre : List ℕ
  pub rest : List ℕ
  pub place : order t ≡ pre ++ cur ∷ rest
  pub chunks : map (entry_at t) pre ++ entry_at t cur ∷ (runs at end (map (entry_at t) rest)).list ≡ goal
  pub done : (runs at end (map (entry_at t) rest)).done ≡ fin
  pub linked : Linked t
  pub order_is : order t ≡ order t₀
  pub desk : runs_of (row_at t 0) ≡ runs_of (row_at t₀ 0)
  pub starts : (x : ℕ) → (entry_at t x).start ≡ (entry_at t₀ x).start
  pub len : length t ≡ length t₀
  pub left : length rest + k < count_of t₀

abbrev pub goal_of : List ℕ → ℕ → ℕ → List ℕ → List ℕ → List Entry
goal_of t i end us bs = map (entry_at t) us ++ entry_at t i ∷ (runs (entry_at t i).end end (map (entry_at t) bs)).list

pub running_start : (t : List ℕ) (i end : ℕ) → Linked t → (w : Placed t i)
    → Running t t i (entry_at t i).end end 0 (goal_of t i end w.us w.bs) (runs (entry_at t i).end end (map (entry_at t) w.bs)).done
running_start t i end l w =
    record {
      pre = w.us;
      rest = w.bs;
      place = w.place;
      chunks = refl;
      done = refl;
      linked = l;
      order_is = refl;
      desk = refl;
      starts = λ x. refl;
      len = refl;
      left = omega (arith, order_length t, ap length w.place, length-append w.us (i ∷ w.bs));
    }

module _ {t₀ t : List ℕ} {cur at end k : ℕ} {goal : List Entry} {fin : Bool} (h : Running t₀ t cur at end k goal fin) where
  pub run_done : at ≡ end → (entries t ≡ goal) × (fin ≡ true)
  run_done e =
      let q : (es : List Entry) → runs at end es ≡ record { done = true; list = es } = λ es. stop es in (
        entries_at t h.pre cur h.rest h.place ∙ sym (ap (λ (w : RunWalk). map (entry_at t) h.pre ++ entry_at t cur ∷ w.list) (q (map (entry_at t) h.rest))) ∙ h.chunks,
        sym h.done ∙ ap (λ (w : RunWalk). w.done) (q (map (entry_at t) h.rest)),
      )
    where
      stop : (es : List Entry) → runs at end es ≡ record { done = true; list = es }
      stop [] = rw (eq-eqb at end e)
      stop (x ∷ es) = rw (eq-eqb at end e)

  pub run_ends : (at ≡ end → ⊥) → next_of t cur ≡ 0 → (entries t ≡ goal) × (fin ≡ false)
  run_ends n z = go h.rest h.place h.chunks h.done
    where
      go : (rest : List ℕ) → order t ≡ h.pre ++ cur ∷ rest → map (entry_at t) h.pre ++ entry_at t cur ∷ (runs at end (map (entry_at t) rest)).list ≡ goal
          → (runs at end (map (entry_at t) rest)).done ≡ fin → (entries t ≡ goal) × (fin ≡ false)
      go [] o c d = (entries_at t h.pre cur [] o ∙ c, sym d ∙ ne_eqb at end n)
      go (x ∷ rest) o c d = let s = next_some t h.pre cur x rest h.linked o in absurd (omega (arith, s.0, s.1))

  pub run_inside : (next_of t cur ≡ 0 → ⊥) → next_of t cur * ROW + ROW ≤ length t
  run_inside n = go h.rest h.place
    where
      go : (rest : List ℕ) → order t ≡ h.pre ++ cur ∷ rest → next_of t cur * ROW + ROW ≤ length t
      go [] o = absurd (n (next_none t h.pre cur h.linked o))
      go (x ∷ rest) o = let s = next_some t h.pre cur x rest h.linked o in omega (arith, s.0, s.2, h.linked.room)

  pub run_breaks : (at ≡ end → ⊥) → (next_of t cur ≡ 0 → ⊥) → ((entry_at t (next_of t cur)).start ≡ at → ⊥) → (entries t ≡ goal) × (fin ≡ false)
  run_breaks n z b = go h.rest h.place h.chunks h.done
    where
      go : (rest : List ℕ) → order t ≡ h.pre ++ cur ∷ rest → map (entry_at t) h.pre ++ entry_at t cur ∷ (runs at end (map (entry_at t) rest)).list ≡ goal
          → (runs at end (map (entry_at t) rest)).done ≡ fin → (entries t ≡ goal) × (fin ≡ false)
      go [] o c d = absurd (z (next_none t h.pre cur h.linked o))
      go (x ∷ rest) o c d =
          let s = next_some t h.pre cur x rest h.linked o in
          let e : eqb (entry_at t x).start at ≡ false = ne_eqb _ _ (λ y. b (ap (λ (j : ℕ). (entry_at t j).start) s.0 ∙ y)) in
          (entries_at t h.pre cur (x ∷ rest) o ∙ (rw (ne_eqb at end n, e) at c), sym (rw (ne_eqb at end n, e) at d))

  pub run_more : (at ≡ end → ⊥) → (next_of t cur ≡ 0 → ⊥) → (entry_at t (next_of t cur)).start ≡ at → (t' : List ℕ) (r : Row) → Emptied (row_at t (next_of t cur)) r
      → Put t t' (next_of t cur) r → length t' ≡ length t
      → Running t₀ t' (next_of t cur) (entry_at t (next_of t cur)).end end (k + 1) goal fin × (next_of t' (next_of t cur) ≡ next_of t (next_of t cur))
  run_more n z b t' r m p len = go h.rest h.place h.chunks h.done h.left
    where
      go : (rest : List ℕ) → order t ≡ h.pre ++ cur ∷ rest → map (entry_at t) h.pre ++ entry_at t cur ∷ (runs at end (map (entry_at t) rest)).list ≡ goal
          → (runs at end (map (entry_at t) rest)).done ≡ fin → length rest + k < count_of t₀
          → Running t₀ t' (next_of t cur) (entry_at t (next_of t cur)).end end (k + 1) goal fin × (next_of t' (next_of t cur) ≡ next_of t (next_of t cur))
      go [] o c d l = absurd (z (next_none t h.pre cur h.linked o))
      go (x ∷ rest) o c d l =
          let s = next_some t h.pre cur x rest h.linked o in
          let y = next_of t cur in
          let o' : order t ≡ (h.pre ++ (cur ∷ [])) ++ y ∷ rest = o ∙ ap (λ (j : ℕ). h.pre ++ cur ∷ j ∷ rest) (sym s.0) ∙ sym (append_assoc h.pre (cur ∷ []) (y ∷ rest)) in
          let pl : Placed t y = record { us = h.pre ++ (cur ∷ []); bs = rest; place = o' } in
          let st : RowSet t t' y (entry_of r) = row_set t t' y r h.linked pl p m.next m.prev len in
          let oo = st.place (h.pre ++ (cur ∷ [])) rest o' in
          let e : eqb (entry_at t x).start at ≡ true = eq-eqb _ _ (ap (λ (j : ℕ). (entry_at t j).start) (sym s.0) ∙ b) in
          let here : entry_at t' y ≡ emptied (entry_at t y) = st.here ∙ m.entry_is in
          let list' : entries t' ≡ map (entry_at t') (h.pre ++ (cur ∷ [])) ++ entry_at t' y ∷ map (entry_at t') rest = entries_at t' (h.pre ++ (cur ∷ [])) y rest (st.order_is ∙ o') in
          let parts = same_parts (map (entry_at t') (h.pre ++ (cur ∷ []))) (map (entry_at t) (h.pre ++ (cur ∷ []))) (entry_at t' y) (entry_of r)
          (map (entry_at t') rest) (map (entry_at t) rest) (len_map t' t (h.pre ++ (cur ∷ []))) (sym list' ∙ oo) in (
            record {
              pre = h.pre ++ (cur ∷ []);
              rest = rest;
              place = st.order_is ∙ o';
              chunks =
                  ap₂ (λ (u v : List Entry). u ++ entry_at t' y ∷ (runs (entry_at t y).end end v).list) parts.0 parts.2
                  ∙ ap (λ (u : Entry). map (entry_at t) (h.pre ++ (cur ∷ [])) ++ u ∷ (runs (entry_at t y).end end (map (entry_at t) rest)).list) here
                  ∙ ap (λ (j : ℕ). map (entry_at t) (h.pre ++ (cur ∷ [])) ++ emptied (entry_at t j) ∷ (runs (entry_at t j).end end (map (entry_at t) rest)).list) s.0
                  ∙ ap (λ (u : List Entry). u ++ emptied (entry_at t x) ∷ (runs (entry_at t x).end end (map (entry_at t) rest)).list) (map-append (entry_at t) h.pre (cur ∷ []))
                  ∙ append_assoc (map (entry_at t) h.pre) (entry_at t cur ∷ []) _
                  ∙ (rw (ne_eqb at end n, e) at c);
              done =
                  ap (λ (v : List Entry). (runs (entry_at t y).end end v).done) parts.2
                  ∙ ap (λ (j : ℕ). (runs (entry_at t j).end end (map (entry_at t) rest)).done) s.0
                  ∙ (rw (ne_eqb at end n, e) at d);
              linked = st.linked;
              order_is = st.order_is ∙ h.order_is;
              desk = st.desk ∙ h.desk;
              starts = λ j. put_keep (λ (q : Row). q.start) t t' y r p (ap (λ (q : Entry). q.start) m.entry_is) j ∙ h.starts j;
              len = len ∙ h.len;
              left = omega arith;
            },
            ap (λ (q : Row). q.next) p.at ∙ m.next,
          )
        where
          len_map : (a b xs : List ℕ) → length (map (entry_at a) xs) ≡ length (map (entry_at b) xs)
          len_map a b [] = refl
          len_map a b (u ∷ us) = ap suc (len_map a b us)

          same_parts : (xs xs' : List Entry) (c c' : Entry) (ys ys' : List Entry) → length xs ≡ length xs' → xs ++ c ∷ ys ≡ xs' ++ c' ∷ ys' → (xs ≡ xs') × (c ≡ c') × (ys ≡ ys')
          same_parts [] [] c c' ys ys' l e = (refl, cc, cc)
          same_parts [] (x' ∷ xs') c c' ys ys' l e = absurd (omega arith)
          same_parts (u ∷ xs) [] c c' ys ys' l e = absurd (omega arith)
          same_parts (u ∷ xs) (u' ∷ xs') c c' ys ys' l e =
              let a : u ≡ u' = cc in
              let b : xs ++ c ∷ ys ≡ xs' ++ c' ∷ ys' = cc in
              let r = same_parts xs xs' c c' ys ys' (omega arith) b in
              (ap₂ (λ (w : Entry) (l : List Entry). w ∷ l) a r.0, r.1, r.2)

-- ── the whole walk ──
pub cleared_of : {t t' : List ℕ} {i cur at end k : ℕ} (w : Placed t i)
    → Running t t' cur at end k (goal_of t i end w.us w.bs) (runs (entry_at t i).end end (map (entry_at t) w.bs)).done → (r : Bool)
    → (entries t' ≡ goal_of t i end w.us w.bs) × ((runs (entry_at t i).end end (map (entry_at t) w.bs)).done ≡ r) → Linked t → RunCleared t t' i end r
cleared_of {t} {t'} {i} {end = end} w h r e l =
    record {
      linked = h.linked;
      order_is = h.order_is;
      desk = h.desk;
      starts = h.starts;
      chunks = λ us bs o.
          let q = once w.us us w.bs bs i (others t w.us i w.bs l w.place) (others t us i bs l o) (sym w.place ∙ o) in
          (e.0 ∙ ap₂ (λ (x y : List ℕ). goal_of t i end x y) q.0 q.1, sym e.1 ∙ ap (λ (y : List ℕ). (runs (entry_at t i).end end (map (entry_at t) y)).done) q.1);
    }
  where
    -- a row stands at one place
    once : (us us' bs bs' : List ℕ) (i : ℕ) → Each (Not i) us × Each (Not i) bs → Each (Not i) us' × Each (Not i) bs' → us ++ i ∷ bs ≡ us' ++ i ∷ bs' → (us ≡ us') × (bs ≡ bs')
    once [] [] bs bs' i n m e = (refl, cc)
    once [] (x ∷ us') bs bs' i n m e = let z : x ≡ i = cc in absurd (m.0.0 z)
    once (x ∷ us) [] bs bs' i n m e = let z : x ≡ i = cc in absurd (n.0.0 z)
    once (x ∷ us) (x' ∷ us') bs bs' i n m e =
        let a : x ≡ x' = cc in
        let b : us ++ i ∷ bs ≡ us' ++ i ∷ bs' = cc in
        let r = once us us' bs bs' i (n.0.1, n.1) (m.0.1, m.1) b in
        (ap₂ (λ (y : ℕ) (l : List ℕ). y ∷ l) a r.0, r.1)

walk_none : (a b : ℕ) (t xs : List ℕ) → Each (λ x. meets Start a (entry_at t x) ≡ false) xs → walk_from a b (map (entry_at t) xs) ≡ record { done = false; list = map (entry_at t) xs }
walk_none a b t [] h = refl
walk_none a b t (x ∷ xs) h = rw h.0 (ap (onto (entry_at t x)) (walk_none a b t xs h.1))

walk_at : (a b : ℕ) (t us : List ℕ) (e : Entry) (es : List Entry) → Each (λ x. meets Start a (entry_at t x) ≡ false) us → eqb e.start a ≡ true
    → walk_from a b (map (entry_at t) us ++ e ∷ es) ≡ record { done = (runs e.end b es).done; list = map (entry_at t) us ++ e ∷ (runs e.end b es).list }
walk_at a b t [] e es n h = rw h
walk_at a b t (x ∷ us) e es n h = rw n.0 (ap (onto (entry_at t x)) (walk_at a b t us e es n.1 h))

pub walked_none : (a b : ℕ) (t : List ℕ) → Linked t → Each (λ x. meets Start a (entry_at t x) ≡ false) (order t) → Walked a b t t None
walked_none a b t l n =
    let q = walk_none a b t (order t) n in
    record { linked = l; order_is = refl; desk = refl; chunks = sym (ap (λ (w : RunWalk). w.list) q); ended = ap (λ (w : RunWalk). w.done) q }

module _ (a b : ℕ) (t t' : List ℕ) (i : ℕ) (w : First (meets Start a) t i) (r : Bool) (c : RunCleared t t' i b r) where
  found : walk_from a b (entries t) ≡ record { done = r; list = entries t' }
  found =
      let k = c.chunks w.us w.bs w.place in
      ap (walk_from a b) (entries_at t w.us i w.bs w.place)
      ∙ walk_at a b t w.us (entry_at t i) (map (entry_at t) w.bs) w.none w.here
      ∙ ap₂ (λ (d : Bool) (l : List Entry). record { done = d; list = l }) (sym k.1) (sym k.0)

  pub walked_done : r ≡ true → Walked a b t t' (Some i)
  walked_done z =
      record {
        linked = c.linked;
        order_is = c.order_is;
        desk = c.desk;
        chunks = sym (ap (λ (x : RunWalk). x.list) found);
        ended = (
          ap (λ (x : RunWalk). x.done) found ∙ z,
          record {
            us = w.us;
            bs = w.bs;
            place = c.order_is ∙ w.place;
            none = each_map (λ x. meets Start a (entry_at t x) ≡ false) (λ x. meets Start a (entry_at t' x) ≡ false) (λ x h. ap (λ (j : ℕ). eqb j a) (c.starts x) ∙ h) w.us w.none;
            here = ap (λ (j : ℕ). eqb j a) (c.starts i) ∙ w.here;
          },
        );
      }

  pub walked_broken : r ≡ false → Walked a b t t' None
  walked_broken z =
      record { linked = c.linked; order_is = c.order_is; desk = c.desk; chunks = sym (ap (λ (x : RunWalk). x.list) found); ended = ap (λ (x : RunWalk). x.done) found ∙ z }

-- ── the same, said of the row at hand ──
module _ {t₀ t : List ℕ} {cur at end k : ℕ} {goal : List Entry} {fin : Bool} (h : Running t₀ t cur at end k goal fin) (nx : ℕ) (e : nx ≡ next_of t cur) where
  pub step_ends : (at ≡ end → ⊥) → nx ≡ 0 → (entries t ≡ goal) × (fin ≡ false)
  step_ends n z = run_ends h n (sym e ∙ z)

  pub step_inside : (nx ≡ 0 → ⊥) → nx * ROW + ROW ≤ length t
  step_inside n = rw e (run_inside h (λ z. n (e ∙ z)))

  pub step_breaks : (at ≡ end → ⊥) → (nx ≡ 0 → ⊥) → (d : Row) → d ≡ row_at t nx → (d.start ≡ at → ⊥) → (entries t ≡ goal) × (fin ≡ false)
  step_breaks n z d q b = run_breaks h n (λ y. z (e ∙ y)) (λ y. b (ap (λ (r : Row). r.start) q ∙ ap (λ (j : ℕ). (entry_at t j).start) e ∙ y))

  pub step_more : (at ≡ end → ⊥) → (nx ≡ 0 → ⊥) → (d : Row) → d ≡ row_at t nx → d.start ≡ at → (t' : List ℕ) (r : Row) → Emptied d r → Put t t' nx r → length t' ≡ length t
      → Running t₀ t' nx d.end end (k + 1) goal fin × (d.next ≡ next_of t' nx)
  step_more n z d q b t' r m p len =
      let q' : d ≡ row_at t (next_of t cur) = q ∙ ap (row_at t) e in
      let x = run_more h n (λ y. z (e ∙ y)) (sym (ap (λ (r : Row). r.start) q') ∙ b) t' r (subst (λ (y : Row). Emptied y r) q' m) (subst (λ (j : ℕ). Put t t' j r) e p) len in (
        subst (λ (j : ℕ). Running t₀ t' j d.end end (k + 1) goal fin) (sym e) (subst (λ (j : ℕ). Running t₀ t' (next_of t cur) j end (k + 1) goal fin) (sym (ap (λ (r : Row). r.end) q')) x.0),
        ap (λ (r : Row). r.next) q' ∙ sym x.1 ∙ ap (next_of t') (sym e),
      )
