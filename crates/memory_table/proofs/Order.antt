-- Laws of what `Order` in specs/ defines.
use mathlib.Core.Path.{◌≡◌, sym, ap, ◌∙◌, fun_ext}
use mathlib.Core.List.{List, ◌∷◌, ◌++◌}
use Prim.Native.Nat.{ℕ, ◌+◌, ◌*◌, ◌≤◌, ◌<◌}
use native.Mathlib.Decide.{ℕ_discrete}
use lib.ListN.{length, length-map}
use Rattle.memory_layout.specs.Layout.{ROW}
use Rattle.memory_table.specs.declared.Row.{Row}
use Rattle.memory_table.specs.Ring.{Each, Not, Edge}
use Rattle.memory_table.proofs.Ring.{each_right, each_left, length_follow, Inserted, ring_insert, next_le, links_right, later, earlier, Pos, each_map}
use Rattle.memory_table.specs.Table.{row_at, Put}
use Rattle.memory_table.specs.Order.{next_of, prev_of, count_of, order, Linked, entry_at, entries}

-- as many as the count says
pub order_length : (t : List ℕ) → length (order t) ≡ count_of t
unfolding order
order_length t = length_follow (next_of t) (count_of t) (next_of t 0)

pub count_entries : (t : List ℕ) → length (entries t) ≡ count_of t
count_entries t = length-map (order t) (entry_at t) ∙ order_length t

-- a write that keeps what f reads keeps it everywhere
pub put_keep : {X : Type 0} (f : Row → X) (t t' : List ℕ) (i : ℕ) (r : Row) → Put t t' i r → f r ≡ f (row_at t i)
    → (a : ℕ) → f (row_at t' a) ≡ f (row_at t a)
put_keep f t t' i r p e a =
    elim (ℕ_discrete a i) [
      | yes h ↦ ap (λ (x : ℕ). f (row_at t' x)) h ∙ ap f p.at ∙ e ∙ ap (λ (x : ℕ). f (row_at t x)) (sym h)
      | no h ↦ ap f (p.off a h)
    ]

-- so where the links and the count stay, the order stays and the list is linked
pub same_links : (t t' : List ℕ) → ((a : ℕ) → next_of t' a ≡ next_of t a) → ((a : ℕ) → prev_of t' a ≡ prev_of t a)
    → count_of t' ≡ count_of t → length t' ≡ length t → Linked t → (order t' ≡ order t) × Linked t'
unfolding order
same_links t t' n p c l k =
    let en : next_of t' ≡ next_of t = fun_ext n in
    let ep : prev_of t' ≡ prev_of t = fun_ext p in
    (rw (en, c, n 0), record { ring = rw (en, ep, c) k.ring; room = rw (c, l) k.room })

-- an index that stands in the list is a row
pub inside_at : (t us : List ℕ) (i : ℕ) (bs : List ℕ) → Linked t → order t ≡ us ++ i ∷ bs → (0 < i) × (i ≤ count_of t)
unfolding order
inside_at t us i bs k o = (each_right (λ x. (0 < x) × (x ≤ count_of t)) us (i ∷ bs) (rw o at k.ring.inside)).0

pub insert_order : (t t' us : List ℕ) (i : ℕ) (bs : List ℕ) → Linked t → order t ≡ us ++ i ∷ bs
    → Inserted (next_of t) (prev_of t) (next_of t') (prev_of t') i (count_of t + 1) → count_of t' ≡ count_of t + 1
    → (count_of t + 1) * ROW + ROW ≤ length t'
    → (order t' ≡ us ++ i ∷ (count_of t + 1) ∷ bs) × Linked t'
unfolding order
insert_order t t' us i bs k o d c r =
    let x = ring_insert (next_of t) (prev_of t) (next_of t') (prev_of t') (count_of t) us i bs k.ring o d in
    (rw c x.0, record { ring = rw c x.1; room = rw c r })

pub next_inside : (t us : List ℕ) (i : ℕ) (bs : List ℕ) → Linked t → order t ≡ us ++ i ∷ bs → next_of t i ≤ count_of t
unfolding order
next_inside t us i bs k o =
    next_le (next_of t) (prev_of t) (count_of t) i bs (links_right (Edge (next_of t) (prev_of t)) 0 us i bs 0 (rw o at k.ring.links))
    (each_right (λ x. (0 < x) × (x ≤ count_of t)) us (i ∷ bs) (rw o at k.ring.inside)).1

-- an index stands in the list once
pub others : (t us : List ℕ) (i : ℕ) (bs : List ℕ) → Linked t → order t ≡ us ++ i ∷ bs → Each (Not i) us × Each (Not i) bs
unfolding order
others t us i bs k o =
    let E = Edge (next_of t) (prev_of t) in
    let l = rw o at k.ring.links in
    let p = each_map (λ x. (0 < x) × (x ≤ count_of t)) Pos (λ a h. h.0) (us ++ i ∷ bs) (rw o at k.ring.inside) in (
      earlier (next_of t) (prev_of t) 0 us i bs l p,
      later (next_of t) (prev_of t) i bs (links_right E 0 us i bs 0 l) (each_right Pos us (i ∷ bs) p).1,
    )

pub ranges : (t us : List ℕ) (i : ℕ) (bs : List ℕ) → Linked t → order t ≡ us ++ i ∷ bs
    → Each (λ x. (0 < x) × (x ≤ count_of t)) us × Each (λ x. (0 < x) × (x ≤ count_of t)) bs
unfolding order
ranges t us i bs k o =
    let P : ℕ → Type 0 = λ x. (0 < x) × (x ≤ count_of t) in
    let p = rw o at k.ring.inside in
    (each_left P us (i ∷ bs) p, (each_right P us (i ∷ bs) p).1)

-- a write to a chunk's row that keeps its links keeps the list
pub write_keeps : (t t' : List ℕ) (i : ℕ) (r : Row) → Put t t' i r → r.next ≡ next_of t i → r.prev ≡ prev_of t i → (i ≡ 0 → r.start ≡ count_of t)
    → length t' ≡ length t → Linked t → (order t' ≡ order t) × Linked t'
write_keeps t t' i r p en ep es len k =
    same_links t t' (put_keep (λ (x : Row). x.next) t t' i r p en) (put_keep (λ (x : Row). x.prev) t t' i r p ep)
    (elim (ℕ_discrete 0 i) [
      | yes h ↦ ap (λ (x : ℕ). (row_at t' x).start) h ∙ ap (λ (x : Row). x.start) p.at ∙ es (sym h)
      | no h ↦ ap (λ (x : Row). x.start) (p.off 0 h)
    ])
    len k
