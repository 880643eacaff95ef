-- Laws of what `Insert` in specs/ defines.
use mathlib.Core.Path.{◌≡◌, refl, sym, ap, ◌∙◌}
use mathlib.Core.List.{List, ◌∷◌, ◌++◌}
use Prim.Native.Nat.{ℕ, ◌+◌, ◌*◌, ◌≤◌, ◌<◌}
use native.Mathlib.Omega.{arith}
use lib.ListN.{length}
use Rattle.memory_layout.specs.Layout.{ROW}
use Rattle.memory_table.specs.declared.Row.{Row}
use Rattle.memory_table.specs.Ring.{Not}
use Rattle.memory_table.proofs.Ring.{Inserted}
use Rattle.memory_table.specs.Table.{row_at, Put}
use Rattle.memory_table.specs.Order.{entry_of, entry_at, order, next_of, prev_of, count_of, Linked}
use Rattle.memory_table.proofs.Order.{put_keep, inside_at, next_inside, insert_order}
use Rattle.memory_list.specs.Insert.{Placed, runs_of, LinkedIn, with_links}

abbrev pub with_start : Row → ℕ → Row
with_start r n =
    record {
      start = n;
      end = r.end;
      next = r.next;
      prev = r.prev;
      intro_at = r.intro_at;
      intro_n = r.intro_n;
      outro_at = r.outro_at;
      outro_n = r.outro_n;
      text_at = r.text_at;
      text_n = r.text_n;
      frozen = r.frozen;
      spare = r.spare;
    }

abbrev pub start_f : Row → ℕ
start_f r = r.start

abbrev pub next_f : Row → ℕ
next_f r = r.next

abbrev pub prev_f : Row → ℕ
prev_f r = r.prev

-- the four writes
module _ (t t1 t2 t3 t4 : List ℕ) (i n q : ℕ) (r c d z : Row) (l : Linked t) (w : Placed t i)
    (en : n ≡ count_of t + 1) (eq : q ≡ next_of t i) (ec : c ≡ row_at t i) (p1 : Put t t1 n (with_links r c.next i))
    (p2 : Put t1 t2 i (with_links c n c.prev)) (ed : d ≡ row_at t2 q) (p3 : Put t2 t3 q (with_links d d.next n))
    (ez : z ≡ row_at t3 0) (p4 : Put t3 t4 0 (with_start z n)) (room : n * ROW + ROW ≤ length t4) where
  in_i : (0 < i) × (i ≤ count_of t)
  in_i = inside_at t w.us i w.bs l w.place

  n_i : Not i n
  n_i h = omega (arith, in_i.1)

  i_n : Not n i
  i_n h = omega (arith, in_i.1)

  n_q : Not q n
  n_q h = omega (arith, next_inside t w.us i w.bs l w.place)

  inserted : Inserted (next_of t) (prev_of t) (next_of t4) (prev_of t4) i n
  inserted =
      let n4 : (a : ℕ) → next_of t4 a ≡ next_of t2 a = λ a. put_keep next_f t3 t4 0 _ p4 (ap next_f ez) a ∙ put_keep next_f t2 t3 q _ p3 (ap next_f ed) a in
      let v4 : (a : ℕ) → prev_of t4 a ≡ prev_of t3 a = λ a. put_keep prev_f t3 t4 0 _ p4 (ap prev_f ez) a in
      let v2 : (a : ℕ) → prev_of t2 a ≡ prev_of t1 a = λ a. put_keep prev_f t1 t2 i _ p2 (ap prev_f (ec ∙ sym (p1.off i i_n))) a in
      record {
        next_i = n4 i ∙ ap next_f p2.at;
        next_n = n4 n ∙ ap next_f (p2.off n n_i) ∙ ap next_f p1.at ∙ ap next_f ec;
        next_a = λ a hi hn. n4 a ∙ ap next_f (p2.off a hi) ∙ ap next_f (p1.off a hn);
        prev_n = v4 n ∙ ap prev_f (p3.off n n_q) ∙ v2 n ∙ ap prev_f p1.at;
        prev_q = ap (prev_of t4) (sym eq) ∙ v4 q ∙ ap prev_f p3.at;
        prev_b = λ b hq hn. v4 b ∙ ap prev_f (p3.off b (λ h. hq (h ∙ eq))) ∙ v2 b ∙ ap prev_f (p1.off b hn);
      }

  -- apart from the links, the writes at i and q keep all
  kept : {X : Type 0} (f : Row → X) → ((x : Row) (a b : ℕ) → f (with_links x a b) ≡ f x) → (a : ℕ) → f (row_at t3 a) ≡ f (row_at t1 a)
  kept f g a =
      put_keep f t2 t3 q _ p3 (g d d.next n ∙ ap f ed) a
      ∙ put_keep f t1 t2 i _ p2 (g c n c.prev ∙ ap f (ec ∙ sym (p1.off i i_n))) a

  pub linked_in : LinkedIn t t4 i r
  linked_in =
      let x : (us bs : List ℕ) → order t ≡ us ++ i ∷ bs → (order t4 ≡ us ++ i ∷ (count_of t + 1) ∷ bs) × Linked t4 =
      λ us bs o. insert_order t t4 us i bs l o (rw en at inserted) (ap (λ (y : Row). y.start) p4.at ∙ en) (rw en at room) in
      let n0 : Not 0 n = λ h. omega arith in
      let z0 : Not n 0 = λ h. omega arith in
      record {
        linked = (x w.us w.bs w.place).1;
        place = λ us bs o. (x us bs o).0;
        new = ap (entry_at t4) (sym en) ∙ ap entry_of (p4.off n n0) ∙ kept entry_of (λ y a b. refl) n ∙ ap entry_of p1.at;
        old = λ a h0 hn. ap entry_of (p4.off a h0) ∙ kept entry_of (λ y a b. refl) a ∙ ap entry_of (p1.off a (λ h. hn (h ∙ en)));
        desk = ap runs_of p4.at ∙ ap runs_of ez ∙ kept runs_of (λ y a b. refl) 0 ∙ ap runs_of (p1.off 0 z0);
        count = ap start_f p4.at ∙ en;
      }

-- the rows that are written are in the table
pub room_i : (t : List ℕ) (i : ℕ) → Linked t → Placed t i → i * ROW + ROW ≤ length t
room_i t i l w = omega (arith, l.room, (inside_at t w.us i w.bs l w.place).1)

pub room_q : (t : List ℕ) (i q : ℕ) → Linked t → Placed t i → q ≡ next_of t i → q * ROW + ROW ≤ length t
room_q t i q l w e = omega (arith, l.room, next_inside t w.us i w.bs l w.place)
