-- Laws of what `Move` in specs/ defines.
use mathlib.Core.Path.{◌≡◌, sym, ap, ◌∙◌, subst, subst₂}
use mathlib.Core.List.{List, ◌∷◌, ◌++◌}
use mathlib.Core.Logic.{⊎_elim}
use Prim.Native.Nat.{ℕ, ◌≤◌, ◌<◌}
use native.Mathlib.Omega.{arith}
use lib.ListN.{length}
use Rattle.memory_table.specs.declared.Row.{Row}
use Rattle.memory_table.specs.Ring.{Not, Each, Edge}
use Rattle.memory_table.proofs.Ring.{Pos, each_left, each_right, each_map, links_left, links_right}
use Rattle.memory_list.proofs.Swap.{Turned, ring_swap, last_edge, links_split, lasts, each_last, tail_le}
use Rattle.memory_list.specs.Swap.{last_of}
use Rattle.memory_table.specs.Table.{row_at, Put}
use Rattle.memory_table.specs.Order.{order, next_of, prev_of, count_of, Linked}
use Rattle.memory_table.proofs.Order.{put_keep}
use Rattle.memory_list.specs.Insert.{with_links}
use Rattle.memory_list.proofs.Insert.{start_f, next_f, prev_f}
use Rattle.memory_list.specs.Move.{bare, Joined, Three, Apart3, Relinked, Movable, Parts, swapped, Moved, MoveAt, MoveDone}

pub joined : (t t1 t2 : List ℕ) (a b : ℕ) (r s : Row) → r ≡ row_at t a → Put t t1 a (with_links r b r.prev) → s ≡ row_at t1 b
    → Put t1 t2 b (with_links s s.next a) → Joined t t2 a b
joined t t1 t2 a b r s er p es q =
    let n2 = put_keep next_f t1 t2 b _ q (ap next_f es) in
    let v1 = put_keep prev_f t t1 a _ p (ap prev_f er) in
    record {
      next_a = n2 a ∙ ap next_f p.at;
      next_o = λ c n. n2 c ∙ ap next_f (p.off c n);
      prev_b = ap prev_f q.at;
      prev_o = λ c n. ap prev_f (q.off c n) ∙ v1 c;
      rest = λ c. put_keep bare t1 t2 b _ q (ap bare es) c ∙ put_keep bare t t1 a _ p (ap bare er) c;
    }

pub three : (t t1 t2 t3 : List ℕ) (a b c d e f : ℕ) → Apart3 a c e → Apart3 b d f → Joined t t1 a b → Joined t1 t2 c d → Joined t2 t3 e f
    → Three t t3 a b c d e f
three t t1 t2 t3 a b c d e f p q j1 j2 j3 =
    record {
      next_1 = j3.next_o a p.ac ∙ j2.next_o a p.ab ∙ j1.next_a;
      next_2 = j3.next_o c p.bc ∙ j2.next_a;
      next_3 = j3.next_a;
      next_o = λ x h k m. j3.next_o x m ∙ j2.next_o x k ∙ j1.next_o x h;
      prev_1 = j3.prev_o b q.ac ∙ j2.prev_o b q.ab ∙ j1.prev_b;
      prev_2 = j3.prev_o d q.bc ∙ j2.prev_b;
      prev_3 = j3.prev_b;
      prev_o = λ x h k m. j3.prev_o x m ∙ j2.prev_o x k ∙ j1.prev_o x h;
      rest = λ x. j3.rest x ∙ j2.rest x ∙ j1.rest x;
    }

pub relinked : (t t1 t2 t3 : List ℕ) (f l n : ℕ) (rf rl rn : Row) → Movable t f l n → rf ≡ row_at t f → rl ≡ row_at t l → rn ≡ row_at t n
    → Joined t t1 rf.prev rl.next → Joined t1 t2 rn.prev f → Joined t2 t3 l n → Relinked t t3 f l n
relinked t t1 t2 t3 f l n rf rl rn m ef el en j1 j2 j3 =
    three t t1 t2 t3 (prev_of t f) (next_of t l) (prev_of t n) f l n m.sources m.targets (subst₂ (Joined t t1) (ap prev_f ef) (ap next_f el) j1)
    (subst (λ (x : ℕ). Joined t1 t2 x f) (ap prev_f en) j2) j3

-- ---- the order

three_cast : (t t' : List ℕ) {a b c d e f a' b' c' d' e' f' : ℕ} → a ≡ a' → b ≡ b' → c ≡ c' → d ≡ d' → e ≡ e' → f ≡ f'
    → Three t t' a b c d e f → Three t t' a' b' c' d' e' f'
three_cast t t' p q r s u v h = rw (← p, ← q, ← r, ← s, ← u, ← v) h

module _ (t t' : List ℕ) (x y z : ℕ) where
  turned_1 : Three t t' x (next_of t y) z (next_of t x) y (next_of t z) → Turned (next_of t) (prev_of t) (next_of t') (prev_of t') x y z
  turned_1 h =
      record {
        next_x = h.next_1;
        next_a = h.next_3;
        next_b = h.next_2;
        next_o = λ c i j k. h.next_o c i k j;
        prev_x = h.prev_1;
        prev_a = h.prev_3;
        prev_b = h.prev_2;
        prev_o = λ c i j k. h.prev_o c j i k;
      }

  turned_2 : Three t t' y (next_of t z) x (next_of t y) z (next_of t x) → Turned (next_of t) (prev_of t) (next_of t') (prev_of t') x y z
  turned_2 h =
      record {
        next_x = h.next_2;
        next_a = h.next_1;
        next_b = h.next_3;
        next_o = λ c i j k. h.next_o c j i k;
        prev_x = h.prev_2;
        prev_a = h.prev_1;
        prev_b = h.prev_3;
        prev_o = λ c i j k. h.prev_o c k j i;
      }

movable_of : (t : List ℕ) → Linked t → (f l n p q r : ℕ) → prev_of t f ≡ p → next_of t l ≡ q → prev_of t n ≡ r
    → f ≤ count_of t → l ≤ count_of t → n ≤ count_of t → p ≤ count_of t → q ≤ count_of t → r ≤ count_of t → Apart3 p r l → Apart3 q f n → Movable t f l n
movable_of t k f l n p q r ep eq er hf hl hn hp hq hr a b =
    let w = k.room in
    record {
      in_f = omega arith;
      in_l = omega arith;
      in_n = omega arith;
      in_p = omega arith;
      in_r = omega arith;
      in_m = omega arith;
      sources = rw (ep, er) a;
      targets = rw eq b;
    }

module _ (t : List ℕ) (k : Linked t) (s : Parts t) where
  pub edges : Edge (next_of t) (prev_of t) (last_of 0 s.us) s.a
      × Edge (next_of t) (prev_of t) (last_of s.a s.ws) s.b
      × (prev_of t (next_of t (last_of s.b s.bs)) ≡ last_of s.b s.bs)
      × (next_of t (last_of s.b s.bs) ≤ count_of t)
  unfolding order
  edges =
      let E = Edge (next_of t) (prev_of t) in
      let l = rw s.place at k.ring.links in
      let r1 = links_right E 0 s.us s.a (s.ws ++ s.b ∷ (s.bs ++ s.ys)) 0 l in
      let r2 = links_right E s.a s.ws s.b (s.bs ++ s.ys) 0 r1 in
      let s3 = links_split E s.b s.bs s.ys 0 r2 in
      let e3 = last_edge E s.b s.bs s3.0 s3.1 in
      let P : ℕ → Type 0 = λ i. (0 < i) × (i ≤ count_of t) in (
        last_edge E 0 s.us s.a (links_left E 0 s.us s.a (s.ws ++ s.b ∷ (s.bs ++ s.ys)) 0 l),
        last_edge E s.a s.ws s.b (links_left E s.a s.ws s.b (s.bs ++ s.ys) 0 r1),
        ap (prev_of t) e3.fwd ∙ e3.bwd,
        omega (
          arith,
          e3.fwd,
          tail_le E (count_of t) s3.0 s.ys s3.2
              (each_right P s.bs s.ys (each_right P s.ws (s.b ∷ (s.bs ++ s.ys))
              (each_right P s.us (s.a ∷ (s.ws ++ s.b ∷ (s.bs ++ s.ys))) (rw s.place at k.ring.inside)).1).1),
        ),
      )

  pub move_order : (t' : List ℕ) (f l n : ℕ) → Moved t s f l n → Relinked t t' f l n → length t' ≡ length t → (order t' ≡ swapped s) × Linked t'
  unfolding order
  move_order t' f l n m r len =
      let x = last_of 0 s.us in
      let y = last_of s.a s.ws in
      let z = last_of s.b s.bs in
      let e = edges in
      let d : Turned (next_of t) (prev_of t) (next_of t') (prev_of t') x y z =
      ⊎_elim
      (λ (h : (f ≡ s.a) × (l ≡ y) × (n ≡ next_of t z)).
      turned_1 t t' x y z
      (three_cast t t' (ap (prev_of t) h.0 ∙ e.0.bwd) (ap (next_of t) h.1) (ap (prev_of t) h.2 ∙ e.2) (h.0 ∙ sym e.0.fwd) h.1
      h.2 r))
      (λ (h : (f ≡ s.b) × (l ≡ z) × (n ≡ s.a)).
      turned_2 t t' x y z
      (three_cast t t' (ap (prev_of t) h.0 ∙ e.1.bwd) (ap (next_of t) h.1) (ap (prev_of t) h.2 ∙ e.0.bwd) (h.0 ∙ sym e.1.fwd)
      h.1 (h.2 ∙ sym e.0.fwd) r))
      m in
      let c : count_of t' ≡ count_of t = ap start_f (r.rest 0) in
      let q = ring_swap (next_of t) (prev_of t) (next_of t') (prev_of t') (count_of t) s.us s.a s.ws s.b s.bs s.ys k.ring s.place d in
      (rw c q.0, record { ring = rw c q.1; room = rw (c, len) k.room })

  -- a move may be made
  pub movable : (f l n : ℕ) → Moved t s f l n → Movable t f l n
  unfolding order
  movable f l n m =
      let nx = next_of t in
      let x = last_of 0 s.us in
      let y = last_of s.a s.ws in
      let z = last_of s.b s.bs in
      let e = edges in
      let P : ℕ → Type 0 = λ i. (0 < i) × (i ≤ count_of t) in
      let zs = s.bs ++ s.ys in
      let all : Each P (s.us ++ s.a ∷ (s.ws ++ s.b ∷ zs)) = rw s.place at k.ring.inside in
      let l0 = rw s.place at k.ring.links in
      let d = lasts (next_of t) (prev_of t) s.us s.a s.ws s.b s.bs s.ys l0 (each_map P Pos (λ i h. h.0) (s.us ++ s.a ∷ (s.ws ++ s.b ∷ zs)) all) in
      let Q : ℕ → Type 0 = λ i. i ≤ count_of t in
      let toQ : (zs : List ℕ) → Each P zs → Each Q zs = each_map P Q (λ i h. h.1) in
      let q1 = each_right P s.us (s.a ∷ (s.ws ++ s.b ∷ zs)) all in
      let q2 = each_right P s.ws (s.b ∷ zs) q1.1 in
      let xq : x ≤ count_of t = each_last Q 0 s.us (omega arith) (toQ s.us (each_left P s.us (s.a ∷ (s.ws ++ s.b ∷ zs)) all)) in
      let yq : y ≤ count_of t = each_last Q s.a s.ws q1.0.1 (toQ s.ws (each_left P s.ws (s.b ∷ zs) q1.1)) in
      let zq : z ≤ count_of t = each_last Q s.b s.bs q2.0.1 (toQ s.bs (each_left P s.bs s.ys q2.1)) in
      let ab : Not s.b s.a = λ h. d.0 (sym e.0.bwd ∙ ap (prev_of t) h ∙ e.1.bwd) in
      let an : Not (nx z) s.a = λ h. d.1 (sym e.0.bwd ∙ ap (prev_of t) h ∙ e.2) in
      let bn : Not (nx z) s.b = λ h. d.2 (sym e.1.bwd ∙ ap (prev_of t) h ∙ e.2) in
      ⊎_elim
      (λ (h : (f ≡ s.a) × (l ≡ y) × (n ≡ next_of t z)).
      movable_of t k f l n x s.b z (ap (prev_of t) h.0 ∙ e.0.bwd) (ap nx h.1 ∙ e.1.fwd) (ap (prev_of t) h.2 ∙ e.2)
      (omega (arith, q1.0.1)) (omega arith) (omega (arith, e.3)) xq q2.0.1 zq
      (rw h.1 (record { ab = d.1; ac = d.0; bc = λ i. d.2 (sym i) }))
      (rw (h.0, h.2) (record { ab = λ i. ab (sym i); ac = bn; bc = an })))
      (λ (h : (f ≡ s.b) × (l ≡ z) × (n ≡ s.a)).
      movable_of t k f l n y (nx z) x (ap (prev_of t) h.0 ∙ e.1.bwd) (ap nx h.1) (ap (prev_of t) h.2 ∙ e.0.bwd)
      (omega (arith, q2.0.1)) (omega arith) (omega (arith, q1.0.1)) yq e.3 xq
      (rw h.1 (record { ab = λ i. d.0 (sym i); ac = d.2; bc = d.1 }))
      (rw (h.0, h.2) (record { ab = λ i. bn (sym i); ac = λ i. an (sym i); bc = λ i. ab (sym i) })))
      m

pub move_done : (t t' : List ℕ) (f l n : ℕ) → Linked t → MoveAt t f l n → Relinked t t' f l n → length t' ≡ length t → MoveDone t t' f l n
move_done t t' f l n k m r len =
    record {
      linked = (move_order t k m.parts t' f l n m.moved r len).1;
      place = λ s h. (move_order t k s t' f l n h r len).0;
      rest = r.rest;
    }
