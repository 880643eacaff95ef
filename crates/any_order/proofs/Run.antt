-- One step of a list: its first edit is accepted, and the rest meets the premises on the desk that it leaves.
use Prim.Native.Nat.{ℕ, suc, ◌+◌, ◌≤◌, ◌<◌}
use native.Mathlib.Omega.{arith}
use mathlib.Core.Path.{◌≡◌, refl, ap, sym, ◌∙◌}
use mathlib.Core.Bool.{true, false}
use mathlib.Core.List.{List, [], ◌∷◌}
use lib.Dec.{leb}
use lib.ListN.{length}
use borrow.Author.Tests.{le-leb}
use Rattle.utf8.specs.Chars.{All, nil, cons}
use Rattle.model.specs.Text.{sum}
use Rattle.model.specs.MagicString.{MagicString, ok}
use Rattle.model.specs.Limits.{Limits, piece_count, byte_count, within}
use Rattle.model.specs.Call.{Edit, remove, update_with, reset, insert, append, prepend, relocate, trim, trim_start, trim_end, trim_lines, indent_with}
use Rattle.model.specs.Call.{freeze, positions, whole, refused_before, run, listed}
use Rattle.model.specs.WellFormed.{Formed}
use Rattle.model.proofs.Lists.{both, and_left, no_tf, first_of, rest_of, all_map, all_map₂, sum_part}
use Rattle.model_closed_forms.specs.Plan.{Plan, cuts, apply}
use Rattle.model_closed_forms.proofs.Cuts.{Splittable, cuttable_of, cuttable_true}
use Rattle.model_closed_forms.specs.Accepted.{plan_of}
use Rattle.model_closed_forms.specs.RunClosed.{RunAccepted}
use Rattle.model_closed_forms.proofs.RunClosed.{accepted_run, run_accepted}
use Rattle.model_join.specs.Tests.{new_pieces, new_bytes}
use Rattle.any_order.specs.Claim.{IsMove, Wide, Space, FreeOf, EditsApart, Premises}
use Rattle.any_order.proofs.Pair.{PlansApart, splittable_after, order_after, unfrozen_after}
use Rattle.any_order.proofs.SpaceLaws.{more_chunks, more_pieces, more_bytes}
use Rattle.any_order.proofs.Bridge.{EditPremises, PairPremises, Implements, implements, plans_apart}
use Rattle.any_order.proofs.Kept.{formed_proper, formed_once, formed_run}

-- ── 15, 1 and 3 ──
-- the whole desk's 20 is of no edit of L
not_whole : (e : Edit) → listed e ≡ true → whole e ≡ false
not_whole (remove a b) l = refl
not_whole (update_with a b t o) l = refl
not_whole (reset a b) l = refl
not_whole (insert p t left front) l = refl
not_whole (append t) l = refl
not_whole (prepend t) l = refl
not_whole (relocate a b to) l = refl
not_whole (trim p) l = no_tf (sym l)
not_whole (trim_start p) l = no_tf (sym l)
not_whole (trim_end p) l = no_tf (sym l)
not_whole trim_lines l = no_tf (sym l)
not_whole (indent_with i t) l = no_tf (sym l)
not_whole (freeze a b) l = refl

-- the others speak of the source alone
before_kept : (P : Plan) (m : MagicString) (e : Edit) → listed e ≡ true → refused_before (apply P m) e ≡ refused_before m e
unfolding refused_before
before_kept P m e l = rw (not_whole e l)

-- ── space ──
source_fits : (k : Limits) (m : MagicString) → within k m ≡ true → leb (length m.source) k.most_source ≡ true
unfolding within
source_fits k m h = and_left (leb (length m.source) k.most_source) _ h

-- the source is not touched
within_after : (k : Limits) (m : MagicString) (P : Plan) → within k m ≡ true → length (apply P m).chunks ≤ k.most_chunks → piece_count (apply P m) ≤ k.most_pieces →
    byte_count (apply P m) ≤ k.most_bytes → within k (apply P m) ≡ true
unfolding within
within_after k m P h a b c = both (source_fits k m h) (both (le-leb _ _ a) (both (le-leb _ _ b) (le-leb _ _ c)))

length_part : {A : Type 0} (L : List A) → All (λ x. 1 ≤ length L) L
length_part [] = nil
length_part {A} (e ∷ L) =
    let h : 1 ≤ suc (length L) = omega arith in
    let w : (x : A) → 1 ≤ length L → 1 ≤ suc (length L) = λ x k. omega arith in
    cons h (all_map w (length_part L))

-- what an edit adds
module _ (m : MagicString) (e : Edit) (f : Formed m) (some-source : 0 < length m.source) (s : EditPremises (length m.source) e) (sp : All (Splittable (cuts (plan_of e m))) m.chunks) where
  implemented : Implements (length m.source) e (plan_of e m)
  implemented = implements (length m.source) e some-source s

  chunks_grow : length (apply (plan_of e m) m).chunks ≤ length m.chunks + 3
  chunks_grow = more_chunks (plan_of e m) m.chunks (formed_once f)

  pieces_grow : piece_count (apply (plan_of e m) m) ≤ piece_count m + new_pieces e
  pieces_grow = omega (arith, more_pieces (length m.source) (plan_of e m) implemented.well m (formed_once f) (formed_proper f some-source), implemented.pieces)

  bytes_grow : byte_count (apply (plan_of e m) m) ≤ byte_count m + new_bytes e
  bytes_grow = omega (arith, more_bytes (length m.source) (plan_of e m) implemented.well m (formed_once f) (formed_proper f some-source) sp, implemented.sizes)

-- ── one step ──
-- an edit that is accepted alone is accepted after another one
accepted_after : (k : Limits) (m : MagicString) (e x : Edit) → Formed m → 0 < length m.source → EditPremises (length m.source) e →
    EditPremises (length m.source) x → PairPremises (length m.source) e x
    → RunAccepted k e m → RunAccepted k x m
    → length (apply (plan_of e m) m).chunks + 3 ≤ k.most_chunks → piece_count (apply (plan_of e m) m) + new_pieces x ≤ k.most_pieces →
    byte_count (apply (plan_of e m) m) + new_bytes x ≤ k.most_bytes
    → RunAccepted k x (apply (plan_of e m) m)
accepted_after k m e x f some-source se sx d ge gx kc kp kb =
    let n : ℕ = length m.source in
    let P : Plan = plan_of e m in
    let Q : Plan = plan_of x m in
    let u : Implements n e P = implements n e some-source se in
    let v : Implements n x Q = implements n x some-source sx in
    let PQ : PlansApart P Q = plans_apart u v d in
    let sp : All (Splittable (cuts Q)) (apply P m).chunks = splittable_after n P u.well PQ.first_outside (cuttable_of (cuts Q) m.chunks gx.accepted.cuts_made) in
    let f' : Formed (apply P m) = formed_run k m e f se.listed ge in
    record {
      before = before_kept P m x sx.listed ∙ gx.before;
      accepted = record {
        arguments = gx.accepted.arguments;
        cuts_made = cuttable_true (cuts Q) sp;
        inside = gx.accepted.inside;
        unfrozen = unfrozen_after P Q PQ m.chunks gx.accepted.unfrozen;
        ordered = order_after P Q PQ m.chunks (formed_proper f some-source) gx.accepted.ordered;
      };
      space = within_after k (apply P m) Q ge.space
          (omega (arith, chunks_grow (apply P m) x f' some-source sx sp))
          (omega (arith, pieces_grow (apply P m) x f' some-source sx sp))
          (omega (arith, bytes_grow (apply P m) x f' some-source sx sp));
    }

-- ── the premises, edit by edit and pair by pair ──
pub edit_premises : {n : ℕ} {L : List Edit} → EditsApart n L → All (EditPremises n) L
edit_premises {n} {L} d =
    let places : All (λ e. Wide e × All (λ q. q ≤ n) (positions e)) L = all_map₂ (λ e w h. (w, h)) d.width d.within_source in
    all_map₂ (λ e l h. record { listed = l; wide = h.0; within = h.1 }) d.edits places

pub pair_premises : {n : ℕ} {e : Edit} {L : List Edit} → EditsApart n (e ∷ L) → All (PairPremises n e) L
pair_premises {n} {e} {L} d =
    let moves : All (λ x. (IsMove e → IsMove x → ⊥) × (FreeOf e x × FreeOf x e)) L = all_map₂ (λ x o h. (o, h)) d.one_move.0 d.moves_free.0 in
    all_map₂ (λ x r h. record { reach = r; one_move = h.0; first_free = h.1.0; second_free = h.1.1 }) d.reaches.0 moves

apart_rest : {n : ℕ} {e : Edit} {L : List Edit} → EditsApart n (e ∷ L) → EditsApart n L
apart_rest d = record {
  source_not_empty = d.source_not_empty;
  edits = rest_of d.edits;
  width = rest_of d.width;
  within_source = rest_of d.within_source;
  reaches = d.reaches.1;
  one_move = d.one_move.1;
  moves_free = d.moves_free.1;
}

pub accepted_head : (k : Limits) (m : MagicString) (e : Edit) (L : List Edit) → Premises k m (e ∷ L) → RunAccepted k e m
accepted_head k m e L p = run_accepted k e m (first_of p.apart.edits) p.well_formed.formed (first_of p.alone)

pub run_head : (k : Limits) (m : MagicString) (e : Edit) (L : List Edit) → Premises k m (e ∷ L) → run k e m ≡ ok (apply (plan_of e m) m)
run_head k m e L p = accepted_run k e m (first_of p.apart.edits) p.well_formed.formed (accepted_head k m e L p)

pub step : (k : Limits) (m : MagicString) (e : Edit) (L : List Edit) → Premises k m (e ∷ L) → Premises k (apply (plan_of e m) m) L
step k m e L p =
    let n : ℕ = length m.source in
    let P : Plan = plan_of e m in
    let f : Formed m = p.well_formed.formed in
    let ge : RunAccepted k e m = accepted_head k m e L p in
    let se : EditPremises n e = first_of (edit_premises p.apart) in
    let sp : All (Splittable (cuts P)) m.chunks = cuttable_of (cuts P) m.chunks ge.accepted.cuts_made in
    let gc : length (apply P m).chunks ≤ length m.chunks + 3 = chunks_grow m e f p.apart.source_not_empty se sp in
    let gp : piece_count (apply P m) ≤ piece_count m + new_pieces e = pieces_grow m e f p.apart.source_not_empty se sp in
    let gb : byte_count (apply P m) ≤ byte_count m + new_bytes e = bytes_grow m e f p.apart.source_not_empty se sp in
    let f' : Formed (apply P m) = formed_run k m e f se.listed ge in
    let room : Space k (apply P m) L = record { chunks = omega (arith, p.space.chunks); pieces = omega (arith, p.space.pieces); bytes = omega (arith, p.space.bytes) } in
    let one : (x : Edit) → EditPremises n x × ((run k x m).number ≡ 0) → PairPremises n e x × (new_pieces x ≤ sum new_pieces L) × (new_bytes x ≤ sum new_bytes L) ×
    (1 ≤ length L) → (run k x (apply P m)).number ≡ 0 =
    λ x h q. ap (λ r. r.number) (accepted_run k x (apply P m) h.0.listed f'
    (accepted_after k m e x f p.apart.source_not_empty se h.0 q.0 ge (run_accepted k x m h.0.listed f h.1) (omega (arith, room.chunks))
    (omega (arith, room.pieces)) (omega (arith, room.bytes)))) in
    let sizes : All (λ x. (new_bytes x ≤ sum new_bytes L) × (1 ≤ length L)) L = all_map₂ (λ x h q. (h, q)) (sum_part new_bytes L) (length_part L) in
    let sums : All (λ x. (new_pieces x ≤ sum new_pieces L) × (new_bytes x ≤ sum new_bytes L) × (1 ≤ length L)) L = all_map₂ (λ x h q. (h, q.0, q.1)) (sum_part new_pieces L) sizes in
    let pairs : All (λ x. PairPremises n e x × (new_pieces x ≤ sum new_pieces L) × (new_bytes x ≤ sum new_bytes L) × (1 ≤ length L)) L =
    all_map₂ (λ x h q. (h, q.0, q.1, q.2)) (pair_premises p.apart) sums in
    let alone : All (λ x. EditPremises n x × ((run k x m).number ≡ 0)) L = all_map₂ (λ x h q. (h, q)) (rest_of (edit_premises p.apart)) (rest_of p.alone) in
    record {
      well_formed = record { formed = f'; limits = ge.space };
      apart = apart_rest p.apart;
      alone = all_map₂ one alone pairs;
      space = room;
    }
