-- Laws of what `Accepted` in specs/ defines.
use Prim.Native.Nat.{ℕ, zero, suc}
use native.Mathlib.Omega.{arith}
use mathlib.Core.Path.{◌≡◌, refl}
use mathlib.Core.Bool.{Bool, true, false, cond}
use mathlib.Core.List.{List}
use lib.ListN.{length}
use Rattle.model.specs.Chunk.{Chunk}
use Rattle.model.specs.MagicString.{MagicString, Result, ok, err, with_chunks}
use Rattle.model.specs.Call.{Edit}
use Rattle.model.proofs.Lists.{clash}
use Rattle.model_closed_forms.specs.Plan.{Plan, nothing, clear, replace, insert_piece, insert_whole, move, refused_first, cut_all, cuttable}
use Rattle.model_closed_forms.specs.Plan.{cut_until_refused, cuts, in_order, order_number, left_over, ends_past, frozen_in, apply, closed_plan, unless_refused, closed}
use Rattle.model_closed_forms.specs.Accepted.{plan_of, Accepted}

pub accepted_closed : (e : Edit) (m : MagicString) → Accepted e m → closed e m ≡ ok (apply (plan_of e m) m)
unfolding closed closed_plan
accepted_closed e m a = rw (a.arguments, a.cuts_made, a.inside, a.unfrozen, a.ordered)

-- a plan whose order may be refused has a number for that
order_refused : (P : Plan) (cs : List Chunk) → in_order P cs ≡ false → order_number P ≡ 0 → ⊥
unfolding in_order order_number
order_refused nothing cs h k = clash refl h
order_refused (clear a b r) cs h k = clash refl h
order_refused (replace a b t o) cs h k = omega arith
order_refused (insert_piece p t left front) cs h k = clash refl h
order_refused (insert_whole t left front) cs h k = clash refl h
order_refused (move a b to) cs h k = omega arith

pub closed_accepted : (e : Edit) (m : MagicString) → (closed e m).number ≡ 0 → Accepted e m
unfolding closed closed_plan
closed_accepted e m h = arguments (refused_first n e) refl h
  where
    n : ℕ
    n = length m.source

    P : Plan
    P = plan_of e m

    cs : List Chunk
    cs = cut_all (cuts P) m.chunks

    -- what each test leaves to the next
    by_order : Bool → Result
    by_order b = cond b (ok (apply P m)) (err (order_number P) (with_chunks m (left_over P cs)))

    by_marks : Bool → Result
    by_marks b = cond b (err 20 (with_chunks m cs)) (by_order (in_order P cs))

    by_end : Bool → Result
    by_end b = cond b (err 10 (with_chunks m cs)) (by_marks (frozen_in P cs))

    ordered : refused_first n e ≡ 0 → cuttable (cuts P) m.chunks ≡ true → ends_past n P ≡ false → frozen_in P cs ≡ false → (b : Bool) → in_order P cs ≡ b →
        (by_order b).number ≡ 0 → Accepted e m
    ordered f c l u true o h = record { arguments = f; cuts_made = c; inside = l; unfrozen = u; ordered = o }
    ordered f c l u false o h = absurd (order_refused P cs o h)

    unfrozen : refused_first n e ≡ 0 → cuttable (cuts P) m.chunks ≡ true → ends_past n P ≡ false → (b : Bool) → frozen_in P cs ≡ b → (by_marks b).number ≡ 0 → Accepted e m
    unfrozen f c l true u h = absurd (omega arith)
    unfrozen f c l false u h = ordered f c l u (in_order P cs) refl h

    inside : refused_first n e ≡ 0 → cuttable (cuts P) m.chunks ≡ true → (b : Bool) → ends_past n P ≡ b → (by_end b).number ≡ 0 → Accepted e m
    inside f c true l h = absurd (omega arith)
    inside f c false l h = unfrozen f c l (frozen_in P cs) refl h

    made : refused_first n e ≡ 0 → (b : Bool) → cuttable (cuts P) m.chunks ≡ b
        → (cond b (by_end (ends_past n P)) (err 6 (with_chunks m (cut_until_refused (cuts P) m.chunks)))).number ≡ 0 → Accepted e m
    made f true c h = inside f c (ends_past n P) refl h
    made f false c h = absurd (omega arith)

    arguments : (k : ℕ) → refused_first n e ≡ k → (unless_refused k m (closed_plan P m)).number ≡ 0 → Accepted e m
    arguments zero f h = made f (cuttable (cuts P) m.chunks) refl h
    arguments (suc k) f h = absurd (omega arith)
