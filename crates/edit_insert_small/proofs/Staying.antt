-- An insertion that is refused leaves the desk as it was: the cut alone can refuse, and it does so before it changes anything.
use mathlib.Core.Path.{◌≡◌, refl}
use mathlib.Core.Bool.{Bool, true, false, ◌||◌, cond}
use mathlib.Core.Option.{Option, none, some}
use Prim.Native.Nat.{ℕ}
use lib.Dec.{leb, eqb}
use lib.ListN.{length}
use Rattle.model.specs.Text.{Text, is_some}
use Rattle.model.specs.Chunk.{Chunk}
use Rattle.model.specs.MagicString.{MagicString, Result, ok, err, and_then, with_chunks, with_whole, by_edge, by_end, at_edge, holder, refuses_split, split_holder}
use Rattle.model.specs.MagicString.{split_at, by_edge_mut}
use Rattle.model.specs.Insert.{push, push_to, insert_step}
use Rattle.edit_small_tables.proofs.Small.{Stays}
use Rattle.edit_insert_side.specs.declared.Spot.{Spot}
use Rattle.edit_insert_side.specs.declared.Spot.TheVariants.{At, Whole}
use Rattle.edit_insert_side.specs.Spot.{adding}

-- the piece is never refused
step_made : (left front : Bool) (q : ℕ) (t : Text) (m : MagicString) → (insert_step q t left front m).number ≡ 0
step_made left front q t m = go (by_edge left q m.chunks)
  where
    go : (o : Option Chunk)
        → (elim o as (λ _. Result) [ none ↦ ok (with_whole left m (push front t)) | some c ↦ ok (with_chunks m (at_edge left q (push_to left front t) m.chunks)) ]).number ≡ 0
    go none = refl
    go (some c) = refl

pub adding_stays : (spot : Spot) (front : Bool) (t : Text) → Stays (adding spot front t)
unfolding split_at by_edge_mut
adding_stays (Whole outro) front t m = λ n. absurd (n refl)
adding_stays (At q left) front t m =
    go (eqb q 0 || (leb (length m.source) q || is_some (by_end q m.chunks))) (refuses_split (holder q m.chunks)) (with_chunks m (split_holder q m.chunks))
  where
    step : MagicString → Result
    step = insert_step q t left front

    go : (a b : Bool) (k : MagicString) → ((and_then (cond a (ok m) (cond b (err 6 m) (ok k))) step).number ≡ 0 → ⊥)
        → (and_then (cond a (ok m) (cond b (err 6 m) (ok k))) step).desk ≡ m
    go true b k h = absurd (h (step_made left front q t m))
    go false true k h = refl
    go false false k h = absurd (h (step_made left front q t k))
