-- `remove`, `reset` and the insertions are their plans.
use Prim.Native.Nat.{ℕ, ◌<◌}
use mathlib.Core.Path.{◌≡◌, refl, ap, sym, ◌∙◌}
use mathlib.Core.Bool.{Bool, true, false, cond}
use mathlib.Core.List.{List, [], ◌∷◌}
use mathlib.Core.Option.{Option, none, some}
use mathlib.Core.Logic.{◌⊎◌, inl, inr}
use lib.ListN.{length}
use Rattle.utf8.specs.Chars.{All}
use Rattle.model.specs.Text.{Text, is_some}
use Rattle.model.specs.Chunk.{Texts, Chunk, bare}
use Rattle.model.specs.MagicString.{MagicString, Result, ok, with_chunks, with_whole, by_edge, by_edge_mut}
use Rattle.model.specs.Frozen.{has_frozen, unless_guarded}
use Rattle.model.specs.Insert.{push, push_to, insert, insert_step}
use Rattle.model.specs.Movement.{change_by_position, change_range}
use Rattle.model.proofs.Lists.{bool_cases, all_of, all_map, map_none, first_of}
use Rattle.model.specs.Call as call
use Rattle.model_closed_forms.specs.Plan.{nothing, clear, insert_piece, insert_whole, has_chunk, plan, cut, cut_all, cuts}
use Rattle.model_closed_forms.specs.Plan.{act, acted, rearrange, on_head, on_tail, in_order, ends_past, frozen_in, closed_plan}
use Rattle.model_closed_forms.proofs.Cuts.{Contains, cut_aligned, cut_all_aligned, cut_none}
use Rattle.model_closed_forms.specs.Spans.{Cover}
use Rattle.model_closed_forms.proofs.SplitAt.{cover_cut, cover_cut_all, cuts_then_step, cuts_then_closed, aligned_splittable}
use Rattle.model_closed_forms.specs.SplitAt.{cuts_then}
use Rattle.model_closed_forms.proofs.ByPosition.{by_position, at_edge_is_map, chunk_is_found, no_chunk_aligned}

-- ── nothing, and head and tail ──
pub nothing_is_closed : (m : MagicString) → ok m ≡ closed_plan nothing m
unfolding closed_plan cuts ends_past frozen_in in_order on_head on_tail rearrange act
nothing_is_closed m = ap (λ cs. ok (with_chunks m cs)) (sym (map_none (acted nothing) (all_of (λ c. refl) m.chunks)))

-- left the head, right the tail
pub whole_is_closed : (left front : Bool) (t : Text) (m : MagicString) → ok (with_whole left m (push front t)) ≡ closed_plan (insert_whole t left front) m
unfolding closed_plan cuts ends_past frozen_in in_order on_head on_tail rearrange act
whole_is_closed left front t m = ap (λ cs. ok (with_chunks (with_whole left m (push front t)) cs)) (sym (map_none (acted (insert_whole t left front)) (all_of (λ c. refl) m.chunks)))

-- ── `remove` and `reset` past their tests ──
pub clear_is_closed : (r : Option Text) (a b : ℕ) (m : MagicString) → a < b → Cover m.source m.chunks → change_range has_frozen (λ x. bare r) a b m ≡ closed_plan (clear a b r) m
unfolding change_range has_frozen cuts ends_past frozen_in in_order on_head on_tail rearrange act
clear_is_closed r a b m ab v =
    cuts_then_step (clear a b r) (λ m. unless_guarded has_frozen a b m (ok (with_chunks m (change_by_position (length m.chunks) (λ x. bare r) a b m.chunks)))) m v
    (ap (λ l. unless_guarded has_frozen a b (with_chunks m cs) (ok (with_chunks m l)))
    (by_position (λ x. bare r) a b ab (cover_cut_all (a ∷ b ∷ []) v) (all_map (λ c h. first_of h) (cut_all_aligned (a ∷ b ∷ []) m.chunks))))
  where
    cs : List Chunk
    cs = cut_all (a ∷ b ∷ []) m.chunks

-- ── insertions ──
either : (o : Option Chunk) (x y : Result) → elim o [ none ↦ x | some c ↦ y ] ≡ cond (is_some o) y x
either none x y = refl
either (some c) x y = refl

pub insert_is_closed : (p : ℕ) (t : Text) (left front : Bool) (m : MagicString) → Cover m.source m.chunks
    → insert p t left front m ≡ closed_plan (plan (length m.source) (call.insert p t left front)) m
unfolding by_edge_mut plan cuts ends_past frozen_in in_order on_head on_tail rearrange act
insert_is_closed p t left front m v = go (bool_cases (has_chunk (length m.source) p left))
  where
    f : Texts → Texts
    f = push_to left front t

    go : (has_chunk (length m.source) p left ≡ true) ⊎ (has_chunk (length m.source) p left ≡ false)
        → cuts_then (p ∷ []) (insert_step p t left front) m ≡ closed_plan (plan (length m.source) (call.insert p t left front)) m
    go (inl h) =
        let al : All (λ c. Contains p c → ⊥) (cut p m.chunks) = cut_aligned p m.chunks in
        rw h
        (cuts_then_step (insert_piece p t left front) (insert_step p t left front) m v
        (either (by_edge left p (cut p m.chunks)) _ _ ∙ rw (chunk_is_found left p (cover_cut p v) al, h, at_edge_is_map left p f (cover_cut p v))))
    go (inr h) =
        let al : All (λ c. Contains p c → ⊥) m.chunks = no_chunk_aligned left p v h in
        rw h
        (cuts_then_closed (p ∷ []) (insert_step p t left front) m v
        ∙ (rw (aligned_splittable p al, cut_none p al) (either (by_edge left p m.chunks) _ _ ∙ rw (chunk_is_found left p v al, h)) ∙ whole_is_closed left front t m))
