-- The steps between loading the scratch tables and writing them back are the call.
use mathlib.Core.Path.{◌≡◌, refl, sym, ap, ◌∙◌, subst}
use mathlib.Core.Bool.{Bool}
use mathlib.Core.List.{List}
use Prim.Native.Nat.{ℕ, ◌<◌}
use native.Mathlib.Omega.{arith}
use lib.ListN.{length, drop}
use Rattle.model.specs.MagicString.{Result}
use Rattle.model.specs.Limits.{full, within}
use Rattle.model.specs.Call.{update_with, refused_before}
use Rattle.memory.specs.Layout.{magic_string_of}
use Rattle.memory.specs.WellFormed.{Readable, WellFormed}
use Rattle.memory.specs.Calls.{Ran}
use Rattle.edit_rebuild.specs.Rebuilt.{Finished}
use Rattle.edit_scratch.specs.Loaded.{Loaded}
use Rattle.edit_scratch.proofs.Tables.{loaded_readable, loaded_desk, loaded_count, ran_finished, ran_past_limits}
use Rattle.edit_scratch.specs.Tables.{Did}
use Rattle.edit_split_at.proofs.Cuts.{loaded_spans}
use Rattle.edit_update_steps.specs.Steps.{update_past}
use Rattle.edit_update_steps.proofs.Steps.{update_is}
use Rattle.edit_update_steps.specs.Stored.{UpdateSteps}
use Rattle.edit_update_steps.proofs.Stored.{steps_did}
use Rattle.edit_update_scratch.specs.Tables.{UpdateScratch}

module _ {a b : ℕ} {text : List ℕ} {o : Bool} {n : ℕ} {source t p s t₀ p₀ s₀ t1 p1 s1 t2 s2 : List ℕ} {r c : ℕ} (ab : a < b) (w : WellFormed source t p s)
    (h : refused_before (magic_string_of source t p s) (update_with a b text o) ≡ 0) (f : UpdateScratch t₀ p₀ s₀) (d : Loaded t p s t₀ p₀ s₀ t1 p1 s1)
    (x : UpdateSteps a b text o n (length s) t1 s1 t2 s2 r c)
    (ln : length source ≡ n) where
  did : (r ≡ 13 → ⊥) → Did (update_past a b text o) source t1 p s t2 p1 s2 r c
  did k =
      subst (λ (l : List ℕ). Did (update_past a b text o) source t1 p s t2 l s2 r c) (sym d.pieces)
      (steps_did x k source p s (drop (length p) p₀) (drop (length s) s₀) ln (loaded_readable w f.scratch d) (loaded_spans w f.scratch d) d.store refl)

  pub update_readable : (r ≡ 13 → ⊥) → Readable t2 p1 s2
  update_readable k = (did k).readable

  pub update_too_long : r ≡ 13 → Ran (update_with a b text o) source t p s t p s 13 0
  update_too_long z =
      ran_past_limits (update_with a b text o) source t p s w h
      (ap (λ (y : Result). within full y.desk) (update_is a b text o (magic_string_of source t p s) ab ∙ ap (update_past a b text o) (sym (loaded_desk w f.scratch d)))
      ∙ x.long z source p s ln (loaded_readable w f.scratch d) (loaded_spans w f.scratch d))

  pub update_ran : {t' p' s' : List ℕ} {r' c' : ℕ} → (r ≡ 13 → ⊥) → Finished t2 p1 s2 t p s t' p' s' r c r' c'
      → Ran (update_with a b text o) source t p s t' p' s' r' c'
  update_ran k y =
      ran_finished w h
      (record {
        readable = (did k).readable;
        result = update_is a b text o (magic_string_of source t p s) ab ∙ ap (update_past a b text o) (sym (loaded_desk w f.scratch d))
            ∙ (did k).result;
        cuts = omega (arith, (did k).cuts, loaded_count w f.scratch d);
      }) (x.writes k) y
