-- Laws of what `Ran` in specs/ defines.
use mathlib.Core.Path.{◌≡◌, refl, sym, ap, ◌∙◌, subst}
use mathlib.Core.List.{List}
use mathlib.Core.Logic.{⊎_elim}
use Prim.Native.Nat.{ℕ, ◌+◌, ◌-◌, ◌≤◌}
use native.Mathlib.Omega.{arith}
use lib.ListN.{length, drop, length-append, length-drop}
use Rattle.memory_table.specs.Order.{count_of}
use Rattle.model.specs.MagicString.{Result}
use Rattle.model.specs.Limits.{full, within}
use Rattle.model.specs.Indent.{indent_by}
use Rattle.model.specs.WellFormed as model
use Rattle.memory.specs.WellFormed.{Readable, WellFormed}
use Rattle.memory.proofs.Desks.{desk_full}
use Rattle.edit_rebuild.specs.Rebuilt.{Finished}
use Rattle.edit_scratch.specs.Loaded.{Loaded}
use Rattle.edit_scratch.proofs.Refused.{code_some}
use Rattle.memory_layout.specs.declared.refusal.Refusal.{Refusal}
use Rattle.memory_layout.specs.Refusals.{code}
use Rattle.edit_scratch.proofs.Tables.{loaded_readable, loaded_desk, loaded_count, ran_past_limits, ran_finished, may_write_0}
use Rattle.indent_turns.specs.Steps.{StepsReady, IndentSteps}
use Rattle.indent_scratch.specs.Ran.{IndentScratch, IndentRan}

-- ---- the steps

module _ {source t p s t₀ p₀ s₀ t1 p1 s1 : List ℕ} (w : WellFormed source t p s) (f : IndentScratch t₀ p₀ s₀) (d : Loaded t p s t₀ p₀ s₀ t1 p1 s1) where
  pub steps_ready : StepsReady source t1 p s p1 s1
  steps_ready =
      record {
        readable = loaded_readable w f.scratch d;
        desk = subst (model.WellFormed full) (sym (loaded_desk w f.scratch d)) (record { formed = w.desk.formed; limits = desk_full w });
        chunks = ap length d.chunks ∙ simp (length-append, length-drop) (omega (arith, w.sized.chunks, f.scratch.chunks));
        pieces = w.sized.pieces;
        store = w.sized.store;
        behind = drop (length p) p₀;
        after = drop (length s) s₀;
        pieces_is = d.pieces;
        store_is = d.store;
        long_pieces = ap length d.pieces ∙ simp (length-append, length-drop) (omega (arith, w.sized.pieces, f.pieces));
        long_store = ap length d.store ∙ simp (length-append, length-drop) (omega (arith, w.sized.store, f.store));
      }

-- ---- the call past its tests, by any indentor

module _ {indentor exclude source t p s t₀ p₀ s₀ t1 p1 s1 t2 p2 s2 : List ℕ} (w : WellFormed source t p s) (f : IndentScratch t₀ p₀ s₀) (d : Loaded t p s t₀ p₀ s₀ t1 p1 s1) where
  pub indent_past : (e : Refusal) → IndentSteps indentor exclude source t1 p s t2 p2 s2 (code e) → IndentRan indentor exclude source t p s t p s (code e) 0
  indent_past r x =
      let z : code r ≡ 13 = ⊎_elim {C = code r ≡ 13} (λ z. absurd (code_some r z)) (λ z. z) x.zero_or in
      subst (λ (n : ℕ). IndentRan indentor exclude source t p s t p s n 0) (sym z)
      (λ e h q i.
      ran_past_limits e source t p s w h
      (ap (λ (y : Result). within full y.desk) (q ∙ ap (indent_by indentor exclude) (sym (loaded_desk w f.scratch d))) ∙ x.past z))

  module _ (x : IndentSteps indentor exclude source t1 p s t2 p2 s2 0) where
    pub indent_readable : Readable t2 p2 s2
    indent_readable = (x.did refl).readable

    -- the chunks that the walk added
    grown : (c : ℕ) → c ≡ count_of t2 - count_of t → count_of t2 ≡ count_of t + c
    grown c e = omega (arith, (x.did refl).cuts, loaded_count w f.scratch d)

    pub indent_some : count_of t ≤ count_of t2
    indent_some = omega (arith, grown (count_of t2 - count_of t) refl)

    pub indent_ran : {t' p' s' : List ℕ} {c r' c' : ℕ} → c ≡ count_of t2 - count_of t → Finished t2 p2 s2 t p s t' p' s' 0 c r' c'
        → IndentRan indentor exclude source t p s t' p' s' r' c'
    indent_ran {t'} {p'} {s'} {c} {r'} {c'} k z e h q i =
        let g = x.did refl in
        ran_finished w h
        (record { readable = g.readable; result = q ∙ ap (indent_by indentor exclude) (sym (loaded_desk w f.scratch d)) ∙ g.result; cuts = grown c k })
        (may_write_0 e i) z
