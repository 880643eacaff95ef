-- What a cut says, by what the search for its chunk finds.
use mathlib.Core.Path.{◌≡◌, refl, sym, ap, ◌∙◌, subst}
use mathlib.Core.Bool.{Bool, true, false, ◌||◌, cond}
use mathlib.Core.List.{List, [], ◌∷◌}
use Prim.Native.Nat.{ℕ}
use Rattle.std.specs.Prelude.{Ok, Err}
use lib.Dec.{leb, eqb}
use lib.ListN.{length}
use Rattle.memory_table.specs.Ring.{Each}
use Rattle.memory_table.specs.Order.{entry_at, order, Linked}
use Rattle.model.specs.Cut.{made, edge, outside, refused, made_count}
use Rattle.memory_layout.specs.declared.refusal.Refusal.TheVariants.{CutInReplacement}
use Rattle.memory_layout.specs.Refusals.{number_of}
use Rattle.memory.specs.Layout.{magic_string_of}
use Rattle.memory.proofs.Desks.{source_of}
use Rattle.model_closed_forms.specs.Spans.{Cover}
use Rattle.model_closed_forms.proofs.CutAt.{cut_at_aligned}
use Rattle.memory_list.specs.declared.Key.TheVariants.{Inside}
use Rattle.memory_list.specs.Find.{meets, First}
use Rattle.memory_list.specs.Split.{SplitRow}
use Rattle.edit_split_at.specs.declared.Cut.{Cut}
use Rattle.edit_split_at.specs.declared.Cut.TheVariants.{Made, Edge, Outside}
use Rattle.edit_split_at.specs.Cuts.{filled, CutsDone}
use Rattle.edit_split_at.specs.Says.{case_of, CutSays}
use Rattle.edit_split_at.proofs.Cuts.{none_contain, none_found, found_case, found_filled, found_split}

-- ── no chunk contains the position ──
case_either : (b : Bool) → case_of (Ok (cond b Outside Edge)) ≡ cond b outside edge
case_either true = refl
case_either false = refl

module _ (n q : ℕ) (t : List ℕ) (l : Linked t) (h : Each (λ x. meets Inside q (entry_at t x) ≡ false) (order t)) where
  nothing_done : (b : Bool) → CutsDone (q ∷ []) t t (number_of (Ok (cond b Outside Edge))) (made_count (case_of (Ok (cond b Outside Edge))))
  nothing_done true = none_found q t l h
  nothing_done false = none_found q t l h

  pub none_says : (c : Cut) → c ≡ cond (eqb q 0 || leb n q) Outside Edge → CutSays n q t t (Ok c)
  none_says c e =
      record {
        says = λ source p s ln rd sp.
            let m = magic_string_of source t p s in
            ap (λ (k : Cut). case_of (Ok k)) e ∙ case_either (eqb q 0 || leb n q)
            ∙ ap (λ (k : ℕ). cond (eqb q 0 || leb k q) outside edge) (sym ln ∙ sym (ap length (source_of source t p s)))
            ∙ sym (cut_at_aligned q m (subst (λ x. Cover x m.chunks) (sym (source_of source t p s)) sp) (none_contain source t p s q h));
        done = subst (λ (k : Cut). CutsDone (q ∷ []) t t (number_of (Ok k)) (made_count (case_of (Ok k)))) (sym e) (nothing_done (eqb q 0 || leb n q));
      }

-- ── one does ──
module _ (n q : ℕ) (t : List ℕ) (i : ℕ) (w : First (meets Inside q) t i) (l : Linked t) where
  pub filled_says : filled (entry_at t i) ≡ true → CutSays n q t t (Err CutInReplacement)
  filled_says f =
      record {
        says = λ source p s ln rd sp. sym (found_case q t i w source p s rd sp ∙ ap (λ (b : Bool). cond b refused made) f);
        done = found_filled q t i w l f;
      }

  pub split_says : (t' : List ℕ) → SplitRow t t' i q → filled (entry_at t i) ≡ false → CutSays n q t t' (Ok Made)
  split_says t' d f =
      record {
        says = λ source p s ln rd sp. sym (found_case q t i w source p s rd sp ∙ ap (λ (b : Bool). cond b refused made) f);
        done = found_split q t i w l t' d f;
      }
