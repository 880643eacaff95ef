-- Every edit keeps a desk well formed, and an opening leaves a well-formed one.
use Prim.Native.Nat.{ℕ, suc, ◌≤◌}
use native.Mathlib.Omega.{arith}
use mathlib.Core.Path.{◌≡◌, refl}
use mathlib.Core.Bool.{Bool, true, false, ◌&&◌, not, cond}
use mathlib.Core.List.{List, [], ◌∷◌}
use mathlib.Core.Option.{Option, none, some}
use lib.Dec.{leb}
use lib.ListN.{length}
use borrow.Author.Tests.{le-leb, leb-true}
use Rattle.utf8.specs.Rfc3629.{utf8, between}
use Rattle.utf8.proofs.Boundaries.{between_zero, between_past}
use Rattle.utf8.specs.Chars.{All, nil, cons}
use Rattle.model.specs.Text.{Text, all}
use Rattle.model.specs.Chunk.{new_chunk}
use Rattle.model.specs.MagicString.{MagicString, Result, ok, err, new}
use Rattle.model.specs.Frozen.{has_frozen, any_frozen}
use Rattle.model.specs.Limits.{Limits, within}
use Rattle.model.specs.Call.{Edit, remove, update_with, reset, insert, append, prepend, relocate, trim, trim_start, trim_end}
use Rattle.model.specs.Call.{trim_lines, indent_with, freeze, options_valid, given, texts, positions, whole, steps, refused_before, judged, run, after, opened}
use Rattle.model.specs.WellFormed.{Valid, ValidReplacement, Covered, Formed, WellFormed}
use Rattle.model.proofs.Lists.{all_true}
use Rattle.model.proofs.Spans.{covers_in}
use Rattle.model_preservation.proofs.Lists.{of_guard, of_number}
use Rattle.model_preservation.proofs.Desk.{Leaves, FormedOf}
use Rattle.model_preservation.proofs.Retexts.{bare_valid}
use Rattle.model_preservation.proofs.Edits.{append_keeps, prepend_keeps, insert_keeps, remove_keeps}
use Rattle.model_preservation.proofs.Edits.{reset_keeps, update_keeps, freeze_keeps}
use Rattle.model_preservation.proofs.Relocate.{relocate_keeps}
use Rattle.model_preservation.proofs.Trim.{trim_start_keeps, trim_end_keeps, trim_keeps}
use Rattle.model_preservation.proofs.Indent.{indent_with_keeps}
use Rattle.model_preservation.proofs.IndentAccepted.{indent_with_accepted}
use Rattle.model_preservation.specs.Results.{OpenedKeeps}

-- ---- what 15, 1, 3 and the whole desk's 20 leave

pub record Given (m : MagicString) (e : Edit) : Type 0 where
  pub options : options_valid e ≡ true
  pub texts_valid : All Valid (texts e)
  pub between_characters : All (λ p. between m.source p ≡ true) (positions e)
  pub unmarked : whole e && any_frozen m ≡ false

cond_zero : (b : Bool) (n k : ℕ) → cond (not b) (suc k) n ≡ 0 → (b ≡ true) × (n ≡ 0)
cond_zero true n k e = (refl, e)
cond_zero false n k e = absurd (omega arith)

marked_zero : (b : Bool) (k : ℕ) → cond b (suc k) 0 ≡ 0 → b ≡ false
marked_zero true k e = absurd (omega arith)
marked_zero false k e = refl

pub not_refused_before : (m : MagicString) (e : Edit) → refused_before m e ≡ 0 → Given m e
unfolding refused_before
not_refused_before m e z =
    let a = cond_zero (options_valid e) _ 14 z in
    let b = cond_zero (all utf8 (texts e)) _ 0 a.1 in
    let c = cond_zero (all (between m.source) (positions e)) _ 2 b.1 in
    record {
      options = a.0;
      texts_valid = all_true utf8 (texts e) b.0;
      between_characters = all_true (between m.source) (positions e) c.0;
      unmarked = marked_zero (whole e && any_frozen m) 19 c.1;
    }

-- ---- the steps

given_valid : (i : Option Text) → All Valid (given i) → ValidReplacement i
given_valid none h = tt
given_valid (some t) (cons h nil) = h

-- the desk that the steps leave, accepted or refused, is formed and has the same source
pub steps_leave : (source : Text) (e : Edit) (m : MagicString) → All Valid (texts e) → All (λ p. between source p ≡ true) (positions e) → FormedOf source m
    → Leaves (FormedOf source) (steps e m)
steps_leave s (remove a b) m nil (cons p (cons q nil)) h = remove_keeps s a b p q has_frozen m h
steps_leave s (update_with a b t o) m (cons v nil) (cons p (cons q nil)) h = update_keeps s a b p q has_frozen t o v m h
steps_leave s (reset a b) m nil (cons p (cons q nil)) h = reset_keeps s a b p q has_frozen m h
steps_leave s (insert i t left front) m (cons v nil) (cons p nil) h = insert_keeps s i t left front v p m h
steps_leave s (append t) m (cons v nil) nil h = append_keeps s t v m h
steps_leave s (prepend t) m (cons v nil) nil h = prepend_keeps s t v m h
steps_leave s (relocate a b to) m nil (cons p (cons q (cons r nil))) h = relocate_keeps s a b to p q r m h
steps_leave s (trim k) m nil nil h = record { desk = trim_keeps s k m h }
steps_leave s (trim_start k) m nil nil h = record { desk = trim_start_keeps s k m h }
steps_leave s (trim_end k) m nil nil h = record { desk = trim_end_keeps s k m h }
steps_leave s trim_lines m nil nil h = record { desk = trim_keeps s 1 m h }
steps_leave s (indent_with i l) m v p h = indent_with_keeps s i (given_valid i v) l m h
steps_leave s (freeze a b) m nil (cons p (cons q nil)) h = freeze_keeps s a b p q m h

steps_of : (e : Edit) (m : MagicString) → Formed m → refused_before m e ≡ 0 → Leaves (FormedOf m.source) (steps e m)
steps_of e m f z =
    let g = not_refused_before m e z in
    steps_leave m.source e m g.texts_valid g.between_characters (record { formed = f; source_is = refl })

pub steps_keep : (e : Edit) (m : MagicString) → Formed m → refused_before m e ≡ 0 → Formed (steps e m).desk
steps_keep e m f z = (steps_of e m f z).desk.formed

-- indenting is never refused by the Rust's own steps
pub indent_accepted : (i : Option Text) (l : List ℕ) (m : MagicString) → Formed m → (steps (indent_with i l) m).number ≡ 0
indent_accepted i l m f = indent_with_accepted i l m f

-- ---- a call that changes a desk

-- limits or not, the desk is formed, over the same source
pub run_formed : (k : Limits) (e : Edit) (m : MagicString) → Formed m → FormedOf m.source (run k e m).desk
unfolding run judged
run_formed k e m f =
    let P : Result → Type 0 = λ r. FormedOf m.source r.desk in
    let same : FormedOf m.source m = record { formed = f; source_is = refl } in
    of_number P (refused_before m e) (λ z. of_guard P (within k (steps e m).desk) (λ _. same) (λ _. (steps_of e m f z).desk)) (λ _ _. same)

judged_keeps : (k : Limits) (m : MagicString) (r : Result) → WellFormed k m → Formed r.desk → WellFormed k (judged k m r).desk
unfolding judged
judged_keeps k m r w f = of_guard (λ (r : Result). WellFormed k r.desk) (within k r.desk) (λ _. w) (λ e. record { formed = f; limits = e })

pub run_keeps : (k : Limits) (e : Edit) (m : MagicString) → WellFormed k m → WellFormed k (run k e m).desk
unfolding run
run_keeps k e m w =
    of_number (λ (r : Result). WellFormed k r.desk) (refused_before m e) (λ z. judged_keeps k m (steps e m) w (steps_keep e m w.formed z)) (λ _ _. w)

-- ---- opening

new_covered : (source : Text) → Valid source → Covered source (new_chunk 0 (length source) ∷ [])
new_covered [] v = refl
new_covered (a ∷ s) v =
    record {
      spans = cons {x = new_chunk 0 (length (a ∷ s))} (record {
        proper = omega arith;
        inside = omega arith;
        start_between = between_zero (a ∷ s);
        end_between =
            between_past (a ∷ s) (length (a ∷ s)) v (omega arith);
      }) nil;
      once = λ x l. omega (arith, covers_in x (new_chunk 0 (length (a ∷ s))) (omega arith, l));
    }

pub new_formed : (source : Text) → Valid source → Formed (new source)
new_formed source v = record { source = v; covered = new_covered source v; intro = nil; outro = nil; texts = cons bare_valid nil }

new_within : (k : Limits) (source : Text) → length source ≤ k.most_source → 1 ≤ k.most_chunks → within k (new source) ≡ true
unfolding within
new_within k source h l = rw (le-leb (length source) k.most_source h, le-leb 1 k.most_chunks l, le-leb 0 k.most_pieces (omega arith), le-leb 0 k.most_bytes (omega arith))

-- an opening is refused, or leaves the new desk, well formed
pub opened_cases : (k : Limits) (source : Text) (m : MagicString) → 1 ≤ k.most_chunks → (P : Result → Type 0)
    → P (err 13 m) → P (err 1 m) → (WellFormed k (new source) → P (ok (new source))) → P (opened k source m)
unfolding opened
opened_cases k source m l P h i g =
    of_guard P (leb (length source) k.most_source) (λ _. h)
    (λ a. of_guard P (utf8 source) (λ _. i)
    (λ v. g (record { formed = new_formed source v; limits = new_within k source (leb-true (length source) k.most_source a) l })))

-- the limits must let a desk have its one chunk
pub opened_keeps : OpenedKeeps
opened_keeps k source m l =
    opened_cases k source m l (λ r. r.number ≡ 0 → WellFormed k r.desk) (λ z. absurd (omega arith)) (λ z. absurd (omega arith)) (λ w _. w)

-- ---- edits one after the other

pub after_keeps : (k : Limits) (L : List Edit) (m : MagicString) → WellFormed k m → WellFormed k (after k L m)
after_keeps k [] m w = w
after_keeps k (e ∷ L) m w = after_keeps k L (run k e m).desk (run_keeps k e m w)
