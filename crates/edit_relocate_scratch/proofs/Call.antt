-- `relocate` as a call: what its tests give, and what its steps come to.
use mathlib.Core.Path.{◌≡◌, refl, ap, ◌∙◌}
use mathlib.Core.Bool.{true, false, ◌&&◌}
use mathlib.Core.List.{List, [], ◌∷◌}
use mathlib.Core.Logic.{◌⊎◌, inl, inr}
use Prim.Native.Nat.{ℕ, ◌≤◌, ◌<◌}
use native.Mathlib.Omega.{arith}
use lib.Dec.{leb}
use lib.ListN.{length}
use borrow.Author.Tests.{ne_eqb, eq-eqb, le-ltb, lt-ltb}
use Rattle.utf8.specs.Rfc3629.{between}
use Rattle.model.specs.Text.{all}
use Rattle.model.specs.MagicString.{MagicString, ok, err}
use Rattle.model.specs.Movement as movement_rs
use Rattle.model.specs.Call.{relocate, steps, refused_before, idle}
use Rattle.memory.specs.Layout.{magic_string_of}
use Rattle.memory.specs.WellFormed.{Readable, WellFormed}
use Rattle.memory.specs.Calls.{may_write, Ran}
use Rattle.memory.proofs.Desks.{source_of}
use Rattle.memory_used.specs.declared.Used.{Used}
use Rattle.memory_used.specs.Above.{Above}
use Rattle.model_closed_forms.specs.SplitAt.{cuts_then}
use Rattle.edit_rebuild.specs.Rebuilt.{Finished}
use Rattle.edit_scratch.specs.Loaded.{Loaded}
use Rattle.edit_scratch.specs.Tables.{Scratch, Did}
use Rattle.edit_scratch.proofs.Tables.{did_loaded, loaded_readable, ran_before, ran_same, ran_finished, refused_3, not_refused, may_write_0, may_write_leaving}
use Rattle.edit_in_place.proofs.InPlace.{ran_rows, above_kept}
use Rattle.edit_split_at.proofs.Cuts.{formed_spans, loaded_spans}
use Rattle.edit_relocate_steps.specs.Relocated.{Spanned, move_step, RelocateDone}
use Rattle.edit_relocate_scratch.specs.Tested.{Tested}

-- ── the steps, test by test ──
module _ (a b to : ℕ) (m : MagicString) where
  steps_inside : leb a to && leb to b ≡ true → steps (relocate a b to) m ≡ err 8 m
  unfolding movement_rs.relocate
  steps_inside h = rw h

  module _ (h : leb a to && leb to b ≡ false) where
    steps_same : a ≡ b → steps (relocate a b to) m ≡ ok m
    unfolding movement_rs.relocate
    steps_same e = rw (h, eq-eqb a b e)

    steps_reversed : b < a → steps (relocate a b to) m ≡ err 4 m
    unfolding movement_rs.relocate
    steps_reversed e = rw (h, ne_eqb a b (λ z. omega arith), lt-ltb b a e)

    steps_past : a < b → length m.source < b → steps (relocate a b to) m ≡ err 10 m
    unfolding movement_rs.relocate
    steps_past e l = rw (h, ne_eqb a b (λ z. omega arith), le-ltb b a (omega arith), lt-ltb (length m.source) b l)

    steps_move : a < b → b ≤ length m.source → steps (relocate a b to) m ≡ cuts_then (a ∷ b ∷ to ∷ []) (move_step a b to) m
    unfolding movement_rs.relocate
    steps_move e l = rw (h, ne_eqb a b (λ z. omega arith), le-ltb b a (omega arith), le-ltb (length m.source) b l)

busy : (a b to : ℕ) → a < b → idle (relocate a b to) ≡ false
busy a b to h = ne_eqb a b (λ e. omega arith)

writes : (a b to r : ℕ) → a < b → (r ≡ 0) ⊎ ((r ≡ 6) ⊎ (r ≡ 9)) → may_write (relocate a b to) r ≡ true
writes a b to r h (inl z) = rw z (may_write_0 (relocate a b to) (busy a b to h))
writes a b to r h (inr (inl z)) = rw z (may_write_leaving (relocate a b to) 5 refl)
writes a b to r h (inr (inr z)) = rw z (may_write_leaving (relocate a b to) 8 refl)

-- ── past the tests, on the lent rows ──
module _ {a b to : ℕ} {source t p s : List ℕ} (w : WellFormed source t p s) (k : Tested a b to source t p s) where
  pub lent_spanned : Spanned t
  lent_spanned =
      record {
        source = source;
        pieces = p;
        store = s;
        readable = w.readable;
        spans = formed_spans w;
        filled = omega (arith, k.movable.ascends, k.inside);
      }

  pub relocated_in_place : {t' : List ℕ} {r c : ℕ} → RelocateDone a b to t t' r c → length t' ≡ length t → Ran (relocate a b to) source t p s t' p s r c
  relocated_in_place {r = r} x len =
      let m = magic_string_of source t p s in
      let q = steps_move a b to m k.movable.outside k.movable.ascends (omega (arith, k.inside, ap length (source_of source t p s))) in
      let g = x.leave source p s w.readable (formed_spans w) in
      ran_rows w k.placed (record { readable = g.readable; result = q ∙ g.result; cuts = g.cuts }) (writes a b to r k.movable.ascends x.number) len x.kept

-- the bound of what the desk uses stays
pub relocated_above : {a b to : ℕ} {t p s t' : List ℕ} {r c : ℕ} {l : Used} → RelocateDone a b to t t' r c → Above t p s l → Above t' p s l
relocated_above x h = above_kept x.kept (x.readable _ _ h.readable) h

-- ── past the tests, on scratch rows ──
module _ {a b to : ℕ} {source t p s t₀ p₀ s₀ t1 p1 s1 : List ℕ} (w : WellFormed source t p s) (f : Scratch t₀ p₀ s₀) (d : Loaded t p s t₀ p₀ s₀ t1 p1 s1)
    (k : Tested a b to source t p s) where
  pub loaded_spanned : Spanned t1
  loaded_spanned =
      record {
        source = source;
        pieces = p;
        store = s;
        readable = loaded_readable w f d;
        spans = loaded_spans w f d;
        filled = omega (arith, k.movable.ascends, k.inside);
      }

  module _ {t2 : List ℕ} {r c : ℕ} (x : RelocateDone a b to t1 t2 r c) where
    did : Did (cuts_then (a ∷ b ∷ to ∷ []) (move_step a b to)) source t p s t2 p1 s1 r c
    did = did_loaded w f d (x.leave source p s (loaded_readable w f d) (loaded_spans w f d))

    pub relocated_readable : Readable t2 p1 s1
    relocated_readable = did.readable

    pub relocated : {t' p' s' : List ℕ} {r' c' : ℕ} → Finished t2 p1 s1 t p s t' p' s' r c r' c' → Ran (relocate a b to) source t p s t' p' s' r' c'
    relocated y =
        let m = magic_string_of source t p s in
        let q = steps_move a b to m k.movable.outside k.movable.ascends (omega (arith, k.inside, ap length (source_of source t p s))) in
        ran_finished w k.placed (record { readable = did.readable; result = q ∙ did.result; cuts = did.cuts }) (writes a b to r k.movable.ascends x.number) y

-- ── the tests ──
module _ {source t p s : List ℕ} (a b to : ℕ) (w : WellFormed source t p s) where
  pub relocate_outside : all (between source) (a ∷ b ∷ to ∷ []) ≡ false → Ran (relocate a b to) source t p s t p s 3 0
  relocate_outside h = ran_before (relocate a b to) source t p s 2 3 w (refused_3 (relocate a b to) source t p s refl refl h) refl

  module _ (h : all (between source) (a ∷ b ∷ to ∷ []) ≡ true) where
    placed : refused_before (magic_string_of source t p s) (relocate a b to) ≡ 0
    placed = not_refused (relocate a b to) source t p s refl refl h refl

    pub relocate_inside : leb a to && leb to b ≡ true → Ran (relocate a b to) source t p s t p s 8 0
    relocate_inside i = ran_same (relocate a b to) source t p s 8 w placed (steps_inside a b to (magic_string_of source t p s) i)

    module _ (o : leb a to && leb to b ≡ false) where
      pub relocate_nothing : a ≡ b → Ran (relocate a b to) source t p s t p s 0 0
      relocate_nothing e = ran_same (relocate a b to) source t p s 0 w placed (steps_same a b to (magic_string_of source t p s) o e)

      pub relocate_reversed : b < a → Ran (relocate a b to) source t p s t p s 4 0
      relocate_reversed e = ran_same (relocate a b to) source t p s 4 w placed (steps_reversed a b to (magic_string_of source t p s) o e)

      pub relocate_past : a < b → length source < b → Ran (relocate a b to) source t p s t p s 10 0
      relocate_past e l =
          ran_same (relocate a b to) source t p s 10 w placed
          (steps_past a b to (magic_string_of source t p s) o e (omega (arith, l, ap length (source_of source t p s))))

      pub relocate_tested : a < b → b ≤ length source → Tested a b to source t p s
      relocate_tested e l = record { placed = placed; movable = record { ascends = e; outside = o }; inside = l }
