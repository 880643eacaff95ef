-- An edit on small tables is the edit of the lent desk: its steps do not depend on the limits.
use mathlib.Core.Path.{◌≡◌, refl, sym, ap, ◌∙◌, subst}
use mathlib.Core.Bool.{Bool, true, false}
use mathlib.Core.List.{List, [], ◌++◌}
use Prim.Native.Nat.{ℕ, zero, suc, ◌*◌}
use native.Mathlib.Omega.{arith}
use lib.ListN.{length, take, drop, take-append-drop}
use Rattle.model.specs.MagicString.{MagicString, Result, err}
use Rattle.model.specs.Limits.{Limits, within}
use Rattle.model.specs.Call.{Edit, steps, refused_before, judged, run, idle}
use Rattle.model.specs.WellFormed as model
use Rattle.model.proofs.Lists.{bool-elim}
use Rattle.memory_layout.specs.Refusals.{number_of}
use Rattle.memory.specs.Layout.{magic_string_of}
use Rattle.memory.specs.WellFormed.{limits_of, Lengths, Readable, WellFormed}
use Rattle.memory.proofs.Desks.{chunk_count, limits_as, sized_as, short_source}
use Rattle.memory.specs.Calls.{Same, Ran}
use Rattle.memory_used.specs.declared.Used.{Used}
use Rattle.memory_used.specs.declared.Outcome.{Outcome}
use Rattle.memory_used.specs.Above.{Above, Desk}
use Rattle.edit_rebuild.specs.Rebuilt.{Rebuilt}
use Rattle.edit_scratch.proofs.Front.{desk_front}
use Rattle.edit_scratch.specs.Tables.{Did, StepsRan}
use Rattle.edit_scratch.proofs.Tables.{within_any, ran_finished, ran_same, may_write_0}
use Rattle.edit_room_above.specs.Live.{Usable}
use Rattle.edit_small_tables.specs.Small.{Fits, LaidIn, Ended, Attempted, Tried}
use Rattle.edit_small_tables.proofs.Small.{Stays}

-- tables as long fit too
pub fits_as : {t p s t₀ p₀ s₀ t1 p1 s1 : List ℕ} → Lengths t₀ p₀ s₀ t1 p1 s1 → Fits t p s t₀ p₀ s₀ → Fits t p s t1 p1 s1
fits_as {t} {p} {s} l f =
    record { sized = sized_as l f.sized; within_is = ap (λ (k : Limits). within k (magic_string_of [] t p s)) (limits_as l) ∙ f.within_is }

pub rebuilt_usable : {t p s t1 p1 s1 : List ℕ} → Rebuilt t p s t1 p1 s1 → Fits t p s t1 p1 s1 → Usable t1 p1 s1
rebuilt_usable {t1 = t1} {p1} {s1} b f =
    record { readable = b.readable; within_is = ap (within (limits_of t1 p1 s1)) (b.desk []) ∙ f.within_is; sized = f.sized }

-- a well-formed desk is one in the small tables too
pub laid_desk : {source t p s t1 p1 s1 : List ℕ} {l : Used} → WellFormed source t p s → LaidIn t p s t1 p1 s1 l → Desk source t1 p1 s1 l
laid_desk {source} {t} {p} {s} {t1} {p1} {s1} w d =
    let k = limits_of t1 p1 s1 in
    let same = d.rebuilt.desk source in
    record {
      well_formed =
          record {
            sized = d.fits.sized;
            readable = d.rebuilt.readable;
            each = d.rebuilt.each;
            disjoint = d.rebuilt.disjoint;
            desk =
                record {
                  formed = subst model.Formed (sym same) w.desk.formed;
                  limits = ap (within k) same ∙ sym (within_any k source t p s (short_source w)) ∙ d.fits.within_is;
                };
          };
      above = d.above;
    }

-- what lies below the two places can be read, so all can
pub above_readable : {t p s : List ℕ} {l : Used} → Above t p s l → Readable t p s
above_readable {t} {p} {s} {l} a =
    let h = (desk_front (take (l.row * 2) p) (take l.byte s) (drop (l.row * 2) p) (drop l.byte s) t a.readable).0 in
    subst (λ (q : List ℕ). Readable t q s) (take-append-drop (l.row * 2) p)
    (subst (Readable t (take (l.row * 2) p ++ drop (l.row * 2) p)) (take-append-drop l.byte s) h)

-- a run that does not answer 13 is its steps
run_steps : (k : Limits) (e : Edit) (m : MagicString) → refused_before m e ≡ 0 → ((run k e m).number ≡ 13 → ⊥) → run k e m ≡ steps e m
unfolding run judged
run_steps k e m h n = go (within k (steps e m).desk) refl
  where
    go : (b : Bool) → within k (steps e m).desk ≡ b → run k e m ≡ steps e m
    go true g = rw (h, run, g)
    go false g = absurd (n (rw (h, run, g)))

module _ {f : MagicString → Result} {source t p s t1 p1 s1 t2 p2 s2 : List ℕ} {l : Used} {r c : ℕ} (w : WellFormed source t p s) (d : LaidIn t p s t1 p1 s1 l)
    (x : Attempted f source t1 p1 s1 t2 p2 s2 r c) where
  -- the steps on the lent desk leave what the small tables hold
  small_did : (r ≡ 13 → ⊥) → (e : Edit) → refused_before (magic_string_of source t p s) e ≡ 0 → ((m : MagicString) → steps e m ≡ f m) → idle e ≡ false
      → Did (steps e) source t p s t2 p2 s2 r c
  small_did n e h q i =
      let same = d.rebuilt.desk source in
      let count : MagicString → ℕ = λ m. length m.chunks in
      let m1 = magic_string_of source t1 p1 s1 in
      let h1 : refused_before m1 e ≡ 0 = ap (λ (m : MagicString). refused_before m e) same ∙ h in
      let k = limits_of t1 p1 s1 in
      let y : Ran e source t1 p1 s1 t2 p2 s2 r c = x.ran n e h1 q i in
      let ran = run_steps k e m1 h1 (λ z. n (y.number_is ∙ z)) in
      record {
        readable = y.well_formed.readable;
        result = ap (steps e) (sym same) ∙ sym ran ∙ sym (ap (λ (v : ℕ). err v (run k e m1).desk) y.number_is) ∙ sym (ap (err r) y.desk_is);
        cuts =
            omega (arith, y.value_is, ap count y.desk_is, ap count same, chunk_count source t p s, chunk_count source t2 p2 s2);
      }

  module _ {t' p' s' : List ℕ} {r' c' : ℕ} (stays : Stays f) (g : Ended t2 p2 s2 t p s t' p' s' r c r' c') where
    made_ran : r ≡ 0 → StepsRan f source t p s t' p' s' r' c'
    made_ran z e h q i =
        ran_finished w h (small_did (λ n. omega arith) e h q i) (rw z (may_write_0 e i)) (g.made z)

    made_same : r ≡ 0 → r' ≡ 13 → Same t p s t' p' s'
    made_same z n =
        bool-elim (within (limits_of t p s) (magic_string_of [] t2 p2 s2)) (λ k. absurd (omega (arith, ((g.made z).fits k).0))) (λ k. ((g.made z).breaks k).1)

    refused_ran : (r ≡ 0 → ⊥) → (r ≡ 13 → ⊥) → StepsRan f source t p s t' p' s' r' c'
    refused_ran z n e h q i =
        let m = magic_string_of source t p s in
        let did = small_did n e h q i in
        let result = sym (q m) ∙ did.result in
        let number : (f m).number ≡ r = ap (λ (y : Result). y.number) result in
        let stay : magic_string_of source t2 p2 s2 ≡ m = sym (ap (λ (y : Result). y.desk) result) ∙ stays m (λ y. z (sym number ∙ y)) in
        let a = g.refused z in
        rw (a.0, g.no_cuts z, a.1.chunks, a.1.pieces, a.1.store) (ran_same e source t p s r w h (did.result ∙ ap (err r) stay))

    tried_by : (b : ℕ) → r ≡ b → (o : Outcome) → number_of o.status ≡ r' → o.cuts ≡ c' → Above t' p' s' o.used → Tried f source t p s t' p' s' o
    tried_by zero z o e k a = record { ran = λ _. rw (e, k) (made_ran z); same = λ n. made_same z (sym e ∙ n); above = a }
    tried_by (suc b) z o e k a =
        let y : r ≡ 0 → ⊥ = λ v. absurd (omega arith) in
        record {
          ran = λ n. rw (e, k) (refused_ran y (λ v. n (e ∙ (g.refused y).0 ∙ v)));
          same = λ _. (g.refused y).1;
          above = a;
        }

    pub tried : (o : Outcome) → number_of o.status ≡ r' → o.cuts ≡ c' → Above t' p' s' o.used → Tried f source t p s t' p' s' o
    tried o e k a = tried_by r refl o e k a

-- what 13 leaves is what was there, for another way
module _ {f : MagicString → Result} {source t p s t1 p1 s1 : List ℕ} {o : Outcome} (x : Tried f source t p s t1 p1 s1 o) (n : number_of o.status ≡ 13) where
  pub tried_formed : WellFormed source t p s → WellFormed source t1 p1 s1
  tried_formed w = let a = x.same n in rw (a.chunks, a.pieces, a.store) w

  pub other_way : {t' p' s' : List ℕ} {r c : ℕ} → StepsRan f source t1 p1 s1 t' p' s' r c → StepsRan f source t p s t' p' s' r c
  other_way g = let a = x.same n in rw (sym a.chunks, sym a.pieces, sym a.store) g
