-- Laws of what `Calls` in specs/ defines.
use mathlib.Core.Path.{◌≡◌, refl, sym, ap, ◌∙◌, subst}
use mathlib.Core.Bool.{Bool, true, false, ◌||◌, not, cond}
use mathlib.Core.List.{List, [], ◌∷◌}
use mathlib.Core.Option.{Option, none, some}
use mathlib.Core.Logic.{◌⊎◌, inl, inr}
use Prim.Native.Nat.{ℕ, ◌≤◌, ◌<◌}
use native.Mathlib.Omega.{arith}
use lib.Dec.{leb, eqb}
use lib.ListN.{length}
use Rattle.memory_table.specs.Order.{count_of}
use Rattle.model.specs.Text.{Text, sum, is_some}
use Rattle.model.specs.Chunk.{Chunk, Texts, with_texts}
use Rattle.model.specs.MagicString.{MagicString, Result, ok, err, and_then, with_chunks, with_whole, edge, by_edge, by_end, at_edge, holder, refuses_split, split_holder}
use Rattle.model.specs.MagicString.{split_at, by_edge_mut}
use Rattle.model.specs.Insert.{push, push_to, insert_step}
use Rattle.model.specs.Limits.{full, within, chunk_bytes, byte_count}
use Rattle.model.specs.Call.{Edit, steps}
use Rattle.model.proofs.Insert.{push_sum}
use Rattle.memory.specs.Layout.{magic_string_of}
use Rattle.memory.specs.WellFormed.{Readable, WellFormed}
use Rattle.memory.proofs.Desks.{desk_full}
use Rattle.memory.specs.Calls.{Ran}
use Rattle.edit_rebuild.specs.Rebuilt.{Finished}
use Rattle.edit_scratch.specs.Loaded.{Loaded}
use Rattle.edit_scratch.proofs.Tables.{past_bytes, loaded_desk, loaded_count, ran_finished, ran_same, ran_past_limits, may_write_0}
use Rattle.model_closed_forms.specs.SplitAt.{cuts_then}
use Rattle.edit_split_at.specs.Lift.{DeskSmall}
use Rattle.edit_split_at.proofs.Lift.{desk_small}
use Rattle.edit_split_at.specs.Cuts.{Spans, CutsDone}
use Rattle.edit_split_at.proofs.Cuts.{loaded_spans}
use Rattle.edit_insert_side.specs.Piece.{LongScratch}
use Rattle.edit_insert_side.specs.declared.Spot.{Spot}
use Rattle.edit_insert_side.specs.declared.Spot.TheVariants.{At, Whole}
use Rattle.edit_insert_side.specs.Spot.{adding, cuts_at, piece_step}
use Rattle.edit_insert_side.specs.Calls.{Inserted, InsertSteps, InsertRan}

-- ── a text longer than the store ──
module _ (left : Bool) (q n : ℕ) (f : Texts → Texts) (big : (c : Chunk) → n ≤ chunk_bytes (with_texts f c)) where
  edge_big : (cs : List Chunk) (d : Chunk) → by_edge left q cs ≡ some d → n ≤ sum chunk_bytes (at_edge left q f cs)
  edge_big [] d e = let z : ◌≡◌ {A = ℕ} 0 1 = cc in absurd (omega arith)
  edge_big (c ∷ cs) d e = go (edge_big cs d) (eqb (edge left c.span) q) refl
    where
      go : (by_edge left q cs ≡ some d → n ≤ sum chunk_bytes (at_edge left q f cs)) → (b : Bool) → eqb (edge left c.span) q ≡ b → n ≤ sum chunk_bytes (at_edge left q f (c ∷ cs))
      go ih true k = rw k (omega (arith, big c))
      go ih false k = rw k (omega (arith, ih (rw k at e)))

push_big : (left front : Bool) (t : Text) (c : Chunk) → length t ≤ chunk_bytes (with_texts (push_to left front t) c)
push_big true front t c = omega (arith, push_sum front t c.texts.outro)
push_big false front t c = omega (arith, push_sum front t c.texts.intro)

whole_big : (left front : Bool) (t : Text) (m : MagicString) → length t ≤ byte_count (with_whole left m (push front t))
whole_big true front t m = omega (arith, push_sum front t m.intro)
whole_big false front t m = omega (arith, push_sum front t m.outro)

step_big : (left front : Bool) (q : ℕ) (t : Text) (m : MagicString) → length t ≤ byte_count (insert_step q t left front m).desk
step_big left front q t m = go (by_edge left q m.chunks) refl
  where
    go : (o : Option Chunk) → by_edge left q m.chunks ≡ o
        → length t ≤ byte_count (elim o as (λ _. Result) [ none ↦ ok (with_whole left m (push front t)) | some c ↦ ok (with_chunks m (at_edge left q (push_to left front t) m.chunks)) ]).desk
    go none e = whole_big left front t m
    go (some d) e = omega (arith, edge_big left q (length t) (push_to left front t) (push_big left front t) m.chunks d e)

piece_big : (spot : Spot) (front : Bool) (t : Text) (m : MagicString) → length t ≤ byte_count (piece_step spot front t m).desk
piece_big (At q left) front t m = step_big left front q t m
piece_big (Whole outro) front t m = whole_big (not outro) front t m

-- the model's steps are the cut and what is behind it
pub adding_is : (spot : Spot) (front : Bool) (t : Text) (m : MagicString) → adding spot front t m ≡ cuts_then (cuts_at spot) (piece_step spot front t) m
unfolding by_edge_mut
adding_is (At q left) front t m = refl
adding_is (Whole outro) front t m = refl

-- a cut that is refused writes nothing
pub refused_same : (spot : Spot) {t t1 : List ℕ} {r v : ℕ} → CutsDone (cuts_at spot) t t1 r v → (r ≡ 0 → ⊥) → t1 ≡ t
refused_same (At q left) c n = c.alone refl n
refused_same (Whole outro) c n = absurd (n (c.none refl))

-- ── the three ends of the steps ──
pub six : {r : ℕ} → (r ≡ 0) ⊎ (r ≡ 6) → (r ≡ 0 → ⊥) → r ≡ 6
six (inl h) n = absurd (n h)
six (inr h) n = h

-- a cut that is refused leaves the desk as it was
cut_refused : (q : ℕ) (m n : MagicString) → ((step : MagicString → Result) → and_then (split_at q m) step ≡ and_then (err 6 n) step) → split_at q m ≡ err 6 m
unfolding split_at
cut_refused q m n = go (eqb q 0 || (leb (length m.source) q || is_some (by_end q m.chunks))) (refuses_split (holder q m.chunks)) (with_chunks m (split_holder q m.chunks))
  where
    go : (a b : Bool) (k : MagicString) → ((step : MagicString → Result) → and_then (cond a (ok m) (cond b (err 6 m) (ok k))) step ≡ and_then (err 6 n) step)
        → cond a (ok m) (cond b (err 6 m) (ok k)) ≡ err 6 m
    go true b k h = absurd (omega (arith, ap (λ (x : Result). x.number) (h ok)))
    go false true k h = refl
    go false false k h = absurd (omega (arith, ap (λ (x : Result). x.number) (h ok)))

module _ (front : Bool) (text p s t t1 p1 s1 : List ℕ) (r v : ℕ) (h : Readable t p s) where
  pub steps_refused : (spot : Spot) → CutsDone (cuts_at spot) t t1 r v → (r ≡ 0 → ⊥) → InsertSteps spot front text p s t t1 p1 s1 r v
  unfolding by_edge_mut
  steps_refused (At q left) c n =
      let six-is = six c.number n in
      record {
        leave = λ z. absurd (n z);
        refused = λ _ source v.
            let m = magic_string_of source t p s in
            let k = (c.leave source p s h v).result in
            ap (λ (x : Result). and_then x (insert_step q text left front))
            (cut_refused q m (magic_string_of source t1 p s) (λ step. k step ∙ ap (λ (y : ℕ). and_then (err y (magic_string_of source t1 p s)) step) six-is));
        long = λ z. absurd (omega (arith, six-is));
        number = inr (inl six-is);
        no_cuts = λ _. omega (arith, c.count, ap count_of (c.alone refl n));
      }
  steps_refused (Whole outro) c n = absurd (n (c.none refl))

  module _ (spot : Spot) (c : CutsDone (cuts_at spot) t t1 r v) (z : r ≡ 0) where
    cut_made : (source : List ℕ) → Spans source t p s → adding spot front text (magic_string_of source t p s) ≡ piece_step spot front text (magic_string_of source t1 p s)
    cut_made source v =
        adding_is spot front text (magic_string_of source t p s)
        ∙ (c.leave source p s h v).result (piece_step spot front text) ∙ ap (λ (n : ℕ). and_then (err n (magic_string_of source t1 p s)) (piece_step spot front text)) z

    pub steps_long : full.most_bytes < length text → InsertSteps spot front text p s t t1 p1 s1 13 0
    steps_long l =
        record {
          leave = λ z. absurd (omega arith);
          refused = λ z. absurd (omega arith);
          long = λ _ source v.
              ap (λ (x : Result). within full x.desk) (cut_made source v)
              ∙ past_bytes (piece_step spot front text (magic_string_of source t1 p s)).desk (omega (arith, piece_big spot front text (magic_string_of source t1 p s)));
          number = inr (inr refl);
          no_cuts = λ _. refl;
        }

    pub steps_done : (t' p' s' : List ℕ) → Inserted spot front text t1 p s t' p' s' → InsertSteps spot front text p s t t' p' s' r v
    steps_done t' p' s' d =
        record {
          leave = λ _ source sp. record { readable = (d source).readable; result = cut_made source sp ∙ (d source).result; cuts = omega (arith, c.count, (d source).cuts) };
          refused = λ y. absurd (omega arith);
          long = λ y. absurd (omega arith);
          number = inl z;
          no_cuts = λ n. absurd (n z);
        }

-- ── the call ──
module _ {spot : Spot} {front : Bool} {text source t p s t₀ p₀ s₀ t1 p1 s1 t2 p2 s2 : List ℕ} {r c : ℕ} (w : WellFormed source t p s) (f : LongScratch t₀ p₀ s₀)
    (d : Loaded t p s t₀ p₀ s₀ t1 p1 s1) (x : InsertSteps spot front text p s t1 t2 p2 s2 r c) where
  spans : Spans source t1 p s
  spans = loaded_spans w f.scratch d

  pub insert_readable : r ≡ 0 → Readable t2 p2 s2
  insert_readable z = (x.leave z source spans).readable

  -- the model's steps on the lent desk are those on the loaded one
  loaded_steps : (e : Edit) → ((m : MagicString) → steps e m ≡ adding spot front text m)
      → steps e (magic_string_of source t p s) ≡ adding spot front text (magic_string_of source t1 p s)
  loaded_steps e q' = q' (magic_string_of source t p s) ∙ ap (adding spot front text) (sym (loaded_desk w f.scratch d))

  -- 6 and 13: the lent tables are as they were
  pub insert_refused : (r ≡ 0 → ⊥) → InsertRan spot front text source t p s t p s r c
  insert_refused n e h q' i = go x.number
    where
      go : (r ≡ 0) ⊎ ((r ≡ 6) ⊎ (r ≡ 13)) → Ran e source t p s t p s r c
      go (inl z) = absurd (n z)
      go (inr (inl z)) = rw (z, x.no_cuts n) (ran_same e source t p s 6 w h (loaded_steps e q' ∙ x.refused z source spans ∙ ap (err 6) (loaded_desk w f.scratch d)))
      go (inr (inr z)) = rw (z, x.no_cuts n) (ran_past_limits e source t p s w h (ap (λ (y : Result). within full y.desk) (loaded_steps e q') ∙ x.long z source spans))

  pub insert_ran : {t' p' s' : List ℕ} {r' c' : ℕ} → r ≡ 0 → Finished t2 p2 s2 t p s t' p' s' r c r' c' → InsertRan spot front text source t p s t' p' s' r' c'
  insert_ran {t'} {p'} {s'} {r'} {c'} z y e h q' i =
      let g = x.leave z source spans in
      ran_finished w h (record { readable = g.readable; result = loaded_steps e q' ∙ g.result; cuts = omega (arith, g.cuts, loaded_count w f.scratch d) }) (may_write_0 e i)
      (subst (λ (n : ℕ). Finished t2 p2 s2 t p s t' p' s' n c r' c') z y)

-- a text longer than the store, where no cut comes first
pub whole_long : (spot : Spot) (front : Bool) (text : List ℕ) {source t p s : List ℕ} → WellFormed source t p s → length (cuts_at spot) ≡ 0 → full.most_bytes < length text
    → InsertRan spot front text source t p s t p s 13 0
whole_long (At q left) front text w n l e h y i = absurd (omega (arith, n))
whole_long (Whole outro) front text {source} {t} {p} {s} w n l e h y i =
    let m = magic_string_of source t p s in
    ran_past_limits e source t p s w h (ap (λ (x : Result). within full x.desk) (y m) ∙ past_bytes (adding (Whole outro) front text m).desk (omega (arith, piece_big (Whole outro) front text m)))

-- what the loaded rows and the lent tables give the piece
pub loaded_small : {source t p s t₀ p₀ s₀ t1 p1 s1 : List ℕ} → WellFormed source t p s → LongScratch t₀ p₀ s₀ → Loaded t p s t₀ p₀ s₀ t1 p1 s1 → DeskSmall t1 p s
loaded_small {source} {p = p} {s = s} {t1 = t1} w f d = desk_small source t1 p s (ap (within full) (loaded_desk w f.scratch d) ∙ desk_full w)
