-- Laws of what `Cuts` in specs/ defines.
use mathlib.Core.Path.{◌≡◌, refl, sym, ap, ap₂, ◌∙◌, subst}
use mathlib.Core.Bool.{true, false, cond}
use mathlib.Core.List.{List, [], ◌∷◌, ◌++◌, map, map-append}
use mathlib.Core.Logic.{inl, inr}
use Prim.Native.Nat.{ℕ, zero, suc, ◌+◌}
use native.Mathlib.Omega.{arith}
use lib.ListN.{length}
use Rattle.utf8.specs.Chars.{All, nil, cons}
use Rattle.utf8.proofs.CharLaws.{all_front, all_back}
use Rattle.memory_table.specs.Ring.{Each}
use Rattle.memory_table.specs.Order.{Entry, entry_at, entries, order, Linked}
use Rattle.model.specs.Chunk.{Chunk, contains, is_filled, first_half, second_half}
use Rattle.model.specs.MagicString.{MagicString, Result, ok, err, and_then, with_chunks, split_at}
use Rattle.model.specs.Cut.{made, refused, cut_at}
use Rattle.model.proofs.Lists.{first_of, rest_of, all_append}
use Rattle.memory.specs.Layout.{chunk_of, magic_string_of}
use Rattle.memory.specs.WellFormed.{EntryIn, Readable, WellFormed}
use Rattle.memory.proofs.Desks.{chunks_of, source_of}
use Rattle.model.proofs.Lists as lists
use Rattle.model_closed_forms.specs.Plan.{cut, cut_all}
use Rattle.model_closed_forms.proofs.Cuts.{Contains, contains_true, contains_of}
use Rattle.model_closed_forms.proofs.Spans.{formed_cover}
use Rattle.model_closed_forms.specs.Spans.{Cover}
use Rattle.model_closed_forms.proofs.CutAt.{cut_nothing, cut_refused, cut_made, cut_at_inside}
use Rattle.model_closed_forms.proofs.SplitAt.{cover_cut_all}
use Rattle.model_closed_forms.specs.SplitAt.{cuts_then}
use Rattle.memory_list.specs.declared.Key.TheVariants.{Inside}
use Rattle.memory_list.specs.Find.{meets, First}
use Rattle.memory_list.specs.Split.{first, second, SplitRow}
use Rattle.memory_list.proofs.Split.{entries_at}
use Rattle.edit_row_laws.proofs.Kept.{kept_same, kept_then}
use Rattle.edit_row_laws.proofs.Steps.{split_kept}
use Rattle.edit_scratch.specs.Loaded.{Loaded}
use Rattle.edit_scratch.specs.Tables.{Roomy, Scratch}
use Rattle.edit_scratch.proofs.Tables.{loaded_desk}
use Rattle.edit_split_at.specs.Lift.{RunSmall, EntrySmall, DeskSmall}
use Rattle.edit_split_at.proofs.Lift.{same_head, same_tail, first_small, second_small, Reordered, still_readable, with_entries, lift_first, lift_second, first_in, second_in}
use Rattle.edit_split_at.proofs.Lift.{lift_filled, not_filled}
use Rattle.edit_split_at.specs.Cuts.{filled, Spans, CutsLeave, CutsDone}

-- ── one cut of the rows ──
-- what is left to say of one cut
one_cut : {q : ℕ} {source t p s t' : List ℕ} {r : ℕ} → Readable t' p s → split_at q (magic_string_of source t p s) ≡ err r (magic_string_of source t' p s)
    → (r ≡ 0 → (magic_string_of source t' p s).chunks ≡ cut q (magic_string_of source t p s).chunks) → CutsLeave (q ∷ []) source t p s t' r
one_cut h e k = record { readable = h; result = λ step. ap (λ x. and_then x step) e; chunks = k }

each_all : (p s : List ℕ) (q : ℕ) (t xs : List ℕ) → Each (λ x. meets Inside q (entry_at t x) ≡ false) xs → All (λ c. Contains q c → ⊥) (map (chunk_of p s) (map (entry_at t) xs))
unfolding contains
each_all p s q t [] h = nil
each_all p s q t (x ∷ xs) h =
    let n : Contains q (chunk_of p s (entry_at t x)) → ⊥ = λ i. lists.clash (contains_true q (chunk_of p s (entry_at t x)) i) h.0 in
    cons n (each_all p s q t xs h.1)

pub none_contain : (source t p s : List ℕ) (q : ℕ) → Each (λ x. meets Inside q (entry_at t x) ≡ false) (order t)
    → All (λ d. Contains q d → ⊥) (magic_string_of source t p s).chunks
none_contain source t p s q n = subst (All (λ d. Contains q d → ⊥)) (sym (chunks_of source t p s)) (each_all p s q t (order t) n)

pub none_found : (q : ℕ) (t : List ℕ) → Linked t → Each (λ x. meets Inside q (entry_at t x) ≡ false) (order t) → CutsDone (q ∷ []) t t 0 0
none_found q t l n =
    record {
      leave = λ source p s h v.
          let m = magic_string_of source t p s in
          let c = cut_nothing q m (subst (λ x. Cover x m.chunks) (sym (source_of source t p s)) v)
          (none_contain source t p s q n) in
          one_cut h c.0 (λ _. sym c.1);
      readable = λ p s h. h;
      small = λ p s h. h;
      number = inl refl;
      linked = l;
      count = omega arith;
      few = omega arith;
      kept = kept_same t;
      none = λ _. refl;
      alone = λ _ _. refl;
    }

module _ (q : ℕ) (t : List ℕ) (i : ℕ) (w : First (meets Inside q) t i) where
  module _ (source p s : List ℕ) (h : Readable t p s) (v : Spans source t p s) where
    abbrev m : MagicString
    m = magic_string_of source t p s

    v' : Cover m.source m.chunks
    v' = subst (λ x. Cover x m.chunks) (sym (source_of source t p s)) v

    abbrev xs : List Entry
    xs = map (entry_at t) w.us

    abbrev ys : List Entry
    ys = map (entry_at t) w.bs

    place : entries t ≡ xs ++ entry_at t i ∷ ys
    place = entries_at t w.us i w.bs w.place

    chunks_at : m.chunks ≡ map (chunk_of p s) xs ++ chunk_of p s (entry_at t i) ∷ map (chunk_of p s) ys
    chunks_at = chunks_of source t p s ∙ ap (map (chunk_of p s)) place ∙ map-append (chunk_of p s) xs (entry_at t i ∷ ys)

    here : Contains q (chunk_of p s (entry_at t i))
    unfolding contains
    here = contains_of q (chunk_of p s (entry_at t i)) w.here

    all_in : All (EntryIn p s) (xs ++ entry_at t i ∷ ys)
    all_in = subst (All (EntryIn p s)) place h.chunks

    mid_in : All (EntryIn p s) (entry_at t i ∷ ys)
    mid_in = all_back (EntryIn p s) xs (entry_at t i ∷ ys) all_in

    fills : is_filled (chunk_of p s (entry_at t i)).texts.edited_content ≡ filled (entry_at t i)
    fills = lift_filled s (entry_at t i) (first_of mid_in).replacement

    pub found_case : cut_at q m ≡ cond (filled (entry_at t i)) refused made
    found_case = cut_at_inside q m v' (map (chunk_of p s) xs) (chunk_of p s (entry_at t i)) (map (chunk_of p s) ys) chunks_at here ∙ rw fills

    refused_leave : filled (entry_at t i) ≡ true → CutsLeave (q ∷ []) source t p s t 6
    refused_leave f =
        one_cut h (cut_refused q m v' (map (chunk_of p s) xs) (chunk_of p s (entry_at t i)) (map (chunk_of p s) ys) chunks_at here (fills ∙ f)) (λ z. absurd (omega arith))

    made_leave : (t' : List ℕ) → SplitRow t t' i q → filled (entry_at t i) ≡ false → CutsLeave (q ∷ []) source t p s t' 0
    made_leave t' d f =
        let e = entry_at t i in
        let c = cut_made q m v' (map (chunk_of p s) xs) (chunk_of p s e) (map (chunk_of p s) ys) chunks_at here (fills ∙ f) in
        let k : Reordered t t' (xs ++ first q e ∷ second q e ∷ ys) = record { linked = d.linked; chunks = d.place w.us w.bs w.place; desk = d.desk } in
        let b : map (chunk_of p s) (xs ++ first q e ∷ second q e ∷ ys) ≡ map (chunk_of p s) xs ++ first_half q (chunk_of p s e) ∷ second_half q (chunk_of p s e) ∷ map (chunk_of p s) ys =
        map-append (chunk_of p s) xs (first q e ∷ second q e ∷ ys)
        ∙ ap₂ (λ (x y : Chunk). map (chunk_of p s) xs ++ x ∷ y ∷ map (chunk_of p s) ys) (lift_first p s q e) (lift_second p s q e) in
        let g : magic_string_of source t' p s ≡ with_chunks m (map (chunk_of p s) xs ++ first_half q (chunk_of p s e) ∷ second_half q (chunk_of p s e) ∷ map (chunk_of p s) ys) =
        with_entries t p s t' h k source ∙ ap (with_chunks m) b in
        one_cut
        (still_readable t p s t' h k
        (all_append (all_front (EntryIn p s) xs (e ∷ ys) all_in) (cons (first_in p s q e (first_of mid_in)) (cons (second_in p s q e (first_of mid_in)) (rest_of mid_in)))))
        (c.0 ∙ ap ok (sym g))
        (λ _. ap (λ (x : MagicString). x.chunks) g ∙ sym c.1)

  module _ (p s t' : List ℕ) (d : SplitRow t t' i q) where
    split_list : entries t ≡ map (entry_at t) w.us ++ entry_at t i ∷ map (entry_at t) w.bs
    split_list = entries_at t w.us i w.bs w.place

    split_readable : Readable t p s → Readable t' p s
    split_readable h =
        let e = entry_at t i in
        let xs = map (entry_at t) w.us in
        let ys = map (entry_at t) w.bs in
        let a = subst (All (EntryIn p s)) split_list h.chunks in
        let b = all_back (EntryIn p s) xs (e ∷ ys) a in
        let k : Reordered t t' (xs ++ first q e ∷ second q e ∷ ys) = record { linked = d.linked; chunks = d.place w.us w.bs w.place; desk = d.desk } in
        still_readable t p s t' h k
        (all_append (all_front (EntryIn p s) xs (e ∷ ys) a) (cons (first_in p s q e (first_of b)) (cons (second_in p s q e (first_of b)) (rest_of b))))

    split_small : DeskSmall t p s → DeskSmall t' p s
    split_small h =
        let e = entry_at t i in
        let xs = map (entry_at t) w.us in
        let ys = map (entry_at t) w.bs in
        let a = subst (All (EntrySmall p s)) split_list h.chunks in
        let b = all_back (EntrySmall p s) xs (e ∷ ys) a in
        record {
          desk = record { intro = subst (RunSmall p s) (sym (same_head t t' d.desk)) h.desk.intro; outro = subst (RunSmall p s) (sym (same_tail t t' d.desk)) h.desk.outro };
          chunks =
              subst (All (EntrySmall p s)) (sym (d.place w.us w.bs w.place))
              (all_append (all_front (EntrySmall p s) xs (e ∷ ys) a) (cons (first_small p s q e (first_of b)) (cons (second_small p s q e (first_of b)) (rest_of b))));
        }

  pub found_filled : Linked t → filled (entry_at t i) ≡ true → CutsDone (q ∷ []) t t 6 0
  found_filled l f = record {
    leave = λ source p s h v. refused_leave source p s h v f;
    readable = λ p s h. h;
    small = λ p s h. h;
    number = inr refl;
    linked =
        l;
    count = omega arith;
    few = omega arith;
    kept = kept_same t;
    none = λ (z : length (q ∷ []) ≡ 0). absurd (omega arith);
    alone = λ _ _. refl;
  }

  pub found_split : Linked t → (t' : List ℕ) → SplitRow t t' i q → filled (entry_at t i) ≡ false → CutsDone (q ∷ []) t t' 0 1
  found_split l t' d f =
      record {
        leave = λ source p s h v. made_leave source p s h v t' d f;
        readable = λ p s h. split_readable p s t' d h;
        small = λ p s h. split_small p s t' d h;
        number = inl refl;
        linked = d.linked;
        count = omega (arith, d.count);
        few = omega arith;
        kept = split_kept t t' i q l (record { us = w.us; bs = w.bs; place = w.place }) d (not_filled (entry_at t i) f);
        none = λ _. refl;
        alone = λ _ n. absurd (n refl);
      }

-- ── cuts one after another ──
-- behind a refusal no step is taken
pub stop : (r : ℕ) (m : MagicString) (f : MagicString → Result) → (r ≡ 0 → ⊥) → and_then (err r m) f ≡ err r m
stop zero m f n = absurd (n refl)
stop (suc r) m f n = refl

pub cuts_stop : (q : ℕ) (ps : List ℕ) (t t' : List ℕ) (r c : ℕ) → CutsDone (q ∷ []) t t' r c → (r ≡ 0 → ⊥) → CutsDone (q ∷ ps) t t' r c
cuts_stop q ps t t' r c d n =
    record {
      leave = λ source p s h v.
          let k = d.leave source p s h v in
          record {
            readable = k.readable;
            result = λ step. k.result (cuts_then ps step) ∙ stop r (magic_string_of source t' p s) (cuts_then ps step) n ∙ sym (stop r (magic_string_of source t' p s) step n);
            chunks = λ z. absurd (n z);
          };
      readable = d.readable;
      small = d.small;
      number = d.number;
      linked = d.linked;
      count = d.count;
      few = omega (arith, d.few);
      kept = d.kept;
      none = λ (z : length (q ∷ ps) ≡ 0). absurd (omega arith);
      alone = λ _ _. d.alone refl n;
    }

pub cuts_spans : {ps : List ℕ} {source t p s t' : List ℕ} {r : ℕ} → CutsLeave ps source t p s t' r → r ≡ 0 → Spans source t p s → Spans source t' p s
cuts_spans {ps} {source} k z v = subst (Cover source) (sym (k.chunks z)) (cover_cut_all ps v)

pub cuts_more : (q : ℕ) (ps : List ℕ) (t t' t'' : List ℕ) (r c r' c' : ℕ) → CutsDone (q ∷ []) t t' r c → r ≡ 0 → CutsDone ps t' t'' r' c' → CutsDone (q ∷ ps) t t'' r' (c + c')
cuts_more q ps t t' t'' r c r' c' d z e =
    record {
      leave = λ source p s h v.
          let k = d.leave source p s h v in
          let l = e.leave source p s k.readable (cuts_spans k z v) in
          record {
            readable = l.readable;
            result = λ step. k.result (cuts_then ps step) ∙ ap (λ (n : ℕ). and_then (err n (magic_string_of source t' p s)) (cuts_then ps step)) z ∙ l.result step;
            chunks = λ y. l.chunks y ∙ ap (cut_all ps) (k.chunks z);
          };
      readable = λ p s h. e.readable p s (d.readable p s h);
      small = λ p s h. e.small p s (d.small p s h);
      number = e.number;
      linked = e.linked;
      count = omega (arith, d.count, e.count);
      few = omega (arith, d.few, e.few);
      kept = kept_then d.kept e.kept;
      none = λ (z : length (q ∷ ps) ≡ 0). absurd (omega arith);
      alone = λ (l : length (q ∷ ps) ≡ 1) n. absurd (n (e.none (omega arith)));
    }

pub cut_roomy : {n : ℕ} {q : ℕ} {t t' : List ℕ} {r c : ℕ} → Roomy (suc n) t → CutsDone (q ∷ []) t t' r c → length t' ≡ length t → Roomy n t'
cut_roomy y d e = record { linked = d.linked; room = omega (arith, y.room, d.count, d.few); narrow = omega (arith, y.narrow) }

-- ── a well-formed desk's spans cover the source, and so do the loaded desk's ──
pub formed_spans : {source t p s : List ℕ} → WellFormed source t p s → Spans source t p s
formed_spans {source} {t} {p} {s} w = subst (λ x. Cover x (magic_string_of source t p s).chunks) (source_of source t p s) (formed_cover w.desk.formed)

pub loaded_spans : {source t p s t₀ p₀ s₀ t1 p1 s1 : List ℕ} → WellFormed source t p s → Scratch t₀ p₀ s₀ → Loaded t p s t₀ p₀ s₀ t1 p1 s1 → Spans source t1 p s
loaded_spans {source} w f d = subst (λ (n : MagicString). Cover source n.chunks) (sym (loaded_desk w f d)) (formed_spans w)
