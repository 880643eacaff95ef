-- Laws of what `Steps` in specs/ defines.
use mathlib.Core.Path.{◌≡◌, refl, sym, ap, ap₂, ◌∙◌, subst}
use mathlib.Core.Bool.{Bool, true, false, cond}
use mathlib.Core.List.{List, [], ◌∷◌, ◌++◌, map, map-append}
use mathlib.Core.Option.{some}
use Prim.Native.Nat.{ℕ, ◌+◌, ◌≤◌, ◌<◌}
use native.Mathlib.Omega.{arith}
use lib.Dec.{eqb}
use lib.ListN.{length, take, length-append}
use lib.Seq.{take_at, drop_at}
use borrow.Author.Tests.{ne_eqb, le-ltb}
use Rattle.memory_layout.specs.Layout.{STORE_LEN, NONE}
use Rattle.utf8.specs.Chars.{All, nil, cons}
use Rattle.utf8.proofs.CharLaws.{all_front, all_back}
use Rattle.memory_table.specs.declared.Row.{Row}
use Rattle.memory_table.specs.Ring.{Each}
use Rattle.memory_table.specs.Table.{row_at, Put}
use Rattle.memory_table.specs.Order.{Entry, entry_of, entry_at, entries}
use Rattle.model.specs.Text.{Text, sum}
use Rattle.model.specs.Chunk.{Chunk, Texts, with_texts, start_of, edit}
use Rattle.model.specs.MagicString.{MagicString, ok, err, with_chunks, at_start}
use Rattle.model.specs.Limits.{chunk_bytes, byte_count}
use Rattle.model.specs.Update.{Walk, clear_run, update_walk, update_chunks}
use Rattle.model.specs.Update as update_rs
use Rattle.model.specs.Call.{update_with, steps}
use Rattle.model.proofs.Lists.{sum_append, first_of, rest_of, all_append, same_around, bool-elim}
use Rattle.memory.specs.Layout.{run_of, replacement_of, chunk_of, magic_string_of}
use Rattle.memory.specs.WellFormed.{RunIn, ReplacementIn, EntryIn, Readable}
use Rattle.memory.proofs.Desks.{chunks_of, no_run, no_run_in, desk_same}
use Rattle.model.specs.Insert.{right}
use Rattle.model_closed_forms.proofs.Found.{edge_set}
use Rattle.memory_list.specs.declared.Key.TheVariants.{Start}
use Rattle.memory_list.specs.Find.{meets, First}
use Rattle.memory_list.specs.Split.{RowSet}
use Rattle.memory_list.proofs.Split.{row_set, entries_at}
use Rattle.edit_scratch.proofs.Front.{run_in_front, run_front, entries_front, chunks_front}
use Rattle.edit_split_at.proofs.Lift.{Reordered, still_readable, with_entries}
use Rattle.edit_update_steps.specs.Walk.{RunWalk, onto, emptied, runs, walk_from, Walked}
use Rattle.edit_update_steps.specs.Steps.{update_past, edited_entry, EditedRow}

-- ── the model's steps ──
pub update_is : (a b : ℕ) (t : Text) (o : Bool) (m : MagicString) → a < b → steps (update_with a b t o) m ≡ update_past a b t o m
unfolding update_rs.update_with
update_is a b t o m h = rw (ne_eqb a b (λ e. omega arith), le-ltb b a (omega arith))

-- ── the walk, lifted ──
abbrev lifted : List ℕ → List ℕ → RunWalk → Walk
lifted p s w = record { done = w.done; chunks = map (chunk_of p s) w.list }

module _ (p s : List ℕ) where
  lift_empty : (e : Entry) → chunk_of p s (emptied e) ≡ with_texts (edit [] true) (chunk_of p s e)
  unfolding replacement_of
  lift_empty e = rw (no_run p s 0)

  lift_runs : (at end : ℕ) (es : List Entry) → clear_run at end (map (chunk_of p s) es) ≡ lifted p s (runs at end es)
  lift_runs at end [] = refl
  lift_runs at end (e ∷ es) = go (eqb at end) (eqb e.start at) (lift_runs e.end end es)
    where
      go : (x y : Bool) → clear_run e.end end (map (chunk_of p s) es) ≡ lifted p s (runs e.end end es)
          → cond x (record { done = true; chunks = chunk_of p s e ∷ map (chunk_of p s) es })
          (cond y (update_rs.onto (with_texts (edit [] true) (chunk_of p s e)) (clear_run e.end end (map (chunk_of p s) es))) (record { done = false; chunks = chunk_of p s e ∷ map (chunk_of p s) es }))
          ≡ lifted p s (cond x (record { done = true; list = e ∷ es }) (cond y (onto (emptied e) (runs e.end end es)) (record { done = false; list = e ∷ es })))
      go true y ih = refl
      go false true ih = ap₂ (λ (c : Chunk) (w : Walk). update_rs.onto c w) (sym (lift_empty e)) ih
      go false false ih = refl

  -- what the walk leaves, with the first chunk edited where it came through
  abbrev edited_walk : ℕ → (Texts → Texts) → RunWalk → Walk
  edited_walk a f w = record { done = w.done; chunks = cond w.done (at_start a f (map (chunk_of p s) w.list)) (map (chunk_of p s) w.list) }

  lift_walk : (a b : ℕ) (t : Text) (o : Bool) (es : List Entry) → update_walk a b t o (map (chunk_of p s) es) ≡ edited_walk a (edit t o) (walk_from a b es)
  lift_walk a b t o [] = refl
  lift_walk a b t o (e ∷ es) = bool-elim (eqb e.start a) (λ k. here k) (λ k. there k (lift_walk a b t o es))
    where
      c : Chunk
      c = chunk_of p s e

      first : (w : RunWalk) (k : eqb e.start a ≡ true)
          → update_rs.onto (cond w.done (with_texts (edit t o) (chunk_of p s e)) (chunk_of p s e)) (lifted p s w) ≡ edited_walk a (edit t o) (onto e w)
      first w k = go w.done refl
        where
          go : (d : Bool) → w.done ≡ d → update_rs.onto (cond w.done (with_texts (edit t o) (chunk_of p s e)) (chunk_of p s e)) (lifted p s w) ≡ edited_walk a (edit t o) (onto e w)
          go true q = rw (q, k)
          go false q = rw q

      here : eqb e.start a ≡ true → update_walk a b t o (chunk_of p s e ∷ map (chunk_of p s) es) ≡ edited_walk a (edit t o) (walk_from a b (e ∷ es))
      here k =
          let q : clear_run e.end b (map (chunk_of p s) es) ≡ lifted p s (runs e.end b es) = lift_runs e.end b es in
          rw k (ap (λ (w : Walk). update_rs.onto (cond w.done (with_texts (edit t o) (chunk_of p s e)) (chunk_of p s e)) w) q ∙ first (runs e.end b es) k)

      there : eqb e.start a ≡ false → update_walk a b t o (map (chunk_of p s) es) ≡ edited_walk a (edit t o) (walk_from a b es)
          → update_walk a b t o (chunk_of p s e ∷ map (chunk_of p s) es) ≡ edited_walk a (edit t o) (walk_from a b (e ∷ es))
      there k ih = rw k (ap (update_rs.onto (chunk_of p s e)) ih ∙ go (walk_from a b es).done refl)
        where
          go : (d : Bool) → (walk_from a b es).done ≡ d → update_rs.onto (chunk_of p s e) (edited_walk a (edit t o) (walk_from a b es)) ≡ edited_walk a (edit t o) (onto e (walk_from a b es))
          go true q = rw (q, k)
          go false q = rw q

  empty_in : (e : Entry) → EntryIn p s e → EntryIn p s (emptied e)
  unfolding ReplacementIn
  empty_in e h = record { runs = record { intro = no_run_in p s 0; outro = no_run_in p s 0 }; replacement = λ n. omega arith }

  runs_in : (at end : ℕ) {es : List Entry} → All (EntryIn p s) es → All (EntryIn p s) (runs at end es).list
  runs_in at end nil = nil
  runs_in at end (cons {x = e} {xs = es} h k) = go (eqb at end) (eqb e.start at) (runs_in e.end end k)
    where
      go : (x y : Bool) → All (EntryIn p s) (runs e.end end es).list
          → All (EntryIn p s) (cond x (record { done = true; list = e ∷ es }) (cond y (onto (emptied e) (runs e.end end es)) (record { done = false; list = e ∷ es }))).list
      go true y ih = cons h k
      go false true ih = cons (empty_in e h) ih
      go false false ih = cons h k

  walk_in : (a b : ℕ) {es : List Entry} → All (EntryIn p s) es → All (EntryIn p s) (walk_from a b es).list
  walk_in a b nil = nil
  walk_in a b (cons {x = e} {xs = es} h k) = go (eqb e.start a) (walk_in a b k)
    where
      go : (x : Bool) → All (EntryIn p s) (walk_from a b es).list → All (EntryIn p s) (cond x (onto e (runs e.end b es)) (onto e (walk_from a b es))).list
      go true ih = cons h (runs_in e.end b k)
      go false ih = cons h ih

-- ── the first chunk, edited last ──
behind_is : (at : ℕ) (s text z : List ℕ) → at ≤ STORE_LEN → length s ≡ at → replacement_of (s ++ (text ++ z)) (at, length text) ≡ some text
unfolding replacement_of
behind_is at s text z few h = rw (ne_eqb at NONE (λ e. omega arith)) (ap some (ap (take (length text)) (drop_at s (text ++ z) at h) ∙ take_at text z (length text) refl))

module _ (o : Bool) (at : ℕ) (text p s y z : List ℕ) (few : at ≤ STORE_LEN) (ls : length s ≡ at) (e : Entry) (h : EntryIn p s e) where
  lift_edit : chunk_of (p ++ y) (s ++ (text ++ z)) (edited_entry o at (length text) e) ≡ with_texts (edit text o) (chunk_of p s e)
  lift_edit = go o
    where
      go : (o : Bool) → chunk_of (p ++ y) (s ++ (text ++ z)) (edited_entry o at (length text) e) ≡ with_texts (edit text o) (chunk_of p s e)
      go true = rw (no_run (p ++ y) (s ++ (text ++ z)) 0, behind_is at s text z few ls)
      go false = rw (run_front p s y (text ++ z) e.intro h.runs.intro, run_front p s y (text ++ z) e.outro h.runs.outro, behind_is at s text z few ls)

  edit_in : EntryIn (p ++ y) (s ++ (text ++ z)) (edited_entry o at (length text) e)
  unfolding ReplacementIn
  edit_in = go o
    where
      fits : at + length text ≤ length (s ++ (text ++ z))
      fits = omega (arith, length-append s (text ++ z), length-append text z)

      go : (o : Bool) → EntryIn (p ++ y) (s ++ (text ++ z)) (edited_entry o at (length text) e)
      go true = record { runs = record { intro = no_run_in (p ++ y) (s ++ (text ++ z)) 0; outro = no_run_in (p ++ y) (s ++ (text ++ z)) 0 }; replacement = λ n. fits }
      go false =
          record {
            runs = record { intro = run_in_front p s y (text ++ z) e.intro h.runs.intro; outro = run_in_front p s y (text ++ z) e.outro h.runs.outro };
            replacement = λ n. fits;
          }

none_start : (p s : List ℕ) (q : ℕ) (t xs : List ℕ) → Each (λ x. meets Start q (entry_at t x) ≡ false) xs → All (λ d. eqb (start_of d) q ≡ false) (map (chunk_of p s) (map (entry_at t) xs))
none_start p s q t [] h = nil
none_start p s q t (x ∷ xs) h = cons {x = chunk_of p s (entry_at t x)} h.0 (none_start p s q t xs h.1)

module _ (a : ℕ) (o : Bool) (at : ℕ) (text p s y z t t' : List ℕ) (i : ℕ) (row : Row) (w : First (meets Start a) t i) (h : Readable t p s) (few : at ≤ STORE_LEN) (ls : length s ≡ at)
    (ed : EditedRow o at (length text) (row_at t i) row) (pt : Put t t' i row) (len : length t' ≡ length t) where
  set : RowSet t t' i (entry_of row)
  set = row_set t t' i row h.linked (record { us = w.us; bs = w.bs; place = w.place }) pt ed.next ed.prev len

  list : entries t' ≡ map (entry_at t) w.us ++ edited_entry o at (length text) (entry_at t i) ∷ map (entry_at t) w.bs
  list = set.place w.us w.bs w.place ∙ ap (λ (e : Entry). map (entry_at t) w.us ++ e ∷ map (entry_at t) w.bs) ed.entry_is

  old : All (EntryIn p s) (map (entry_at t) w.us ++ entry_at t i ∷ map (entry_at t) w.bs)
  old = subst (All (EntryIn p s)) (entries_at t w.us i w.bs w.place) h.chunks

  mid : All (EntryIn p s) (entry_at t i ∷ map (entry_at t) w.bs)
  mid = all_back (EntryIn p s) (map (entry_at t) w.us) (entry_at t i ∷ map (entry_at t) w.bs) old

  front_in : All (EntryIn p s) (map (entry_at t) w.us)
  front_in = all_front (EntryIn p s) (map (entry_at t) w.us) (entry_at t i ∷ map (entry_at t) w.bs) old

  pub edit_readable : Readable t' (p ++ y) (s ++ (text ++ z))
  edit_readable =
      record {
        linked = set.linked;
        desk =
            record {
              intro = subst (RunIn (p ++ y) (s ++ (text ++ z))) (sym (ap (λ (x : (ℕ × ℕ) × (ℕ × ℕ)). x.0) set.desk)) (run_in_front p s y (text ++ z) _ h.desk.intro);
              outro = subst (RunIn (p ++ y) (s ++ (text ++ z))) (sym (ap (λ (x : (ℕ × ℕ) × (ℕ × ℕ)). x.1) set.desk)) (run_in_front p s y (text ++ z) _ h.desk.outro);
            };
        chunks =
            subst (All (EntryIn (p ++ y) (s ++ (text ++ z)))) (sym list)
            (all_append (entries_front p s y (text ++ z) front_in) (cons (edit_in o at text p s y z few ls (entry_at t i) (first_of mid)) (entries_front p s y (text ++ z) (rest_of mid))));
      }

  pub edit_desk : (source : List ℕ) → magic_string_of source t' (p ++ y) (s ++ (text ++ z))
      ≡ with_chunks (magic_string_of source t p s) (at_start a (edit text o) (magic_string_of source t p s).chunks)
  unfolding magic_string_of
  edit_desk source =
      desk_same source (ap (λ (x : (ℕ × ℕ) × (ℕ × ℕ)). run_of (p ++ y) (s ++ (text ++ z)) x.0) set.desk ∙ run_front p s y (text ++ z) _ h.desk.intro)
      (ap (λ (x : (ℕ × ℕ) × (ℕ × ℕ)). run_of (p ++ y) (s ++ (text ++ z)) x.1) set.desk ∙ run_front p s y (text ++ z) _ h.desk.outro)
      (ap (map (chunk_of (p ++ y) (s ++ (text ++ z)))) list
      ∙ map-append (chunk_of (p ++ y) (s ++ (text ++ z))) (map (entry_at t) w.us) (edited_entry o at (length text) (entry_at t i) ∷ map (entry_at t) w.bs)
      ∙ same_around (chunks_front p s y (text ++ z) front_in) (lift_edit o at text p s y z few ls (entry_at t i) (first_of mid)) (chunks_front p s y (text ++ z) (rest_of mid))
      ∙ sym (edge_set right a (edit text o) (chunk_of p s (entry_at t i)) (map (chunk_of p s) (map (entry_at t) w.bs)) (none_start p s a t w.us w.none) w.here)
      ∙ ap (at_start a (edit text o)) (sym (ap (map (chunk_of p s)) (entries_at t w.us i w.bs w.place) ∙ map-append (chunk_of p s)
      (map (entry_at t) w.us) (entry_at t i ∷ map (entry_at t) w.bs))))

-- ── a text longer than the store ──
edit_big : (t : Text) (o : Bool) (c : Chunk) → length t ≤ chunk_bytes (with_texts (edit t o) c)
edit_big t true c = omega arith
edit_big t false c = omega arith

pub edited_big : (a : ℕ) (o : Bool) (text p s t : List ℕ) (i : ℕ) → First (meets Start a) t i → (source : List ℕ)
    → length text ≤ byte_count (with_chunks (magic_string_of source t p s) (at_start a (edit text o) (magic_string_of source t p s).chunks))
unfolding magic_string_of
edited_big a o text p s t i w source =
    let q : at_start a (edit text o) (map (chunk_of p s) (entries t)) ≡ map (chunk_of p s) (map (entry_at t) w.us) ++ with_texts (edit text o)
    (chunk_of p s (entry_at t i)) ∷ map (chunk_of p s) (map (entry_at t) w.bs) =
    ap (at_start a (edit text o)) (ap (map (chunk_of p s)) (entries_at t w.us i w.bs w.place) ∙ map-append (chunk_of p s) (map (entry_at t) w.us) (entry_at t i ∷ map (entry_at t) w.bs))
    ∙ edge_set right a (edit text o) (chunk_of p s (entry_at t i)) (map (chunk_of p s) (map (entry_at t) w.bs)) (none_start p s a t w.us w.none) w.here in
    omega (
      arith,
      ap (sum chunk_bytes) q,
      sum_append chunk_bytes (map (chunk_of p s) (map (entry_at t) w.us)) (with_texts (edit text o) (chunk_of p s (entry_at t i)) ∷ map (chunk_of p s) (map (entry_at t) w.bs)),
      edit_big text o (chunk_of p s (entry_at t i)),
    )

-- ── the walk, and its end ──
module _ (a b : ℕ) (text : List ℕ) (o : Bool) (source p s t t' : List ℕ) (h : Readable t p s) {r : _} (d : Walked a b t t' r) where
  reordered : Reordered t t' (walk_from a b (entries t)).list
  reordered = record { linked = d.linked; chunks = d.chunks; desk = d.desk }

  pub walked_readable : Readable t' p s
  walked_readable = still_readable t p s t' h reordered (walk_in p s a b h.chunks)

  abbrev m : MagicString
  m = magic_string_of source t p s

  walk_is : update_walk a b text o m.chunks ≡ edited_walk p s a (edit text o) (walk_from a b (entries t))
  walk_is = ap (update_walk a b text o) (chunks_of source t p s) ∙ lift_walk p s a b text o (entries t)

  desk_is : magic_string_of source t' p s ≡ with_chunks m (map (chunk_of p s) (walk_from a b (entries t)).list)
  desk_is = with_entries t p s t' h reordered source

  pub walk_refused : (walk_from a b (entries t)).done ≡ false → update_chunks a b text o m ≡ err 7 (magic_string_of source t' p s)
  unfolding update_chunks
  walk_refused z = rw (walk_is, z) (ap (err 7) (sym desk_is))

  pub walk_done : (walk_from a b (entries t)).done ≡ true
      → update_chunks a b text o m ≡ ok (with_chunks (magic_string_of source t' p s) (at_start a (edit text o) (magic_string_of source t' p s).chunks))
  unfolding update_chunks
  walk_done z = rw (walk_is, z) (ap (λ (n : MagicString). ok (with_chunks n (at_start a (edit text o) n.chunks))) (sym desk_is))
