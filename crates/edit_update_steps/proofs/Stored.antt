-- Laws of what `Stored` in specs/ defines.
use mathlib.Core.Path.{◌≡◌, refl, sym, ap, ◌∙◌}
use mathlib.Core.Bool.{Bool, true, false}
use mathlib.Core.List.{List, [], ◌∷◌, ◌++◌}
use mathlib.Core.Logic.{⊎_elim}
use Prim.Native.Nat.{ℕ, ◌≤◌, ◌<◌}
use native.Mathlib.Omega.{arith}
use lib.ListN.{length, drop}
use borrow.Author.Tests.{ne_eqb, le-ltb, lt-ltb}
use Rattle.memory_layout.specs.Layout.{STORE_LEN}
use Rattle.model.specs.MagicString.{MagicString, Result, ok, err, and_then, with_chunks, at_start}
use Rattle.model.specs.Chunk.{edit}
use Rattle.model.specs.Limits.{full, within}
use Rattle.model.specs.Frozen.{has_frozen, unless_guarded}
use Rattle.model.specs.Update.{update_chunks}
use Rattle.model.specs.Call.{update_with, idle, may_change}
use Rattle.memory.specs.Layout.{magic_string_of}
use Rattle.memory.specs.WellFormed.{Readable}
use Rattle.memory.specs.Calls.{may_write}
use Rattle.memory.proofs.Desks.{source_of}
use Rattle.memory_texts.specs.Over.{over}
use Rattle.memory_texts.proofs.Over.{over_nil, over_behind}
use Rattle.std.specs.Prelude.{Some, None}
use Rattle.memory_frozen.specs.Frozen.{frozen_in_rows}
use Rattle.memory_frozen.proofs.Frozen.{frozen_within}
use Rattle.edit_scratch.proofs.Front.{desk_front}
use Rattle.edit_scratch.proofs.Tables.{past_bytes, may_write_busy, may_write_0, may_write_leaving}
use Rattle.edit_scratch.specs.Tables.{Did}
use Rattle.edit_split_at.specs.Cuts.{Spans, CutsDone}
use Rattle.edit_split_at.proofs.Cuts.{stop}
use Rattle.memory_list.specs.Insert.{Placed}
use Rattle.edit_row_laws.proofs.Kept.{kept_then}
use Rattle.edit_update_steps.specs.Walk.{Walked}
use Rattle.edit_update_steps.proofs.Replaced.{kept_replaced, replaced_then, walked_kept, walked_count, edited_replaced, edited_count}
use Rattle.edit_update_steps.specs.Steps.{update_step, update_past, FirstEdited}
use Rattle.edit_update_steps.proofs.Steps.{edit_readable, edit_desk, edited_big, walked_readable, walk_refused, walk_done}
use Rattle.edit_update_steps.specs.Stored.{stored, UpdateSteps}

pub stored_none : (r : ℕ) (text : List ℕ) → (r ≡ 0 → ⊥) → stored r text ≡ []
stored_none r text h = rw (ne_eqb r 0 h)

busy : (a b : ℕ) (text : List ℕ) (o : Bool) → idle (update_with a b text o) ≡ false
busy a b text o = refl

-- steps that store nothing
kept : {f : MagicString → Result} {source t p s t' : List ℕ} {r c : ℕ} (y z : List ℕ) → Did f source t p s t' p s r c → Did f source t p s t' (p ++ y) (s ++ z) r c
kept {source = source} {p = p} {s = s} {t' = t'} {r = r} y z d =
    let g = desk_front p s y z t' d.readable in
    record { readable = g.0; result = d.result ∙ ap (err r) (sym (g.1 source)); cuts = d.cuts }

module _ (a b : ℕ) (text : List ℕ) (o : Bool) (n at : ℕ) (t t1 s1 : List ℕ) (r v : ℕ) (c : CutsDone (a ∷ b ∷ []) t t1 r v) where
  pub update_refused : (r ≡ 0 → ⊥) → UpdateSteps a b text o n at t s1 t1 s1 r v
  update_refused h =
      record {
        leave = λ _ source p s y z ln rd sp ls.
            let k = c.leave source p s rd sp in
            rw (stored_none r text h)
            (kept y z
            (record {
              readable = k.readable;
              result = k.result (update_step a b text o) ∙ stop r (magic_string_of source t1 p s) (update_step a b text o) h;
              cuts = c.count;
            }));
        long = λ z. absurd (⊎_elim {C = ⊥} (λ (w : r ≡ 0). h w) (λ (w : r ≡ 6). omega arith) c.number);
        no_cuts = λ z. absurd (⊎_elim {C = ⊥} (λ (w : r ≡ 0). h w) (λ (w : r ≡ 6). omega arith) c.number);
        writes = λ _. ⊎_elim {C = may_write (update_with a b text o) r ≡ true} (λ (w : r ≡ 0). absurd (h w)) (λ (w : r ≡ 6). rw w (may_write_leaving (update_with a b text o) 5 refl)) c.number;
        short = λ _ z. ⊎_elim {C = ⊥} (λ (w : r ≡ 0). h w) (λ (w : r ≡ 6). omega arith) c.number;
        replaced = kept_replaced (at, length text) c.kept;
        count = omega (arith, c.count, c.few);
        store = over_nil s1 at ∙ ap (over s1 at) (sym (stored_none r text h));
      }

  module _ (z0 : r ≡ 0) where
    cut : (source p s : List ℕ) → Readable t p s → Spans source t p s → update_past a b text o (magic_string_of source t p s) ≡ update_step a b text o (magic_string_of source t1 p s)
    cut source p s rd sp =
        (c.leave source p s rd sp).result (update_step a b text o) ∙ ap (λ (k : ℕ). and_then (err k (magic_string_of source t1 p s)) (update_step a b text o)) z0

    size : (source p s : List ℕ) → length source ≡ n → length (magic_string_of source t1 p s).source ≡ n
    size source p s ln = ap length (source_of source t1 p s) ∙ ln

    -- a refusal behind the cuts, which stay
    stopped : (k : ℕ) → (k ≡ 0 → ⊥) → (k ≡ 13 → ⊥) → may_change (update_with a b text o) k ≡ true
        → ((source p s : List ℕ) → length source ≡ n → update_step a b text o (magic_string_of source t1 p s) ≡ err k (magic_string_of source t1 p s))
        → UpdateSteps a b text o n at t s1 t1 s1 k v
    stopped k k0 k13 may q =
        record {
          leave = λ _ source p s y z ln rd sp ls.
              rw (stored_none k text k0) (kept y z (record { readable = c.readable p s rd; result = cut source p s rd sp ∙ q source p s ln; cuts = c.count }));
          long = λ z. absurd (k13 z);
          no_cuts = λ z. absurd (k13 z);
          writes = λ _. may_write_busy (update_with a b text o) k (busy a b text o) may;
          short = λ _ z. k13 z;
          replaced = kept_replaced (at, length text) c.kept;
          count = omega (arith, c.count, c.few);
          store = over_nil s1 at ∙ ap (over s1 at) (sym (stored_none k text k0));
        }

    pub update_either_end : n < b → UpdateSteps a b text o n at t s1 t1 s1 10 v
    update_either_end h =
        stopped 10 (λ z. omega arith) (λ z. omega arith) refl (λ source p s ln. rw (lt-ltb (length (magic_string_of source t1 p s).source) b (omega (arith, size source p s ln))))

    not_past : b ≤ n → (source p s : List ℕ) → length source ≡ n
        → update_step a b text o (magic_string_of source t1 p s) ≡ unless_guarded has_frozen a b (magic_string_of source t1 p s) (update_chunks a b text o (magic_string_of source t1 p s))
    not_past h source p s ln = rw (le-ltb (length (magic_string_of source t1 p s).source) b (omega (arith, size source p s ln)))

    pub update_frozen : b ≤ n → frozen_in_rows false a b t1 ≡ true → UpdateSteps a b text o n at t s1 t1 s1 20 v
    update_frozen h f =
        stopped 20 (λ z. omega arith) (λ z. omega arith) refl
        (λ source p s ln. not_past h source p s ln ∙ rw (sym (frozen_within source t1 p s a b) ∙ f))

    module _ (h : b ≤ n) (f : frozen_in_rows false a b t1 ≡ false) where
      inside : (source p s : List ℕ) → length source ≡ n → Readable t p s → Spans source t p s → update_past a b text o (magic_string_of source t p s) ≡
          update_chunks a b text o (magic_string_of source t1 p s)
      inside source p s ln rd sp = cut source p s rd sp ∙ not_past h source p s ln ∙ rw (sym (frozen_within source t1 p s a b) ∙ f)

      pub update_broken : (t2 : List ℕ) → Walked a b t1 t2 None → UpdateSteps a b text o n at t s1 t2 s1 7 v
      update_broken t2 d =
          record {
            leave = λ _ source p s y z ln rd sp ls.
                let rd1 = c.readable p s rd in
                kept y z
                (record {
                  readable = walked_readable a b text o source p s t1 t2 rd1 d;
                  result = inside source p s ln rd sp ∙ walk_refused a b text o source p s t1 t2 rd1 d d.ended;
                  cuts = omega (arith, c.count, walked_count d);
                });
            long = λ z. absurd (omega arith);
            no_cuts = λ z. absurd (omega arith);
            writes = λ _. may_write_leaving (update_with a b text o) 6 refl;
            short = λ _ z. omega arith;
            replaced = kept_replaced (at, length text) (kept_then c.kept (walked_kept d));
            count = omega (arith, c.count, c.few, walked_count d);
            store = over_nil s1 at;
          }

      module _ (t2 : List ℕ) (i : ℕ) (d : Walked a b t1 t2 (Some i)) where
        came : (source p s : List ℕ) → length source ≡ n → Readable t p s → Spans source t p s
            → update_past a b text o (magic_string_of source t p s) ≡ ok (with_chunks (magic_string_of source t2 p s) (at_start a (edit text o) (magic_string_of source t2 p s).chunks))
        came source p s ln rd sp = inside source p s ln rd sp ∙ walk_done a b text o source p s t1 t2 (c.readable p s rd) d d.ended.0

        pub update_long : STORE_LEN < length text → UpdateSteps a b text o n at t s1 t2 s1 13 0
        update_long l =
            record {
              leave = λ k. absurd (k refl);
              long = λ _ source p s ln rd sp.
                  ap (λ (x : Result). within full x.desk) (came source p s ln rd sp)
                  ∙ past_bytes (with_chunks (magic_string_of source t2 p s) (at_start a (edit text o) (magic_string_of source t2 p s).chunks))
                  (omega (arith, edited_big a o text p s t2 i d.ended.1 source));
              no_cuts = λ _. refl;
              writes = λ k. absurd (k refl);
              short = λ k _. omega arith;
              replaced = kept_replaced (at, length text) (kept_then c.kept (walked_kept d));
              count = omega (arith, c.count, c.few, walked_count d);
              store = over_nil s1 at;
            }

        pub update_done : (t3 s3 : List ℕ) → at ≤ STORE_LEN → FirstEdited o at text t2 s1 t3 s3 i → length t3 ≡ length t2 → UpdateSteps a b text o n at t s1 t3 s3 0 v
        update_done t3 s3 few g len =
            record {
              leave = λ _ source p s y z ln rd sp ls.
                  let rd2 = walked_readable a b text o source p s t1 t2 (c.readable p s rd) d in
                  record {
                    readable = edit_readable a o at text p s y z t2 t3 i g.row d.ended.1 rd2 few ls g.edited g.put len;
                    result = came source p s ln rd sp ∙ ap ok (sym (edit_desk a o at text p s y z t2 t3 i g.row d.ended.1 rd2 few ls g.edited g.put len source));
                    cuts = omega (arith, c.count, walked_count d, edited_count first g d.linked len);
                  };
              long = λ z. absurd (omega arith);
              no_cuts = λ z. absurd (omega arith);
              writes = λ _. may_write_0 (update_with a b text o) (busy a b text o);
              short = λ _ z. omega arith;
              replaced = replaced_then (kept_then c.kept (walked_kept d)) (edited_replaced first g d.linked len);
              count = omega (arith, c.count, c.few, walked_count d, edited_count first g d.linked len);
              store = g.store;
            }
          where
            first : Placed t2 i
            first = let w = d.ended.1 in record { us = w.us; bs = w.bs; place = w.place }

-- what they leave in a store that began with all texts in use
pub steps_did : {a b : ℕ} {text : List ℕ} {o : Bool} {n at : ℕ} {t s1 t' s1' : List ℕ} {r c : ℕ} → UpdateSteps a b text o n at t s1 t' s1' r c → (r ≡ 13 → ⊥)
    → (source p s y z : List ℕ) → length source ≡ n → Readable t p s → Spans source t p s → s1 ≡ s ++ z → length s ≡ at → Did (update_past a b text o) source t p s t' (p ++ y) s1' r c
steps_did {text = text} {at = at} {r = r} x k source p s y z ln rd sp e ls =
    let q = x.store ∙ ap (λ (l : List ℕ). over l at (stored r text)) e ∙ over_behind s z (stored r text) at (sym ls) in
    rw q (x.leave k source p s y (drop (length (stored r text)) z) ln rd sp ls)
