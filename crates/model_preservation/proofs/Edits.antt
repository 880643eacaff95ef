-- The calls of append.rs, prepend.rs, update.rs, movement.rs and reset.rs, and freezing, keep a desk formed, accepted or refused.
use Prim.Native.Nat.{ℕ}
use mathlib.Core.Path.{◌≡◌}
use mathlib.Core.Bool.{Bool, true, false, cond}
use mathlib.Core.List.{List, [], map}
use lib.Dec.{ltb, eqb}
use lib.ListN.{length}
use Rattle.utf8.specs.Rfc3629.{between}
use Rattle.utf8.specs.Chars.{All}
use Rattle.model.specs.Text.{Text}
use Rattle.model.specs.Chunk.{Chunk, Texts, edit}
use Rattle.model.specs.MagicString.{MagicString, Result, ok, err, and_then, with_chunks, with_intro, with_outro, with_whole, by_edge, split_at, by_edge_mut}
use Rattle.model.specs.Frozen.{Guard, unless_guarded, freeze_chunk, freeze_range, freeze}
use Rattle.model.specs.Append.{append}
use Rattle.model.specs.Prepend.{prepend}
use Rattle.model.specs.Insert.{front, back, push, push_to, insert, insert_step}
use Rattle.model.specs.Update.{update_walk, update_chunks, update_with}
use Rattle.model.specs.Movement.{change_by_position, change_range, remove}
use Rattle.model.specs.Reset.{reset}
use Rattle.model.specs.WellFormed.{Valid}
use Rattle.model_preservation.proofs.Lists.{of_cond, of_option}
use Rattle.model_preservation.proofs.Desk.{Leaves, of_and_then, FormedOf, cut_keeps}
use Rattle.model_preservation.proofs.Retexts.{Retexts, KeepsValid, retexts_keep, retexts_same, at_edge_retexts, change_retexts, update_retexts, clear_valid}
use Rattle.model_preservation.proofs.Retexts.{reset_valid, push_valid, push_to_valid, freeze_retexts}

-- ---- head and tail

module _ (source : Text) where
  pub with_intro_keeps : (m : MagicString) (l : List Text) → All Valid l → FormedOf source m → FormedOf source (with_intro m l)
  with_intro_keeps m l v h =
      let f = h.formed in
      record { formed = retexts_keep m l m.outro m.chunks f v f.outro (retexts_same f.texts); source_is = h.source_is }

  pub with_outro_keeps : (m : MagicString) (l : List Text) → All Valid l → FormedOf source m → FormedOf source (with_outro m l)
  with_outro_keeps m l v h =
      let f = h.formed in
      record { formed = retexts_keep m m.intro l m.chunks f f.intro v (retexts_same f.texts); source_is = h.source_is }

  pub append_keeps : (t : Text) → Valid t → (m : MagicString) → FormedOf source m → Leaves (FormedOf source) (append t m)
  append_keeps t v m h = record { desk = with_outro_keeps m _ (push_valid back t v h.formed.outro) h }

  pub prepend_keeps : (t : Text) → Valid t → (m : MagicString) → FormedOf source m → Leaves (FormedOf source) (prepend t m)
  prepend_keeps t v m h = record { desk = with_intro_keeps m _ (push_valid front t v h.formed.intro) h }

  -- ---- chunks with other texts

  pub with_chunks_keeps : (m : MagicString) (cs : List Chunk) → Retexts m.chunks cs → FormedOf source m → FormedOf source (with_chunks m cs)
  with_chunks_keeps m cs r h =
      let f = h.formed in
      record { formed = retexts_keep m m.intro m.outro cs f f.intro f.outro r; source_is = h.source_is }

  abbrev Keeps : Result → Type 0
  Keeps = Leaves (FormedOf source)

  -- ---- insertions at a position

  pub whole_keeps : (left : Bool) (g : List Text → List Text) → ((l : List Text) → All Valid l → All Valid (g l)) → (m : MagicString) → FormedOf source m → FormedOf source (with_whole left m g)
  whole_keeps true g w m h = with_intro_keeps m _ (w m.intro h.formed.intro) h
  whole_keeps false g w m h = with_outro_keeps m _ (w m.outro h.formed.outro) h

  pub insert_keeps : (p : ℕ) (t : Text) (left front : Bool) → Valid t → between source p ≡ true → (m : MagicString) → FormedOf source m → Leaves (FormedOf source) (insert p t left front m)
  unfolding by_edge_mut
  insert_keeps p t left front v b m h =
      of_and_then (FormedOf source) (split_at p m) (insert_step p t left front) (cut_keeps source p b m h)
      (λ n k. of_option Keeps (by_edge left p n.chunks)
      (λ _. record { desk = whole_keeps left (push front t) (λ l. push_valid front t v) n k })
      (λ c _. record { desk = with_chunks_keeps n _ (at_edge_retexts left p (push_to left front t) (push_to_valid left front t v) k.formed.texts) k }))

  module _ (start end : ℕ) (a : between source start ≡ true) (b : between source end ≡ true) where
    -- two cuts, and what is done behind them
    pub two_cuts : (f : MagicString → Result) → ((m : MagicString) → FormedOf source m → Leaves (FormedOf source) (f m))
        → (m : MagicString) → FormedOf source m → Leaves (FormedOf source) (and_then (split_at start m) (λ m. and_then (split_at end m) f))
    two_cuts f g m h =
        of_and_then (FormedOf source) (split_at start m) _ (cut_keeps source start a m h)
        (λ n k. of_and_then (FormedOf source) (split_at end n) f (cut_keeps source end b n k) g)

    -- ---- `freeze`

    freeze_range_keeps : (m : MagicString) → FormedOf source m → Keeps (freeze_range start end m)
    unfolding freeze_range
    freeze_range_keeps =
        two_cuts (λ n. ok (with_chunks n (map (freeze_chunk start end) n.chunks)))
        (λ n k. record { desk = with_chunks_keeps n _ (freeze_retexts start end k.formed.texts) k })

    pub freeze_keeps : (m : MagicString) → FormedOf source m → Leaves (FormedOf source) (freeze start end m)
    unfolding freeze
    freeze_keeps m h =
        of_cond Keeps (eqb start end) (λ _. record { desk = h })
        (λ _. of_cond Keeps (ltb end start) (λ _. record { desk = h })
        (λ _. of_cond Keeps (ltb (length m.source) end) (λ _. record { desk = h })
        (λ _. freeze_range_keeps m h)))

    -- ---- the walk of `update_with`

    update_chunks_keeps : (t : Text) (overwrite : Bool) → Valid t → (m : MagicString) → FormedOf source m → Keeps (update_chunks start end t overwrite m)
    unfolding update_chunks
    update_chunks_keeps t overwrite v m h =
        let k = with_chunks_keeps m _ (update_retexts start end t overwrite v h.formed.texts) h in
        of_cond Keeps (update_walk start end t overwrite m.chunks).done (λ _. record { desk = k }) (λ _. record { desk = k })

    -- whichever ranges are refused
    module _ (g : Guard) where
      -- ---- `remove`, `reset`

      change_keeps : (f : Texts → Texts) → KeepsValid f → (m : MagicString) → FormedOf source m → Keeps (change_range g f start end m)
      unfolding change_range
      change_keeps f v =
          two_cuts (λ n. unless_guarded g start end n (ok (with_chunks n (change_by_position (length n.chunks) f start end n.chunks))))
          (λ n k. of_cond Keeps (g start end n) (λ _. record { desk = k })
          (λ _. record { desk = with_chunks_keeps n _ (change_retexts (length n.chunks) f v start end n.chunks k.formed.texts) k }))

      pub remove_keeps : (m : MagicString) → FormedOf source m → Leaves (FormedOf source) (remove g start end m)
      unfolding remove
      remove_keeps m h =
          of_cond Keeps (eqb start end) (λ _. record { desk = h })
          (λ _. of_cond Keeps (ltb end start) (λ _. record { desk = h })
          (λ _. change_keeps (edit [] true) clear_valid m h))

      pub reset_keeps : (m : MagicString) → FormedOf source m → Leaves (FormedOf source) (reset g start end m)
      unfolding reset
      reset_keeps m h =
          of_cond Keeps (eqb start end) (λ _. record { desk = h })
          (λ _. of_cond Keeps (ltb end start) (λ _. record { desk = h })
          (λ _. of_cond Keeps (ltb (length m.source) end) (λ _. record { desk = h })
          (λ _. change_keeps _ reset_valid m h)))

      -- ---- `update_with`

      pub update_keeps : (t : Text) (overwrite : Bool) → Valid t → (m : MagicString) → FormedOf source m → Leaves (FormedOf source) (update_with g start end t overwrite m)
      unfolding update_with
      update_keeps t overwrite v m h =
          of_cond Keeps (eqb start end) (λ _. record { desk = h })
          (λ _. of_cond Keeps (ltb end start) (λ _. record { desk = h })
          (λ _. two_cuts (λ n. cond (ltb (length n.source) end) (err 10 n) (unless_guarded g start end n (update_chunks start end t overwrite n)))
          (λ n k. of_cond Keeps (ltb (length n.source) end) (λ _. record { desk = k })
          (λ _. of_cond Keeps (g start end n) (λ _. record { desk = k }) (λ _. update_chunks_keeps t overwrite v n k)))
          m h))
