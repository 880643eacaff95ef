-- The model's walk of `relocate`, on the chunks of rows: the range is found, and where it goes.
use mathlib.Core.Path.{◌≡◌, refl, sym, ap}
use mathlib.Core.Bool.{false}
use mathlib.Core.List.{List, [], ◌∷◌, ◌++◌}
use mathlib.Core.Option.{none, some}
use Prim.Native.Nat.{ℕ}
use borrow.Author.Tests.{eq-eqb, ne_eqb}
use Rattle.memory_table.specs.Ring.{Each}
use Rattle.memory_table.specs.Order.{entry_at}
use Rattle.model.specs.Chunk.{Chunk}
use Rattle.model.specs.MagicString.{by_start}
use Rattle.model.specs.Movement.{together, apart, range_from, segment, insert_before}
use Rattle.memory.specs.Layout.{chunk_of}
use Rattle.memory_list.specs.declared.Key.TheVariants.{Start}
use Rattle.memory_list.specs.Find.{meets}
use Rattle.memory_list.specs.Swap.{last_of}
use Rattle.edit_relocate_range.specs.Range.{Follows, Gap}
use Rattle.edit_relocate_range.proofs.Chunks.{chunks_of_rows, chunks_append}

-- no row starts at a position
abbrev pub None : List ℕ → ℕ → List ℕ → Type 0
None t a xs = Each (λ x. meets Start a (entry_at t x) ≡ false) xs

module _ (t p s : List ℕ) where
  abbrev C : List ℕ → List Chunk
  C xs = chunks_of_rows t p s xs

  -- ── the range ──
  range_whole : (b f : ℕ) (xs ys : List ℕ) → Follows t b f xs → (entry_at t (last_of f xs)).end ≡ b → range_from b (C (f ∷ (xs ++ ys))) ≡ together [] (C (f ∷ xs)) (C ys)
  range_whole b f [] ys h e = rw (eq-eqb (entry_at t f).end b e)
  range_whole b f (x ∷ xs) ys h e = rw (ne_eqb (entry_at t f).end b h.0, eq-eqb (entry_at t x).start (entry_at t f).end h.1, range_whole b x xs ys h.2 e)

  range_broken : (b f : ℕ) (xs ys : List ℕ) → Follows t b f xs → ((entry_at t (last_of f xs)).end ≡ b → ⊥) → Gap t (entry_at t (last_of f xs)).end ys → range_from b (C (f ∷ (xs ++ ys))) ≡ apart
  range_broken b f [] [] h e g = rw (ne_eqb (entry_at t f).end b e)
  range_broken b f [] (y ∷ ys) h e g = rw (ne_eqb (entry_at t f).end b e, ne_eqb (entry_at t y).start (entry_at t f).end g)
  range_broken b f (x ∷ xs) ys h e g = rw (ne_eqb (entry_at t f).end b h.0, eq-eqb (entry_at t x).start (entry_at t f).end h.1, range_broken b x xs ys h.2 e g)

  module _ (a b : ℕ) where
    pub segment_none : (us : List ℕ) → None t a us → segment a b (C us) ≡ apart
    segment_none [] h = refl
    segment_none (u ∷ us) h = rw (h.0, segment_none us h.1)

    segment_from : (us : List ℕ) (f : ℕ) (bs : List ℕ) → None t a us → (entry_at t f).start ≡ a → (r z : List Chunk) → range_from b (C (f ∷ bs)) ≡ together [] r z
        → segment a b (C (us ++ f ∷ bs)) ≡ together (C us) r z
    segment_from [] f bs h e r z g = rw (eq-eqb (entry_at t f).start a e) g
    segment_from (u ∷ us) f bs h e r z g = rw (h.0, segment_from us f bs h.1 e r z g)

    segment_stop : (us : List ℕ) (f : ℕ) (bs : List ℕ) → None t a us → (entry_at t f).start ≡ a → range_from b (C (f ∷ bs)) ≡ apart → segment a b (C (us ++ f ∷ bs)) ≡ apart
    segment_stop [] f bs h e g = rw (eq-eqb (entry_at t f).start a e) g
    segment_stop (u ∷ us) f bs h e g = rw (h.0, segment_stop us f bs h.1 e g)

    module _ (us : List ℕ) (f : ℕ) (xs ys : List ℕ) (h : None t a us) (e : (entry_at t f).start ≡ a) (w : Follows t b f xs) where
      pub segment_whole : (entry_at t (last_of f xs)).end ≡ b → segment a b (C (us ++ f ∷ (xs ++ ys))) ≡ together (C us) (C (f ∷ xs)) (C ys)
      segment_whole g = segment_from us f (xs ++ ys) h e (C (f ∷ xs)) (C ys) (range_whole b f xs ys w g)

      pub segment_broken : ((entry_at t (last_of f xs)).end ≡ b → ⊥) → Gap t (entry_at t (last_of f xs)).end ys → segment a b (C (us ++ f ∷ (xs ++ ys))) ≡ apart
      segment_broken n g = segment_stop us f (xs ++ ys) h e (range_broken b f xs ys w n g)
      -- ── the place ──

  module _ (to : ℕ) where
    pub by_start_none : (vs : List ℕ) → None t to vs → by_start to (C vs) ≡ none
    by_start_none [] h = refl
    by_start_none (v ∷ vs) h = rw (h.0, by_start_none vs h.1)

    pub by_start_first : (vs : List ℕ) (n : ℕ) (bs : List ℕ) → None t to vs → (entry_at t n).start ≡ to → by_start to (C (vs ++ n ∷ bs)) ≡ some (chunk_of p s (entry_at t n))
    by_start_first [] n bs h e = rw (eq-eqb (entry_at t n).start to e)
    by_start_first (v ∷ vs) n bs h e = rw (h.0, by_start_first vs n bs h.1 e)

    pub insert_first : (rs vs : List ℕ) (n : ℕ) (zs : List ℕ) → None t to vs → (entry_at t n).start ≡ to → insert_before to (C rs) (C (vs ++ n ∷ zs)) ≡ C (vs ++ (rs ++ n ∷ zs))
    insert_first rs [] n zs h e = rw (eq-eqb (entry_at t n).start to e) (sym (chunks_append t p s rs (n ∷ zs)))
    insert_first rs (v ∷ vs) n zs h e = rw h.0 (ap (λ (l : List Chunk). chunk_of p s (entry_at t v) ∷ l) (insert_first rs vs n zs h.1 e))

    pub insert_last : (rs vs : List ℕ) → None t to vs → insert_before to (C rs) (C vs) ≡ C (vs ++ rs)
    insert_last rs [] h = refl
    insert_last rs (v ∷ vs) h = rw h.0 (ap (λ (l : List Chunk). chunk_of p s (entry_at t v) ∷ l) (insert_last rs vs h.1))
