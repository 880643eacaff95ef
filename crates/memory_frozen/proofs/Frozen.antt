-- Laws of what `Frozen` in specs/ defines: what a search along the list tells, and the same of the desk.
use mathlib.Core.Path.{◌≡◌, refl, sym, ap, ◌∙◌}
use mathlib.Core.Bool.{Bool, true, false, ◌&&◌, ◌||◌, and-false}
use mathlib.Core.List.{List, [], ◌∷◌, ◌++◌, map}
use Prim.Native.Nat.{ℕ, ◌≤◌, ◌<◌}
use Rattle.std.specs.List.{list_any}
use Rattle.memory_table.specs.Ring.{Each}
use Rattle.memory_table.specs.Order.{Entry, count_of, entry_at, entries, order, Linked}
use Rattle.model.specs.Text.{any}
use Rattle.model.specs.Chunk.{Chunk}
use Rattle.model.specs.Frozen.{starts_within, has_frozen, any_frozen}
use Rattle.model.proofs.Lists.{or_right}
use Rattle.memory.specs.Layout.{chunk_of, magic_string_of}
use Rattle.memory.proofs.Desks.{chunks_of}
use Rattle.memory_list.specs.Changes.{entry_starts_in}
use Rattle.memory_list.specs.Find.{First}
use Rattle.memory_frozen.specs.Frozen.{refuses, frozen_in_rows, Unmarked}

-- ── a search along the list ──
pub any_list : {A : Type 0} (f : A → Bool) (xs : List A) → any f xs ≡ list_any f xs
any_list f [] = refl
any_list f (x ∷ xs) = ap (λ (b : Bool). f x || b) (any_list f xs)

module _ (f : Entry → Bool) (g : ℕ → Entry) where
  any_at : (us : List ℕ) (i : ℕ) (bs : List ℕ) → f (g i) ≡ true → any f (map g (us ++ i ∷ bs)) ≡ true
  any_at [] i bs h = rw h
  any_at (u ∷ us) i bs h = or_right (f (g u)) _ (any_at us i bs h)

  any_none : (us : List ℕ) → Each (λ x. f (g x) ≡ false) us → any f (map g us) ≡ false
  any_none [] h = refl
  any_none (u ∷ us) h = rw h.0 (any_none us h.1)

module _ (f : Entry → Bool) (t : List ℕ) where
  pub any_found : (i : ℕ) → First f t i → any f (entries t) ≡ true
  any_found i h = rw h.place (any_at f (entry_at t) h.us i h.bs h.here)

  pub any_passed : Each (λ x. f (entry_at t x) ≡ false) (order t) → any f (entries t) ≡ false
  any_passed h = any_none f (entry_at t) (order t) h

  -- where no row has a mark, none of the list has
  pub unmarked_none : Linked t → Unmarked t → ((e : Entry) → e.frozen ≡ 0 → f e ≡ false) → any f (entries t) ≡ false
  unfolding order
  unmarked_none l u h = any_passed (go (order t) l.ring.inside)
    where
      go : (us : List ℕ) → Each (λ x. (0 < x) × (x ≤ count_of t)) us → Each (λ x. f (entry_at t x) ≡ false) us
      go [] i = tt
      go (x ∷ us) i = (h (entry_at t x) (u x i.0.0 i.0.1), go us i.1)

pub not_frozen : (whole : Bool) (a b : ℕ) (e : Entry) → e.frozen ≡ 0 → refuses whole a b e ≡ false
not_frozen whole a b e h = rw h (and-false (whole || entry_starts_in a b e))

-- ── the desk ──
any_map : (f : Chunk → Bool) (g : Entry → Chunk) (es : List Entry) → any f (map g es) ≡ any (λ e. f (g e)) es
any_map f g [] = refl
any_map f g (e ∷ es) = ap (λ (b : Bool). f (g e) || b) (any_map f g es)

module _ (source t p s : List ℕ) where
  any_chunk : (f : Chunk → Bool) → any (λ e. f (chunk_of p s e)) (entries t) ≡ any f (magic_string_of source t p s).chunks
  any_chunk f = sym (ap (any f) (chunks_of source t p s) ∙ any_map f (chunk_of p s) (entries t))

  pub frozen_within : (a b : ℕ) → frozen_in_rows false a b t ≡ has_frozen a b (magic_string_of source t p s)
  unfolding has_frozen
  frozen_within a b = any_chunk (λ c. starts_within a b c && c.frozen)

  pub frozen_any : frozen_in_rows true 0 0 t ≡ any_frozen (magic_string_of source t p s)
  unfolding any_frozen
  frozen_any = any_chunk (λ c. c.frozen)
