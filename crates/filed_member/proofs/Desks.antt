-- Tables that hold the same desk over one source hold the same over every source.
use Prim.Native.Nat.{ℕ}
use mathlib.Core.Path.{◌≡◌, refl, sym, ap, ◌∙◌, subst}
use mathlib.Core.List.{List}
use Rattle.model.specs.MagicString.{MagicString}
use Rattle.model.specs.Limits.{Limits}
use Rattle.model.specs.WellFormed as model
use Rattle.memory.specs.Layout.{magic_string_of}
use Rattle.memory.specs.WellFormed.{limits_of, Taken}
use Rattle.memory.specs.Calls.{Same}
use Rattle.memory.proofs.Desks.{limits_full}
use Rattle.filed_member.specs.Claim.{Alike}
use Rattle.filed_member.proofs.Unrefuted.{Unrefuted, both_ways}

-- a desk in memory is its source, and what does not depend on it
over : List ℕ → MagicString → MagicString
over source m = record { source = source; intro = m.intro; outro = m.outro; chunks = m.chunks }

desk_over : (source source₂ t p s : List ℕ) → magic_string_of source₂ t p s ≡ over source₂ (magic_string_of source t p s)
unfolding magic_string_of over
desk_over source source₂ t p s = refl

module _ {t p s t' p' s' : List ℕ} (a : Alike t p s t' p' s') where
  exchanged : Alike t' p' s' t p s
  exchanged = record { source = a.source; holds = a.holds'; holds' = a.holds; desk = sym a.desk }

  pub same_limits : limits_of t p s ≡ limits_of t' p' s'
  same_limits = limits_full a.holds.full ∙ sym (limits_full a.holds'.full)

  pub same_desk : (source : List ℕ) → magic_string_of source t p s ≡ magic_string_of source t' p' s'
  same_desk source = desk_over a.source source t p s ∙ ap (over source) a.desk ∙ sym (desk_over a.source source t' p' s')

  -- and if one is well formed over a source, so is the other
  both_taken : (source : List ℕ) → Taken source t p s → Taken source t' p' s'
  both_taken source h =
      let w = a.holds'.well_formed in
      let desk : model.WellFormed (limits_of t p s) (magic_string_of source t' p' s') = subst (model.WellFormed (limits_of t p s)) (same_desk source) h.well_formed.desk in
      record {
        full = a.holds'.full;
        well_formed = record {
          sized = w.sized;
          readable = w.readable;
          each = w.each;
          disjoint = w.disjoint;
          desk = subst (λ (k : Limits). model.WellFormed k (magic_string_of source t' p' s')) same_limits desk;
        };
      }

  -- tables that are as these were
  pub alike_as : {u q r u' q' r' : List ℕ} → Same t p s u q r → Same t' p' s' u' q' r' → Alike u q r u' q' r'
  alike_as e f = rw (e.chunks, e.pieces, e.store, f.chunks, f.pieces, f.store) a

-- so over any source both are, or neither is
pub taken_or_not : {t p s t' p' s' : List ℕ} → Alike t p s t' p' s' → (source : List ℕ) {B : Type 0} → (Taken source t p s → Taken source t' p' s' → Unrefuted B)
    → ((Taken source t p s → ⊥) → (Taken source t' p' s' → ⊥) → Unrefuted B) → Unrefuted B
taken_or_not a source f g = both_ways (λ h. f h (both_taken a source h)) (λ n. g n (λ h. n (both_taken (exchanged a) source h)))
