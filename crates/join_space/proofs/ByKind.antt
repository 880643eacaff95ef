-- What the call of a record needs, by the record's kind.
use Prim.Native.Nat.{ℕ}
use mathlib.Core.Path.{◌≡◌, refl, sym, ap, ◌∙◌}
use mathlib.Core.Logic.{◌⊎◌, inl, inr}
use lib.Dec.{eqb}
use borrow.Author.Tests.{ne_eqb}
use native.Mathlib.Omega.{arith}
use Rattle.model.proofs.Lists.{bool-elim}
use Rattle.model_sheet.specs.Record.{Recorded}
use Rattle.model_sheet.specs.Sheet.{call_of}
use Rattle.model_join.specs.Tests.{new_pieces, new_bytes}
use Rattle.sheet_records.specs.declared.kinds.Kind.{Kind}
use Rattle.sheet_records.specs.declared.kinds.Kind.TheVariants.{Remove, Update, Reset, Relocate}
use Rattle.sheet_records.specs.Kinds.{code}
use Rattle.sheet_records.proofs.OfKinds.{not_remove, not_update, not_reset, not_relocate}
use Rattle.join_space.specs.Space.{NewPieces, NewBytes}

-- the record with another kind
abbrev of_kind : Recorded → ℕ → Recorded
of_kind r k = record { kind = k; a = r.a; b = r.b; c = r.c; text = r.text }

module _ {k : ℕ} where
  -- a kind whose call inserts nothing
  no_piece : (i : ℕ) → k ≡ i → ((r : Recorded) → new_pieces (call_of (of_kind r i)) ≡ 0) → NewPieces k 0
  no_piece i e h = record { is = λ r q. sym (ap (λ x. new_pieces (call_of (of_kind r x))) (q ∙ e) ∙ h r); few = omega arith }

  removal_piece : k ≡ 1 → NewPieces k 0
  unfolding call_of
  removal_piece e = no_piece 1 e (λ r. refl)

  update_piece : k ≡ 2 → NewPieces k 0
  unfolding call_of
  update_piece e = no_piece 2 e (λ r. refl)

  reset_piece : k ≡ 3 → NewPieces k 0
  unfolding call_of
  reset_piece e = no_piece 3 e (λ r. refl)

  move_piece : k ≡ 8 → NewPieces k 0
  unfolding call_of
  move_piece e = no_piece 8 e (λ r. refl)

  insert_piece : ((((Unit {0} × (k ≡ 1 → ⊥)) × (k ≡ 2 → ⊥)) × (k ≡ 3 → ⊥)) × (k ≡ 8 → ⊥)) → NewPieces k 1
  unfolding call_of
  insert_piece ((((_, h₁), h₂), h₃), h₄) =
      record {
        is = λ r q.
            rw (
              ne_eqb r.kind 1 (λ e. h₁ (sym q ∙ e)),
              ne_eqb r.kind 2 (λ e. h₂ (sym q ∙ e)),
              ne_eqb r.kind 3 (λ e. h₃ (sym q ∙ e)),
              ne_eqb r.kind 8 (λ e. h₄ (sym q ∙ e)),
            );
        few = omega arith;
      }

  -- a kind whose call carries no text
  no_bytes : (i n : ℕ) → k ≡ i → ((r : Recorded) → new_bytes (call_of (of_kind r i)) ≡ 0) → NewBytes k n 0
  no_bytes i n e h = record { is = λ r q _. sym (ap (λ x. new_bytes (call_of (of_kind r x))) (q ∙ e) ∙ h r); few = omega arith }

  module _ (n : ℕ) where
    removal_bytes : k ≡ 1 → NewBytes k n 0
    unfolding call_of
    removal_bytes e = no_bytes 1 n e (λ r. refl)

    reset_bytes : k ≡ 3 → NewBytes k n 0
    unfolding call_of
    reset_bytes e = no_bytes 3 n e (λ r. refl)

    move_bytes : k ≡ 8 → NewBytes k n 0
    unfolding call_of
    move_bytes e = no_bytes 8 n e (λ r. refl)

    -- an update or an insertion: its text
    text_bytes : (((Unit {0} × (k ≡ 1 → ⊥)) × (k ≡ 3 → ⊥)) × (k ≡ 8 → ⊥)) → NewBytes k n n
    unfolding call_of
    text_bytes (((_, h₁), h₃), h₄) =
        record {
          is = λ r q z.
              let one = ne_eqb r.kind 1 (λ e. h₁ (sym q ∙ e)) in
              let three = ne_eqb r.kind 3 (λ e. h₃ (sym q ∙ e)) in
              let eight = ne_eqb r.kind 8 (λ e. h₄ (sym q ∙ e)) in
              bool-elim (eqb r.kind 2) (λ e. rw (one, e) (omega (arith, z))) (λ e. rw (one, e, three, eight) (omega (arith, z)));
          few = omega arith;
        }

-- ── the same of a kind by name ──
pub no_pieces : (k : Kind) → (k ≡ Remove) ⊎ ((k ≡ Update) ⊎ ((k ≡ Reset) ⊎ (k ≡ Relocate))) → NewPieces (code k) 0
no_pieces k (inl e) = removal_piece (ap code e)
no_pieces k (inr (inl e)) = update_piece (ap code e)
no_pieces k (inr (inr (inl e))) = reset_piece (ap code e)
no_pieces k (inr (inr (inr e))) = move_piece (ap code e)

pub one_piece : (k : Kind) → (k ≡ Remove → ⊥) → (k ≡ Update → ⊥) → (k ≡ Reset → ⊥) → (k ≡ Relocate → ⊥) → NewPieces (code k) 1
one_piece k r u s m = insert_piece ((((tt, not_remove k r), not_update k u), not_reset k s), not_relocate k m)

pub none_carried : (k : Kind) (n : ℕ) → (k ≡ Remove) ⊎ ((k ≡ Reset) ⊎ (k ≡ Relocate)) → NewBytes (code k) n 0
none_carried k n (inl e) = removal_bytes n (ap code e)
none_carried k n (inr (inl e)) = reset_bytes n (ap code e)
none_carried k n (inr (inr e)) = move_bytes n (ap code e)

pub all_carried : (k : Kind) (n : ℕ) → (k ≡ Remove → ⊥) → (k ≡ Reset → ⊥) → (k ≡ Relocate → ⊥) → NewBytes (code k) n n
all_carried k n r s m = text_bytes n (((tt, not_remove k r), not_reset k s), not_relocate k m)
