-- The limits of a desk with so much taken off them are the limits with so much more on the desk.
use Prim.Native.Nat.{ℕ, ◌+◌, ◌*◌, ◌-◌, ◌≤◌, ◌<◌}
use mathlib.Core.Path.{◌≡◌, sym, ap, ap₂, ◌∙◌}
use mathlib.Core.Bool.{Bool, false, ◌&&◌, and-false}
use mathlib.Core.List.{List, [], ◌++◌, map-append}
use lib.Dec.{leb}
use lib.ListN.{length, length-append, length-map}
use borrow.Author.Tests.{le-leb, lt-leb}
use native.Mathlib.Omega.{arith}
use native.Mathlib.Decide.{dec_le}
use Rattle.model.specs.Text.{sum}
use Rattle.model.specs.Limits.{Limits, within, piece_count, byte_count}
use Rattle.model.specs.MagicString.{MagicString}
use Rattle.model.specs.Call.{Edit}
use Rattle.model.proofs.Lists.{sum_append}
use Rattle.model_sheet.specs.Record.{Recorded}
use Rattle.model_sheet.specs.Sheet.{call_of, recorded_calls}
use Rattle.model_join.specs.Tests.{new_pieces, new_bytes, has_space}
use Rattle.memory.specs.Layout.{magic_string_of}
use Rattle.memory.specs.WellFormed.{limits_by, limits_of}
use Rattle.join_space.specs.Space.{NeededBy, Needed, Reckoned, Spaced}
use Rattle.join_space.specs.declared.Needs.{Needs}

-- what is taken off a limit
taken_off : (x n k : ℕ) → n ≤ k → leb x (k - n) ≡ leb (x + n) k
taken_off x n k h =
    elim (dec_le (x + n) k) [
      | yes q ↦ le-leb x (k - n) (omega arith) ∙ sym (le-leb (x + n) k q)
      | no q ↦ lt-leb x (k - n) (omega arith) ∙ sym (lt-leb (x + n) k (omega arith))
    ]

-- three tests, one of them false
first_false : (a b c : Bool) → a ≡ false → false ≡ a && (b && c)
first_false a b c e = rw e

second_false : (a b c : Bool) → b ≡ false → false ≡ a && (b && c)
second_false a b c e = rw e (sym (and-false a))

third_false : (a b c : Bool) → c ≡ false → false ≡ a && (b && c)
third_false a b c e = rw e (sym (ap (λ x. a && x) (and-false b) ∙ and-false a))

module _ (t p s : List ℕ) (n : Needs) where
  abbrev desk : MagicString
  desk = magic_string_of [] t p s

  abbrev k : Limits
  k = limits_of t p s

  abbrev chunks_fit : Bool
  chunks_fit = leb (length desk.chunks + 3 * n.calls) k.most_chunks

  abbrev pieces_fit : Bool
  pieces_fit = leb (piece_count desk + n.pieces) k.most_pieces

  abbrev bytes_fit : Bool
  bytes_fit = leb (byte_count desk + n.bytes) k.most_bytes

  -- more calls, pieces or bytes than a limit leaves to any desk
  pub no_chunks : k.most_chunks < 3 * n.calls → Reckoned t p s n false
  no_chunks h = first_false chunks_fit pieces_fit bytes_fit (lt-leb (length desk.chunks + 3 * n.calls) k.most_chunks (omega arith))

  pub no_pieces : k.most_pieces < n.pieces → Reckoned t p s n false
  no_pieces h = second_false chunks_fit pieces_fit bytes_fit (lt-leb (piece_count desk + n.pieces) k.most_pieces (omega arith))

  pub no_bytes : k.most_bytes < n.bytes → Reckoned t p s n false
  no_bytes h = third_false chunks_fit pieces_fit bytes_fit (lt-leb (byte_count desk + n.bytes) k.most_bytes (omega arith))

  -- else the desk is judged by what they leave
  pub left_over : {b : Bool} {x y z : ℕ} → 3 * n.calls ≤ k.most_chunks → n.pieces ≤ k.most_pieces → n.bytes ≤ k.most_bytes
      → x ≡ k.most_chunks - 3 * n.calls → y ≡ k.most_pieces - n.pieces → z ≡ k.most_bytes - n.bytes
      → b ≡ within (limits_by x y z) desk → Reckoned t p s n b
  unfolding within magic_string_of
  left_over h₁ h₂ h₃ e₁ e₂ e₃ e =
      let chunks = taken_off (length desk.chunks) (3 * n.calls) k.most_chunks h₁ in
      let pieces = taken_off (piece_count desk) n.pieces k.most_pieces h₂ in
      let bytes = taken_off (byte_count desk) n.bytes k.most_bytes h₃ in
      rw (e₁, e₂, e₃) at e ∙ ap₂ (λ u v. u && v) chunks (ap₂ (λ u v. u && v) pieces bytes)

-- ── both lists ──
needed_both : {l l' : List Recorded} {x y : Needs} → NeededBy l x → NeededBy l' y
    → NeededBy (l ++ l') (record { calls = x.calls + y.calls; pieces = x.pieces + y.pieces; bytes = x.bytes + y.bytes })
needed_both {l} {l'} f g =
    record {
      calls = omega (arith, f.calls, g.calls, length-append l l');
      pieces = ap₂ (λ u v. u + v) f.pieces g.pieces ∙ sym (sum_both new_pieces l l');
      bytes = ap₂ (λ u v. u + v) f.bytes g.bytes ∙ sym (sum_both new_bytes l l');
    }
  where
    sum_both : (f : Edit → ℕ) (l l' : List Recorded) → sum f (recorded_calls (l ++ l')) ≡ sum f (recorded_calls l) + sum f (recorded_calls l')
    sum_both f l l' = ap (sum f) (map-append call_of l l') ∙ sum_append f (recorded_calls l) (recorded_calls l')

-- what is reckoned with the needs of both is the model's
pub both_spaced : (t p s first second : List ℕ) {x y : Needs} {b : Bool} → Needed first x → Needed second y
    → Reckoned t p s (record { calls = x.calls + y.calls; pieces = x.pieces + y.pieces; bytes = x.bytes + y.bytes }) b
    → Spaced t p s first second b
unfolding has_space magic_string_of
both_spaced t p s first second {x} {y} f g e source l l' q q' =
    let n = needed_both (f.are l q) (g.are l' q') in
    let calls : x.calls + y.calls ≡ length (recorded_calls (l ++ l')) = n.calls ∙ sym (length-map (l ++ l') call_of) in
    let all : recorded_calls (l ++ l') ≡ recorded_calls l ++ recorded_calls l' = map-append call_of l l' in
    e ∙ rw (calls, n.pieces, n.bytes, all)
