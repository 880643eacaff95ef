-- What the same call on two memories that differ in nothing but marks shows and leaves: what all calls share.
use Prim.Native.Nat.{ℕ}
use mathlib.Core.Path.{◌≡◌, sym, ap, ◌∙◌}
use mathlib.Core.List.{List, ◌++◌}
use lib.ListN.{length, drop}
use Rattle.model.specs.MagicString.{MagicString}
use Rattle.model.specs.Call.{Shown}
use Rattle.memory.specs.Layout.{magic_string_of}
use Rattle.memory.specs.WellFormed.{WellFormed}
use Rattle.memory.proofs.Desks.{full_as}
use Rattle.filed_exported.specs.Sittings.{Lent}
use Rattle.filed_member.specs.Calls.{Seen, SameDesk, SameFiled, SameLengths}
use Rattle.filed_member.specs.Claim.{Alike, SameButMarks}
use Rattle.filed_member.proofs.Desks.{alike_as}

-- the desk in memory over a source, and that it is well formed
abbrev pub desk_of : List ℕ → Lent → MagicString
desk_of source M = magic_string_of source M.chunks M.pieces M.store

abbrev pub Formed : List ℕ → Lent → Type 0
Formed source M = WellFormed source M.chunks M.pieces M.store

-- the member sees the same, and the memories still differ in nothing but marks
pub record Goes (x x' : Seen) (N N' : Lent) : Type 0 where
  pub seen : x ≡ x'
  pub left : SameButMarks N N'

pub seen_same : {x x' : Seen} → x.number ≡ x'.number → x.value ≡ x'.value → x.buffer ≡ x'.buffer → x ≡ x'
seen_same n v b = λ i. record { number = n i; value = v i; buffer = b i }

-- the number and the value that are shown, and what is written at the front of the buffer, with what was behind it
abbrev Shows : List ℕ → Shown → Seen → Type 0
Shows out s x = (x.number ≡ s.number) × (x.value ≡ s.value) × (x.buffer ≡ s.written ++ drop (length s.written) out)

pub shown_same : (out : List ℕ) {s s' : Shown} {x x' : Seen} → s ≡ s' → Shows out s x → Shows out s' x' → x ≡ x'
shown_same out e o o' =
    seen_same (o.0 ∙ ap (λ (s : Shown). s.number) e ∙ sym o'.0) (o.1 ∙ ap (λ (s : Shown). s.value) e ∙ sym o'.1)
    (o.2 ∙ ap (λ (s : Shown). s.written ++ drop (length s.written) out) e ∙ sym o'.2)

-- ── the memories after a call ──
abbrev pub DesksAlike : Lent → Lent → Type 0
DesksAlike M M' = Alike M.chunks M.pieces M.store M'.chunks M'.pieces M'.store

-- a desk, beside the record of another memory
abbrev pub desk_beside : Lent → Lent → Lent
desk_beside N M = record { chunks = N.chunks; pieces = N.pieces; store = N.store; words = M.words; bytes = M.bytes }

module _ (M M' N N' : Lent) where
  -- which is the memory itself where the record is as it was
  pub left_beside : SameFiled M N → SameFiled M' N' → SameButMarks (desk_beside N M) (desk_beside N' M') → SameButMarks N N'
  left_beside f f' m =
      let is : N ≡ desk_beside N M = λ i. record { chunks = N.chunks; pieces = N.pieces; store = N.store; words = f.words i; bytes = f.bytes i } in
      let is' : N' ≡ desk_beside N' M' = λ i. record { chunks = N'.chunks; pieces = N'.pieces; store = N'.store; words = f'.words i; bytes = f'.bytes i } in
      rw (is, is') m

  -- the records are as they were, beside equal desks
  pub beside : SameButMarks M M' → DesksAlike N N' → SameFiled M N → SameFiled M' N' → SameButMarks N N'
  beside m d f f' =
      left_beside f f' (record { desk = d; entries = m.entries; entries' = m.entries'; are = m.are; are' = m.are'; agree = m.agree; kept = m.kept })

  -- nothing is changed
  pub stays : SameButMarks M M' → SameDesk M N → SameFiled M N → SameDesk M' N' → SameFiled M' N' → SameButMarks N N'
  stays m d f d' f' = beside m (alike_as m.desk d d') f f'

  -- 2, and nothing is changed
  pub refuses : (x x' : Seen) → SameButMarks M M' → (x.number ≡ 2) × (x.value ≡ 0) × SameDesk M N → (x'.number ≡ 2) × (x'.value ≡ 0) × SameDesk M' N'
      → x.buffer ≡ x'.buffer → SameFiled M N → SameFiled M' N' → Goes x x' N N'
  refuses x x' m o o' b f f' = record { seen = seen_same (o.0 ∙ sym o'.0) (o.1 ∙ sym o'.1) b; left = stays m o.2 f o'.2 f' }

  -- equal desks over a source, in tables as long as before
  pub now_alike : (source : List ℕ) → SameButMarks M M' → SameLengths M N → SameLengths M' N' → Formed source N → Formed source N' → desk_of source N ≡ desk_of source N'
      → DesksAlike N N'
  now_alike source m l l' w w' e =
      record {
        source = source;
        holds = record { full = full_as l m.desk.holds.full; well_formed = w };
        holds' = record { full = full_as l' m.desk.holds'.full; well_formed = w' };
        desk = e;
      }
