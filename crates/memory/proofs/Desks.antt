-- Laws of the desk that memory holds which many crates cite.
use Prim.Native.Nat.{ℕ, zero, suc, ◌+◌, ◌*◌, ◌^◌, ◌≤◌, ◌<◌}
use native.Mathlib.Omega.{arith}
use native.Mathlib.Decide.{ℕ_discrete, dec_le, dec_lt}
use mathlib.Core.Path.{◌≡◌, refl, sym, ap, ap₂, ◌∙◌}
use mathlib.Core.Bool.{true, false, not}
use mathlib.Core.List.{List, [], ◌∷◌, ◌++◌, map}
use mathlib.Core.Option.{none, some}
use lib.Dec.{leb, eqb}
use lib.ListN.{length, get_or, take, replicate, length-append, length-map, length-take, length-replicate, get_or-append}
use borrow.Author.Tests.{leb-true, eq-eqb, ne_eqb, le-leb, lt-leb, lt-ltb, le-ltb}
use Rattle.utf8.specs.Rfc3629.{utf8}
use Rattle.utf8.specs.Chars.{All, nil, cons}
use Rattle.utf8.proofs.CharLaws.{all_front, all_back}
use Rattle.memory_table.specs.Ring.{Each, Not}
use Rattle.memory_table.specs.Order.{entries, count_of}
use Rattle.memory_table.proofs.Order.{count_entries}
use Rattle.model.specs.Text.{Text, is_some}
use Rattle.model.specs.Chunk.{Chunk}
use Rattle.model.specs.MagicString.{MagicString}
use Rattle.model.specs.Limits.{Limits, full, within, piece_count, byte_count}
use Rattle.model.proofs.Lists.{and_left, and_right, first_of, all_snoc, bool-elim, no_tf}
use Rattle.memory_layout.specs.Layout.{NONE}
use Rattle.memory.specs.Layout.{Place, bytes_at, piece_at, tabulate, run_of, replacement_of, chunk_of, magic_string_of}
use Rattle.memory.specs.WellFormed.{limits_of, Sized, Full, Lengths, RunIn, times, among, replacement_uses, WellFormed}
use Rattle.memory.specs.Calls.{Same}

-- ── lists f 0, f 1, .. ──
module _ {A : Type 0} (f : ℕ → A) where
  pub length_tabulate : (n : ℕ) → length (tabulate f n) ≡ n
  length_tabulate zero = refl
  length_tabulate (suc n) = omega (arith, length-append (tabulate f n) (f n ∷ []), length_tabulate n)

module _ {A : Type 0} {P : A → Type 0} where
  pub all_tabulate : (g : ℕ → A) (n : ℕ) → ((k : ℕ) → k < n → P (g k)) → All P (tabulate g n)
  all_tabulate g zero h = nil
  all_tabulate g (suc n) h = all_snoc (all_tabulate g n (λ k l. h k (omega arith))) (h n (omega arith))

  pub tabulate_all : (g : ℕ → A) (n : ℕ) → All P (tabulate g n) → (k : ℕ) → k < n → P (g k)
  tabulate_all g zero p k h = absurd (omega arith)
  tabulate_all g (suc n) p k h =
      elim (ℕ_discrete k n) [
        | yes e ↦ rw e (first_of (all_back P (tabulate g n) (g n ∷ []) p))
        | no e ↦ tabulate_all g n (all_front P (tabulate g n) (g n ∷ []) p) k (omega arith)
      ]

-- ── of the rows of a list, and of what they map to ──
pub each_all : {A B : Type 0} {P : B → Type 0} (g : A → B) (xs : List A) → Each (λ x. P (g x)) xs → All P (map g xs)
each_all g [] e = nil
each_all g (x ∷ xs) e = cons e.0 (each_all g xs e.1)

-- ── runs and replacements ──
pub no_run : (p s : List ℕ) (a : ℕ) → run_of p s (a, 0) ≡ []
unfolding run_of
no_run p s a = refl

pub no_run_in : (p s : List ℕ) (a : ℕ) → RunIn p s (a, 0)
unfolding RunIn
no_run_in p s a k h = absurd (omega arith)

-- a row of the piece table, with more behind the table
pub piece_front : (p y : List ℕ) (j : ℕ) → j * 2 + 2 ≤ length p → piece_at (p ++ y) j ≡ piece_at p j
piece_front p y j h =
    ap₂ (λ (a b : ℕ). (a, b)) (get_or-append p y 0 (j * 2) (omega arith)) (get_or-append p y 0 (j * 2 + 1) (omega arith))

pub none_text : (s : List ℕ) (r : Place) → r.0 ≡ NONE → replacement_of s r ≡ none
unfolding replacement_of
none_text s r e = rw (eq-eqb r.0 NONE e)

pub some_text : (s : List ℕ) (r : Place) → (r.0 ≡ NONE → ⊥) → replacement_of s r ≡ some (bytes_at s r)
unfolding replacement_of
some_text s r n = rw (ne_eqb r.0 NONE n)

pub edited_is : (s : List ℕ) (r : Place) → is_some (replacement_of s r) ≡ not (eqb r.0 NONE)
unfolding replacement_of
edited_is s r = bool-elim (eqb r.0 NONE) (λ e. rw e) (λ e. rw e)

-- ── sizes and limits ──
-- on tables of the full sizes the limits are document 01's
pub limits_full : {t p s : List ℕ} → Full t p s → limits_of t p s ≡ full
limits_full z = rw (z.chunks, z.pieces, z.store)

pub full_sized : {t p s : List ℕ} → Full t p s → Sized t p s
full_sized z =
    record {
      whole_chunks = rw z.chunks;
      whole_pieces = rw z.pieces;
      some = omega (arith, z.chunks);
      chunks = omega (arith, z.chunks);
      pieces = omega (arith, z.pieces);
      store = omega (arith, z.store);
    }

pub full_as : {t p s t' p' s' : List ℕ} → Lengths t p s t' p' s' → Full t p s → Full t' p' s'
full_as l z = record { chunks = l.chunks ∙ z.chunks; pieces = l.pieces ∙ z.pieces; store = l.store ∙ z.store }

pub same_lengths : (t p s : List ℕ) → Lengths t p s t p s
same_lengths t p s = record { chunks = refl; pieces = refl; store = refl }

-- tables as long have the same limits, and are sized where the others are
pub limits_as : {t p s t' p' s' : List ℕ} → Lengths t p s t' p' s' → limits_of t' p' s' ≡ limits_of t p s
limits_as l = rw (l.chunks, l.pieces, l.store)

pub sized_as : {t p s t' p' s' : List ℕ} → Lengths t p s t' p' s' → Sized t p s → Sized t' p' s'
sized_as l z =
    record {
      whole_chunks = rw l.chunks z.whole_chunks;
      whole_pieces = rw l.pieces z.whole_pieces;
      some = rw l.chunks z.some;
      chunks = rw l.chunks z.chunks;
      pieces = rw l.pieces z.pieces;
      store = rw l.store z.store;
    }

-- what `within` counts, as numbers
pub record Keeps (k : Limits) (m : MagicString) : Type 0 where
  pub source : length m.source ≤ k.most_source
  pub chunks : length m.chunks ≤ k.most_chunks
  pub pieces : piece_count m ≤ k.most_pieces
  pub bytes : byte_count m ≤ k.most_bytes

pub keeps_within : {k : Limits} {m : MagicString} → Keeps k m → within k m ≡ true
unfolding within
keeps_within {k} {m} h =
    rw (
      le-leb (length m.source) k.most_source h.source,
      le-leb (length m.chunks) k.most_chunks h.chunks,
      le-leb (piece_count m) k.most_pieces h.pieces,
      le-leb (byte_count m) k.most_bytes h.bytes,
    )

pub within_keeps : (k : Limits) (m : MagicString) → within k m ≡ true → Keeps k m
unfolding within
within_keeps k m e =
    let r = and_right (leb (length m.source) k.most_source) _ e in
    let r2 = and_right (leb (length m.chunks) k.most_chunks) _ r in
    record {
      source = leb-true (length m.source) k.most_source (and_left _ _ e);
      chunks = leb-true (length m.chunks) k.most_chunks (and_left _ _ r);
      pieces = leb-true (piece_count m) k.most_pieces (and_left _ _ r2);
      bytes = leb-true (byte_count m) k.most_bytes (and_right (leb (piece_count m) k.most_pieces) _ r2);
    }

-- no limit is above document 01's: what keeps these keeps those, and what breaks those breaks these
module _ {t p s : List ℕ} (z : Sized t p s) (m : MagicString) where
  pub within_full : within (limits_of t p s) m ≡ true → within full m ≡ true
  within_full e =
      let k = within_keeps (limits_of t p s) m e in
      keeps_within
      (record {
        source = k.source;
        chunks = omega (arith, k.chunks, z.chunks);
        pieces = omega (arith, k.pieces, z.pieces);
        bytes = omega (arith, k.bytes, z.store);
      })

  pub past_full : within full m ≡ false → within (limits_of t p s) m ≡ false
  past_full e = bool-elim (within (limits_of t p s) m) (λ k. no_tf (sym (within_full k) ∙ e)) (λ k. k)

pub desk_full : {source t p s : List ℕ} → WellFormed source t p s → within full (magic_string_of source t p s) ≡ true
desk_full {source} {t} {p} {s} w = within_full w.sized (magic_string_of source t p s) w.desk.limits

-- the limits of a desk in memory, as numbers
pub keeps_desk : {source t p s : List ℕ} → WellFormed source t p s → Keeps (limits_of t p s) (magic_string_of source t p s)
keeps_desk {source} {t} {p} {s} w = within_keeps (limits_of t p s) (magic_string_of source t p s) w.desk.limits

-- ── the desk ──
pub desk_same : (source : List ℕ) {h h' t t' : List Text} {c c' : List Chunk} → h ≡ h' → t ≡ t' → c ≡ c'
    → ◌≡◌ {A = MagicString} (record { source = source; intro = h; outro = t; chunks = c }) (record { source = source; intro = h'; outro = t'; chunks = c' })
desk_same source e f g = rw (e, f, g)

pub chunks_of : (source t p s : List ℕ) → (magic_string_of source t p s).chunks ≡ map (chunk_of p s) (entries t)
unfolding magic_string_of
chunks_of source t p s = refl

pub chunk_count : (source t p s : List ℕ) → length (magic_string_of source t p s).chunks ≡ count_of t
unfolding magic_string_of
chunk_count source t p s = length-map (entries t) (chunk_of p s) ∙ count_entries t

pub source_of : (source t p s : List ℕ) → (magic_string_of source t p s).source ≡ source
unfolding magic_string_of
source_of source t p s = refl

pub valid_source : {source t p s : List ℕ} → WellFormed source t p s → utf8 source ≡ true
valid_source {source} {t} {p} {s} w = ap utf8 (sym (source_of source t p s)) ∙ w.desk.formed.source

pub short_source : {source t p s : List ℕ} → WellFormed source t p s → length source ≤ full.most_source
unfolding magic_string_of
short_source w = (keeps_desk w).source

pub narrow_source : {source t p s : List ℕ} → WellFormed source t p s → length source < 2 ^ 32
narrow_source w = omega (arith, short_source w)

pub all_same : (t p s : List ℕ) → Same t p s t p s
all_same t p s = record { chunks = refl; pieces = refl; store = refl }

-- ── counts ──
pub times_none : (i : ℕ) (xs : List ℕ) → Each (Not i) xs → times i xs ≡ 0
unfolding times
times_none i [] h = refl
times_none i (x ∷ xs) h = rw (ne_eqb x i h.0) (omega (arith, times_none i xs h.1))

pub among_in : (at n b : ℕ) → at ≤ b → b < at + n → among (at, n) b ≡ 1
unfolding among
among_in at n b h k = rw (le-leb at b h, lt-ltb b (at + n) k)

pub among_out : (at n b : ℕ) → (at ≤ b → b < at + n → ⊥) → among (at, n) b ≡ 0
unfolding among
among_out at n b h =
    elim (dec_le at b) [
      | yes k ↦ elim (dec_lt b (at + n)) [ yes l ↦ absurd (h k l) | no l ↦ rw (le-leb at b k, le-ltb b (at + n) (omega arith)) ]
      | no k ↦ rw (lt-leb at b (omega arith))
    ]

pub among_none : (at b : ℕ) → among (at, 0) b ≡ 0
among_none at b = among_out at 0 b (λ h k. omega arith)

pub no_uses : (b : ℕ) → replacement_uses b (NONE, 0) ≡ 0
unfolding replacement_uses
no_uses b = refl

-- ── a part of an array of zeros ──
pub zeros_length : (n k : ℕ) → k ≤ n → length {A = ℕ} (take {A = ℕ} k (replicate n 0)) ≡ k
zeros_length n k h = simp (length-take, length-replicate) (omega arith)

pub zeros_at : (n k b : ℕ) → get_or {A = ℕ} (take {A = ℕ} k (replicate n 0)) b 0 ≡ 0
zeros_at n zero b = refl
zeros_at zero (suc k) b = refl
zeros_at (suc n) (suc k) zero = refl
zeros_at (suc n) (suc k) (suc b) = zeros_at n k b
