-- The counts that `keeps` makes, and the limits.
use mathlib.Core.Path.{◌≡◌, refl, sym, ap, ◌∙◌, subst}
use mathlib.Core.Bool.{Bool, true, false, ◌&&◌}
use mathlib.Core.List.{List, [], ◌∷◌, ◌++◌, map, map-append}
use Prim.Native.Nat.{ℕ, suc, ◌+◌, ◌≤◌, ◌<◌, min}
use native.Mathlib.Omega.{arith}
use native.Mathlib.Decide.{dec_le}
use native.Mathlib.Numerals.{add-one}
use lib.Dec.{leb}
use lib.ListN.{length, drop, length-drop}
use lib.Seq.{length-take-le}
use borrow.Author.Tests.{le-leb, lt-leb, ne_eqb, eq-eqb}
use Rattle.memory_layout.specs.Layout.{PIECES, STORE_LEN, PIECES_PAST, BYTES_PAST, NONE}
use Rattle.utf8.specs.Chars.{All}
use Rattle.utf8.proofs.CharLaws.{all_back}
use Rattle.memory_table.specs.Order.{Entry, entry_at, entries, order, count_of}
use Rattle.model.specs.Text.{sum}
use Rattle.model.specs.Chunk.{Chunk}
use Rattle.model.specs.Limits.{within, chunk_pieces, chunk_bytes, piece_count, byte_count, replacement_bytes}
use Rattle.memory.specs.Layout.{Place, bytes_at, piece_at, tabulate, run_of, replacement_of, chunk_of, magic_string_of}
use Rattle.memory.specs.WellFormed.{limits_by, limits_of, Lengths, ReplacementIn, EntryIn, Readable}
use Rattle.memory.proofs.Desks.{chunk_count, same_lengths}
use Rattle.model.proofs.Lists.{no_tf, first_of, sum_snoc}
use Rattle.memory_texts.proofs.Texts.{run_length}
use Rattle.edit_rebuild.specs.Lay.{own}
use Rattle.edit_rebuild.specs.Rebuilt.{Rebuilt, Finished}
use Rattle.edit_scratch.specs.Written.{Written}

-- ── a run ──
-- the bytes of the first i texts of a run
abbrev pub first_bytes_of : List ℕ → List ℕ → ℕ → ℕ → ℕ
first_bytes_of p s at i = sum length (run_of p s (at, i))

pub bytes_none : (p s : List ℕ) (at : ℕ) → first_bytes_of p s at 0 ≡ 0
unfolding run_of
bytes_none p s at = refl

pub bytes_more : (p s : List ℕ) (at i : ℕ) → first_bytes_of p s at (i + 1) ≡ first_bytes_of p s at i + length (bytes_at s (piece_at p (at + i)))
unfolding run_of
bytes_more p s at i =
    ap (λ (n : ℕ). sum length (tabulate (λ k. bytes_at s (piece_at p (at + k))) n)) (add-one i)
    ∙ sum_snoc length (tabulate (λ k. bytes_at s (piece_at p (at + k))) i) (bytes_at s (piece_at p (at + i)))

-- a count that stops at c
pub capped_more : (c a x s s' : ℕ) → s ≡ min a c → s' ≡ min (s + x) c → s' ≡ min (a + x) c
capped_more c a x s s' e f = omega arith

-- ── a row ──
pub pieces_of : (p s : List ℕ) (e : Entry) → chunk_pieces (chunk_of p s e) ≡ e.intro.1 + e.outro.1
pieces_of p s e = omega (arith, run_length p s e.intro.0 e.intro.1, run_length p s e.outro.0 e.outro.1)

pub text_bytes : (s : List ℕ) (r : Place) → ReplacementIn s r → (r.0 ≡ NONE → ⊥) → replacement_bytes (replacement_of s r) ≡ r.1
unfolding replacement_of ReplacementIn
text_bytes s r h e = rw (ne_eqb r.0 NONE e) (length-take-le r.1 (drop r.0 s) (simp length-drop (omega (arith, h e))))

pub no_bytes : (s : List ℕ) (r : Place) → r.0 ≡ NONE → replacement_bytes (replacement_of s r) ≡ 0
unfolding replacement_of
no_bytes s r e = rw (eq-eqb r.0 NONE e)

-- ── the walk ──
-- pieces and bytes are those of the desk's own row and of the rows us, up to their limits
pub record CountOf (t p s : List ℕ) (pieces bytes : ℕ) (us : List ℕ) : Type 0 where
  pub pieces_are : pieces ≡ min (sum chunk_pieces (map (chunk_of p s) (own t ∷ map (entry_at t) us))) PIECES_PAST
  pub bytes_are : bytes ≡ min (sum chunk_bytes (map (chunk_of p s) (own t ∷ map (entry_at t) us))) BYTES_PAST

pub count_start : (t p s : List ℕ) (e : Entry) (pieces bytes : ℕ) → e ≡ own t → pieces ≡ min (0 + chunk_pieces (chunk_of p s e)) PIECES_PAST → bytes ≡ min (0 + chunk_bytes (chunk_of p s e)) BYTES_PAST
    → CountOf t p s pieces bytes []
count_start t p s e pieces bytes q f g =
    let a : chunk_pieces (chunk_of p s e) ≡ chunk_pieces (chunk_of p s (own t)) = ap (λ (x : Entry). chunk_pieces (chunk_of p s x)) q in
    let b : chunk_bytes (chunk_of p s e) ≡ chunk_bytes (chunk_of p s (own t)) = ap (λ (x : Entry). chunk_bytes (chunk_of p s x)) q in
    record { pieces_are = omega arith; bytes_are = omega arith }

-- the entry of a row that the walk meets
pub entry_in : {t p s : List ℕ} → Readable t p s → (us : List ℕ) (x : ℕ) (bs : List ℕ) → order t ≡ us ++ x ∷ bs → EntryIn p s (entry_at t x)
entry_in {t} {p} {s} h us x bs e =
    first_of (all_back (EntryIn p s) (map (entry_at t) us) (map (entry_at t) (x ∷ bs))
    (subst (All (EntryIn p s)) (ap (map (entry_at t)) e ∙ map-append (entry_at t) us (x ∷ bs)) h.chunks))

module _ {t p s us : List ℕ} {pieces bytes : ℕ} (x : ℕ) (c : CountOf t p s pieces bytes us) where
  more : (w : Chunk → ℕ) → sum w (map (chunk_of p s) (own t ∷ map (entry_at t) (us ++ (x ∷ [])))) ≡ sum w (map (chunk_of p s) (own t ∷ map (entry_at t) us)) + w (chunk_of p s (entry_at t x))
  more w =
      let e : map (chunk_of p s) (map (entry_at t) (us ++ (x ∷ []))) ≡ map (chunk_of p s) (map (entry_at t) us) ++ (chunk_of p s (entry_at t x) ∷ []) =
      ap (map (chunk_of p s)) (map-append (entry_at t) us (x ∷ [])) ∙ map-append (chunk_of p s) (map (entry_at t) us) (entry_at t x ∷ []) in
      rw e (sum_snoc w (chunk_of p s (own t) ∷ map (chunk_of p s) (map (entry_at t) us)) (chunk_of p s (entry_at t x)))

  pub count_more : {pieces' bytes' : ℕ} → pieces' ≡ min (pieces + chunk_pieces (chunk_of p s (entry_at t x))) PIECES_PAST → bytes' ≡ min (bytes + chunk_bytes (chunk_of p s (entry_at t x))) BYTES_PAST
      → CountOf t p s pieces' bytes' (us ++ (x ∷ []))
  count_more {pieces'} {bytes'} e f =
      record {
        pieces_are = capped_more PIECES_PAST _ _ pieces pieces' c.pieces_are e ∙ ap (λ (y : ℕ). min y PIECES_PAST) (sym (more chunk_pieces));
        bytes_are = capped_more BYTES_PAST _ _ bytes bytes' c.bytes_are f ∙ ap (λ (y : ℕ). min y BYTES_PAST) (sym (more chunk_bytes));
      }

-- ── the limits ──
pub too_many : (t p s : List ℕ) (c x y : ℕ) → c < count_of t → false ≡ within (limits_by c x y) (magic_string_of [] t p s)
unfolding within magic_string_of
too_many t p s c x y h = rw (lt-leb (length (map (chunk_of p s) (entries t))) c (omega (arith, chunk_count [] t p s)))

leb_min : (x c d : ℕ) → d ≤ c → leb (min x (suc c)) d ≡ leb x d
leb_min x c d k = elim (dec_le x d) [ yes h ↦ rw (le-leb x d h, le-leb (min x (suc c)) d (omega arith)) | no h ↦ rw (lt-leb x d (omega arith), lt-leb (min x (suc c)) d (omega arith)) ]

-- where all rows are counted
module _ {t p s : List ℕ} {pieces bytes : ℕ} (c : CountOf t p s pieces bytes (order t)) where
  pub pieces_all : pieces ≡ min (piece_count (magic_string_of [] t p s)) PIECES_PAST
  unfolding magic_string_of
  pieces_all = c.pieces_are

  pub bytes_all : bytes ≡ min (byte_count (magic_string_of [] t p s)) BYTES_PAST
  unfolding magic_string_of replacement_of
  bytes_all = c.bytes_are ∙ ap (λ (x : ℕ). min x BYTES_PAST) (omega arith)

module _ {t p s : List ℕ} {pieces bytes mc mp mb : ℕ} (c : CountOf t p s pieces bytes (order t)) (few : count_of t ≤ mc) (hp : mp ≤ PIECES) (hb : mb ≤ STORE_LEN) where
  within_is : within (limits_by mc mp mb) (magic_string_of [] t p s) ≡ (leb pieces mp && leb bytes mb)
  unfolding within magic_string_of
  within_is =
      let a : leb pieces mp ≡ leb (piece_count (magic_string_of [] t p s)) mp = ap (λ (x : ℕ). leb x mp) (pieces_all c) ∙ leb_min (piece_count (magic_string_of [] t p s)) PIECES mp hp in
      let b : leb bytes mb ≡ leb (byte_count (magic_string_of [] t p s)) mb = ap (λ (x : ℕ). leb x mb) (bytes_all c) ∙ leb_min (byte_count (magic_string_of [] t p s)) STORE_LEN mb hb in
      rw (a, b, le-leb (length (map (chunk_of p s) (entries t))) mc (omega (arith, chunk_count [] t p s)))

  pub few_pieces : pieces ≤ mp → leb bytes mb ≡ within (limits_by mc mp mb) (magic_string_of [] t p s)
  few_pieces h = sym (within_is ∙ rw (le-leb pieces mp h))

  pub many_pieces : mp < pieces → leb pieces mp ≡ within (limits_by mc mp mb) (magic_string_of [] t p s)
  many_pieces h = lt-leb pieces mp h ∙ sym (within_is ∙ rw (lt-leb pieces mp h))

-- counts that stop at c, one after another
pub two_counts : (c a x y r s z : ℕ) → r ≡ min (a + x) c → s ≡ min (r + y) c → z ≡ x + y → s ≡ min (a + z) c
two_counts c a x y r s z e f g = omega arith

pub three_counts : (c a x y w r s u v : ℕ) → r ≡ min (a + x) c → s ≡ min (r + y) c → u ≡ min (s + w) c → v ≡ w → u ≡ min (a + (x + y + v)) c
three_counts c a x y w r s u v e f g h = omega arith

-- ── the end of every edit ──
pub finish_fits : {t p s t₀ p₀ s₀ t' p' s' : List ℕ} {r c : ℕ} → within (limits_of t₀ p₀ s₀) (magic_string_of [] t p s) ≡ true → Lengths t₀ p₀ s₀ t' p' s'
    → Rebuilt t p s t' p' s' → Finished t p s t₀ p₀ s₀ t' p' s' r c r c
finish_fits e l d = record { lengths = l; fits = λ _. (refl, d); breaks = λ f. no_tf (sym e ∙ f); cuts = λ _. refl; no_cuts = λ f. no_tf (sym e ∙ f) }

pub finish_breaks : {t p s t' p' s' : List ℕ} {r c : ℕ} → within (limits_of t' p' s') (magic_string_of [] t p s) ≡ false → Finished t p s t' p' s' t' p' s' r c 13 0
finish_breaks {t' = t'} {p'} {s'} e =
    record {
      lengths = same_lengths t' p' s';
      fits = λ f. no_tf (sym f ∙ e);
      breaks = λ _. (refl, record { chunks = refl; pieces = refl; store = refl });
      cuts = λ f. no_tf (sym f ∙ e);
      no_cuts = λ _. refl;
    }

-- the same, by whether the desk was written
module _ {t p s t₀ p₀ s₀ t' p' s' : List ℕ} {b : Bool} {r c : ℕ} (w : Written t p s t₀ p₀ s₀ t' p' s' b) where
  pub finish_written : b ≡ true → Finished t p s t₀ p₀ s₀ t' p' s' r c r c
  finish_written e = finish_fits (sym w.keeps ∙ e) w.lengths (w.rebuilt e)

  pub finish_unwritten : b ≡ false → Finished t p s t₀ p₀ s₀ t' p' s' r c 13 0
  finish_unwritten e = let a = w.same e in rw (a.chunks, a.pieces, a.store) (finish_breaks (sym w.keeps ∙ e))
