-- The pass of `live`: a run, a row, and all rows so far.
use mathlib.Core.Path.{◌≡◌, refl, sym, subst}
use mathlib.Core.Bool.{true}
use mathlib.Core.List.{List, [], ◌∷◌, ◌++◌, map, map-append}
use Prim.Native.Nat.{ℕ, suc, ◌+◌, ◌*◌, ◌-◌, ◌≤◌, ◌<◌, min, max}
use native.Mathlib.Omega.{arith}
use native.Mathlib.Decide.{ℕ_discrete, dec_lt}
use lib.ListN.{length}
use Rattle.memory_layout.specs.Layout.{PIECES, PIECES_PAST, BYTES_PAST, NONE}
use Rattle.utf8.specs.Chars.{All, nil, cons}
use Rattle.memory_table.specs.Order.{Entry, entry_at, order}
use Rattle.model.proofs.Lists.{first_of, rest_of, all_snoc}
use Rattle.model.specs.Limits.{within, chunk_pieces, chunk_bytes, piece_count}
use Rattle.memory.specs.Layout.{Place, piece_at, chunk_of, magic_string_of}
use Rattle.memory.specs.WellFormed.{limits_of, Sized, RunIn, ReplacementIn, Readable}
use Rattle.memory.proofs.Desks.{within_keeps}
use Rattle.memory_texts.proofs.Texts.{run_piece}
use Rattle.memory_used.specs.Below.{Below, EntryBelow}
use Rattle.edit_rebuild.specs.Lay.{own}
use Rattle.edit_scratch.proofs.Counting.{CountOf, count_start, count_more, pieces_all, pieces_of, two_counts}
use Rattle.memory_used.specs.declared.Used.{Used}
use Rattle.memory_used.specs.Above.{Above}
use Rattle.memory_used.proofs.Below.{entry_below, entries_below}
use Rattle.edit_room_above.specs.Live.{LiveIn, TopRow, RunLive, EntryLive}

-- ── a run ──
-- i pieces of the run are passed
pub record RunAt (p s : List ℕ) (at n : ℕ) (c : Used) (i byte : ℕ) : Type 0 where
  pub below : (k : ℕ) → k < i → (piece_at p (at + k)).0 + (piece_at p (at + k)).1 ≤ byte
  pub grows : c.byte ≤ byte
  pub inside : byte ≤ length s

pub run_start : (p s : List ℕ) (at n : ℕ) (c : Used) → LiveIn p s c → RunAt p s at n c 0 c.byte
run_start p s at n c h = record { below = λ k g. absurd (omega arith); grows = omega arith; inside = h.byte }

pub run_more : {p s : List ℕ} {at n : ℕ} {c : Used} {i byte : ℕ} (e byte' : ℕ) → RunIn p s (at, n) → RunAt p s at n c i byte → i < n
    → e ≡ (piece_at p (at + i)).0 + (piece_at p (at + i)).1 → byte' ≡ max byte e → RunAt p s at n c (i + 1) byte'
run_more {p} {s} {at} {n} {c} {i} {byte} e byte' h r g ee em =
    let q = run_piece p s at n i h g in
    record {
      below = λ k l.
          elim (dec_lt k i) [
            | yes u ↦ omega (arith, r.below k u)
            | no u ↦ subst (λ (j : ℕ). (piece_at p (at + j)).0 + (piece_at p (at + j)).1 ≤ byte') (same i k l u) (omega arith)
          ];
      grows = omega (arith, r.grows);
      inside = omega (arith, r.inside, q.text);
    }
  where
    same : (i k : ℕ) → k < i + 1 → (k < i → ⊥) → i ≡ k
    same i k l u = omega arith

pub below_of : {p s : List ℕ} {at n : ℕ} {c : Used} {i byte row row' : ℕ} → RunAt p s at n c i byte → n ≤ i → TopRow at n row row' → Below p byte row' (at, n)
below_of r g t k h = (omega (arith, t.some (λ e. omega arith)), r.below k (omega arith))

row_up : (p s : List ℕ) (at n row row' : ℕ) → RunIn p s (at, n) → row * 2 ≤ length p → TopRow at n row row' → (row ≤ row') × (row' * 2 ≤ length p)
row_up p s at n row row' h l t =
    elim (ℕ_discrete n 0) [
      | yes e ↦ let a = t.none e in (omega arith, omega arith)
      | no e ↦
          let a = t.some e in
          let q = (run_piece p s at n (n - 1) h (omega arith)).row in
          (omega arith, omega arith)
    ]

pub run_end : {p s : List ℕ} {at n : ℕ} {c : Used} {i byte pieces row : ℕ} → RunIn p s (at, n) → LiveIn p s c → RunAt p s at n c i byte → n ≤ i → pieces ≡ min (c.pieces + n) PIECES_PAST
    → TopRow at n c.row row → RunLive p s (at, n) c (record { pieces = pieces; row = row; byte = byte })
run_end {p} {s} {at} {n} {c} {i} {byte} {pieces} {row} h l r g ep t =
    let u = row_up p s at n c.row row h l.row t in
    record {
      pieces = ep;
      below = below_of r g t;
      row_grows = u.0;
      byte_grows = r.grows;
      inside = record { pieces = omega arith; row = u.1; byte = r.inside };
    }

-- ── a row ──
text_in : (s : List ℕ) (r : Place) → ReplacementIn s r → (r.0 ≡ NONE → ⊥) → r.0 + r.1 ≤ length s
unfolding ReplacementIn
text_in s r h e = h e

below_up : (p : List ℕ) (byte row byte' row' : ℕ) (x : Place) → Below p byte row x → row ≤ row' → byte ≤ byte' → Below p byte' row' x
below_up p byte row byte' row' x h a b k g = (omega (arith, (h k g).0), omega (arith, (h k g).1))

module _ {p s : List ℕ} (e : Entry) {c a b : Used} (x : RunLive p s e.intro c a) (y : RunLive p s e.outro a b) where
  two_runs : b.pieces ≡ min (c.pieces + chunk_pieces (chunk_of p s e)) PIECES_PAST
  two_runs = two_counts PIECES_PAST c.pieces e.intro.1 e.outro.1 a.pieces b.pieces (chunk_pieces (chunk_of p s e)) x.pieces y.pieces (pieces_of p s e)

  pub entry_none : e.text.0 ≡ NONE → EntryLive p s e c b
  entry_none h =
      record {
        pieces = two_runs;
        below = record { intro = below_up p a.byte a.row b.byte b.row e.intro x.below y.row_grows y.byte_grows; outro = y.below; text = λ n. absurd (n h) };
        row_grows = omega (arith, x.row_grows, y.row_grows);
        byte_grows = omega (arith, x.byte_grows, y.byte_grows);
        inside = y.inside;
      }

  pub entry_some : (byte : ℕ) → (e.text.0 ≡ NONE → ⊥) → ReplacementIn s e.text → byte ≡ max b.byte (e.text.0 + e.text.1)
      → EntryLive p s e c (record { pieces = b.pieces; row = b.row; byte = byte })
  entry_some byte h r em =
      let q = text_in s e.text r h in
      record {
        pieces = two_runs;
        below =
            record {
              intro = below_up p a.byte a.row byte b.row e.intro x.below y.row_grows (omega (arith, y.byte_grows));
              outro = below_up p b.byte b.row byte b.row e.outro y.below (omega arith) (omega arith);
              text = λ n. omega arith;
            };
        row_grows = omega (arith, x.row_grows, y.row_grows);
        byte_grows = omega (arith, x.byte_grows, y.byte_grows);
        inside = record { pieces = y.inside.pieces; row = y.inside.row; byte = omega (arith, y.inside.byte) };
      }

-- ── the walk ──
-- the counts of `keeps`, whose bytes no one needs here
pub record LiveOf (t p s : List ℕ) (d : Used) (us : List ℕ) : Type 0 where
  pub bytes : ℕ
  pub counts : CountOf t p s d.pieces bytes us
  pub below : All (EntryBelow p d.byte d.row) (own t ∷ map (entry_at t) us)
  pub inside : LiveIn p s d

abbrev pub no_use : Used
no_use = record { pieces = 0; row = 0; byte = 0 }

pub none_in : (p s : List ℕ) → LiveIn p s no_use
none_in p s = record { pieces = omega arith; row = omega arith; byte = omega arith }

pub live_start : (t p s : List ℕ) (e : Entry) (c : Used) → e ≡ own t → EntryLive p s e no_use c → LiveOf t p s c []
live_start t p s e c q l =
    record {
      bytes = min (0 + chunk_bytes (chunk_of p s e)) BYTES_PAST;
      counts = count_start t p s e c.pieces (min (0 + chunk_bytes (chunk_of p s e)) BYTES_PAST) q l.pieces refl;
      below = cons (subst (EntryBelow p c.byte c.row) q l.below) nil;
      inside = l.inside;
    }

entry_up : {p : List ℕ} {byte row byte' row' : ℕ} (e : Entry) → EntryBelow p byte row e → row ≤ row' → byte ≤ byte' → EntryBelow p byte' row' e
entry_up {p} {byte} {row} {byte'} {row'} e h a b =
    record { intro = below_up p byte row byte' row' e.intro h.intro a b; outro = below_up p byte row byte' row' e.outro h.outro a b; text = λ n. omega (arith, h.text n) }

entries_up : {p : List ℕ} {byte row byte' row' : ℕ} {es : List Entry} → All (EntryBelow p byte row) es → row ≤ row' → byte ≤ byte' → All (EntryBelow p byte' row') es
entries_up nil a b = nil
entries_up (cons {x = e} h k) a b = cons (entry_up e h a b) (entries_up k a b)

pub live_more : {t p s us : List ℕ} {c d : Used} (x : ℕ) → LiveOf t p s c us → EntryLive p s (entry_at t x) c d → LiveOf t p s d (us ++ (x ∷ []))
live_more {t} {p} {s} {us} {c} {d} x h l =
    record {
      bytes = min (h.bytes + chunk_bytes (chunk_of p s (entry_at t x))) BYTES_PAST;
      counts = count_more x h.counts l.pieces refl;
      below =
          cons (first_of (entries_up h.below l.row_grows l.byte_grows))
          (subst (All (EntryBelow p d.byte d.row)) (sym (map-append (entry_at t) us (x ∷ []))) (all_snoc (rest_of (entries_up h.below l.row_grows l.byte_grows)) l.below));
      inside = l.inside;
    }

-- ── the end ──
capped_all : (c a s : ℕ) → s ≡ min a (suc c) → a ≤ c → s ≡ a
capped_all c a s e h = omega arith

pub live_end : {t p s : List ℕ} {c : Used} → LiveOf t p s c (order t) → Readable t p s → within (limits_of t p s) (magic_string_of [] t p s) ≡ true → Sized t p s → Above t p s c
live_end {t} {p} {s} {c} l h w z =
    let f = within_keeps (limits_of t p s) (magic_string_of [] t p s) w in
    let pe = capped_all PIECES (piece_count (magic_string_of [] t p s)) c.pieces (pieces_all l.counts) (omega (arith, f.pieces, z.pieces)) in
    let b = l.below in
    let hr = l.inside.row in
    let hb = l.inside.byte in
    let o = entry_below p s c.byte c.row hr hb (own t) (first_of b) in
    record {
      pieces = omega (arith, pe);
      few = omega (arith, pe, f.pieces);
      readable =
          record {
            linked = h.linked;
            desk = record { intro = o.runs.intro; outro = o.runs.outro };
            chunks = entries_below p s c.byte c.row hr hb (rest_of b);
          };
      row = hr;
      byte = hb;
    }
