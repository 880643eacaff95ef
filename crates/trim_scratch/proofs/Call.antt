-- Laws of what `Call` in specs/ defines.
use mathlib.Core.Path.{◌≡◌, refl, sym, ap, ◌∙◌, subst}
use mathlib.Core.Bool.{Bool}
use mathlib.Core.List.{List, [], ◌++◌}
use Prim.Native.Nat.{ℕ, ◌+◌, ◌*◌, ◌≤◌}
use native.Mathlib.Omega.{arith}
use lib.ListN.{length, drop, length-append, length-drop}
use Rattle.memory_layout.specs.Layout.{PIECES, PIECE_ROWS, STORE_LEN}
use Rattle.utf8.specs.Chars.{All, nil, cons}
use Rattle.memory_table.specs.Order.{Entry, count_of}
use Rattle.model.specs.MagicString.{MagicString, ok}
use Rattle.model.specs.Limits.{full, piece_count}
use Rattle.model.specs.WellFormed as model
use Rattle.memory.specs.Layout.{Place, magic_string_of}
use Rattle.memory.specs.WellFormed.{RunIn, ReplacementIn, EntryIn, Readable, WellFormed}
use Rattle.memory.proofs.Desks.{piece_front, chunk_count, within_keeps, desk_full, short_source}
use Rattle.memory_used.specs.Below.{Below}
use Rattle.edit_rebuild.specs.Rebuilt.{Finished}
use Rattle.edit_scratch.specs.Loaded.{Loaded}
use Rattle.edit_scratch.specs.Tables.{Scratch}
use Rattle.edit_scratch.proofs.Tables.{loaded_readable, loaded_desk, with_scratch_desk, ran_finished, may_write_0}
use Rattle.memory_texts.specs.Low.{EntryLow, DeskLow}
use Rattle.trim_chunk.specs.Plain.{plain_bytes}
use Rattle.trim_steps.specs.Model.{trim_sides}
use Rattle.trim_steps.specs.Side.{SideReady}
use Rattle.trim_steps.specs.Both.{SidesReady, SidesTrimmed}
use Rattle.trim_steps.proofs.Both.{sides_ready, trimmed_readable}
use Rattle.trim_scratch.proofs.Counts.{plain_small, trim_sides_chunks}
use Rattle.trim_scratch.specs.Call.{Wide, TrimRan}

-- ---- what is read from the front of the tables lies below its end

module _ (p s y : List ℕ) (row byte : ℕ) (lp : length p ≤ row * 2) (ls : length s ≤ byte) where
  run_low : (r : Place) → RunIn p s r → Below (p ++ y) byte row r
  unfolding RunIn
  run_low r h k g =
      let e = ap (λ (x : Place). x.0 + x.1) (piece_front p y (r.0 + k) (h k g).row) in
      (omega (arith, (h k g).row), omega (arith, (h k g).text, e))

  entry_low : (e : Entry) → EntryIn p s e → EntryLow (p ++ y) row byte e
  unfolding ReplacementIn
  entry_low e h =
      record { runs = record { intro = run_low e.intro h.runs.intro; outro = run_low e.outro h.runs.outro }; text = λ n. omega (arith, h.replacement n) }

  entries_low : {es : List Entry} → All (EntryIn p s) es → All (EntryLow (p ++ y) row byte) es
  entries_low nil = nil
  entries_low (cons {x = e} h k) = cons (entry_low e h) (entries_low k)

  pub desk_low : (t : List ℕ) → Readable t p s → DeskLow t (p ++ y) row byte
  desk_low t h =
      record { linked = h.linked; desk = record { intro = run_low _ h.desk.intro; outro = run_low _ h.desk.outro }; chunks = entries_low h.chunks }

-- ---- counts of a desk in tables

pub plain_of : {source t p s : List ℕ} → WellFormed source t p s → plain_bytes (magic_string_of source t p s) ≤ length source
unfolding magic_string_of
plain_of {source} {t} {p} {s} w = plain_small (magic_string_of source t p s) w.desk.formed

pub pieces_any : (source t p s : List ℕ) → piece_count (magic_string_of source t p s) ≡ piece_count (magic_string_of [] t p s)
unfolding magic_string_of
pieces_any source t p s = refl

-- ---- the loaded desk

module _ {source t p s t₀ p₀ s₀ t1 p1 s1 : List ℕ} (w : WellFormed source t p s) (f : Scratch t₀ p₀ s₀) (b : Wide p₀ s₀) (d : Loaded t p s t₀ p₀ s₀ t1 p1 s1) where
  wide : Wide p1 s1
  wide =
      record {
        pieces = ap length d.pieces ∙ simp (length-append, length-drop) (omega (arith, w.sized.pieces, b.pieces));
        store = ap length d.store ∙ simp (length-append, length-drop) (omega (arith, w.sized.store, b.store));
      }

  loaded_is : magic_string_of source t1 p1 s1 ≡ magic_string_of source t p s
  loaded_is = with_scratch_desk w f d t1 (loaded_readable w f d) ∙ loaded_desk w f d

  loaded_side : SideReady source t1 p1 s1 PIECE_ROWS PIECES STORE_LEN
  loaded_side =
      record {
        low =
            subst (λ (x : List ℕ). DeskLow t1 x PIECE_ROWS STORE_LEN) (sym d.pieces)
            (desk_low p s (drop (length p) p₀) PIECE_ROWS STORE_LEN w.sized.pieces w.sized.store t1 (loaded_readable w f d));
        formed = subst model.Formed (sym loaded_is) w.desk.formed;
        few = subst (λ (x : MagicString). piece_count x ≤ PIECES) (sym loaded_is) (omega (arith, pieces_any source t p s, (within_keeps full (magic_string_of source t p s) (desk_full w)).pieces));
        rows = omega (arith, wide.pieces);
        narrow = omega (arith, wide.pieces);
        bytes = omega (arith, ap plain_bytes loaded_is, plain_of w, short_source w, wide.store);
        small = omega (arith, wide.store);
      }

  pub loaded_ready : SidesReady source t1 p1 s1 PIECE_ROWS STORE_LEN
  loaded_ready = sides_ready loaded_side (omega (arith, wide.pieces))

-- ---- the call, for each of the trims

module _ {both front : Bool} {pattern : ℕ} {source t p s t₀ p₀ s₀ t1 p1 s1 t2 p2 s2 t' p' s' : List ℕ} {r c row byte : ℕ} (w : WellFormed source t p s)
    (f : Scratch t₀ p₀ s₀) (d : Loaded t p s t₀ p₀ s₀ t1 p1 s1)
    (x : SidesTrimmed both front pattern source t1 p1 s1 t2 p2 s2 row byte) (y : Finished t2 p2 s2 t p s t' p' s' 0 0 r c) where
  pub trim_ran : TrimRan both front pattern source t p s t' p' s' r c
  trim_ran e h q i =
      let k : magic_string_of source t1 p1 s1 ≡ magic_string_of source t p s = with_scratch_desk w f d t1 (loaded_readable w f d) ∙ loaded_desk w f d in
      let z : count_of t2 ≡ count_of t + 0 =
      omega (
        arith,
        chunk_count source t2 p2 s2,
        chunk_count source t p s,
        ap (λ (m : MagicString). length m.chunks) x.desk,
        trim_sides_chunks both front pattern (magic_string_of source t1 p1 s1),
        ap (λ (m : MagicString). length m.chunks) k,
      ) in
      ran_finished w h (record { readable = trimmed_readable x; result = q ∙ ap ok (ap (trim_sides both front pattern) (sym k) ∙ sym x.desk); cuts = z }) (may_write_0 e i) y
