-- Laws of what `Piece` in specs/ defines.
use mathlib.Core.Path.{◌≡◌, ap, ◌∙◌}
use mathlib.Core.Bool.{Bool, true, false}
use mathlib.Core.List.{List}
use Prim.Native.Nat.{ℕ}
use native.Mathlib.Omega.{arith}
use lib.ListN.{length, drop, length-append, length-drop}
use Rattle.memory_layout.specs.Layout.{INSERT_PIECES_LEN, INSERT_STORE_LEN}
use Rattle.memory_table.specs.Order.{Entry}
use Rattle.memory_table.specs.Sides.{side}
use Rattle.memory.specs.WellFormed.{RunIn, WellFormed, RunsIn}
use Rattle.edit_scratch.specs.Loaded.{Loaded}
use Rattle.edit_insert_side.specs.Piece.{Spare, LongScratch}

pub side_in : (outro : Bool) {p s : List ℕ} (e : Entry) → RunsIn p s e → RunIn p s (side outro e)
side_in true e h = h.outro
side_in false e h = h.intro

pub loaded_spare : {source t p s t₀ p₀ s₀ t1 p1 s1 : List ℕ} → WellFormed source t p s → LongScratch t₀ p₀ s₀ → Loaded t p s t₀ p₀ s₀ t1 p1 s1 → Spare p s p1 s1
loaded_spare {p = p} {s = s} {p₀ = p₀} {s₀ = s₀} {p1 = p1} {s1 = s1} w f d =
    let lp : length p1 ≡ INSERT_PIECES_LEN = ap length d.pieces ∙ simp (length-append, length-drop) (omega (arith, w.sized.pieces, f.pieces)) in
    let ls : length s1 ≡ INSERT_STORE_LEN = ap length d.store ∙ simp (length-append, length-drop) (omega (arith, w.sized.store, f.store)) in
    record {
      behind = drop (length p) p₀;
      after = drop (length s) s₀;
      pieces = d.pieces;
      store = d.store;
      lent_pieces = w.sized.pieces;
      lent_store = w.sized.store;
      rows_room = omega arith;
      bytes_room = omega arith;
      rows_narrow = omega arith;
      narrow = omega arith;
    }
