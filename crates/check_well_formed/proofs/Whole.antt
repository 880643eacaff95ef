-- How the parts of the check make the whole.
use mathlib.Core.Path.{◌≡◌, sym}
use Rattle.std.specs.Prelude.{Option, Some, None}
use mathlib.Core.Bool.{true}
use mathlib.Core.List.{List, []}
use Prim.Native.Nat.{ℕ, ◌+◌, ◌*◌, ◌/◌, ◌≤◌}
use native.Mathlib.Omega.{arith}
use lib.ListN.{length}
use Rattle.memory_layout.specs.Layout.{PIECE_ROOM}
use Rattle.utf8.specs.Rfc3629.{utf8}
use Rattle.memory_table.specs.Order.{entry_at, count_of, Linked}
use Rattle.memory.specs.WellFormed.{WellFormed}
use Rattle.memory_used.specs.declared.Used.{Used}
use Rattle.memory_used.specs.Above.{Above}
use Rattle.memory_used.proofs.Below.{run_below, entry_below}
use Rattle.check_texts_apart.specs.Places.{Placed, Counted}
use Rattle.check_texts_valid.specs.Valid.{TextsValid}
use Rattle.check_well_formed.specs.Seen.{Sees}
use Rattle.check_well_formed.proofs.Chunks.{all_entries}
use Rattle.check_well_formed.specs.Rows.{Shaped, Chunked, Pieced}
use Rattle.check_well_formed.proofs.Bridge.{count_is, rows_formed, formed_rows}

-- ── what is seen ──
module _ (t p s : List ℕ) where
  -- what was asked may be said in another way
  pub sees_by : {P Q : Type 0} → (P → Q) → (Q → P) → (r : Option Used) → Sees P t p s r → Sees Q t p s r
  sees_by f g None n = λ q. n (g q)
  sees_by f g (Some u) x = (f x.0, x.1)

  -- a bound above runs and texts is one of what the desk uses
  pub above_is : {n : ℕ} {u : Used} → Linked t → n ≡ count_of t → Counted t p n (length s) u → u.pieces ≤ length p / PIECE_ROOM → Above t p s u
  above_is {n} {u} l e c few =
      let hr : u.row * 2 ≤ length p = omega (arith, c.row) in
      let b = rw e at c.below in
      record {
        pieces = rw (count_is [] t p s l) (omega (arith, rw e at c.pieces));
        few = few;
        readable = record {
          linked = l;
          desk = record {
            intro = run_below p s u.byte u.row hr c.byte (entry_at t 0).intro b.desk.0;
            outro = run_below p s u.byte u.row hr c.byte (entry_at t 0).outro b.desk.1;
          };
          chunks = all_entries t l (λ k h. entry_below p s u.byte u.row hr c.byte (entry_at t (k + 1)) (b.chunks k h));
        };
        row = hr;
        byte = c.byte;
      }

  pub pieced_yes : {n : ℕ} {u : Used} → Linked t → n ≡ count_of t → Placed t p n (length s) → Counted t p n (length s) u → u.pieces ≤ length p / PIECE_ROOM → TextsValid t p s n
      → Pieced t p s × Above t p s u
  pieced_yes l e x c few v = (record { count = rw (sym e) (omega (arith, c.pieces)); placed = rw e at x; texts = rw e at v }, above_is l e c few)

  pub formed_sees : (source : List ℕ) → Shaped source t p s → utf8 source ≡ true → Chunked source t → (r : Option Used) → Sees (Pieced t p s) t p s r → Sees (WellFormed source t p s) t p s r
  formed_sees source z u c r =
      sees_by (λ y. rows_formed source t p s (record { shaped = z; text = u; chunked = c; pieced = y })) (λ w. (formed_rows source t p s w).pieced) r
