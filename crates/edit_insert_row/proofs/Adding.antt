-- The row read, its run lengthened, and the row written.
use mathlib.Core.Path.{◌≡◌, sym, ap, ◌∙◌, subst}
use mathlib.Core.Bool.{Bool}
use mathlib.Core.List.{List}
use Prim.Native.Nat.{ℕ, suc, ◌+◌}
use native.Mathlib.Omega.{arith}
use native.Mathlib.Numerals.{add-one}
use Rattle.memory_table.specs.declared.Row.{Row}
use Rattle.memory_table.specs.declared.Piece.{Piece}
use Rattle.memory_table.specs.Table.{row_at, Put}
use Rattle.memory_table.specs.Order.{entry_of, entry_at}
use Rattle.memory_table.specs.Sides.{side, with_side}
use Rattle.memory.specs.Layout.{Place}
use Rattle.edit_room_above.specs.Run.{TopRoom, Lengthened}
use Rattle.edit_insert_row.specs.Added.{RowAdded}

module _ (outro : Bool) (t : List ℕ) (i : ℕ) (r : Row) (run : Piece) (er : r ≡ row_at t i) (eu : (run.at, run.n) ≡ side outro (entry_of r)) where
  -- the run that is read is the row's
  run_is : ◌≡◌ {A = Place} (run.at, run.n) (side outro (entry_at t i))
  run_is = eu ∙ ap (λ (y : Row). side outro (entry_of y)) er

  pub room_read : {p : List ℕ} {row : ℕ} → TopRoom (side outro (entry_at t i)) p row → TopRoom (run.at, run.n) p row
  room_read {p} {row} h = subst (λ (x : Place). TopRoom x p row) (sym run_is) h

  pub row_added : (front : Bool) (y : Place) (row : ℕ) {p p' t' : List ℕ} (first : ℕ) {x : Row} → Lengthened front y (run.at, run.n) row p p' first
      → x ≡ with_side outro (first, run.n + 1) r → Put t t' i x → RowAdded outro front y row t p t' p' i (first + (run.n + 1))
  row_added front y row {p} {p'} {t'} first d e w =
      let n : run.n ≡ (side outro (entry_at t i)).1 = ap (λ (z : Place). z.1) run_is in
      let m : run.n + 1 ≡ suc (side outro (entry_at t i)).1 = add-one run.n ∙ ap suc n in
      record {
        first = first;
        longer = subst (λ (z : Place). Lengthened front y z row p p' first) run_is d;
        put = subst (Put t t' i) (e ∙ ap (with_side outro (first, run.n + 1)) er ∙ ap (λ (k : ℕ). with_side outro (first, k) (row_at t i)) m) w;
        above_is = omega arith;
      }
