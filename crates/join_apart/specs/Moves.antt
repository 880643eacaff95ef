-- The move of a list, and what it must spare.
use Rattle.std.specs.Prelude.{ℕ, ◌≡◌, Bool, true, false, List, [], ◌∷◌, ◌++◌, Some, None}
use Rattle.std.specs.Prelude.{Option as Answer}
use Rattle.std.proofs.Math.Option.{Option, none, some}
use Rattle.model.specs.Text.{all}
use Rattle.model.specs.Call.{Edit, relocate}
use Rattle.model_sheet.specs.Sheet.{call_of}
use Rattle.model_sheet.specs.Record.{Recorded, records}
use Rattle.model_sheet.specs.Sheet.{recorded_calls}
use Rattle.model_join.specs.Tests.{is_move, free_of}
use Rattle.join_apart.specs.declared.moves.Move.{Move}

-- the first move of a list
unfoldable pub first_move : List Edit → Option Edit
first_move [] = none
first_move (e ∷ L) = elim (is_move e) [ true ↦ some e | false ↦ first_move L ]

-- a move, if there is one, has no position strictly inside the range that an edit replaces
abbrev pub spared : Option Edit → Edit → Bool
spared none e = true
spared (some x) e = free_of x e

-- ── what the functions answer of lists of bytes that are records ──
abbrev pub edit_of : Move → Edit
edit_of m = relocate m.a m.b m.c

abbrev pub move_of : Answer Move → Option Edit
move_of (Some m) = some (edit_of m)
move_of None = none

abbrev pub FindsMove : List ℕ → Answer Move → Type 0
FindsMove s r = (l : List Recorded) → records s ≡ some l → move_of r ≡ first_move (recorded_calls l)

abbrev pub FindsFirst : List ℕ → List ℕ → Answer Move → Type 0
FindsFirst first second r =
    (l l' : List Recorded) → records first ≡ some l → records second ≡ some l' → move_of r ≡ first_move (recorded_calls l ++ recorded_calls l')

-- a record is spared by a move
abbrev pub SparesRecord : Recorded → Move → Bool → Type 0
SparesRecord e m r = r ≡ free_of (edit_of m) (call_of e)

-- every record of a list is spared by a move
abbrev pub Spares : List ℕ → Move → Bool → Type 0
Spares s m r = (l : List Recorded) → records s ≡ some l → r ≡ all (free_of (edit_of m)) (recorded_calls l)

abbrev pub MovesFree : List ℕ → List ℕ → Bool → Type 0
MovesFree first second r =
    (l l' : List Recorded) → records first ≡ some l → records second ≡ some l'
    → r ≡ all (spared (first_move (recorded_calls l ++ recorded_calls l'))) (recorded_calls l ++ recorded_calls l')
