-- The steps of an insertion at a position, or into the head or the tail.
use Rattle.std.specs.Prelude.{◌≡◌, Bool, false, not, List, [], ◌∷◌, ◌⊎◌, ℕ}
use Rattle.memory_table.specs.Ring.{Each}
use Rattle.memory_table.specs.Order.{entry_at, order}
use Rattle.model.specs.Text.{Text}
use Rattle.model.specs.MagicString.{MagicString, Result, ok}
use Rattle.model.specs.Insert.{insert, insert_step}
use Rattle.memory_list.specs.Find.{meets, First}
use Rattle.edit_insert_side.specs.declared.Spot.{Spot}
use Rattle.edit_insert_side.specs.declared.Spot.TheVariants.{At, Whole}
use Rattle.edit_insert_side.specs.Insertion.{whole_add, key_of}

-- left or right of q; or the whole desk's tail or head
abbrev pub adding : Spot → Bool → Text → MagicString → Result
adding (At q left) front t m = insert q t left front m
adding (Whole outro) front t m = ok (whole_add outro front t m)

-- the cut, and what is behind it
abbrev pub cuts_at : Spot → List ℕ
cuts_at (At q left) = q ∷ []
cuts_at (Whole outro) = []

abbrev pub piece_step : Spot → Bool → Text → MagicString → Result
piece_step (At q left) front t m = insert_step q t left front m
piece_step (Whole outro) front t m = ok (whole_add outro front t m)

-- row i has the piece in its outro, or in its intro
abbrev pub RowFor : Spot → List ℕ → ℕ → Bool → Type 0
RowFor (At q left) t i outro =
    (First (meets (key_of left) q) t i × (outro ≡ left)) ⊎ (Each (λ x. meets (key_of left) q (entry_at t x) ≡ false) (order t) × (i ≡ 0) × (outro ≡ not left))
RowFor (Whole o) t i outro = (i ≡ 0) × (outro ≡ o)
