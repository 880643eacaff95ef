-- What an edit reaches, as places in a row: place 0 is the head, place p + 1 is byte p, place n + 1 is the tail, and place n + 2 stands for the move. Two edits are apart exactly
-- if they have no place in common.
use Rattle.std.specs.Prelude.{ℕ, ◌+◌, ◌-◌, Bool, ◌&&◌, List, leb}
use Rattle.model.specs.Text.{all, sum}
use Rattle.model.specs.Call.{Edit, positions}
use Rattle.model_join.specs.Tests.{Zone, bytes, head_zone, tail_zone, no_zone, zone, is_wide}
use Rattle.memory.specs.Layout.{Place}
use Rattle.memory.specs.WellFormed.{among}

-- the stretch of places of a reach, over a source of n bytes
abbrev pub stretch : ℕ → Zone → Place
stretch n (bytes a b) = (a + 1, b - a)
stretch n head_zone = (0, 1)
stretch n tail_zone = (n + 1, 1)
stretch n no_zone = (n + 2, 1)

unfoldable pub place_of : ℕ → Edit → Place
place_of n e = stretch n (zone n e)

-- how many edits of a list take a place
abbrev pub taken : ℕ → List Edit → ℕ → ℕ
taken n L b = sum (λ e. among (place_of n e) b) L

-- width and positions of an edit are right
unfoldable pub fits_in : ℕ → Edit → Bool
fits_in n e = is_wide e && all (λ p. leb p n) (positions e)
