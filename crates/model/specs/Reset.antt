-- reset.rs
use Rattle.std.specs.Prelude.{ℕ, cond, ltb, eqb, length}
use Rattle.model.specs.Chunk.{reset_texts}
use Rattle.model.specs.MagicString.{MagicString, Result, ok, err}
use Rattle.model.specs.Frozen.{Guard}
use Rattle.model.specs.Movement.{change_range}

-- `reset`: zero width is a no-op, 4, 10, cuts, 20, then chunks by position lose pieces and replacement
unfoldable pub reset : Guard → ℕ → ℕ → MagicString → Result
reset g start end m =
    cond (eqb start end) (ok m)
    (cond (ltb end start) (err 4 m)
    (cond (ltb (length m.source) end) (err 10 m)
    (change_range g reset_texts start end m)))
