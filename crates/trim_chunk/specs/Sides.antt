-- A trim of one chunk, from either end: the pieces on the near side, the content, the pieces on the far side.
use Rattle.std.specs.Prelude.{Bool, true, false, ℕ}
use Rattle.model.specs.Text.{Text}
use Rattle.model.specs.Chunk.{Chunk}
use Rattle.model.specs.Trim.{Trimmed, trim_chunk_start, trim_chunk_end}

-- the turn of `trim_start_aborted` (from the front) or `trim_end_aborted` at one chunk
abbrev pub trim_chunk : Bool → ℕ → Text → Chunk → Trimmed
trim_chunk true p source c = trim_chunk_start p source c
trim_chunk false p source c = trim_chunk_end p source c
