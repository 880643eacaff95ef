-- The bytes of source that a desk's chunks show. A trim writes new bytes for such a chunk alone, which then has a replacement; so they bound what it writes.
use Rattle.std.specs.Prelude.{cond, ℕ, ◌-◌, ◌≤◌, eqb}
use Rattle.std.proofs.Math.Option.{Option, none, some}
use Rattle.memory_table.specs.Order.{Entry}
use Rattle.model.specs.Text.{Text, sum}
use Rattle.model.specs.Chunk.{Chunk, start_of, end_of}
use Rattle.model.specs.MagicString.{MagicString}
use Rattle.memory_layout.specs.Layout.{NONE}
use Rattle.memory.specs.Layout.{Place}
use Rattle.memory_texts.specs.Low.{TextLow}

-- the width of a span whose chunk has no replacement
abbrev pub plain_or : Option Text → ℕ → ℕ
plain_or none n = n
plain_or (some t) n = 0

abbrev pub plain : Chunk → ℕ
plain c = plain_or c.texts.edited_content (end_of c - start_of c)

abbrev pub plain_bytes : MagicString → ℕ
plain_bytes m = sum plain m.chunks

-- the same of a row
abbrev pub plain_of : Entry → ℕ
plain_of e = cond (eqb e.text.0 NONE) (e.end - e.start) 0

-- the least byte that lies behind a byte and behind a replacement
pub record Behind (byte : ℕ) (x : Place) (b : ℕ) : Type 0 where
  pub least : byte ≤ b
  pub text : TextLow b x
  pub most : (z : ℕ) → byte ≤ z → TextLow z x → b ≤ z
