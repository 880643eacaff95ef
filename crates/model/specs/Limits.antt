-- Document 01's desk limits, and what of a desk they count.
use Rattle.std.specs.Prelude.{ℕ, ◌+◌, Bool, ◌&&◌, leb, length}
use Rattle.std.proofs.Math.Option.{Option, none, some}
use Rattle.model.specs.Text.{Text, sum}
use Rattle.model.specs.Chunk.{Chunk}
use Rattle.model.specs.MagicString.{MagicString}

-- a parameter everywhere
pub record Limits : Type 0 where
  pub most_source : ℕ
  pub most_chunks : ℕ
  pub most_pieces : ℕ
  pub most_bytes : ℕ

-- "source 16,384; chunks 512; head, tail, intro and outro pieces together 1,024, empty ones counted; bytes in pieces and replacements together 32,768 (the store)"
abbrev pub full : Limits
full = record { most_source = 16384; most_chunks = 512; most_pieces = 1024; most_bytes = 32768 }

abbrev pub chunk_pieces : Chunk → ℕ
chunk_pieces c = length c.texts.intro + length c.texts.outro

abbrev pub replacement_bytes : Option Text → ℕ
replacement_bytes none = 0
replacement_bytes (some t) = length t

abbrev pub chunk_bytes : Chunk → ℕ
chunk_bytes c = (sum length c.texts.intro + sum length c.texts.outro) + replacement_bytes c.texts.edited_content

abbrev pub piece_count : MagicString → ℕ
piece_count m = (length m.intro + length m.outro) + sum chunk_pieces m.chunks

-- the bytes that the store holds for the desk
abbrev pub byte_count : MagicString → ℕ
byte_count m = (sum length m.intro + sum length m.outro) + sum chunk_bytes m.chunks

-- "These are counts of what the desk now holds"
unfoldable pub within : Limits → MagicString → Bool
within k m =
    leb (length m.source) k.most_source
    && (leb (length m.chunks) k.most_chunks && (leb (piece_count m) k.most_pieces && leb (byte_count m) k.most_bytes))
