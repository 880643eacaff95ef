-- What `trim_text`'s laws of a number and its pattern give for the chunks.
use mathlib.Core.Path.{◌≡◌, ap, ◌∙◌, fun_ext}
use mathlib.Core.Bool.{Bool}
use mathlib.Core.List.{List, map}
use Prim.Native.Nat.{ℕ, min}
use Rattle.memory_table.specs.Order.{entries}
use Rattle.memory.specs.Layout.{chunk_of}
use Rattle.model.specs.Text.{Text}
use Rattle.model.specs.Chunk.{Chunk}
use Rattle.model.specs.Trim.{Trimmed, trim_chunks}
use Rattle.trim_chunk.proofs.Numbers.{same_chunk}
use Rattle.trim_chunk.specs.Sides.{trim_chunk}
use Rattle.trim_chunks.specs.Sums.{way}
use Rattle.trim_chunks.specs.Walk.{ChunksTrimmed}

module _ (number p : ℕ) (e : p ≡ min number 1) where
  pub same_step : (front : Bool) (source : Text) → trim_chunk front p source ≡ trim_chunk front number source
  same_step front source = fun_ext (same_chunk number p e front source)

  pub same_chunks : (front : Bool) (source ps s : List ℕ) (top wide byte : ℕ) (t ps' s' t' : List ℕ) (row b : ℕ)
      → ChunksTrimmed front p source ps s top wide byte t ps' s' t' row b → ChunksTrimmed front number source ps s top wide byte t ps' s' t' row b
  same_chunks front source ps s top wide byte t ps' s' t' row b h =
      record {
        linked = h.linked;
        place = h.place;
        desk = h.desk;
        len = h.len;
        rows = h.rows;
        bytes = h.bytes;
        first = h.first;
        most = h.most;
        least = h.least;
        low = h.low;
        spent = h.spent;
        apart = h.apart;
        chunks = h.chunks ∙ ap (λ (f : Chunk → Trimmed). way front (trim_chunks f (way front (map (chunk_of ps s) (entries t))))) (same_step front source);
      }
