-- Document 02, L10: the output place of a byte of the source. The Rust has no such call: this is a plain walk over the chunks in list order.
use Rattle.std.specs.Prelude.{ℕ, ◌+◌, ◌-◌, Bool, true, false, ◌&&◌, List, [], ◌∷◌, ltb, leb, length}
use Rattle.std.proofs.Math.Option.{Option, none, some}
use Rattle.model.specs.Text.{Text, sum}
use Rattle.model.specs.Chunk.{Chunk, start_of, end_of, fragments}
use Rattle.model.specs.MagicString.{MagicString}

-- whether a chunk's span has the byte i
abbrev pub has_byte : Chunk → ℕ → Bool
has_byte c i = leb (start_of c) i && ltb i (end_of c)

-- "or 'replaced' if its chunk has a replacement", an empty one too
abbrev pub unless_replaced : Option Text → ℕ → Option ℕ
unless_replaced none at = some at
unless_replaced (some t) at = none

-- along the chunks, with the length of the output before them: in its own chunk a byte stands behind the intro and the bytes of the span before it
abbrev pub place_from : Text → ℕ → ℕ → List Chunk → Option ℕ
place_from source i before [] = none
place_from source i before (c ∷ cs) =
    elim (has_byte c i) [
      | true ↦ unless_replaced c.texts.edited_content (before + (sum length c.texts.intro + (i - start_of c)))
      | false ↦ place_from source i (before + sum length (fragments source c)) cs
    ]

-- "gives each source byte its output place": none if it is replaced, or if the source has no such byte
unfoldable pub place : MagicString → ℕ → Option ℕ
place m i = place_from m.source i (sum length m.intro) m.chunks
