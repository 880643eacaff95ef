-- What `is_range_within_edited_chunk` tells: whether any chunk of the list is edited and holds the range.
use mathlib.Core.Path.{◌≡◌, refl, ap, sym, ◌∙◌}
use mathlib.Core.Bool.{Bool, ◌&&◌}
use mathlib.Core.List.{List, [], ◌∷◌, map}
use Prim.Native.Nat.{ℕ}
use lib.Dec.{leb}
use Rattle.std.specs.List.{list_any}
use Rattle.memory_table.specs.Order.{Entry, entries}
use Rattle.model.specs.Text.{any}
use Rattle.model.specs.Chunk.{Chunk, start_of, end_of, is_edited}
use Rattle.model.specs.MagicString.{is_range_within_edited_chunk}
use Rattle.model.specs.Call.{show, value_of, bit, is_range_within_edited_chunk as IsRange}
use Rattle.memory.specs.Layout.{magic_string_of, chunk_of}
use Rattle.memory.specs.Calls.{Told}
use Rattle.memory.proofs.Desks.{edited_is}
use Rattle.memory_fragments.proofs.Telling.{told_value}
use Rattle.report_edited_range.specs.Within.{within}

abbrev holding : ℕ → ℕ → Chunk → Bool
holding start end c = (leb (start_of c) start && leb end (end_of c)) && is_edited c

any_is : (p s : List ℕ) (start end : ℕ) (es : List Entry) → any (holding start end) (map (chunk_of p s) es) ≡ list_any (λ (e : Entry). within e start end) es
any_is p s start end [] = refl
any_is p s start end (e ∷ es) =
    let here : holding start end (chunk_of p s e) ≡ within e start end = ap (λ (b : Bool). (leb e.start start && leb end e.end) && b) (edited_is s e.text) in
    rw (here, any_is p s start end es) refl

pub range_told : (source t p s : List ℕ) (start end : ℕ) (b : Bool) → b ≡ list_any (λ (e : Entry). within e start end) (entries t)
    → Told (IsRange start end) (magic_string_of source t p s) [] [] 0 (bit b)
unfolding show magic_string_of is_range_within_edited_chunk
range_told source t p s start end b e =
    told_value (IsRange start end) (magic_string_of source t p s) (bit b) (ap (λ (x : Bool). value_of (bit x)) (any_is p s start end (entries t) ∙ sym e))
