-- Laws of what `Walk` in specs/ defines.
use mathlib.Core.Path.{◌≡◌, refl}
use mathlib.Core.Bool.{true}
use mathlib.Core.List.{List, [], ◌∷◌}
use Prim.Native.Nat.{ℕ}
use Rattle.memory_table.specs.Order.{Entry}
use Rattle.model.specs.Text.{Text}
use Rattle.model.specs.Chunk.{Chunk}
use Rattle.model.specs.Slice.{contains_end, slice_rest}
use Rattle.memory.specs.Layout.{chunk_of}
use Rattle.report_slice_chunk.specs.Given.{holds_end}
use Rattle.report_slice_walk.specs.Walk.{slice_walk}

pub contains_is : (p s : List ℕ) (e : Entry) (end : ℕ) → contains_end (chunk_of p s e) end ≡ holds_end e.start e.end end
unfolding contains_end
contains_is p s e end = refl

pub walk_rest : (source : Text) (end : ℕ) (cs : List Chunk) → slice_rest source end cs ≡ slice_walk source true 0 end cs
walk_rest source end [] = refl
walk_rest source end (c ∷ cs) = refl
