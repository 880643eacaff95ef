-- What `trim_text`'s laws of a number and its pattern give for a desk.
use mathlib.Core.Path.{◌≡◌, ap, ◌∙◌}
use mathlib.Core.Bool.{Bool, true, false}
use mathlib.Core.List.{List}
use Prim.Native.Nat.{ℕ, min}
use Rattle.memory.specs.Layout.{magic_string_of}
use Rattle.model.specs.MagicString.{MagicString}
use Rattle.model.specs.Trim.{trim_start, trim_end}
use Rattle.trim_run.proofs.Numbers.{same_deque}
use Rattle.trim_chunks.proofs.Numbers.{same_step}
use Rattle.trim_steps.specs.Model.{trim_side, trim_sides}
use Rattle.trim_steps.specs.Both.{SidesTrimmed}

module _ (number p : ℕ) (e : p ≡ min number 1) where
  pub same_side : (front : Bool) (m : MagicString) → trim_side front p m ≡ trim_side front number m
  unfolding trim_start trim_end
  same_side true m = rw (same_deque number p e true m.intro, same_step number p e true m.source)
  same_side false m = rw (same_deque number p e false m.outro, same_step number p e false m.source)

  pub same_sides : (both front : Bool) (m : MagicString) → trim_sides both front p m ≡ trim_sides both front number m
  same_sides true front m = ap (trim_end p) (same_side front m) ∙ same_side false (trim_side front number m)
  same_sides false front m = same_side front m

  pub same_steps : (both front : Bool) (source t ps s t' ps' s' : List ℕ) (row byte : ℕ)
      → SidesTrimmed both front p source t ps s t' ps' s' row byte → SidesTrimmed both front number source t ps s t' ps' s' row byte
  same_steps both front source t ps s t' ps' s' row byte h =
      record {
        low = h.low;
        row_in = h.row_in;
        byte_in = h.byte_in;
        desk = h.desk ∙ same_sides both front (magic_string_of source t ps s);
        rows_len = h.rows_len;
        pieces_len = h.pieces_len;
        store_len = h.store_len;
        each = h.each;
        apart = h.apart;
      }
