-- `carry::push_piece` meets its contract.
use Rattle.memory_texts.proofs.Over.{put_back, two_sets}
use mathlib.Core.Path.{refl, ◌∙◌}
use native.Mathlib.Omega.{arith}
use Rattle.memory_copy.proofs.push_piece.Goals as goal

pub returns : goal.returns
returns c =
    record {
      store_is = put_back _ _ _ _ _ c.requires.bytes_in c.put.ensures refl;
      pieces_is = c.set_piece.ensures ∙ two_sets _ _ _ _ (omega (arith, c.requires.row_in));
      byte_is = refl;
    }
