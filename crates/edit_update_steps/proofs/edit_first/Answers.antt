use mathlib.Core.Path.{refl}
use Rattle.memory_texts.proofs.Over.{put_back}
use Rattle.edit_update_steps.proofs.edit_first.Goals as goal

pub returns : goal.returns
returns c =
    let edited = c.edited in
    let put = c.put in
    record {
      row = c.edited.result;
      edited = rw c.get_row-c.ensures at c.edited.ensures;
      put = c.put_row.ensures;
      store = put_back c.args.s.now c.args.text.now _ _ c.args.byte c.requires.text_in_bounds c.put.ensures refl;
    }
