-- `add_text` meets its contract: the text lies in the store before the row names it.
use mathlib.Core.Path.{refl}
use Rattle.memory_texts.proofs.Over.{put_back}
use Rattle.edit_insert_row.proofs.add_text.Goals as goal

pub returns : goal.returns
returns c = record { store_is = put_back _ _ _ _ _ c.requires.text_room.bytes_in c.put.ensures refl; added = c.add_row.ensures }
