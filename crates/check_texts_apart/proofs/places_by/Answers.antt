use Rattle.check_texts_apart.proofs.Places.{places_decided}
use Rattle.check_texts_apart.proofs.places_by.Goals as goal

pub returns : goal.returns
returns c = places_decided _ _ _ _ _ _ _ c.args.n c.requires.by_index _ c.mark_rows.ensures
