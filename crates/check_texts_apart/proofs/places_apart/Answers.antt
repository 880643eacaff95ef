use mathlib.Core.Path.{refl}
use Prim.Native.Nat.{◌/◌}
use lib.ListN.{length}
use Rattle.check_texts_apart.proofs.Places.{fresh_marks, fresh_clear}
use Rattle.check_texts_apart.proofs.places_apart.Goals as goal

pub places_by-requires-clause-markable : goal.places_by-requires-clause-markable
places_by-requires-clause-markable c = fresh_marks _ c.requires.pieces_len_bound c.requires.size_bound refl

pub places_by-requires-clause-by_index : goal.places_by-requires-clause-by_index
places_by-requires-clause-by_index c = fresh_clear (length c.args.pieces.now / 2)
