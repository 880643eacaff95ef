-- `small_tables::lay` meets its contract: the small tables keep their lengths, so that they fit and can be counted.
use Rattle.edit_small_tables.proofs.Trying.{fits_as, rebuilt_usable}
use Rattle.edit_small_tables.proofs.lay.Goals as goal

pub live-requires : goal.live-requires
live-requires c = let fits = fits_as (record { chunks = c.rebuild.auto.chunks; pieces = c.rebuild.auto.pieces; store = c.rebuild.auto.store }) c.requires.fits in let u = rebuilt_usable c.rebuild.ensures fits in record { readable = u.readable; s_value = u.within_is; sized = u.sized }

pub returns : goal.returns
returns c =
    let fits = fits_as (record { chunks = c.rebuild.auto.chunks; pieces = c.rebuild.auto.pieces; store = c.rebuild.auto.store }) c.requires.fits in
    record { rebuilt = c.rebuild.ensures; fits = fits; above = c.live.ensures }
