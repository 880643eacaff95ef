-- `join_alone::accepted` meets its contract: the copy is the desk, in tables as long, so that the call's number there is the model's.
use Rattle.sheet_records.specs.Found.{recorded}
use mathlib.Core.Path.{sym, subst, ◌∙◌}
use Rattle.join_alone.specs.Alone.{AcceptedOn}
use Rattle.edit_small_tables.proofs.Trying.{laid_desk}
use Rattle.join_alone.proofs.Copy.{copy_fits, lengths_on, copy_accepted, accepted_is}
use Rattle.join_alone.proofs.accepted.Goals as goal

pub lay-used-requires : goal.lay-used-requires
lay-used-requires c = let f = copy_fits c.requires.well_formed c.requires.lengths in record { readable = c.requires.well_formed.readable; fits = f }

pub record_call-o-requires : goal.record_call-o-requires
record_call-o-requires c = laid_desk c.requires.well_formed c.lay-used.ensures

pub returns : goal.returns
returns c =
    let same = lengths_on c.requires.lengths (record { chunks = c.lay-used.auto.t; pieces = c.lay-used.auto.p; store = c.lay-used.auto.s }) in
    subst (AcceptedOn c.args.desk (recorded c.args.r)) (sym (c.is_ok.ensures.value ∙ accepted_is c.record_call-o.result.status))
    (copy_accepted (recorded c.args.r) c.lay-used.ensures same c.record_call-o.ensures)
