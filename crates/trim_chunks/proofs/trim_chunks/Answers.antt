use Rattle.trim_chunks.proofs.Walk.{ready_each, all_blank, stop_ready, ends_short, one_stops}
use mathlib.Core.Path.{refl}
use Rattle.trim_chunks.proofs.trim_chunks.Goals as goal

pub clear_blank-requires-clause-each : goal.clear_blank-requires-clause-each
clear_blank-requires-clause-each c = ready_each c.requires

pub returns-in_default : goal.returns-in_default
returns-in_default c = all_blank _ _ _ _ _ c.args.top _ c.args.byte _ c.requires _ _ c.in_default.ensures refl

pub trim_chunk-q-requires : goal.trim_chunk-q-requires
trim_chunk-q-requires c =
    let asked = stop_ready _ _ _ _ _ c.args.top _ c.args.byte _ c.requires _ _ c.in-Some.ensures _ refl _ c.get_row-r.ensures in
    record { row_ready = asked.0; row_fits = asked.1.0; r_value = asked.1.1 }

pub behind-requires : goal.behind-requires
behind-requires c =
    let asked = ends_short _ _ _ _ _ c.args.top _ c.args.byte _ c.requires _ _ c.in-Some.ensures _ refl _ c.get_row-r.ensures _ _ _ c.trim_chunk-q.ensures in
    record { runs_to = asked.0; text_low = asked.1 }

pub returns : goal.returns
returns c =
    one_stops _ _ _ _ _ c.args.top _ c.args.byte _ c.requires _ _ c.in-Some.ensures _ refl _ c.get_row-r.ensures _ _ _ c.trim_chunk-q.ensures
    _ c.put_row.ensures c.put_row.auto.t _ _ c.behind.ensures
