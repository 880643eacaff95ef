use Rattle.trim_chunk.specs.Row.{place_of, far_of, with_side_places, cleared_text_place, Rewritten}
use Rattle.trim_chunk.proofs.Row.{near_asks, far_asks, far_stays, stopped_near, stopped_content, stopped_far, row_done, run_at, asks_at}
use Rattle.memory.specs.Layout.{Place}
use Rattle.memory_table.specs.Order.{entry_of}
use mathlib.Core.Path.{subst}
use Rattle.trim_chunk.proofs.trim_chunk.Goals as goal

pub trim_run-n-requires : goal.trim_run-n-requires
trim_run-n-requires c =
    let asked = asks_at _ _ _ c.args.top c.near-q.ensures (near_asks _ _ _ _ _ _ c.args.top c.args.byte c.requires.row_ready c.requires.row_fits c.in-Near.ensures) c.in-Near.ensures in
    record { run_ready = asked.0; row_room = asked.1.0; n_value = asked.1.1 }

pub returns-in-Near : goal.returns-in-Near
returns-in-Near c =
    let e = entry_of c.args.r in
    row_done _ _ _ _ _ _ c.args.top c.args.byte _ _ _ (place_of c.trim_run-n.result) (far_of c.args.front e) e.text c.with_near.ensures
    (stopped_near _ _ _ _ _ e c.args.top c.args.byte c.requires.row_ready c.requires.row_fits c.in-Near.ensures _ _ (run_at _ _ _ _ c.args.top _ _ c.near-q.ensures c.trim_run-n.ensures))

pub returns-in-Content : goal.returns-in-Content
returns-in-Content c =
    let e = entry_of c.args.r in
    let x = place_of c.trim_content-x.result in
    let w = subst (λ (q : Place). Rewritten c.args.r c.with_sides.result (with_side_places c.args.front e (0, 0) q x)) c.far.ensures c.with_sides.ensures in
    row_done _ _ _ _ _ _ c.args.top c.args.byte _ _ _ (0, 0) (far_of c.args.front e) x w
    (stopped_content _ _ _ _ _ e c.args.top c.args.byte c.requires.row_ready c.requires.row_fits c.in-Content.ensures _ _ c.trim_content-x.ensures)

pub trim_run-f-requires : goal.trim_run-f-requires
trim_run-f-requires c =
    let b = far_stays _ _ _ _ _ _ c.args.top c.args.byte c.requires.row_ready c.requires.row_fits c.in-Far.ensures c.requires.r_value in
    let asked = asks_at _ _ _ c.args.top c.far-q.ensures (far_asks _ _ _ _ _ _ c.args.top c.args.byte c.requires.row_ready c.requires.row_fits b) b in
    record { run_ready = asked.0; row_room = asked.1.0; n_value = asked.1.1 }

pub returns-in-Far : goal.returns-in-Far
returns-in-Far c =
    let e = entry_of c.args.r in
    let q = place_of c.trim_run-f.result in
    let w = subst (λ (x : Place). Rewritten c.args.r c.with_sides-in-Far.result (with_side_places c.args.front e (0, 0) q x)) c.cleared_text.ensures c.with_sides-in-Far.ensures in
    let b = far_stays _ _ _ _ _ _ c.args.top c.args.byte c.requires.row_ready c.requires.row_fits c.in-Far.ensures c.requires.r_value in
    row_done _ _ _ _ _ _ c.args.top c.args.byte _ _ _ (0, 0) q (cleared_text_place e) w
    (stopped_far _ _ _ _ _ e c.args.top c.args.byte c.requires.row_ready c.requires.row_fits c.in-Far.ensures b _ _ (run_at _ _ _ _ c.args.top _ _ c.far-q.ensures c.trim_run-f.ensures))
