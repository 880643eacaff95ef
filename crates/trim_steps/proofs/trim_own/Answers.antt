use Rattle.trim_text.specs.Patterns.{pattern_number}
use mathlib.Core.Path.{sym, ◌∙◌}
use Rattle.trim_chunk.specs.Row.{place_of}
use Rattle.trim_steps.proofs.Side.{own_run, own_room, own_gone, own_left}
use Rattle.trim_steps.proofs.trim_own.Goals as goal

pub returns-then-is_blank : goal.returns-then-is_blank
returns-then-is_blank c =
    own_gone c.args.front (pattern_number c.args.pattern) c.args.p.now c.args.s.now c.args.top c.args.t.now c.requires c.get_row-z.result c.get_row-z.ensures (place_of c.near-q.result) c.near-q.ensures
    c.with_near.result c.with_near.ensures _ c.put_row.ensures c.put_row.auto.t (sym c.is_blank.ensures
    ∙ c.if-is_blank.true)

pub trim_run-n-requires : goal.trim_run-n-requires
trim_run-n-requires c = let e = sym c.is_blank.ensures ∙ c.if-is_blank.false in record { run_ready = own_run c.args.front (pattern_number c.args.pattern) c.args.p.now c.args.s.now c.args.top c.args.t.now c.requires c.get_row-z.result c.get_row-z.ensures (place_of c.near-q.result) c.near-q.ensures; row_room = own_room c.args.front (pattern_number c.args.pattern) c.args.p.now c.args.s.now c.args.top c.args.t.now c.requires c.get_row-z.result c.get_row-z.ensures (place_of c.near-q.result) c.near-q.ensures e; n_value = e }

pub returns : goal.returns
returns c =
    own_left c.args.front (pattern_number c.args.pattern) c.args.p.now c.args.s.now c.args.top c.args.t.now c.requires c.get_row-z.result c.get_row-z.ensures (place_of c.near-q.result) c.near-q.ensures _
    (place_of c.trim_run-n.result) c.trim_run-n.ensures c.with_near-2.result c.with_near-2.ensures _ c.put_row-2.ensures c.put_row-2.auto.t
    (sym c.is_blank.ensures
    ∙ c.if-is_blank.false)
