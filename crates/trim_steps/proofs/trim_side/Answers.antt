use Rattle.trim_text.specs.Patterns.{pattern_number}
use mathlib.Core.Path.{sym, subst}
use Rattle.memory_table.specs.declared.Row.{Row}
use Rattle.memory_table.specs.Order.{entry_of}
use Rattle.trim_chunk.specs.RunEnds.{RunsTo, RunsBehind}
use Rattle.trim_steps.proofs.Side.{own_ready, own_short, own_stops, chunks_ready, own_goes_on}
use Rattle.trim_steps.proofs.trim_side.Goals as goal

pub trim_own-gone-requires : goal.trim_own-gone-requires
trim_own-gone-requires c = own_ready c.args.front (pattern_number c.args.pattern) c.args.source.now c.args.t.now c.args.p.now c.args.s.now c.args.top _ c.args.byte c.requires

pub runs_behind-row-requires : goal.runs_behind-row-requires
runs_behind-row-requires c =
    subst (λ (z : Row). RunsTo 4294967295 (entry_of z)) (sym c.get_row.ensures)
    (own_short c.args.front (pattern_number c.args.pattern) c.args.source.now c.args.t.now c.args.p.now c.args.s.now c.args.top _ c.args.byte c.requires _ _ _ c.trim_own-gone.ensures)

pub returns-then-not-gone : goal.returns-then-not-gone
returns-then-not-gone c =
    own_stops c.args.front (pattern_number c.args.pattern) c.args.source.now c.args.t.now c.args.p.now c.args.s.now c.args.top _ c.args.byte c.requires _ _ _ c.trim_own-gone.ensures
    (c.if-not-gone.true) _
    (subst (λ (r : Row). RunsBehind c.args.top (entry_of r) c.runs_behind-row.result) c.get_row.ensures c.runs_behind-row.ensures)

pub trim_chunks-requires : goal.trim_chunks-requires
trim_chunks-requires c =
    chunks_ready c.args.front (pattern_number c.args.pattern) c.args.source.now c.args.t.now c.args.p.now c.args.s.now c.args.top _ c.args.byte c.requires _ _ _ c.trim_own-gone.ensures
    (c.if-not-gone.false)

pub returns : goal.returns
returns c =
    own_goes_on c.args.front (pattern_number c.args.pattern) c.args.source.now c.args.t.now c.args.p.now c.args.s.now c.args.top _ c.args.byte c.requires _ _ _ c.trim_own-gone.ensures
    (c.if-not-gone.false) _ _ _ _ _
    c.trim_chunks.ensures
