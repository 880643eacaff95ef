use mathlib.Core.Path.{ap}
use Prim.Native.Nat.{◌+◌}
use native.Mathlib.Omega.{arith}
use Rattle.memory_table.specs.declared.Row.{Row}
use Rattle.memory_list.proofs.Changes.{swept_none, swept_more, swept_all}
use Rattle.memory_list.proofs.change_rows.Goals as goal

pub loop-k-init : goal.loop-k-init
loop-k-init c = swept_none c.args.change c.args.a c.args.b c.args.t.now

pub loop-k-preserved : goal.loop-k-preserved
loop-k-preserved c = swept_more _ _ _ c.args.t.now c.loop-k.t c.change_row.new.t c.loop-k.k (omega arith) c.loop-k.invariant c.change_row.ensures c.change_row.auto.t

pub returns : goal.returns
returns c = swept_all _ _ _ _ _ c.loop-k.k c.requires c.loop-k.invariant (omega (arith, ap (λ (r : Row). r.start) c.get_row-z.ensures))

pub returns-2 : goal.returns-2
returns-2 c =
    let s = swept_more _ _ _ c.args.t.now c.loop-k.t c.change_row.new.t c.loop-k.k (omega arith) c.loop-k.invariant c.change_row.ensures c.change_row.auto.t in
    swept_all _ _ _ _ _ (c.loop-k.k + 1) c.requires s (omega (arith, ap (λ (r : Row). r.start) c.get_row-z.ensures))
