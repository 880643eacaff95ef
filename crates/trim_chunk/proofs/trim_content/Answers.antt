use Rattle.trim_text.specs.Patterns.{pattern_number}
use Rattle.trim_chunk.proofs.Row.{replaced_asks, plain_asks, content_shorter, content_same, content_copied}
use Rattle.memory_table.specs.Order.{entry_of}
use native.Mathlib.Omega.{arith}
use Prim.Native.Nat.{◌+◌, ◌-◌}
use mathlib.Core.Path.{◌≡◌}
use Rattle.trim_chunk.proofs.trim_content.Goals as goal

pub trim_place-requires : goal.trim_place-requires
trim_place-requires c = let d = replaced_asks c.args.front (pattern_number c.args.pattern) c.args.source.now c.args.s.now (entry_of c.args.r) c.args.byte c.requires c.if-r-ne-NONE.true in record { n_in_bounds = (d.0, omega (arith, d.0, c.requires.small)); s_value = d.1 }

pub returns-then-r-ne-NONE : goal.returns-then-r-ne-NONE
returns-then-r-ne-NONE c = content_shorter c.args.front (pattern_number c.args.pattern) c.args.source.now c.args.s.now (entry_of c.args.r) c.args.byte c.requires c.if-r-ne-NONE.true _ _ c.trim_place.ensures

pub trim_place-q-requires : goal.trim_place-q-requires
trim_place-q-requires c = let d = plain_asks c.args.front (pattern_number c.args.pattern) c.args.source.now c.args.s.now (entry_of c.args.r) c.args.byte c.requires c.if-r-ne-NONE.false in record { n_in_bounds = (d.0, omega arith); s_value = d.1 }

pub returns-then-q-n : goal.returns-then-q-n
returns-then-q-n c =
    content_same c.args.front (pattern_number c.args.pattern) c.args.source.now c.args.s.now (entry_of c.args.r) c.args.byte c.requires c.if-r-ne-NONE.false _ _
    c.trim_place-q.ensures c.if-q-n.true

pub returns : goal.returns
returns c =
    let z : c.trim_place-q.result.at + c.trim_place-q.result.n - c.trim_place-q.result.at ≡ c.trim_place-q.result.n = omega arith in
    content_copied c.args.front (pattern_number c.args.pattern) c.args.source.now c.args.s.now (entry_of c.args.r) c.args.byte c.requires
    c.if-r-ne-NONE.false _ _ c.trim_place-q.ensures
    c.if-q-n.false c.put_at.new.s
    (rw z at c.put_at.ensures)
