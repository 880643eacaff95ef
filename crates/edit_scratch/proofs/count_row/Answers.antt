use native.Mathlib.Omega.{arith}
use Rattle.memory_layout.specs.Layout.{PIECES_PAST, BYTES_PAST}
use Rattle.memory_table.specs.Order.{entry_of}
use Rattle.edit_scratch.proofs.Counting.{pieces_of, text_bytes, no_bytes, two_counts, three_counts}
use Rattle.edit_scratch.proofs.count_row.Goals as goal

pub returns-then-r-eq-NONE : goal.returns-then-r-eq-NONE
returns-then-r-eq-NONE c =
    let e = entry_of c.args.r in (
      two_counts PIECES_PAST _ _ _ _ _ _ c.add_capped-a.ensures c.add_capped-pieces.ensures (pieces_of c.args.p.now c.args.s.now e),
      three_counts BYTES_PAST _ _ _ 0 _ _ c.run_bytes-d.result _ c.run_bytes-b.ensures c.run_bytes-d.ensures (omega (arith, c.run_bytes-d.ensures)) (no_bytes c.args.s.now e.text c.if-r-eq-NONE.true),
    )

pub returns : goal.returns
returns c =
    let e = entry_of c.args.r in (
      two_counts PIECES_PAST _ _ _ _ _ _ c.add_capped-a.ensures c.add_capped-pieces.ensures (pieces_of c.args.p.now c.args.s.now e),
      three_counts BYTES_PAST _ _ _ _ _ _ _ _ c.run_bytes-b.ensures c.run_bytes-d.ensures c.add_capped-bytes.ensures (text_bytes c.args.s.now e.text c.requires.entry_in.replacement c.if-r-eq-NONE.false),
    )
