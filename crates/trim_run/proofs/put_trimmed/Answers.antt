use Rattle.trim_text.specs.Patterns.{pattern_number}
use Rattle.trim_run.proofs.Run.{text_valid, put_trimmed}
use Rattle.memory_texts.proofs.Texts.{run_piece}
use Rattle.memory_copy.proofs.Rows.{rows_copied}
use Prim.Native.Nat.{◌+◌}
use native.Mathlib.Omega.{arith}
use borrow.Author.Rules.{rules}
use Rattle.memory_table.specs.Pieces.{PutPiece}
use Rattle.trim_run.proofs.put_trimmed.Goals as goal

pub trim_place-new-requires : goal.trim_place-new-requires
trim_place-new-requires c = let e = c.piece_at-old.ensures in let k = run_piece c.args.p.now c.args.s.now c.args.at c.args.n c.args.k c.requires.run_ready.inside c.requires.k_lt_n in rw e (record { n_in_bounds = (k.text, omega (arith, k.text, c.requires.row_room.narrow_store)); s_value = text_valid c.args.p.now c.args.s.now c.args.at c.args.n c.args.k c.requires.run_ready.valid c.requires.k_lt_n })

pub returns : goal.returns
returns c =
    let stored : PutPiece c.copy_rows.new.p c.set_piece.new.t (c.args.top + c.args.k) c.trim_place-new.result = search rules in
    put_trimmed c.args.front (pattern_number c.args.pattern) c.args.p.now c.args.s.now c.copy_rows.new.p
    c.set_piece.new.t c.args.at c.args.n c.args.k c.args.top c.piece_at-old.result
    c.trim_place-new.result
    c.requires.k_lt_n (rows_copied c.args.p.now _ c.args.at c.args.n c.args.top c.requires.row_room.below c.requires.row_room.room c.copy_rows.ensures)
    c.piece_at-old.ensures
    c.trim_place-new.ensures stored
    c.set_piece.auto.t
