-- `chunk_slice::chunk_front` meets its contract.
use mathlib.Core.Path.{sym, subst}
use mathlib.Core.Bool.{cond}
use Prim.Native.Nat.{ℕ}
use lib.ListN.{length}
use Rattle.utf8.specs.Chars.{concat}
use Rattle.memory_table.specs.Order.{entry_of}
use Rattle.model.specs.Text.{Text}
use Rattle.memory.specs.Layout.{run_of}
use Rattle.memory.specs.WellFormed.{RunIn}
use Rattle.report_slice_chunk.specs.Emit.{Emitted, Room}
use Rattle.report_slice_chunk.proofs.Emitting.{room_front, emitted_room, emitted_then}
use Rattle.report_slice_chunk.specs.Given.{slice_content}
use Rattle.report_slice_chunk.proofs.Given.{run_shown_in}
use Rattle.report_slice_chunk.proofs.chunk_front.Goals as goal

pub emit_run-a-requires : goal.emit_run-a-requires
emit_run-a-requires c =
    let run : ℕ → Text = λ n. concat (run_of c.args.pieces.now c.args.store.now (c.args.row.intro_at, n)) in
    let intro : Text = run (cond c.args.with_intro c.args.row.intro_n 0) in
    let middle : Text = slice_content c.args.source.now c.args.store.now (entry_of c.args.row) c.args.from c.args.end in
    let e = sym c.shown-n.ensures in record { run_in = subst (λ (n : ℕ). RunIn c.args.pieces.now c.args.store.now (c.args.row.intro_at, n)) e (run_shown_in _ _ _ _ c.args.with_intro c.requires.entry_in.runs.intro); room = subst (λ (n : ℕ). Room c.args.write c.args.out.now c.args.o (length (run n))) e (room_front (intro) (middle) c.requires.room) }

pub slice_content-t-requires : goal.slice_content-t-requires
slice_content-t-requires c = record { span_in = c.requires.span_in; replacement_in = c.requires.entry_in.replacement }

pub emit-requires : goal.emit-requires
emit-requires c =
    let run : ℕ → Text = λ n. concat (run_of c.args.pieces.now c.args.store.now (c.args.row.intro_at, n)) in
    let middle : Text = slice_content c.args.source.now c.args.store.now (entry_of c.args.row) c.args.from c.args.end in
    let d = subst (λ (n : ℕ). Emitted c.args.write c.args.out.now c.args.o (run n) c.emit_run-a.new.out
    c.emit_run-a.result) c.shown-n.ensures
    c.emit_run-a.ensures in
    subst (λ (x : Text). Room c.args.write c.emit_run-a.new.out c.emit_run-a.result (length x))
    (sym c.slice_content-t.ensures) (emitted_room d (middle) c.requires.room)

pub returns : goal.returns
returns c =
    let run : ℕ → Text = λ n. concat (run_of c.args.pieces.now c.args.store.now (c.args.row.intro_at, n)) in
    let d = subst (λ (n : ℕ). Emitted c.args.write c.args.out.now c.args.o (run n)
    c.emit_run-a.new.out c.emit_run-a.result)
    c.shown-n.ensures
    c.emit_run-a.ensures in
    let f = subst (λ (x : Text). Emitted c.args.write c.emit_run-a.new.out
    c.emit_run-a.result x c.emit.new.out c.emit.result)
    c.slice_content-t.ensures c.emit.ensures in
    emitted_then d f c.requires.room
