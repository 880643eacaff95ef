-- `chunk_slice::chunk_slice` meets its contract.
use mathlib.Core.Path.{sym, subst}
use mathlib.Core.List.{◌++◌}
use Prim.Native.Nat.{ℕ}
use lib.ListN.{length}
use Rattle.utf8.specs.Chars.{concat}
use Rattle.memory_table.specs.Order.{entry_of}
use Rattle.model.specs.Text.{Text}
use Rattle.memory.specs.Layout.{run_of}
use Rattle.memory.specs.WellFormed.{RunIn}
use Rattle.report_slice_chunk.specs.Emit.{Emitted, Room}
use Rattle.report_slice_chunk.proofs.Emitting.{room_front, emitted_room, emitted_then}
use Rattle.report_slice_chunk.specs.Given.{front_text, shows_outro}
use Rattle.report_slice_chunk.proofs.Given.{outro_text, run_shown_in, chunk_slice_is}
use Rattle.report_slice_chunk.proofs.chunk_slice.Goals as goal

pub chunk_front-a-requires : goal.chunk_front-a-requires
chunk_front-a-requires c =
    let front : Text = front_text c.args.source.now c.args.pieces.now c.args.store.now c.args.with_intro c.args.from c.args.end (entry_of c.args.row) in
    let outro : Text = outro_text c.args.pieces.now c.args.store.now c.args.end (entry_of c.args.row) in
    let room : Room c.args.write c.args.out.now c.args.o (length (front ++ outro)) = rw chunk_slice_is at c.requires.room in
    record { entry_in = c.requires.entry_in; span_in = c.requires.span_in; room = room_front (front) (outro) (room) }

pub emit_run-requires : goal.emit_run-requires
emit_run-requires c =
    let run : ℕ → Text = λ n. concat (run_of c.args.pieces.now c.args.store.now (c.args.row.outro_at, n)) in
    let front : Text = front_text c.args.source.now c.args.pieces.now c.args.store.now c.args.with_intro c.args.from c.args.end (entry_of c.args.row) in
    let outro : Text = outro_text c.args.pieces.now c.args.store.now c.args.end (entry_of c.args.row) in
    let room : Room c.args.write c.args.out.now c.args.o (length (front ++ outro)) = rw chunk_slice_is at c.requires.room in
    let e = sym c.shown_outro-n.ensures in record {
      run_in = subst (λ (n : ℕ). RunIn c.args.pieces.now c.args.store.now (c.args.row.outro_at, n)) e
          (run_shown_in _ _ _ _ (shows_outro c.args.row.start c.args.row.end c.args.end) c.requires.entry_in.runs.outro);
      room = subst (λ (n : ℕ). Room c.args.write c.chunk_front-a.new.out c.chunk_front-a.result
          (length (run n))) e (emitted_room c.chunk_front-a.ensures (outro) (room));
    }

pub returns : goal.returns
returns c =
    let run : ℕ → Text = λ n. concat (run_of c.args.pieces.now c.args.store.now (c.args.row.outro_at, n)) in
    let front : Text = front_text c.args.source.now c.args.pieces.now c.args.store.now c.args.with_intro c.args.from c.args.end (entry_of c.args.row) in
    let outro : Text = outro_text c.args.pieces.now c.args.store.now c.args.end (entry_of c.args.row) in
    let room : Room c.args.write c.args.out.now c.args.o (length (front ++ outro)) = rw chunk_slice_is at c.requires.room in
    let f = subst (λ (n : ℕ). Emitted c.args.write c.chunk_front-a.new.out
    c.chunk_front-a.result (run n) c.emit_run.new.out
    c.emit_run.result) c.shown_outro-n.ensures c.emit_run.ensures in
    rw chunk_slice_is (emitted_then c.chunk_front-a.ensures f (room))
