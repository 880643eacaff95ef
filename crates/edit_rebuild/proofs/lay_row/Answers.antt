use Rattle.memory_table.specs.Order.{entry_of}
use Rattle.edit_rebuild.proofs.LayOne.{laid_run, laid_entry, room_intro, room_outro, room_text}
use Rattle.edit_rebuild.proofs.lay_row.Goals as goal

pub copy_run-a-requires : goal.copy_run-a-requires
copy_run-a-requires c = record { run_in = c.requires.entry_in.runs.intro; room_of = room_intro _ _ (entry_of c.args.r) c.requires.room_entry }

pub copy_run-b-requires : goal.copy_run-b-requires
copy_run-b-requires c = record { run_in = c.requires.entry_in.runs.outro; room_of = room_outro _ _ (entry_of c.args.r) c.requires.room_entry c.copy_run-a.ensures c.copy_run-a.auto.new_pieces c.copy_run-a.auto.new_store }

pub lay_text-x-requires : goal.lay_text-x-requires
lay_text-x-requires c =
    record {
      replacement_in = c.requires.entry_in.replacement;
      n_in_bounds = room_text _ _ (entry_of c.args.r) c.requires.room_entry c.copy_run-a.ensures c.copy_run-a.auto.new_pieces c.copy_run-a.auto.new_store
          c.copy_run-b.ensures c.copy_run-b.auto.new_store;
    }

pub returns : goal.returns
returns c =
    let e = entry_of c.args.r in
    laid_entry {e = e}
    (laid_run _ _ _ _ c.copy_run-a.ensures (room_intro _ _ e c.requires.room_entry))
    (laid_run _ _ _ _ c.copy_run-b.ensures (room_outro _ _ e c.requires.room_entry c.copy_run-a.ensures c.copy_run-a.auto.new_pieces c.copy_run-a.auto.new_store))
    c.lay_text-x.ensures
