-- `filed::file` meets its contract: what is judged is filed or refused.
use mathlib.Core.Path.{ap, subst}
use Rattle.memory.specs.WellFormed.{Taken}
use Rattle.memory.specs.declared.Answer.{Answer}
use Rattle.filed_entries.specs.Entries.{EntryPut}
use Rattle.filed_entries.proofs.Put.{call_room}
use Rattle.filed_kept.proofs.First.{first_holds}
use Rattle.filed.proofs.Files.{files_refused, files_call}
use Rattle.filed.proofs.file.Goals as goal

pub returns-in-Err : goal.returns-in-Err
returns-in-Err c = files_refused c.requires.holds c.requires.desk.well_formed c.in-Err.ensures

pub put_entry-requires : goal.put_entry-requires
put_entry-requires c =
    let holds = first_holds c.requires.holds c.keep_first.ensures c.keep_first.auto.words c.keep_first.auto.bytes in
    record { holds = holds; call_bound = call_room holds c.in-Ok.ensures; count_bound = c.in-Ok.ensures.calls }

pub returns : goal.returns
returns c =
    let desk : Taken c.args.source.now c.args.chunks.now c.args.pieces.now c.args.store.now = record { full = c.requires.full; well_formed = c.requires.desk.well_formed } in
    files_call c.requires.holds c.in-Ok.ensures desk c.keep_first.ensures c.keep_first.auto.words c.keep_first.auto.bytes c.record_call-outcome.ensures
    (subst (λ n. EntryPut c.args.call.now n c.args.size c.keep_first.new.words c.keep_first.new.bytes c.put_entry.new.words c.put_entry.new.bytes)
    (ap (λ (a : Answer). a.number) c.from.ensures) c.put_entry.ensures) c.put_entry.auto.words
