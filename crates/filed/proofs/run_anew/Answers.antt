-- `filed::run_anew` meets its contract.
use Rattle.filed.proofs.Withdraws.{counted_lent, runs_anew}
use Rattle.filed.proofs.run_anew.Goals as goal

pub run_records-requires : goal.run_records-requires
run_records-requires c = record { desk = c.requires.desk; counted = counted_lent c.args.bytes.now c.args.used c.requires.counted }

pub returns : goal.returns
returns c = runs_anew c.args.bytes.now c.args.used c.requires.counted c.run_records.ensures c.put_answers.ensures
