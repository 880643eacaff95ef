-- What the two numbers of a mode and a digest say of the tables.
use Rattle.std.specs.Prelude.{ℕ, zero, suc}
use Rattle.replay_record.specs.declared.Tables.{Tables}
use Rattle.replay_record.specs.declared.Tables.TheVariants.{Kept, Digest, Unseen}

abbrev pub tables_of : ℕ → ℕ → Tables
tables_of zero digest = Kept
tables_of (suc zero) digest = Digest digest
tables_of (suc (suc mode)) digest = Unseen
