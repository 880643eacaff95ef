use mathlib.Core.Path.{◌∙◌}
use native.Mathlib.Omega.{arith}
use borrow.Author.Rules.{rules}
use lib.ListN.{drop}
use Prim.Native.Nat.{◌+◌, ◌-◌, ◌*◌}
use Rattle.memory_table.proofs.Copying.{front_whole}
use Rattle.memory_table.proofs.Table.{put_of, words_of}
use Rattle.memory_table.proofs.Words.{part_sets}
use Rattle.memory_table.proofs.put_row.Goals as goal

pub returns : goal.returns
returns c =
    let b = c.args.i * 12 in
    put_of _ _ _ _ (search rules) (part_sets _ _ _ (words_of c.args.r) (c.put.ensures ∙ front_whole (words_of c.args.r) (drop b c.args.t.now) (b + 12 - b) (omega arith)) (search rules))
