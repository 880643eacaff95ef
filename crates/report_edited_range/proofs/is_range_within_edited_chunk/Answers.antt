-- `edited_range::is_range_within_edited_chunk` meets its contract.
use Rattle.std.proofs.Common.{rules, ℕ}
use Rattle.std.proofs.lemmas.Iterator.Search.{any_from_yields_List}
use Rattle.memory_table.specs.declared.Row.{Row}
use Rattle.memory_table.specs.Order.{Entry, entry_of, order}
use Rattle.memory_list.proofs.Walks.{along}
use Rattle.report_edited_range.specs.Within.{within}
use Rattle.report_edited_range.proofs.Ranging.{range_told}
use Rattle.report_edited_range.proofs.is_range_within_edited_chunk.Goals as goal

pub returns : goal.returns
returns c =
    let a = c.args in
    let test = λ (e : Entry). within e a.start a.end in
    let yields = along (λ (x : ℕ × Row). entry_of x.1) a.desk.chunks.now (order a.desk.chunks.now) c.rows.ensures in
    range_told a.desk.source.now a.desk.chunks.now a.desk.pieces.now a.desk.store.now a.start a.end c.any.result
    (any_from_yields_List test _ _ c.any.result c.any.ensures.ran yields (λ x b q k. search rules))
