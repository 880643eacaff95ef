use mathlib.Core.Path.{sym, subst}
use Rattle.memory_counting.specs.Counts.{Decides}
use mathlib.Core.List.{◌++◌}
use native.Mathlib.Omega.{arith}
use Prim.Native.Nat.{ℕ}
use lib.ListN.{length-replicate}
use Rattle.model_sheet.specs.Sheet.{recorded_calls}
use Rattle.check_bit_marks.proofs.Marking.{marks_clear}
use Rattle.join_apart.specs.Marking.{PLACE_MARKS, Once}
use Rattle.join_apart.proofs.Marked.{room_of, edits_on, edits_no, once_decided}
use Rattle.join_apart.proofs.places_apart.Goals as goal

pub mark_list-requires : goal.mark_list-requires
mark_list-requires c = room_of c.requires (omega (arith, length-replicate {A = ℕ} PLACE_MARKS 0))

pub mark_list-requires-then-mark_list : goal.mark_list-requires-then-mark_list
mark_list-requires-then-mark_list c = room_of c.requires (omega (arith, length-replicate {A = ℕ} PLACE_MARKS 0, c.mark_list.auto.marks))

pub returns-then-mark_list : goal.returns-then-mark_list
returns-then-mark_list c l l' q q' =
    let n = c.args.n in
    let one = c.mark_list.ensures l q in
    let two = c.mark_list-then-mark_list.ensures l' q' in
    let marked = edits_on n (recorded_calls l) (recorded_calls l') one c.if-mark_list.true two in
    once_decided n (recorded_calls l ++ recorded_calls l') (marks_clear PLACE_MARKS) marked

pub returns-else-mark_list : goal.returns-else-mark_list
returns-else-mark_list c l l' q q' =
    let n = c.args.n in
    let marked = edits_no n (recorded_calls l) (recorded_calls l') (c.mark_list.ensures l q) {m₂ = λ b. 0} c.if-mark_list.false in
    subst (λ b. Decides b (Once n (recorded_calls l ++ recorded_calls l'))) (sym c.if-mark_list.false)
    (once_decided n (recorded_calls l ++ recorded_calls l') (marks_clear PLACE_MARKS) marked)
