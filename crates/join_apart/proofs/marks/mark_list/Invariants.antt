-- The invariant: the records passed fit and take no place twice, and the marks are theirs.
use Prim.Native.Nat.{ℕ}
use mathlib.Core.Path.{◌≡◌}
use mathlib.Core.Bool.{true}
use mathlib.Core.List.{List}
use lib.ListN.{length}
use Rattle.model.specs.Call.{Edit}
use Rattle.check_bit_marks.specs.BitMarks.{bit_at}
use Rattle.sheet_records.specs.Found.{walk_bytes, walk_at}
use Rattle.join_apart.proofs.Marked.{Marks}
use Rattle.join_apart.proofs.Upto.{Walking}
use Rattle.join_apart.proofs.marks.mark_list.Given as goal

-- edits that fit and took no place twice
abbrev pub Done : ℕ → List ℕ → List ℕ → List Edit → Type 0
Done n words words' E = Marks n true (bit_at words) E (bit_at words')

abbrev pub invariant-loop-entry : goal.invariant-loop-entry
invariant-loop-entry w =
    (length w.marks ≡ length w.initial.marks) × (walk_bytes w.entry-iterator ≡ w.records)
    × Walking (Done w.n w.initial.marks w.marks) w.records (walk_at w.entry-iterator)
