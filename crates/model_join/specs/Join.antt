-- Document 02, L7: "Pair work lets two members hand in separate lists against one desk, and the box joins them." What joining two lists answers and leaves. The Rust has no such call.
use Rattle.std.specs.Prelude.{ℕ, zero, suc, ◌-◌, not, cond, List, [], ◌∷◌, ◌++◌, leb, length}
use Rattle.std.proofs.Math.Option.{Option, none, some, bind, map}
use Rattle.model.specs.MagicString.{MagicString, ok}
use Rattle.model.specs.Limits.{Limits}
use Rattle.model.specs.Call.{Edit, after, Outcome, changed}
use Rattle.model_sheet.specs.Record.{Recorded, records}
use Rattle.model_sheet.specs.Sheet.{MOST_BYTES, few, recorded_calls, refused_by}
use Rattle.model_join.specs.Tests.{edits_apart, each_alone, has_space}

-- "A list is L1's records alone and keeps L1's record count and size": its records, or none where it breaks these or the record rules
unfoldable pub list : List ℕ → Option (List Recorded)
list s = cond (leb (length s) MOST_BYTES) (bind (records s) few) none

-- the calls of both: "the first list and then the second"
unfoldable pub both_lists : List ℕ → List ℕ → Option (List Edit)
both_lists first second = bind (list first) (λ l. map (λ l'. recorded_calls l ++ recorded_calls l') (list second))

-- "18, a reach, position, width, move or empty-source premise is broken; 19, some call is refused alone on the starting desk; .. in that order, then 13 for the reckoned space"; 0
-- where the two lists are joined
unfoldable pub refused_join : Limits → MagicString → List Edit → ℕ
refused_join k m L =
    cond (not (edits_apart (length m.source) L)) 18
    (cond (not (each_alone k m L)) 19
    (cond (not (has_space k m L)) 13
    0))

-- "The joined desk is the one that the first list and then the second would leave". The value is the cuts of both lists: by how many chunks the desk grows
abbrev pub joined : Limits → List Edit → MagicString → Outcome
joined k L m = changed (length (after k L m).chunks - length m.chunks) (ok (after k L m))

-- of calls that are read: ".. and change nothing"
unfoldable pub join_read : Limits → MagicString → List Edit → Outcome
join_read k m L = elim (refused_join k m L) [ suc n ↦ refused_by (suc n) m | zero ↦ joined k L m ]

-- of any bytes: "they come after 2 and after L1's 16 for a list that breaks these or its record rules"
unfoldable pub join : Limits → List ℕ → List ℕ → MagicString → Outcome
join k first second m = elim (both_lists first second) [ none ↦ refused_by 16 m | some L ↦ join_read k m L ]

-- the numbers that a join may give beside 0, in order. 2 is judged on the memory
abbrev pub join_numbers : List ℕ
join_numbers = 2 ∷ 16 ∷ 18 ∷ 19 ∷ 13 ∷ []
