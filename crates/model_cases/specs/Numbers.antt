-- Document 01, "Numbers a caller may get": the table's own examples; and 20 of document 02's L8. 2 is of memory that is no desk, and stands with the memory.
use Rattle.std.specs.Prelude.{◌+◌, false, List, [], ◌∷◌, replicate}
use Rattle.std.proofs.Math.Option.{none, some}
use Rattle.model.specs.Limits.{full}
use Rattle.model.specs.Insert.{left, back}
use Rattle.model.specs.Call.{remove, update_with, reset, insert, relocate, trim, freeze, to_string}
use Rattle.model_calls.specs.Call.{report}
use Rattle.model_cases.specs.Case.{Case}
use Rattle.model_cases.specs.Letters.{a, b, c, d, e, f, X, Z, gives, opened, edited, output, slice_refused}
use Rattle.model_cases.specs.Marked.{case_f}

-- from the fresh desk "abc", and that nothing is changed
abbrev pub abc : Case → Case
abc k = record { steps = opened (a ∷ b ∷ c ∷ []) 0 ∷ k.steps; spans = k.spans }

unfoldable pub numbers : List Case
numbers =
    -- 1 text not UTF-8: open with byte FF
    record { steps = opened (0xFF ∷ []) 1 ∷ []; spans = (0, 0) ∷ [] } ∷
    -- 3 position inside a character: "é", remove 0,1
    record { steps = opened (0xC3 ∷ 0xA9 ∷ []) 0 ∷ edited (remove 0 1) 3 0 ∷ output (0xC3 ∷ 0xA9 ∷ []) ∷ []; spans = (0, 2) ∷ [] } ∷
    -- 4 end before start: "abc", remove 2,1
    abc (record { steps = edited (remove 2 1) 4 0 ∷ output (a ∷ b ∷ c ∷ []) ∷ []; spans = (0, 3) ∷ [] }) ∷
    -- 5 replace zero width: "abc", update 1,1
    abc (record { steps = edited (update_with 1 1 (X ∷ []) false) 5 0 ∷ output (a ∷ b ∷ c ∷ []) ∷ []; spans = (0, 3) ∷ [] }) ∷
    -- 6 cut inside a non-empty replacement: "abcdef", update 0,4 "X", append_left 2
    record {
      steps =
          opened (a ∷ b ∷ c ∷ d ∷ e ∷ f ∷ []) 0 ∷ edited (update_with 0 4 (X ∷ []) false) 0 1 ∷ edited (insert 2 (Z ∷ []) left back) 6 0 ∷
          output (X ∷ e ∷ f ∷ []) ∷ [];
      spans = (0, 4) ∷ (4, 6) ∷ [];
    } ∷
    -- 7 replace across a moved edge: case F
    case_f ∷
    -- 8 start ≤ `to` ≤ end: "abc", relocate 1,1,1
    abc (record { steps = edited (relocate 1 1 1) 8 0 ∷ output (a ∷ b ∷ c ∷ []) ∷ []; spans = (0, 3) ∷ [] }) ∷
    -- 9 moved range not together: case B
    abc (record { steps = edited (relocate 0 2 3) 0 1 ∷ edited (relocate 1 3 0) 9 1 ∷ output (c ∷ a ∷ b ∷ []) ∷ []; spans = (2, 3) ∷ (0, 1) ∷ (1, 2) ∷ [] }) ∷
    -- 10 end past source: "abc", reset 0,4
    abc (record { steps = edited (reset 0 4) 10 0 ∷ output (a ∷ b ∷ c ∷ []) ∷ []; spans = (0, 3) ∷ [] }) ∷
    -- 11 slice starts inside a replaced chunk: case D, slice from 2. 12 slice ends there: case D, slice 0 to 2
    record {
      steps =
          opened (a ∷ b ∷ c ∷ d ∷ e ∷ f ∷ []) 0 ∷ edited (remove 1 5) 0 2 ∷ edited (insert 3 (Z ∷ []) left back) 0 1 ∷
          slice_refused 2 none 11 ∷ slice_refused 0 (some 2) 12 ∷ [];
      spans = (0, 1) ∷ (1, 3) ∷ (3, 5) ∷ (5, 6) ∷ [];
    } ∷
    -- 13 source of 16,385
    record { steps = opened (replicate (full.most_source + 1) a) 13 ∷ []; spans = (0, 0) ∷ [] } ∷
    -- 14 output buffer too short: "abc" into 2 bytes
    abc (record { steps = gives (report (to_string 2)) 14 0 [] ∷ []; spans = (0, 3) ∷ [] }) ∷
    -- 15 pattern above 1: trim 2
    abc (record { steps = edited (trim 2) 15 0 ∷ output (a ∷ b ∷ c ∷ []) ∷ []; spans = (0, 3) ∷ [] }) ∷
    -- 20 a frozen chunk in the range, whose cuts stay, or on the desk: "abc", freeze 0,1, remove 0,2, trim
    abc (record {
      steps = edited (freeze 0 1) 0 1 ∷ edited (remove 0 2) 20 1 ∷ edited (trim 0) 20 0 ∷ output (a ∷ b ∷ c ∷ []) ∷ [];
      spans = (0, 1) ∷ (1, 2) ∷ (2, 3) ∷ [];
    }) ∷ []
