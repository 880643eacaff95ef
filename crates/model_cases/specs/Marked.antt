-- Document 01, "Marked cases": A to L. Each line's calls, answers, texts, slices and last characters; and what each edit cuts (document 02, L4).
use Rattle.std.specs.Prelude.{◌+◌, false, List, [], ◌∷◌, replicate}
use Rattle.std.proofs.Math.Option.{none, some}
use Rattle.model.specs.Limits.{full}
use Rattle.model.specs.Insert.{left, right, back}
use Rattle.model.specs.Call.{remove, update_with, insert, relocate, trim, indent_with, len}
use Rattle.model_calls.specs.Call.{report}
use Rattle.model_cases.specs.Case.{Case}
use Rattle.model_cases.specs.Letters.{a, b, c, d, e, f, x, X, Z, lf, tab, space, gives, opened, edited, output, sliced, last_is}

-- F E's move, append_left 1 "", then that update: 7, "adc"
abbrev pub case_f : Case
case_f =
    record {
      steps =
          opened (a ∷ b ∷ c ∷ d ∷ []) 0 ∷ edited (relocate 2 3 4) 0 2 ∷ edited (insert 1 [] left back) 0 1 ∷
          edited (update_with 0 3 (X ∷ []) false) 7 0 ∷ output (a ∷ d ∷ c ∷ []) ∷ [];
      spans = (0, 1) ∷ (1, 2) ∷ (3, 4) ∷ (2, 3) ∷ [];
    }

unfoldable pub marked : List Case
marked =
    -- A "abc", relocate 0,2,3: "cab". B after A, relocate 1,3,0: 9, "cab", cut at 1 stays
    record {
      steps =
          opened (a ∷ b ∷ c ∷ []) 0 ∷ edited (relocate 0 2 3) 0 1 ∷ output (c ∷ a ∷ b ∷ []) ∷
          edited (relocate 1 3 0) 9 1 ∷ output (c ∷ a ∷ b ∷ []) ∷ [];
      spans = (2, 3) ∷ (0, 1) ∷ (1, 2) ∷ [];
    } ∷
    -- C fresh "abc", slice 0 to 0: "abc"
    record { steps = opened (a ∷ b ∷ c ∷ []) 0 ∷ sliced 0 (some 0) (a ∷ b ∷ c ∷ []) ∷ []; spans = (0, 3) ∷ [] } ∷
    -- D "abcdef", remove 1,5, append_left 3 "Z": "aZf"; slice from 3: "f"
    record {
      steps =
          opened (a ∷ b ∷ c ∷ d ∷ e ∷ f ∷ []) 0 ∷ edited (remove 1 5) 0 2 ∷ edited (insert 3 (Z ∷ []) left back) 0 1 ∷
          output (a ∷ Z ∷ f ∷ []) ∷ sliced 3 none (f ∷ []) ∷ [];
      spans = (0, 1) ∷ (1, 3) ∷ (3, 5) ∷ (5, 6) ∷ [];
    } ∷
    -- E "abcd", relocate 2,3,4: "abdc"; update 0,3 "X": 7, "abdc"
    record {
      steps =
          opened (a ∷ b ∷ c ∷ d ∷ []) 0 ∷ edited (relocate 2 3 4) 0 2 ∷ output (a ∷ b ∷ d ∷ c ∷ []) ∷
          edited (update_with 0 3 (X ∷ []) false) 7 0 ∷ output (a ∷ b ∷ d ∷ c ∷ []) ∷ [];
      spans = (0, 2) ∷ (3, 4) ∷ (2, 3) ∷ [];
    } ∷
    -- F
    case_f ∷
    -- G two spaces, append_right 2 " x", trim: " x"
    record {
      steps = opened (space ∷ space ∷ []) 0 ∷ edited (insert 2 (space ∷ x ∷ []) right back) 0 0 ∷ edited (trim 0) 0 0 ∷ output (space ∷ x ∷ []) ∷ [];
      spans = (0, 2) ∷ [];
    } ∷
    -- H "abc", append_right 3 "x", then "": last character c
    record {
      steps = opened (a ∷ b ∷ c ∷ []) 0 ∷ edited (insert 3 (x ∷ []) right back) 0 0 ∷ edited (insert 3 [] right back) 0 0 ∷ last_is c ∷ [];
      spans = (0, 3) ∷ [];
    } ∷
    -- I "a", line feed, "b", indented: a tab before a and before b
    record {
      steps = opened (a ∷ lf ∷ b ∷ []) 0 ∷ edited (indent_with none []) 0 1 ∷ output (tab ∷ a ∷ lf ∷ tab ∷ b ∷ []) ∷ [];
      spans = (0, 2) ∷ (2, 3) ∷ [];
    } ∷
    -- J "abc", append_left 9 "x": "xabc"
    record { steps = opened (a ∷ b ∷ c ∷ []) 0 ∷ edited (insert 9 (x ∷ []) left back) 0 0 ∷ output (x ∷ a ∷ b ∷ c ∷ []) ∷ []; spans = (0, 3) ∷ [] } ∷
    -- K 16,384 bytes open, 16,385 give 13
    record {
      steps = opened (replicate full.most_source a) 0 ∷ gives (report len) 0 full.most_source [] ∷ opened (replicate (full.most_source + 1) a) 13 ∷ gives
          (report len) 0 full.most_source [] ∷ [];
      spans = (0, full.most_source) ∷ [];
    } ∷
    -- L "abc", relocate 1,1,2: accepted, unchanged
    record { steps = opened (a ∷ b ∷ c ∷ []) 0 ∷ edited (relocate 1 1 2) 0 0 ∷ output (a ∷ b ∷ c ∷ []) ∷ []; spans = (0, 3) ∷ [] } ∷ []
