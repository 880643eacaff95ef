-- Marks looked at one by one.
use Prim.Native.Nat.{ℕ, ◌+◌, ◌-◌, ◌≤◌, ◌<◌}
use mathlib.Core.Path.{◌≡◌, ap, sym, ◌∙◌}
use mathlib.Core.Bool.{true, false, true≢false}
use mathlib.Core.List.{List}
use lib.ListN.{get_or, take, drop}
use lib.Seq.{get_or-take, get_or-drop}
use native.Mathlib.Decide.{ℕ_discrete}
use native.Mathlib.Omega.{arith}
use Rattle.memory_layout.specs.Layout.{RECORD_MARKS}
use Rattle.model_filed.specs.Marks.{HIGHEST_MARKS}
use Rattle.filed_record.specs.Judged.{MarksJudged}

-- none of the first n is above the highest
abbrev pub Low : List ℕ → ℕ → Type 0
Low b n = (i : ℕ) → i < n → get_or b (RECORD_MARKS + i) 0 ≤ HIGHEST_MARKS

pub low_start : (b : List ℕ) → Low b 0
low_start b i h = absurd (omega arith)

pub low_turn : (b : List ℕ) (n : ℕ) → Low b n → get_or b (RECORD_MARKS + n) 0 ≤ HIGHEST_MARKS → Low b (n + 1)
low_turn b n f h i g = go (ℕ_discrete i n)
  where
    go : Dec (i ≡ n) → get_or b (RECORD_MARKS + i) 0 ≤ HIGHEST_MARKS
    go (yes e) = omega (arith, h, ap (λ j. get_or b (RECORD_MARKS + j) 0) e)
    go (no e) = f i (omega arith)

pub low_judged : (b : List ℕ) (n k : ℕ) → Low b k → n ≤ k → MarksJudged b n true
low_judged b n k f h = record { yes = λ _ i g. f i (omega arith); no = λ e. absurd (true≢false e) }

pub high_judged : (b : List ℕ) (n i : ℕ) → i < n → HIGHEST_MARKS < get_or b (RECORD_MARKS + i) 0 → MarksJudged b n false
high_judged b n i h g = record { yes = λ e. absurd (true≢false (sym e)); no = λ _. (i, h, g) }

-- the marks, as a part that is gone over
pub marks_part : (b : List ℕ) (n i : ℕ) → i < n → get_or (take (RECORD_MARKS + n - RECORD_MARKS) (drop RECORD_MARKS b)) i 0 ≡ get_or b (RECORD_MARKS + i) 0
marks_part b n i h = get_or-take (RECORD_MARKS + n - RECORD_MARKS) (drop RECORD_MARKS b) i 0 (omega arith) ∙ get_or-drop RECORD_MARKS b i 0
