-- What each premise is for: a list of two edits that breaks it, and what the list's two orders then do. By computation. docs/ANY-ORDER.md has the same table in words.
use Rattle.std.specs.Prelude.{ℕ, suc, Bool, true, cond, List, [], ◌∷◌, ◌++◌, reverse, ltb, length, replicate}
use Rattle.model.specs.Text.{Text, all}
use Rattle.model.specs.MagicString.{MagicString, new, to_string}
use Rattle.model.specs.Limits.{full}
use Rattle.model.specs.Insert.{left, right, back}
use Rattle.model.specs.Call.{Edit, remove, update_with, insert, append, prepend, relocate, trim, listed, after, answers}
use Rattle.model_join.specs.Tests.{is_wide, all_within, all_apart, one_move, moves_free, each_alone, has_space}

-- the tests of the premises, in the checklist's order
abbrev pub tests : MagicString → List Edit → List Bool
tests m L =
    let n : ℕ = length m.source in
    ltb 0 n ∷ all listed L ∷ all is_wide L ∷ all_within n L ∷ all_apart n L ∷ one_move L ∷ moves_free L ∷ each_alone full m L ∷ has_space full m L ∷ []

-- the places of those that fail, counted from k
abbrev pub failing : ℕ → List Bool → List ℕ
failing k [] = []
failing k (b ∷ bs) = let r : List ℕ = failing (suc k) bs in cond b r (k ∷ r)

-- the numbers that the edits of an order get, and the text that they leave
pub record Left : Type 0 where
  pub numbers : List ℕ
  pub text : Text

abbrev pub leaving : List ℕ → Text → Left
leaving numbers text = record { numbers = numbers; text = text }

abbrev pub left_by : List Edit → MagicString → Left
left_by L m = leaving (answers full L m) (to_string (after full L m))

-- a source, the edits that were made on it, the list, the premises that it breaks, and what it leaves in this order and in the other
pub record Row : Type 0 where
  pub source : Text
  pub made : List Edit
  pub edits : List Edit
  pub broken : List ℕ
  pub in_order : Left
  pub reversed : Left

abbrev pub row : Text → List Edit → List Edit → List ℕ → Left → Left → Row
row source made L broken l l' = record { source = source; made = made; edits = L; broken = broken; in_order = l; reversed = l' }

abbrev pub computed : Row → Row
computed r =
    let m : MagicString = after full r.made (new r.source) in
    row r.source r.made r.edits (failing 1 (tests m r.edits)) (left_by r.edits m) (left_by (reverse r.edits) m)

-- ── the table ──
abbrev a : ℕ
a = 97

abbrev b : ℕ
b = 98

abbrev c : ℕ
c = 99

abbrev x : ℕ
x = 120

abbrev y : ℕ
y = 121

abbrev X : ℕ
X = 88

abbrev space : ℕ
space = 32

abbrev many : Text
many = replicate (suc full.most_source) x

unfoldable pub rows : List Row
rows =
    -- 1 an empty source: its one chunk starts and ends at 0, so that "x" goes behind it and "y" before it, neither to the head nor to the tail
    row [] [] (insert 0 (x ∷ []) left back ∷ insert 0 (y ∷ []) right back ∷ []) (1 ∷ [])
    (leaving (0 ∷ 0 ∷ []) (y ∷ x ∷ []))
    (leaving (0 ∷ 0 ∷ []) (y ∷ x ∷ [])) ∷
    -- 2 another edit than those of L
    row (a ∷ []) [] (trim 0 ∷ insert 1 (space ∷ []) left back ∷ []) (2 ∷ [])
    (leaving (0 ∷ 0 ∷ []) (a ∷ space ∷ []))
    (leaving (0 ∷ 0 ∷ []) (a ∷ [])) ∷
    -- 3 zero width: a removal changes nothing, and a replacement is refused, alone too
    row (a ∷ []) [] (remove 1 1 ∷ insert 1 (x ∷ []) left back ∷ []) (3 ∷ [])
    (leaving (0 ∷ 0 ∷ []) (a ∷ x ∷ []))
    (leaving (0 ∷ 0 ∷ []) (a ∷ x ∷ [])) ∷
    row (a ∷ []) [] (update_with 1 1 (X ∷ []) true ∷ insert 1 (x ∷ []) left back ∷ []) (3 ∷ 8 ∷ [])
    (leaving (5 ∷ 0 ∷ []) (a ∷ x ∷ []))
    (leaving (0 ∷ 5 ∷ []) (a ∷ x ∷ [])) ∷
    -- 4 positions past the source's end: both go to the head
    row (a ∷ []) [] (insert 2 (x ∷ []) left back ∷ insert 3 (y ∷ []) left back ∷ []) (4 ∷ [])
    (leaving (0 ∷ 0 ∷ []) (x ∷ y ∷ a ∷ []))
    (leaving (0 ∷ 0 ∷ []) (y ∷ x ∷ a ∷ [])) ∷
    -- 5 the same byte
    row (a ∷ []) [] (insert 1 (x ∷ []) left back ∷ insert 1 (y ∷ []) left back ∷ []) (5 ∷ [])
    (leaving (0 ∷ 0 ∷ []) (a ∷ x ∷ y ∷ []))
    (leaving (0 ∷ 0 ∷ []) (a ∷ y ∷ x ∷ [])) ∷
    -- 6 two moves
    row (a ∷ b ∷ c ∷ []) [] (relocate 0 1 3 ∷ relocate 1 2 0 ∷ []) (6 ∷ [])
    (leaving (0 ∷ 0 ∷ []) (c ∷ b ∷ a ∷ []))
    (leaving (0 ∷ 0 ∷ []) (b ∷ c ∷ a ∷ [])) ∷
    -- 7 a move's position inside a replaced range
    row (a ∷ b ∷ []) [] (update_with 0 2 (X ∷ []) true ∷ relocate 0 1 2 ∷ []) (7 ∷ [])
    (leaving (0 ∷ 6 ∷ []) (X ∷ []))
    (leaving (0 ∷ 7 ∷ []) (b ∷ a ∷ [])) ∷
    -- 8 an edit that is refused alone, on the desk "acb"
    row (a ∷ b ∷ c ∷ []) (relocate 1 2 3 ∷ []) (update_with 0 2 (X ∷ []) true ∷ relocate 2 3 0 ∷ []) (8 ∷ [])
    (leaving (7 ∷ 0 ∷ []) (c ∷ a ∷ b ∷ []))
    (leaving (0 ∷ 0 ∷ []) (c ∷ X ∷ [])) ∷
    -- 9 no space for both texts
    row (a ∷ []) [] (prepend many ∷ append many ∷ []) (9 ∷ [])
    (leaving (0 ∷ 13 ∷ []) (many ++ (a ∷ [])))
    (leaving (0 ∷ 13 ∷ []) (a ∷ many)) ∷ []
