-- The premises of the any-order rule on a list of edits, as computed tests. That they are exactly the premises is `decide_premises` in crate `any_order`.
use Rattle.std.specs.Prelude.{ℕ, zero, suc, ◌+◌, ◌*◌, Bool, true, false, ◌&&◌, ◌||◌, not, cond, List, [], ◌∷◌, ltb, leb, eqb, length}
use Rattle.model.specs.Text.{all, sum}
use Rattle.model.specs.MagicString.{MagicString}
use Rattle.model.specs.Limits.{Limits, piece_count, byte_count}
use Rattle.model.specs.Call.{Edit, remove, update_with, reset, insert, append, prepend, relocate, trim, trim_start, trim_end}
use Rattle.model.specs.Call.{trim_lines, indent_with, freeze, texts, positions, run, listed}

-- every two elements, the earlier one first
abbrev pub pairs : {A : Type 0} → (A → A → Bool) → List A → Bool
pairs f [] = true
pairs f (x ∷ xs) = all (f x) xs && pairs f xs

-- ── reach ──
-- what an edit reaches: the bytes from one number up to but without the other, the head, the tail, or nothing
pub data Zone : Type 0 where
  bytes : ℕ → ℕ → Zone
  head_zone tail_zone no_zone : Zone

abbrev pub left_zone : ℕ → Zone
left_zone zero = head_zone
left_zone (suc p) = bytes p (suc p)

abbrev pub right_zone : ℕ → ℕ → Zone
right_zone n p = cond (ltb p n) (bytes p (suc p)) tail_zone

abbrev pub zone : ℕ → Edit → Zone
zone n (remove a b) = bytes a b
zone n (update_with a b t o) = bytes a b
zone n (reset a b) = bytes a b
zone n (insert p t left front) = cond left (left_zone p) (right_zone n p)
zone n (append t) = tail_zone
zone n (prepend t) = head_zone
zone n (relocate a b to) = no_zone
zone n (trim p) = no_zone
zone n (trim_start p) = no_zone
zone n (trim_end p) = no_zone
zone n trim_lines = no_zone
zone n (indent_with i l) = no_zone
zone n (freeze a b) = no_zone

-- the two have something in common. Two ranges: each has a byte, and each starts before the other ends
abbrev pub meets : Zone → Zone → Bool
meets (bytes a b) (bytes c d) = (ltb a b && ltb c d) && (ltb a d && ltb c b)
meets (bytes a b) head_zone = false
meets (bytes a b) tail_zone = false
meets (bytes a b) no_zone = false
meets head_zone (bytes a b) = false
meets head_zone head_zone = true
meets head_zone tail_zone = false
meets head_zone no_zone = false
meets tail_zone (bytes a b) = false
meets tail_zone head_zone = false
meets tail_zone tail_zone = true
meets tail_zone no_zone = false
meets no_zone y = false

-- ── moves and replaced ranges ──
abbrev pub is_move : Edit → Bool
is_move (remove a b) = false
is_move (update_with a b t o) = false
is_move (reset a b) = false
is_move (insert p t left front) = false
is_move (append t) = false
is_move (prepend t) = false
is_move (relocate a b to) = true
is_move (trim p) = false
is_move (trim_start p) = false
is_move (trim_end p) = false
is_move trim_lines = false
is_move (indent_with i l) = false
is_move (freeze a b) = false

abbrev pub in_replaced : Edit → ℕ → Bool
in_replaced (remove a b) p = false
in_replaced (update_with a b t o) p = ltb a p && ltb p b
in_replaced (reset a b) p = false
in_replaced (insert q t left front) p = false
in_replaced (append t) p = false
in_replaced (prepend t) p = false
in_replaced (relocate a b to) p = false
in_replaced (trim q) p = false
in_replaced (trim_start q) p = false
in_replaced (trim_end q) p = false
in_replaced trim_lines p = false
in_replaced (indent_with i l) p = false
in_replaced (freeze a b) p = false

-- if x is a move, none of its positions lies strictly inside a range that y replaces
abbrev pub free_of : Edit → Edit → Bool
free_of x y = not (is_move x) || all (λ p. not (in_replaced y p)) (positions x)

-- ── width ──
abbrev pub is_wide : Edit → Bool
is_wide (remove a b) = ltb a b
is_wide (update_with a b t o) = ltb a b
is_wide (reset a b) = ltb a b
is_wide (insert p t left front) = true
is_wide (append t) = true
is_wide (prepend t) = true
is_wide (relocate a b to) = true
is_wide (trim p) = true
is_wide (trim_start p) = true
is_wide (trim_end p) = true
is_wide trim_lines = true
is_wide (indent_with i l) = true
is_wide (freeze a b) = true

-- ── the tests of a list over a source of n bytes ──
abbrev pub all_within : ℕ → List Edit → Bool
all_within n L = all (λ e. all (λ p. leb p n) (positions e)) L

abbrev pub all_apart : ℕ → List Edit → Bool
all_apart n L = pairs (λ x y. not (meets (zone n x) (zone n y))) L

abbrev pub one_move : List Edit → Bool
one_move L = pairs (λ x y. not (is_move x && is_move y)) L

abbrev pub moves_free : List Edit → Bool
moves_free L = pairs (λ x y. free_of x y && free_of y x) L

unfoldable pub edits_apart : ℕ → List Edit → Bool
edits_apart n L = ltb 0 n && (all listed L && (all is_wide L && (all_within n L && (all_apart n L && (one_move L && moves_free L)))))

unfoldable pub each_alone : Limits → MagicString → List Edit → Bool
each_alone k m L = all (λ e. eqb (run k e m).number 0) L

-- ── space ──
-- "3 × calls": an edit makes at most three cuts
abbrev pub most_cuts : List Edit → ℕ
most_cuts L = 3 * length L

-- "insertions, each `prepend` and `append` counted as one"
abbrev pub new_pieces : Edit → ℕ
new_pieces (remove a b) = 0
new_pieces (update_with a b t o) = 0
new_pieces (reset a b) = 0
new_pieces (insert p t left front) = 1
new_pieces (append t) = 1
new_pieces (prepend t) = 1
new_pieces (relocate a b to) = 0
new_pieces (trim p) = 0
new_pieces (trim_start p) = 0
new_pieces (trim_end p) = 0
new_pieces trim_lines = 0
new_pieces (indent_with i l) = 0
new_pieces (freeze a b) = 0

-- "all texts in L"
abbrev pub new_bytes : Edit → ℕ
new_bytes e = sum length (texts e)

unfoldable pub has_space : Limits → MagicString → List Edit → Bool
has_space k m L =
    leb (length m.chunks + most_cuts L) k.most_chunks
    && (leb (piece_count m + sum new_pieces L) k.most_pieces && leb (byte_count m + sum new_bytes L) k.most_bytes)

-- all premises but that the desk is well formed
unfoldable pub any_order_holds : Limits → MagicString → List Edit → Bool
any_order_holds k m L = edits_apart (length m.source) L && (each_alone k m L && has_space k m L)
