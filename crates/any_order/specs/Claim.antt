-- Document 01, "Any order: the reckoning": what edits reach, the premises on a list L of edits, the orders of L, and the claim.
use Rattle.std.specs.Prelude.{ℕ, zero, suc, ◌+◌, ◌≤◌, ◌<◌, ◌≡◌, Bool, true, cond, List, [], ◌∷◌, ltb, length}
use Rattle.utf8.specs.Chars.{All}
use Rattle.model.specs.Text.{sum}
use Rattle.model.specs.MagicString.{MagicString, to_string}
use Rattle.model.specs.Limits.{Limits, piece_count, byte_count}
use Rattle.model.specs.Call.{Edit, remove, update_with, reset, insert, append, prepend, relocate, trim, trim_start, trim_end}
use Rattle.model.specs.Call.{trim_lines, indent_with, freeze, positions, run, after, Shown, listed}
use Rattle.model.specs.WellFormed.{WellFormed}
use Rattle.model_join.specs.Tests.{most_cuts, new_pieces, new_bytes}
use Rattle.model_calls.specs.Call.{Call, perform}

-- ── lists ──
module _ {A : Type 0} where
  -- every two elements, the earlier one first
  abbrev pub Pairs : (A → A → Type 0) → List A → Type 0
  Pairs R [] = Unit {0}
  Pairs R (x ∷ xs) = All (R x) xs × Pairs R xs

  -- the second list is an order of the first: it has the same elements, each as often
  pub data Order : List A → List A → Type 0 where
    same : {l : List A} → Order l l
    next : (x : A) {l l' : List A} → Order l l' → Order (x ∷ l) (x ∷ l')
    swap : (x y : A) {l : List A} → Order (x ∷ y ∷ l) (y ∷ x ∷ l)
    then : {l₁ l₂ l₃ : List A} → Order l₁ l₂ → Order l₂ l₃ → Order l₁ l₃

-- ── what an edit reaches ──
pub data Spot : Type 0 where
  byte : ℕ → Spot
  head : Spot
  tail : Spot

-- "A left insertion reaches the byte before its position .. left at 0 and `prepend` reach the head"
unfoldable pub left_of : ℕ → Spot
left_of zero = head
left_of (suc p) = byte p

-- ".. a right one the byte after .. right at the source's end and `append` the tail"; n is the source's length
unfoldable pub right_of : ℕ → ℕ → Spot
right_of n p = cond (ltb p n) (byte p) tail

-- what an insertion at p reaches, left or right
abbrev pub beside : ℕ → ℕ → Bool → Spot
beside n p left = cond left (left_of p) (right_of n p)

-- the bytes from a up to but without b
abbrev pub Bytes : ℕ → ℕ → Spot → Type 0
Bytes a b (byte x) = (a ≤ x) × (x < b)
Bytes a b head = ⊥
Bytes a b tail = ⊥

-- "A removal, replacement or reset reaches its bytes"
abbrev pub Reach : ℕ → Edit → Spot → Type 0
Reach n (remove a b) z = Bytes a b z
Reach n (update_with a b t o) z = Bytes a b z
Reach n (reset a b) z = Bytes a b z
Reach n (insert p t left front) z = z ≡ beside n p left
Reach n (append t) z = z ≡ tail
Reach n (prepend t) z = z ≡ head
Reach n (relocate a b to) z = ⊥
Reach n (trim p) z = ⊥
Reach n (trim_start p) z = ⊥
Reach n (trim_end p) z = ⊥
Reach n trim_lines z = ⊥
Reach n (indent_with i l) z = ⊥
Reach n (freeze a b) z = ⊥

abbrev pub IsMove : Edit → Type 0
IsMove (remove a b) = ⊥
IsMove (update_with a b t o) = ⊥
IsMove (reset a b) = ⊥
IsMove (insert p t left front) = ⊥
IsMove (append t) = ⊥
IsMove (prepend t) = ⊥
IsMove (relocate a b to) = Unit {0}
IsMove (trim p) = ⊥
IsMove (trim_start p) = ⊥
IsMove (trim_end p) = ⊥
IsMove trim_lines = ⊥
IsMove (indent_with i l) = ⊥
IsMove (freeze a b) = ⊥

-- "A replaced range is that of a replacement in L, by an empty text too": the position lies strictly inside it
abbrev pub InReplaced : Edit → ℕ → Type 0
InReplaced (remove a b) p = ⊥
InReplaced (update_with a b t o) p = (a < p) × (p < b)
InReplaced (reset a b) p = ⊥
InReplaced (insert q t left front) p = ⊥
InReplaced (append t) p = ⊥
InReplaced (prepend t) p = ⊥
InReplaced (relocate a b to) p = ⊥
InReplaced (trim q) p = ⊥
InReplaced (trim_start q) p = ⊥
InReplaced (trim_end q) p = ⊥
InReplaced trim_lines p = ⊥
InReplaced (indent_with i l) p = ⊥
InReplaced (freeze a b) p = ⊥

-- a removal, replacement or reset is of a byte or more
abbrev pub Wide : Edit → Type 0
Wide (remove a b) = a < b
Wide (update_with a b t o) = a < b
Wide (reset a b) = a < b
Wide (insert p t left front) = Unit {0}
Wide (append t) = Unit {0}
Wide (prepend t) = Unit {0}
Wide (relocate a b to) = Unit {0}
Wide (trim p) = Unit {0}
Wide (trim_start p) = Unit {0}
Wide (trim_end p) = Unit {0}
Wide trim_lines = Unit {0}
Wide (indent_with i l) = Unit {0}
Wide (freeze a b) = Unit {0}

-- ── space ──
-- "Space for L: D's chunks + 3 × calls ≤ 512; D's pieces + insertions .. ≤ 1,024; D's store bytes + all texts in L ≤ 32,768"
pub record Space (k : Limits) (m : MagicString) (L : List Edit) : Type 0 where
  pub chunks : length m.chunks + most_cuts L ≤ k.most_chunks
  pub pieces : piece_count m + sum new_pieces L ≤ k.most_pieces
  pub bytes : byte_count m + sum new_bytes L ≤ k.most_bytes

-- ── the premises ──
-- no byte, nor head nor tail, is reached by both
abbrev pub Disjoint : ℕ → Edit → Edit → Type 0
Disjoint n x y = (z : Spot) → Reach n x z → Reach n y z → ⊥

-- if x is a move, none of its positions lies strictly inside a range that y replaces
abbrev pub FreeOf : Edit → Edit → Type 0
FreeOf x y = IsMove x → All (λ p. InReplaced y p → ⊥) (positions x)

-- on a list of edits over a source of n bytes
pub record EditsApart (n : ℕ) (L : List Edit) : Type 0 where
  pub source_not_empty : 0 < n
  -- "The edits of L are .."
  pub edits : All (λ e. listed e ≡ true) L
  pub width : All Wide L
  -- no position lies past the source's end
  pub within_source : All (λ e. All (λ p. p ≤ n) (positions e)) L
  pub reaches : Pairs (Disjoint n) L
  -- at most one move
  pub one_move : Pairs (λ x y. IsMove x → IsMove y → ⊥) L
  pub moves_free : Pairs (λ x y. FreeOf x y × FreeOf y x) L

-- on a desk and a list of edits
pub record Premises (k : Limits) (m : MagicString) (L : List Edit) : Type 0 where
  pub well_formed : WellFormed k m
  pub apart : EditsApart (length m.source) L
  -- each edit is accepted alone on this desk
  pub alone : All (λ e. (run k e m).number ≡ 0) L
  pub space : Space k m L

-- ── runs ──
-- "Accepted means that a call gets no refusal number"
abbrev pub AllAccepted : Limits → List Edit → MagicString → Type 0
AllAccepted k [] m = Unit {0}
AllAccepted k (e ∷ L) m = ((run k e m).number ≡ 0) × AllAccepted k L (run k e m).desk

-- later calls, refused ones included: "each later call's number, what it reports and what it writes into lent memory outside the desk"
abbrev pub shown : Limits → List Call → MagicString → List Shown
shown k [] m = []
shown k (c ∷ cs) m = (perform k c m).shown ∷ shown k cs (perform k c m).desk

pub record Conclusion (k : Limits) (m : MagicString) (L L' : List Edit) : Type 0 where
  pub accepted : AllAccepted k L' m
  -- a desk here has no numbering and no places in the store, so that equal is what 01 calls the same; with equal marks, as 02's L8 says
  pub desk : after k L' m ≡ after k L m
  pub well_formed : WellFormed k (after k L' m)
  -- "The final text is what `to_string` writes into a buffer that is long enough"
  pub text : to_string (after k L' m) ≡ to_string (after k L m)
  -- "no list of later calls can tell them apart"
  pub later : (calls : List Call) → shown k calls (after k L' m) ≡ shown k calls (after k L m)

-- the claim: of every desk and list of edits that meet the premises, every order of the list and every list of later calls
abbrev pub AnyOrder : Type 0
AnyOrder = (k : Limits) (m : MagicString) (L : List Edit) → Premises k m L → (L' : List Edit) → Order L L' → Conclusion k m L L'
