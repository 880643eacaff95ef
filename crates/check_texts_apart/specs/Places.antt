-- The runs and texts of a chunk table by row number, row 0 and rows 1 to n: they lie inside the tables, no piece row belongs to two runs and no byte to two texts.
use Rattle.std.specs.Prelude.{◌≡◌, cond, Option, Some, None, List, ℕ, ◌+◌, ◌/◌, ◌≤◌, ◌<◌, eqb, length}
use Rattle.memory_layout.specs.Layout.{TEXT_AT, TEXT_N, NONE}
use Rattle.memory_table.specs.Order.{Entry, entry_at}
use Rattle.memory.specs.Layout.{Place}
use Rattle.memory.specs.WellFormed.{piece_uses, list_uses, byte_uses}
use Rattle.memory_counting.specs.Counts.{sum_to}
use Rattle.memory_used.specs.declared.Used.{Used}
use Rattle.memory_used.specs.Below.{Below, EntryBelow}
use Rattle.check_marks.specs.Marks.{cell, Answered, entry_piece_count, piece_total}
use Rattle.check_runs_apart.specs.Runs.{both, RunsPassed}

-- all of them lie below a row of the piece table and a byte of the store. Row 0 has no replacement
pub record RowsBelow (t p : List ℕ) (n byte row : ℕ) : Type 0 where
  pub desk : Below p byte row (entry_at t 0).intro × Below p byte row (entry_at t 0).outro
  pub chunks : (k : ℕ) → k < n → EntryBelow p byte row (entry_at t (k + 1))

pub record Apart (t p : List ℕ) (n : ℕ) : Type 0 where
  pub pieces : (j : ℕ) → piece_uses j (entry_at t 0) + sum_to (λ k. piece_uses j (entry_at t (k + 1))) n ≤ 1
  pub bytes : (b : ℕ) → list_uses p b (entry_at t 0) + sum_to (λ k. byte_uses p b (entry_at t (k + 1))) n ≤ 1

-- inside the piece table and a store of this size, and apart
pub record Placed (t p : List ℕ) (n size : ℕ) : Type 0 where
  pub below : RowsBelow t p n size (length p / 2)
  pub apart : Apart t p n

-- what they use: how many pieces, and a row and a byte above them all
pub record Counted (t p : List ℕ) (n size : ℕ) (u : Used) : Type 0 where
  pub pieces : u.pieces ≡ piece_total t n
  pub below : RowsBelow t p n u.byte u.row
  pub row : u.row ≤ length p / 2
  pub byte : u.byte ≤ size

-- nothing at all
abbrev pub nothing : Used
nothing = record { pieces = 0; row = 0; byte = 0 }

-- what they use if they are placed so, or none
abbrev pub Places : Option Used → List ℕ → List ℕ → ℕ → ℕ → Type 0
Places (Some u) t p n size = Placed t p n size × Counted t p n size u
Places None t p n size = Placed t p n size → ⊥

-- ── on the way ──
-- a replacement, if there is one, ends at or before a byte
abbrev pub TextBelow : Place → ℕ → Type 0
TextBelow x byte = (x.0 ≡ NONE → ⊥) → x.0 + x.1 ≤ byte

-- where the replacement of row i begins: row 0 has none
unfoldable pub text_start : List ℕ → ℕ → ℕ
text_start t i = cond (eqb i 0) NONE (cell t i TEXT_AT)

-- row i with what it has
abbrev pub entry_of_row : List ℕ → ℕ → Entry
entry_of_row t i =
    record {
      start = (entry_at t i).start;
      end = (entry_at t i).end;
      frozen = (entry_at t i).frozen;
      intro = (entry_at t i).intro;
      outro = (entry_at t i).outro;
      text = (text_start t i, cell t i TEXT_N);
    }

-- one row, and the first n: what they use, or none
abbrev pub EntryPassed : Option Used → ℕ → List ℕ → List ℕ → List ℕ → Used → Entry → List ℕ → List ℕ → Type 0
EntryPassed r size p rows words u e rows' words' =
    Answered
    (λ ok v. RunsPassed ok v size p rows words u (λ byte row. EntryBelow p byte row e) (both (λ j. piece_uses j e) (λ b. byte_uses p b e)) (entry_piece_count e) rows' words') u r

abbrev pub RowsPassed : Option Used → ℕ → List ℕ → List ℕ → List ℕ → List ℕ → ℕ → Used → List ℕ → List ℕ → Type 0
RowsPassed r size t p rows words n u rows' words' =
    Answered
    (λ ok v. RunsPassed ok v size p rows words u (λ byte row. (i : ℕ) → i < n → EntryBelow p byte row (entry_of_row t i))
    (λ x. sum_to (λ i. both (λ j. piece_uses j (entry_of_row t i)) (λ b. byte_uses p b (entry_of_row t i)) x) n) (sum_to (λ i. entry_piece_count (entry_of_row t i)) n) rows' words') u r
