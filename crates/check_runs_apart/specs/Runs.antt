-- What marking the runs of a row promises: of the piece rows that they take, of their pieces' texts, and of what they use.
use Rattle.std.specs.Prelude.{◌≡◌, Bool, true, Option, List, ℕ, ◌+◌, ◌/◌, ◌≤◌, length}
use Rattle.memory_layout.specs.Layout.{PIECES_LEN}
use Rattle.memory_table.specs.Order.{Entry}
use Rattle.memory.specs.Layout.{Place}
use Rattle.memory.specs.WellFormed.{among, run_uses, piece_uses, list_uses}
use Rattle.memory_used.specs.declared.Used.{Used}
use Rattle.memory_used.specs.Below.{Below}
use Rattle.check_marks.specs.Marks.{mark_at, Bits, Passed, Answered, entry_piece_count}
use Rattle.check_bit_marks.specs.BitMarks.{bit_at}
use Rattle.check_text_marks.specs.Texts.{Enough}

-- what can be marked: a row of the piece table, or a byte of the store
pub data Spot : Type 0 where
  piece : ℕ → Spot
  byte : ℕ → Spot

-- counts of rows and of bytes, as one
unfoldable pub both : (ℕ → ℕ) → (ℕ → ℕ) → Spot → ℕ
both f g (piece j) = f j
both f g (byte b) = g b

-- a mark for each row of the piece table and for each byte of a store of this size
pub record Markable (size : ℕ) (p rows words : List ℕ) : Type 0 where
  pub rows_are : length rows ≡ length p / 2
  pub few : length p ≤ PIECES_LEN
  pub bits : Bits (mark_at rows)
  pub enough : Enough size words

-- which of two bounds is the lower one, and the bound that the tables themselves are
abbrev pub Lower : Used → Used → Type 0
Lower u v = (u.byte ≤ v.byte) × (u.row ≤ v.row)

abbrev pub sizes : ℕ → List ℕ → Used
sizes size p = record { pieces = 0; row = length p / 2; byte = size }

-- runs and texts that lie inside the tables, as E says of a byte and a row, are marked as often as f says; what they use is seen, and their pieces are counted
pub record RunsPassed (ok : Bool) (v : Used) (size : ℕ) (p rows words : List ℕ) (u : Used) (E : ℕ → ℕ → Type 0) (f : Spot → ℕ) (count : ℕ) (rows' words' : List ℕ) : Type 0 where
  pub passed : Passed ok Lower (sizes size p) (both (mark_at rows) (bit_at words)) u (λ w. E w.byte w.row) f (both (mark_at rows') (bit_at words')) v
  pub counted : ok ≡ true → v.pieces ≡ u.pieces + count

-- of one run, and of a row's two: what they use, or none
abbrev pub RunPassed : Option Used → ℕ → List ℕ → List ℕ → List ℕ → Used → Place → List ℕ → List ℕ → Type 0
RunPassed r size p rows words u x rows' words' =
    Answered (λ ok v. RunsPassed ok v size p rows words u (λ byte row. Below p byte row x) (both (among x) (λ b. run_uses p b x)) x.1 rows' words') u r

abbrev pub ListsPassed : Option Used → ℕ → List ℕ → List ℕ → List ℕ → Used → Entry → List ℕ → List ℕ → Type 0
ListsPassed r size p rows words u e rows' words' =
    Answered
    (λ ok v. RunsPassed ok v size p rows words u (λ byte row. Below p byte row e.intro × Below p byte row e.outro) (both (λ j. piece_uses j e) (λ b. list_uses p b e))
    (entry_piece_count e) rows' words') u r
