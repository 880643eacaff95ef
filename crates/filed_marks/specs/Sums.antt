-- The sum of the marks that a record's first entries have.
use Rattle.std.specs.Prelude.{ℕ, ◌≡◌, List, take}
use Rattle.model.specs.Text.{sum}
use Rattle.filed_record.specs.Record.{record_marks_of}

-- of the first n
pub record Sums (b : List ℕ) (n r : ℕ) : Type 0 where
  pub is : r ≡ sum (λ m. m) (take n (record_marks_of b))
