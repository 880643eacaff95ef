-- Room for a trim above all that a desk uses, and what the trim answers.
use Rattle.std.specs.Prelude.{◌≡◌, ℕ, ◌+◌, ◌/◌, ◌≤◌}
use Rattle.memory_layout.specs.Refusals.{number_of}
use Rattle.memory_used.specs.declared.Used.{Used}
use Rattle.memory_used.specs.declared.Outcome.{Outcome}

-- above a desk whose source has n bytes: rows for any two of its runs, and n bytes, which are as many as two sides can write
pub record TrimRoom (cp cs : ℕ) (l : Used) (n : ℕ) : Type 0 where
  pub rows : l.row + l.pieces + l.pieces ≤ cp / 2
  pub places : l.byte + n ≤ cs

pub record Trimmed (pieces row byte : ℕ) (o : Outcome) : Type 0 where
  pub number : number_of o.status ≡ 0
  pub cuts : o.cuts ≡ 0
  pub pieces_are : o.used.pieces ≡ pieces
  pub row_is : o.used.row ≡ row
  pub byte_is : o.used.byte ≡ byte
