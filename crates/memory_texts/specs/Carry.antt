-- Texts put into tables one after the other, from a byte of the store and a row of the piece table on.
use Rattle.std.specs.Prelude.{◌≡◌, List, [], ◌∷◌, ℕ, ◌+◌, ◌*◌, ◌^◌, ◌≤◌, ◌<◌, length}
use Rattle.utf8.specs.Chars.{concat}
use Rattle.model.specs.Text.{Text}
use Rattle.memory_texts.specs.Over.{over}

-- the rows that name texts put one after the other from a byte
abbrev pub rows_for : ℕ → List Text → List ℕ
rows_for byte [] = []
rows_for byte (t ∷ ts) = byte ∷ length t ∷ rows_for (byte + length t) ts

-- one text is put into the tables p and s, at a row and a byte
pub record Pushed (t p s : List ℕ) (byte row : ℕ) (p' s' : List ℕ) (byte' : ℕ) : Type 0 where
  pub store_is : s' ≡ over s byte t
  pub pieces_is : p' ≡ over p (row * 2) (byte ∷ length t ∷ [])
  pub byte_is : byte' ≡ byte + length t

-- there is room for a text, and a place fits a word of the pieces
pub record RoomFor (t p s : List ℕ) (byte row : ℕ) : Type 0 where
  pub row_in : row * 2 + 2 ≤ length p
  pub bytes_in : byte + length t ≤ length s
  pub narrow : length s < 2 ^ 32

-- the texts ts are put into the tables p and s, from a row and a byte on
pub record Carried (ts : List Text) (p s : List ℕ) (byte row : ℕ) (p' s' : List ℕ) (byte' row' : ℕ) : Type 0 where
  pub store_is : s' ≡ over s byte (concat ts)
  pub pieces_is : p' ≡ over p (row * 2) (rows_for byte ts)
  pub byte_is : byte' ≡ byte + length (concat ts)
  pub row_is : row' ≡ row + length ts

pub record RoomOf (ts : List Text) (p s : List ℕ) (byte row : ℕ) : Type 0 where
  pub rows_in : (row + length ts) * 2 ≤ length p
  pub bytes_in : byte + length (concat ts) ≤ length s
  pub rows_narrow : length p < 2 ^ 32
  pub narrow : length s < 2 ^ 32
