-- Worked joins on fresh desks, as a table: what each answers, and the text that it leaves. proofs/Example.antt computes each.
use Rattle.std.specs.Prelude.{ℕ, suc, List, [], ◌∷◌, ◌++◌, replicate}
use Rattle.model.specs.Text.{Text}
use Rattle.model.specs.MagicString.{new, to_string}
use Rattle.model.specs.Limits.{full}
use Rattle.model.specs.Call.{Outcome}
use Rattle.model_join.specs.Join.{join}

-- ── lists ──
-- remove 0 to 1
abbrev pub removed : List ℕ
removed = 0x00 ∷ 0x09 ∷ 0x01 ∷ 0x00 ∷ 0x00 ∷ 0x00 ∷ 0x00 ∷ 0x00 ∷ 0x00 ∷ 0x00 ∷ 0x01 ∷ []

-- append_left at a position of one byte
abbrev pub appended : ℕ → ℕ → List ℕ
appended p x = 0x00 ∷ 0x06 ∷ 0x04 ∷ 0x00 ∷ 0x00 ∷ 0x00 ∷ p ∷ x ∷ []

-- relocate a to b to c, below 256
abbrev pub moved : ℕ → ℕ → ℕ → List ℕ
moved a b c = 0x00 ∷ 0x0D ∷ 0x08 ∷ 0x00 ∷ 0x00 ∷ 0x00 ∷ a ∷ 0x00 ∷ 0x00 ∷ 0x00 ∷ b ∷ 0x00 ∷ 0x00 ∷ 0x00 ∷ c ∷ []

-- append_left at 0, and append_right at 1, of half a store and a byte
abbrev pub half : Text
half = replicate (suc full.most_source) 0x78

abbrev pub half_left : List ℕ
half_left = (0x40 ∷ 0x06 ∷ 0x04 ∷ 0x00 ∷ 0x00 ∷ 0x00 ∷ 0x00 ∷ []) ++ half

abbrev pub half_right : List ℕ
half_right = (0x40 ∷ 0x06 ∷ 0x05 ∷ 0x00 ∷ 0x00 ∷ 0x00 ∷ 0x01 ∷ []) ++ half

-- ── the table ──
pub record Row : Type 0 where
  pub source : Text
  pub first : List ℕ
  pub second : List ℕ
  pub number : ℕ
  pub value : ℕ
  pub text : Text

abbrev pub row : Text → List ℕ → List ℕ → ℕ → ℕ → Text → Row
row source first second number value text = record { source = source; first = first; second = second; number = number; value = value; text = text }

abbrev pub computed : Row → Row
computed r =
    let o : Outcome = join full r.first r.second (new r.source) in
    row r.source r.first r.second o.shown.number o.shown.value (to_string o.desk)

abbrev abc : Text
abc = 97 ∷ 98 ∷ 99 ∷ []

-- a character of two bytes
abbrev accented : Text
accented = 0xC3 ∷ 0xA9 ∷ []

unfoldable pub rows : List Row
rows =
    -- joined: one cut, and "bcx"; the other way round the same
    row abc removed (appended 3 0x78) 0 1 (98 ∷ 99 ∷ 0x78 ∷ []) ∷
    row abc (appended 3 0x78) removed 0 1 (98 ∷ 99 ∷ 0x78 ∷ []) ∷
    -- no calls change nothing, but an empty source breaks a premise
    row abc [] [] 0 0 abc ∷
    row [] [] [] 18 0 [] ∷
    -- a byte that is no record, in either list, before anything else
    row [] (0 ∷ []) [] 16 0 [] ∷
    row [] [] (0 ∷ []) 16 0 [] ∷
    -- both reach the byte before 3; two moves, in one list too
    row abc (appended 3 0x78) (appended 3 0x79) 18 0 abc ∷
    row abc (moved 0 1 3) (moved 1 2 0) 18 0 abc ∷
    row abc (moved 0 1 3 ++ moved 1 2 0) [] 18 0 abc ∷
    -- inside a character; past the end comes before that
    row accented (appended 1 0x78) [] 19 0 accented ∷
    row accented [] (appended 1 0x78) 19 0 accented ∷
    row accented (appended 1 0x78) (appended 3 0x79) 18 0 accented ∷
    -- each text alone has room, both have not
    row (97 ∷ []) half_left half_right 13 0 (97 ∷ []) ∷ []
