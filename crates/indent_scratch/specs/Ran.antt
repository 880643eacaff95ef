-- `indent_with` past its tests: the steps between loading the scratch tables and writing them back.
use Rattle.std.specs.Prelude.{◌≡◌, false, List, ℕ, length}
use Rattle.memory_layout.specs.Layout.{INDENT_PIECES_LEN, INDENT_STORE_LEN}
use Rattle.model.specs.Indent.{indent_by}
use Rattle.model.specs.Call.{Edit, steps, refused_before, idle}
use Rattle.memory.specs.Layout.{magic_string_of}
use Rattle.memory.specs.Calls.{Ran}
use Rattle.edit_scratch.specs.Tables.{Scratch}

-- scratch tables with rows for the indentor, and for the head, the tail and the intros written anew, and with room for the bytes of a full store twice
pub record IndentScratch (t p s : List ℕ) : Type 0 where
  pub scratch : Scratch t p s
  pub pieces : length p ≡ INDENT_PIECES_LEN
  pub store : length s ≡ INDENT_STORE_LEN

-- any call whose steps are an indent by this indentor, and which is not refused before them
abbrev pub IndentRan : List ℕ → List ℕ → List ℕ → List ℕ → List ℕ → List ℕ → List ℕ → List ℕ → List ℕ → ℕ → ℕ → Type 0
IndentRan indentor exclude source t p s t' p' s' r c =
    (e : Edit) → refused_before (magic_string_of source t p s) e ≡ 0 → steps e (magic_string_of source t p s) ≡ indent_by indentor exclude (magic_string_of source t p s) → idle e ≡ false
    → Ran e source t p s t' p' s' r c
