-- A worked list: every kind of edit, `update_with` in both settings, on a desk in use. It meets the premises, so that the theorem speaks of something, and each of its orders
-- leaves the same text. By computation.
use Rattle.std.specs.Prelude.{true, false, List, [], ◌∷◌}
use Rattle.std.proofs.Math.Option.{none, some}
use Rattle.model.specs.Text.{Text}
use Rattle.model.specs.Chunk.{chunk_from, bare}
use Rattle.model.specs.MagicString.{MagicString}
use Rattle.model.specs.Insert.{left, right, front, back}
use Rattle.model.specs.Call.{Edit, remove, update_with, reset, insert, append, prepend, relocate}

-- ── a desk in use ──
-- "abcdefghi" and a character of two bytes
abbrev pub source : Text
source = 97 ∷ 98 ∷ 99 ∷ 100 ∷ 101 ∷ 102 ∷ 103 ∷ 104 ∷ 105 ∷ 0xC3 ∷ 0xA9 ∷ []

-- the edits made on it: the character is replaced by "E", gets the piece "i" before it and goes before "g"
abbrev pub prepared : List Edit
prepared =
    prepend (104 ∷ []) ∷ insert 2 (106 ∷ []) right back ∷ insert 5 (107 ∷ []) left back ∷ update_with 9 11 (69 ∷ []) true ∷ insert 9 (105 ∷ []) right back
    ∷ relocate 9 11 6 ∷ []

-- "habjcdekfiEghi"
abbrev pub desk : MagicString
desk =
    record {
      source = source;
      intro = (104 ∷ []) ∷ [];
      outro = [];
      chunks =
          chunk_from 0 2 false (bare none)
          ∷ chunk_from 2 5 false (record { intro = (106 ∷ []) ∷ []; outro = (107 ∷ []) ∷ []; edited_content = none })
          ∷ chunk_from 5 6 false (bare none)
          ∷ chunk_from 9 11 false (record { intro = (105 ∷ []) ∷ []; outro = []; edited_content = some (69 ∷ []) })
          ∷ chunk_from 6 9 false (bare none) ∷ [];
    }

-- ── a list of edits on it ──
-- one replacement takes the piece "j" with it and the other leaves "i", the reset takes "k"; the move starts inside the removed range, and its range holds a replaced one
abbrev pub edits : List Edit
edits =
    remove 0 2 ∷ update_with 2 4 (88 ∷ []) true ∷ reset 4 5 ∷ insert 6 (112 ∷ []) left back ∷ insert 6 (113 ∷ []) right back ∷ insert 8 [] left front ∷ insert 8 (115 ∷ []) right front
    ∷ update_with 9 11 (89 ∷ []) false ∷ append (116 ∷ []) ∷ prepend (117 ∷ []) ∷ relocate 1 6 11 ∷ []

-- "uhiYqghsiXefpt"
abbrev pub text : Text
text = 117 ∷ 104 ∷ 105 ∷ 89 ∷ 113 ∷ 103 ∷ 104 ∷ 115 ∷ 105 ∷ 88 ∷ 101 ∷ 102 ∷ 112 ∷ 116 ∷ []
