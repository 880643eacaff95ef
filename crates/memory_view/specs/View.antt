-- What memory says of the four slices, said of a view of them.
use Rattle.model.specs.MagicString.{MagicString}
use Rattle.memory.specs.Layout.{magic_string_of}
use Rattle.memory.specs.WellFormed.{WellFormed, Taken}
use Rattle.memory_view.specs.declared.DeskView.{DeskView}

-- the desk that it shows
abbrev pub desk_of : DeskView → MagicString
desk_of v = magic_string_of v.source.now v.chunks.now v.pieces.now v.store.now

-- it shows a well-formed desk
abbrev pub IsWellFormed : DeskView → Type 0
IsWellFormed v = WellFormed v.source.now v.chunks.now v.pieces.now v.store.now

-- and in tables of the full sizes
abbrev pub IsTaken : DeskView → Type 0
IsTaken v = Taken v.source.now v.chunks.now v.pieces.now v.store.now
