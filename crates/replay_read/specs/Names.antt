-- The names of the kinds, their numbers, and how many numbers their records have.
use Rattle.std.specs.Prelude.{Bool, ℕ, ◌==◌, ltb, List, [], ◌∷◌, Option, Some, None, codes}
use Rattle.replay_read.specs.declared.names.Kind.{Kind}
use Rattle.replay_read.specs.declared.names.Kind.TheVariants.{Open, Remove, Reset, Relocate, AppendLeft, AppendRight, PrependLeft, PrependRight, Append, Prepend, UpdateWith, Trim, TrimStart, TrimEnd, TrimLines, IndentWith, Slice, ToString, LastLine, GetIndentString, Len, LenUtf16, LineCount, IsEmpty, HasChanged, IsRangeWithinEditedChunk, LastChar, WellFormed, SetWord}

abbrev pub name_of : Kind → List ℕ
name_of Open = codes "open"
name_of Remove = codes "remove"
name_of Reset = codes "reset"
name_of Relocate = codes "relocate"
name_of AppendLeft = codes "append_left"
name_of AppendRight = codes "append_right"
name_of PrependLeft = codes "prepend_left"
name_of PrependRight = codes "prepend_right"
name_of Append = codes "append"
name_of Prepend = codes "prepend"
name_of UpdateWith = codes "update_with"
name_of Trim = codes "trim"
name_of TrimStart = codes "trim_start"
name_of TrimEnd = codes "trim_end"
name_of TrimLines = codes "trim_lines"
name_of IndentWith = codes "indent_with"
name_of Slice = codes "slice"
name_of ToString = codes "to_string"
name_of LastLine = codes "last_line"
name_of GetIndentString = codes "get_indent_string"
name_of Len = codes "len"
name_of LenUtf16 = codes "len_utf16"
name_of LineCount = codes "line_count"
name_of IsEmpty = codes "is_empty"
name_of HasChanged = codes "has_changed"
name_of IsRangeWithinEditedChunk = codes "is_range_within_edited_chunk"
name_of LastChar = codes "last_char"
name_of WellFormed = codes "well_formed"
name_of SetWord = codes "set_word"

-- the kinds in the order of their numbers, from 0 on; 29 and all above it are the numbers of none
abbrev pub kinds : List Kind
kinds =
    Open ∷ Remove ∷ Reset ∷ Relocate ∷
    AppendLeft ∷ AppendRight ∷ PrependLeft ∷ PrependRight ∷
    Append ∷ Prepend ∷ UpdateWith ∷
    Trim ∷ TrimStart ∷ TrimEnd ∷ TrimLines ∷ IndentWith ∷
    Slice ∷ ToString ∷ LastLine ∷ GetIndentString ∷
    Len ∷ LenUtf16 ∷ LineCount ∷ IsEmpty ∷ HasChanged ∷ IsRangeWithinEditedChunk ∷
    LastChar ∷ WellFormed ∷ SetWord ∷ []

-- whether a record of this kind has n numbers
abbrev pub has_numbers : Kind → ℕ → Bool
has_numbers Open n = n == 1
has_numbers Remove n = n == 2
has_numbers Reset n = n == 2
has_numbers Relocate n = n == 3
has_numbers AppendLeft n = n == 1
has_numbers AppendRight n = n == 1
has_numbers PrependLeft n = n == 1
has_numbers PrependRight n = n == 1
has_numbers Append n = n == 0
has_numbers Prepend n = n == 0
has_numbers UpdateWith n = n == 3
has_numbers Trim n = n == 1
has_numbers TrimStart n = n == 1
has_numbers TrimEnd n = n == 1
has_numbers TrimLines n = n == 0
has_numbers IndentWith n = ltb 0 n
has_numbers Slice n = n == 3
has_numbers ToString n = n == 0
has_numbers LastLine n = n == 0
has_numbers GetIndentString n = n == 0
has_numbers Len n = n == 0
has_numbers LenUtf16 n = n == 0
has_numbers LineCount n = n == 0
has_numbers IsEmpty n = n == 0
has_numbers HasChanged n = n == 0
has_numbers IsRangeWithinEditedChunk n = n == 2
has_numbers LastChar n = n == 0
has_numbers WellFormed n = n == 0
has_numbers SetWord n = n == 3

-- the same of what may be no kind, which has none
abbrev pub has_numbers_if : Option Kind → ℕ → Bool
has_numbers_if (Some kind) n = has_numbers kind n
has_numbers_if None n = n == 0
