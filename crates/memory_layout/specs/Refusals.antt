-- The numbers of refusals, and of an answer that may be one.
use Rattle.std.specs.Prelude.{ℕ, Result, Ok, Err}
use Rattle.memory_layout.specs.declared.refusal.Refusal.{Refusal}
use Rattle.memory_layout.specs.declared.refusal.Refusal.TheVariants.{NotUtf8, NotWellFormed, InsideCharacter, EndBeforeStart, ZeroWidth, CutInReplacement, AcrossMovedEdge, IntoItself, NotTogether, PastSource, SliceStart, SliceEnd, Limit, ShortBuffer, BadOption, BadSheet, NoSuchCall, NotApart, RefusedAlone, Frozen, MarksTooHigh}

abbrev pub code : Refusal → ℕ
code NotUtf8 = 1
code NotWellFormed = 2
code InsideCharacter = 3
code EndBeforeStart = 4
code ZeroWidth = 5
code CutInReplacement = 6
code AcrossMovedEdge = 7
code IntoItself = 8
code NotTogether = 9
code PastSource = 10
code SliceStart = 11
code SliceEnd = 12
code Limit = 13
code ShortBuffer = 14
code BadOption = 15
code BadSheet = 16
code NoSuchCall = 17
code NotApart = 18
code RefusedAlone = 19
code Frozen = 20
code MarksTooHigh = 21

-- 0 where there is no refusal
abbrev pub number_of : {A : Type 0} → Result A Refusal → ℕ
number_of (Ok x) = 0
number_of (Err r) = code r

-- what an answer reports: nothing where it is a refusal
abbrev pub value_of : Result ℕ Refusal → ℕ
value_of (Ok n) = n
value_of (Err r) = 0
