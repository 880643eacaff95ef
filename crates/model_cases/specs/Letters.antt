-- The bytes that the cases use, and a call with what it gives, in short.
use Rattle.std.specs.Prelude.{ℕ, [], length}
use Rattle.std.proofs.Math.Option.{Option}
use Rattle.model.specs.Text.{Text}
use Rattle.model.specs.Call.{Edit, to_string, slice, last_char}
use Rattle.model_calls.specs.Call.{DeskCall, change, report, «open», on_desk}
use Rattle.model_cases.specs.Case.{Step}

abbrev pub a : ℕ
a = 97

abbrev pub b : ℕ
b = 98

abbrev pub c : ℕ
c = 99

abbrev pub d : ℕ
d = 100

abbrev pub e : ℕ
e = 101

abbrev pub f : ℕ
f = 102

abbrev pub x : ℕ
x = 120

abbrev pub X : ℕ
X = 88

abbrev pub Z : ℕ
Z = 90

abbrev pub lf : ℕ
lf = 10

abbrev pub tab : ℕ
tab = 9

abbrev pub space : ℕ
space = 32

-- a call on the desk with its number, value and bytes
abbrev pub gives : DeskCall → ℕ → ℕ → Text → Step
gives k n v t = record { call = on_desk k; number = n; value = v; written = t }

-- an opening with its number
abbrev pub opened : Text → ℕ → Step
opened t n = record { call = «open» t; number = n; value = 0; written = [] }

-- an edit with its number and its cuts
abbrev pub edited : Edit → ℕ → ℕ → Step
edited k n cuts = gives (change k) n cuts []

-- the output, in a buffer of 8 bytes
abbrev pub output : Text → Step
output t = gives (report (to_string 8)) 0 (length t) t

-- a slice from a position up to another, or up to the source's end
abbrev pub sliced : ℕ → Option ℕ → Text → Step
sliced i j t = gives (report (slice i j 8)) 0 (length t) t

abbrev pub slice_refused : ℕ → Option ℕ → ℕ → Step
slice_refused i j n = gives (report (slice i j 8)) n 0 []

abbrev pub last_is : ℕ → Step
last_is v = gives (report last_char) 0 v []
