-- A case: calls from an opening on, with what each gives, and the spans that stand in the list at the end.
use Rattle.std.specs.Prelude.{ℕ, ◌≡◌, List, [], ◌∷◌, map}
use Rattle.model.specs.Text.{Text}
use Rattle.model.specs.Chunk.{Chunk, start_of, end_of}
use Rattle.model.specs.MagicString.{MagicString, new}
use Rattle.model.specs.Limits.{full}
use Rattle.model.specs.Call.{Shown, Outcome}
use Rattle.model_calls.specs.Call.{Call, perform}

-- a call, the number it gives, the value it reports and the bytes it writes
pub record Step : Type 0 where
  pub call : Call
  pub number : ℕ
  pub value : ℕ
  pub written : Text

pub record Case : Type 0 where
  pub steps : List Step
  pub spans : List (ℕ × ℕ)

abbrev pub step_of : Call → Shown → Step
step_of c s = record { call = c; number = s.number; value = s.value; written = s.written }

abbrev pub spans_of : List Chunk → List (ℕ × ℕ)
spans_of [] = []
spans_of (c ∷ cs) = (start_of c, end_of c) ∷ spans_of cs

abbrev pub onto : Step → Case → Case
onto s c = record { steps = s ∷ c.steps; spans = c.spans }

-- the case's calls run one after the other, each on the desk that the one before it left, under document 01's limits
abbrev pub performed : List Step → MagicString → Case
performed [] m = record { steps = []; spans = spans_of m.chunks }
performed (s ∷ l) m =
    let o : Outcome = perform full s.call m in
    onto (step_of s.call o.shown) (performed l o.desk)

-- each case begins with an opening, so the desk before it does not matter
abbrev pub outcome : Case → Case
outcome c = performed c.steps (new [])

-- every call of every case gives what the table says
abbrev pub Holds : List Case → Type 0
Holds table = map outcome table ≡ table
