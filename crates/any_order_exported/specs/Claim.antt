-- The any-order rule of the exported functions: whatever memory they are run on, and whatever numbering and places in the store they choose. proofs/Theorem.antt proves it.
use Rattle.std.specs.Prelude.{ℕ, ◌≤◌, ◌≡◌, List, [], ◌∷◌, ◌++◌, length, drop}
use Rattle.utf8.specs.Chars.{All}
use Rattle.model.specs.Text.{Text}
use Rattle.model.specs.MagicString.{to_string}
use Rattle.model.specs.Call.{Edit, Shown}
use Rattle.model.specs.Call as call
use Rattle.model_calls.specs.Call.{DeskCall}
use Rattle.any_order.specs.Claim.{Order, Premises}
use Rattle.any_order_exported.specs.Runs.{Tables, Holds, desk_of, limits, Answer, EditRun, Seen, ReportCall, LaterRun}

-- ── what calls give outside the desk ──
-- "Compared are each later call's number, what it reports and what it writes into lent memory outside the desk": the number, the value and the written bytes of a call are these.
-- They stand at the front of the lent buffer, and every byte behind them is as it was: so of a refusal, which writes none, the whole buffer
pub record Gave (x : Seen) (s : Shown) : Type 0 where
  pub number : x.answer.number ≡ s.number
  pub value : x.answer.value ≡ s.value
  pub buffer : x.after ≡ s.written ++ drop (length s.written) x.before

-- call by call
pub data AllGave : List Seen → List Shown → Type 0 where
  nil : AllGave [] []
  cons : {x : Seen} {s : Shown} {xs : List Seen} {l : List Shown} → Gave x s → AllGave xs l → AllGave (x ∷ xs) (s ∷ l)

-- these calls give this from these tables: in every run of them, whatever buffers are lent
abbrev pub Gives : List ℕ → List DeskCall → Tables → List Shown → Type 0
Gives source calls T shown = (seen : List Seen) → LaterRun source calls T seen → AllGave seen shown

-- "The final text is what `to_string` writes into a buffer that is long enough": whatever such buffer is lent, `to_string` gives 0 and the text's length, and writes the text
abbrev pub FinalText : List ℕ → Tables → Text → Type 0
FinalText source T text =
    (x : Seen) → length text ≤ length x.before → ReportCall source (call.to_string (length x.before)) T x
    → Gave x (record { number = 0; value = length text; written = text })

-- ── the rule ──
-- "all orders of a list L .. are accepted, leave the same desk and text, and no list of later calls can tell them apart": of two orders, by their answers and the tables they left
pub record Alike (source : List ℕ) (answers answers' : List Answer) (T T' : Tables) : Type 0 where
  -- "Accepted means that a call gets no refusal number": each edit of either order gets 0
  pub accepted : All (λ a. a.number ≡ 0) answers
  pub accepted' : All (λ a. a.number ≡ 0) answers'
  -- both hold a well-formed desk, and the same: "Only numbering and places in the store may differ"
  pub holds : Holds source T
  pub holds' : Holds source T'
  pub desk : desk_of source T ≡ desk_of source T'
  -- and the same final text
  pub text : FinalText source T (to_string (desk_of source T))
  pub text' : FinalText source T' (to_string (desk_of source T))
  -- whatever calls come later, with equal arguments and buffer lengths, they give the same after either
  pub later : (calls : List DeskCall) → (shown : List Shown) × Gives source calls T shown × Gives source calls T' shown

-- the claim: from two memories that hold the same well-formed desk, any two orders of a list that meets the premises on it
abbrev pub AnyOrderExported : Type 0
AnyOrderExported =
    (source : List ℕ) (T T' : Tables) → Holds source T → Holds source T' → desk_of source T ≡ desk_of source T'
    → (L L₁ L₂ : List Edit) → Premises (limits T) (desk_of source T) L → Order L L₁ → Order L L₂
    → (answers answers' : List Answer) (T₁ T₂ : Tables) → EditRun source L₁ T answers T₁ → EditRun source L₂ T' answers' T₂
    → Alike source answers answers' T₁ T₂
