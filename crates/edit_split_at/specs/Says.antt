-- What a cut of a chunk table says: the case of the model's `cut_at`.
use Rattle.std.specs.Prelude.{◌≡◌, List, [], ◌∷◌, ℕ, Result, Ok, Err, length}
use Rattle.memory_layout.specs.declared.refusal.Refusal.{Refusal}
use Rattle.memory_layout.specs.Refusals.{number_of}
use Rattle.model.specs.Cut.{made, edge, outside, refused, cut_at, made_count}
use Rattle.model.specs.Cut as model
use Rattle.memory.specs.Layout.{magic_string_of}
use Rattle.memory.specs.WellFormed.{Readable}
use Rattle.edit_split_at.specs.declared.Cut.{Cut}
use Rattle.edit_split_at.specs.declared.Cut.TheVariants.{Made, Edge, Outside}
use Rattle.edit_split_at.specs.Cuts.{Spans, CutsDone}

-- the four cases, in the model's words
abbrev pub case_of : Result Cut Refusal → model.Cut
case_of (Ok Made) = made
case_of (Ok Edge) = edge
case_of (Ok Outside) = outside
case_of (Err r) = refused

-- one cut, with any pieces and store and over any source of n bytes: its case, and what it leaves, with the number that it answers and how many it made
pub record CutSays (n q : ℕ) (t t' : List ℕ) (c : Result Cut Refusal) : Type 0 where
  pub says : (source p s : List ℕ) → length source ≡ n → Readable t p s → Spans source t p s → case_of c ≡ cut_at q (magic_string_of source t p s)
  pub done : CutsDone (q ∷ []) t t' (number_of c) (made_count (case_of c))
