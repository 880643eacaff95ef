-- Document 01: "A desk is *well formed* exactly if its source and texts are UTF-8, it keeps these limits, its spans cover the source once with ends between
-- characters and no empty span (but one span 0 to 0 for an empty source)". What the sentence says of lists, links, places and store bytes is said of the memory:
-- a desk here is one list that holds every chunk once.
use Rattle.std.specs.Prelude.{ℕ, ◌≤◌, ◌<◌, ◌≡◌, true, ◌&&◌, cond, List, [], ◌∷◌, map, ltb, leb, length}
use Rattle.std.proofs.Math.Option.{Option, none, some}
use Rattle.utf8.specs.Rfc3629.{utf8, between}
use Rattle.utf8.specs.Chars.{All}
use Rattle.model.specs.Text.{Text, sum}
use Rattle.model.specs.Chunk.{Chunk, Texts, start_of, end_of}
use Rattle.model.specs.MagicString.{MagicString}
use Rattle.model.specs.Limits.{Limits, within}

abbrev pub Valid : Text → Type 0
Valid t = utf8 t ≡ true

abbrev pub ValidReplacement : Option Text → Type 0
ValidReplacement none = Unit {0}
ValidReplacement (some t) = Valid t

pub record ValidTexts (x : Texts) : Type 0 where
  pub intro : All Valid x.intro
  pub outro : All Valid x.outro
  pub replacement : ValidReplacement x.edited_content

-- how often a chunk's span has the byte x: once or not at all
unfoldable pub covers : ℕ → Chunk → ℕ
covers x c = cond (leb (start_of c) x && ltb x (end_of c)) 1 0

-- a span of a byte or more inside the source, with ends between characters
pub record ProperSpan (source : Text) (c : Chunk) : Type 0 where
  pub proper : start_of c < end_of c
  pub inside : end_of c ≤ length source
  pub start_between : between source (start_of c) ≡ true
  pub end_between : between source (end_of c) ≡ true

-- each byte of the source is in one span
pub record Tiled (source : Text) (cs : List Chunk) : Type 0 where
  pub spans : All (ProperSpan source) cs
  pub once : (x : ℕ) → x < length source → sum (covers x) cs ≡ 1

-- "its spans cover the source once .. (but one span 0 to 0 for an empty source)"
abbrev pub Covered : Text → List Chunk → Type 0
Covered [] cs = map (λ c. c.span) cs ≡ record { start = 0; end = 0 } ∷ []
Covered (a ∷ s) cs = Tiled (a ∷ s) cs

-- all of the sentence but the limits
pub record Formed (m : MagicString) : Type 0 where
  pub source : Valid m.source
  pub covered : Covered m.source m.chunks
  pub intro : All Valid m.intro
  pub outro : All Valid m.outro
  pub texts : All (λ c. ValidTexts c.texts) m.chunks

pub record WellFormed (k : Limits) (m : MagicString) : Type 0 where
  pub formed : Formed m
  pub limits : within k m ≡ true
