-- Document 02, L8: what is frozen stays. Under every edit, accepted or refused, a byte of a marked chunk keeps the mark and is shown as before.
use Rattle.std.specs.Prelude.{ℕ, ◌≡◌, true, List, ◌∷◌}
use Rattle.std.proofs.Math.Option.{Option}
use Rattle.model.specs.Text.{Text}
use Rattle.model.specs.Chunk.{Chunk}
use Rattle.model.specs.MagicString.{MagicString}
use Rattle.model.specs.Limits.{Limits}
use Rattle.model.specs.WellFormed.{covers, Formed}
use Rattle.model.specs.Call.{Edit, run, after}

-- the chunk has the byte x of the source, is marked, and shows this replacement, or with none its own part of the source
pub record FrozenAt (x : ℕ) (replacement : Option Text) (c : Chunk) : Type 0 where
  pub byte : covers x c ≡ 1
  pub mark : c.frozen ≡ true
  pub shows : c.texts.edited_content ≡ replacement

-- some element of the list
pub data Some {A : Type 0} (P : A → Type 0) : List A → Type 0 where
  here : {a : A} {l : List A} → P a → Some P (a ∷ l)
  there : {a : A} {l : List A} → Some P l → Some P (a ∷ l)

abbrev pub FrozenStays : Type 0
FrozenStays =
    (k : Limits) (e : Edit) (m : MagicString) → Formed m → (x : ℕ) (replacement : Option Text)
    → Some (FrozenAt x replacement) m.chunks → Some (FrozenAt x replacement) (run k e m).desk.chunks

-- so under any list of edits, as a sheet, a join or a record's run makes them
abbrev pub FrozenStaysAfter : Type 0
FrozenStaysAfter =
    (k : Limits) (L : List Edit) (m : MagicString) → Formed m → (x : ℕ) (replacement : Option Text)
    → Some (FrozenAt x replacement) m.chunks → Some (FrozenAt x replacement) (after k L m).chunks
