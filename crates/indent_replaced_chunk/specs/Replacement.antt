-- A chunk with a replacement: what it asks and leaves, and the text that is written.
use Rattle.std.specs.Prelude.{◌≡◌, Bool, Option, MatchOption, List, ℕ, ◌+◌, ◌≤◌, ◌<◌, length}
use Rattle.memory_table.specs.Order.{entry_at, Linked}
use Rattle.model.specs.Indent.{indent_frag}
use Rattle.model.specs.WellFormed.{Valid}
use Rattle.memory.specs.Layout.{bytes_at}
use Rattle.memory_texts.specs.Over.{over}
use Rattle.memory_list.specs.Insert.{Placed}
use Rattle.memory_list.specs.Split.{RowSet}
use Rattle.indent_cuts.specs.Splice.{with_text_at}
use Rattle.indent_replaced_chunk.specs.declared.Written.{Written}

-- ---- a replacement

pub record ReplacementReady (store t s : List ℕ) (i byte : ℕ) : Type 0 where
  pub linked : Linked t
  pub placed : Placed t i
  pub inside : (entry_at t i).text.0 + (entry_at t i).text.1 ≤ length store
  pub valid : Valid (bytes_at store (entry_at t i).text)
  pub byte_in : byte ≤ length s
  pub narrow : length s < 4294967295

-- a replacement's text with the indentor put in, written at `byte`; or it does not fit
pub record WrittenAt (indentor : List ℕ) (mark : Bool) (text s : List ℕ) (byte : ℕ) (s' : List ℕ) (mark' : Bool) (end : ℕ) : Type 0 where
  pub store_is : s' ≡ over s byte (indent_frag indentor mark text).text
  pub end_is : end ≡ byte + length (indent_frag indentor mark text).text
  pub room : byte + length (indent_frag indentor mark text).text ≤ length s
  pub mark_is : mark' ≡ (indent_frag indentor mark text).mark

abbrev pub Writing : List ℕ → Bool → List ℕ → List ℕ → ℕ → List ℕ → Option Written → Type 0
Writing indentor mark text s byte s' r =
    MatchOption r (length s < byte + length (indent_frag indentor mark text).text) (λ w. WrittenAt indentor mark text s byte s' w.mark w.byte)

pub record Replaced (indentor text t s : List ℕ) (i : ℕ) (mark : Bool) (byte : ℕ) (t' s' : List ℕ) (mark' : Bool) (byte' : ℕ) : Type 0 where
  pub set : RowSet t t' i (with_text_at (byte, length (indent_frag indentor mark text).text) (entry_at t i))
  pub len : length t' ≡ length t
  pub store_is : s' ≡ over s byte (indent_frag indentor mark text).text
  pub end_is : byte' ≡ byte + length (indent_frag indentor mark text).text
  pub room : byte + length (indent_frag indentor mark text).text ≤ length s
  pub mark_is : mark' ≡ (indent_frag indentor mark text).mark

abbrev pub ReplacementDone : List ℕ → List ℕ → List ℕ → List ℕ → ℕ → Bool → ℕ → List ℕ → List ℕ → Option Written → Type 0
ReplacementDone indentor store t s i mark byte t' s' r =
    MatchOption r (length s < byte + length (indent_frag indentor mark (bytes_at store (entry_at t i).text)).text)
    (λ w. Replaced indentor (bytes_at store (entry_at t i).text) t s i mark byte t' s' w.mark w.byte)
