-- A trim of one chunk row: what it asks of the row and the tables, and what it leaves there.
use Rattle.std.specs.Prelude.{◌≡◌, Bool, true, false, ◌&&◌, cond, List, ℕ, ◌+◌, ◌*◌, ◌-◌, ◌≤◌, ◌<◌, eqb, length}
use Rattle.std.proofs.Math.Option.{some}
use Rattle.memory_layout.specs.Layout.{TRIM_STORE_LEN, NONE}
use Rattle.memory_table.specs.declared.Piece.{Piece}
use Rattle.memory_table.specs.declared.Row.{Row}
use Rattle.memory_table.specs.Order.{Entry, entry_of}
use Rattle.model.specs.Text.{Text, all}
use Rattle.model.specs.WellFormed.{Valid, ValidTexts}
use Rattle.memory.specs.Layout.{Place, run_of, replacement_of, texts_of, chunk_of}
use Rattle.memory.specs.WellFormed.{ReplacementIn, EntryIn, replacement_uses}
use Rattle.memory_texts.specs.Texts.{SpanIn, content_at}
use Rattle.trim_text.specs.Sides.{trim_text, blank}
use Rattle.memory_texts.specs.Low.{RowsKept, BytesKept, TextLow, RunsLow, EntryLow}
use Rattle.trim_chunk.specs.declared.Stop.{Stop}
use Rattle.trim_chunk.specs.declared.Stop.TheVariants.{Near, Content, Far}
use Rattle.trim_chunk.specs.Uses.{RowApart}
use Rattle.trim_chunk.specs.Plain.{plain_of, Behind}
use Rattle.trim_chunk.specs.Sides.{trim_chunk}

-- ---- a row's runs by their side

abbrev pub place_of : Piece → Place
place_of q = (q.at, q.n)

abbrev pub near_of : Bool → Entry → Place
near_of true e = e.intro
near_of false e = e.outro

abbrev pub far_of : Bool → Entry → Place
far_of true e = e.outro
far_of false e = e.intro

abbrev pub with_side_places : Bool → Entry → Place → Place → Place → Entry
with_side_places true e n f x = record { start = e.start; end = e.end; frozen = e.frozen; intro = n; outro = f; text = x }
with_side_places false e n f x = record { start = e.start; end = e.end; frozen = e.frozen; intro = f; outro = n; text = x }

-- the row q is r with the entry e
pub record Rewritten (r q : Row) (e : Entry) : Type 0 where
  pub entry_is : entry_of q ≡ e
  pub next : q.next ≡ r.next
  pub prev : q.prev ≡ r.prev

-- a chunk's content
abbrev pub content_of : List ℕ → List ℕ → Entry → Text
content_of source s e = content_at source s e.start e.end e.text

-- a blank chunk, trimmed
abbrev pub cleared_text_place : Entry → Place
cleared_text_place e = cond (eqb (cond (eqb e.text.0 NONE) (e.end - e.start) e.text.1) 0) e.text (0, 0)

abbrev pub clear_of : Entry → Entry
clear_of e = with_side_places true e (0, 0) (0, 0) (cleared_text_place e)

unfoldable pub blank_row : ℕ → List ℕ → List ℕ → List ℕ → Entry → Bool
blank_row pattern source p s e = all (blank pattern) (run_of p s e.intro) && (blank pattern (content_of source s e) && all (blank pattern) (run_of p s e.outro))

-- ---- what the functions ask

-- a row whose texts can be read and are valid
pub record RowReady (source p s : List ℕ) (e : Entry) : Type 0 where
  pub entry : EntryIn p s e
  pub span : SpanIn source e
  pub texts : ValidTexts (texts_of p s e)
  pub content_valid : Valid (content_of source s e)

-- the pieces of a row's two lists
abbrev pub pieces_of : Entry → ℕ
pieces_of e = e.intro.1 + e.outro.1

-- its runs and texts lie below a row and a byte, and there is room for them behind
pub record RowFits (p s : List ℕ) (top byte : ℕ) (e : Entry) : Type 0 where
  pub low : EntryLow p top byte e
  pub rows : (top + pieces_of e) * 2 ≤ length p
  pub narrow : length p ≤ 4294967296
  pub bytes : byte + plain_of e ≤ length s
  pub small : length s ≤ TRIM_STORE_LEN

pub record ContentReady (source s : List ℕ) (e : Entry) (byte : ℕ) : Type 0 where
  pub span : SpanIn source e
  pub replacement : ReplacementIn s e.text
  pub valid : Valid (content_of source s e)
  pub bytes : byte + plain_of e ≤ length s
  pub small : length s ≤ TRIM_STORE_LEN

-- ---- what they give

-- where a trim stops
abbrev pub PartIs : Bool → ℕ → List ℕ → List ℕ → List ℕ → Entry → Stop → Type 0
PartIs front pattern source p s e Near = all (blank pattern) (run_of p s (near_of front e)) ≡ false
PartIs front pattern source p s e Content = (all (blank pattern) (run_of p s (near_of front e)) ≡ true) × (blank pattern (content_of source s e) ≡ false)
PartIs front pattern source p s e Far = (all (blank pattern) (run_of p s (near_of front e)) ≡ true) × (blank pattern (content_of source s e) ≡ true)

-- the replacement of a content that is trimmed in part: none, or what it was, where nothing was taken off
pub record ContentTrimmed (front : Bool) (pattern : ℕ) (source s : List ℕ) (e : Entry) (byte : ℕ) (s' : List ℕ) (x : Place) : Type 0 where
  pub kept : BytesKept byte s s'
  pub text : replacement_of s' x
      ≡ cond (eqb (length (trim_text front pattern (content_of source s e))) (length (content_of source s e))) (replacement_of s e.text) (some (trim_text front pattern (content_of source s e)))
  pub low : TextLow byte e.text → TextLow (byte + plain_of e) x
  pub plain : x.0 ≡ NONE → e.text.0 ≡ NONE
  pub uses : (b : ℕ) → b < byte → replacement_uses b x ≤ replacement_uses b e.text

-- the row of a chunk that is not blank, trimmed
pub record RowTrimmed (front : Bool) (pattern : ℕ) (source p s : List ℕ) (e : Entry) (top byte : ℕ) (p' s' : List ℕ) (e' : Entry) : Type 0 where
  pub rows : RowsKept top p p'
  pub bytes : BytesKept byte s s'
  pub chunk : trim_chunk front pattern source (chunk_of p s e) ≡ record { goes_on = false; chunk = chunk_of p' s' e' }
  pub runs : RunsLow p' (top + pieces_of e) byte e'
  pub text : TextLow (byte + plain_of e) e'.text
  pub spent : (b : ℕ) → Behind byte e'.text b → b + plain_of e' ≤ byte + plain_of e
  pub apart : RowApart p p' top byte e e'

-- the row q, in the place of r
pub record RowDone (front : Bool) (pattern : ℕ) (source p s : List ℕ) (r : Row) (top byte : ℕ) (p' s' : List ℕ) (q : Row) : Type 0 where
  pub trimmed : RowTrimmed front pattern source p s (entry_of r) top byte p' s' (entry_of q)
  pub start : q.start ≡ r.start
  pub next : q.next ≡ r.next
  pub prev : q.prev ≡ r.prev
