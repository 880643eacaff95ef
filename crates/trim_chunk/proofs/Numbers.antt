-- What `trim_text`'s laws of a number and its pattern give for a chunk.
use mathlib.Core.Path.{◌≡◌, sym, ap, ◌∙◌}
use mathlib.Core.Bool.{Bool, ◌&&◌}
use mathlib.Core.List.{List}
use Prim.Native.Nat.{ℕ, min}
use Rattle.memory_table.specs.declared.Row.{Row}
use Rattle.memory_table.specs.Order.{Entry, entry_of}
use Rattle.memory.specs.Layout.{run_of, chunk_of}
use Rattle.model.specs.Text.{Text, all}
use Rattle.model.specs.Chunk.{Chunk, content}
use Rattle.trim_text.specs.Sides.{trim_text}
use Rattle.trim_text.proofs.Numbers.{same_text, same_blank}
use Rattle.trim_run.specs.Deque.{trim_deque}
use Rattle.trim_run.proofs.Numbers.{same_deque}
use Rattle.trim_chunk.specs.Row.{content_of, blank_row, RowTrimmed, RowDone}
use Rattle.trim_chunk.specs.Sides.{trim_chunk}
use Rattle.trim_chunk.proofs.Sides.{near, far, turn, chunk_turn}

module _ (number p : ℕ) (e : p ≡ min number 1) where
  pub same_blank_row : (source ps s : List ℕ) (x : Entry) → blank_row p source ps s x ≡ blank_row number source ps s x
  unfolding blank_row
  same_blank_row source ps s x =
      ap (λ (f : Text → Bool). all f (run_of ps s x.intro) && (f (content_of source s x) && all f (run_of ps s x.outro))) (same_blank number p e)

  pub same_chunk : (front : Bool) (source : Text) (c : Chunk) → trim_chunk front p source c ≡ trim_chunk front number source c
  same_chunk front source c =
      chunk_turn front p source c
      ∙ ap (λ (n : List Text). turn front c n (content source c) (trim_text front p (content source c)) (trim_deque front p (far front c.texts)))
      (same_deque number p e front (near front c.texts))
      ∙ ap (λ (t : Text → Text). turn front c (trim_deque front number (near front c.texts)) (content source c) (t (content source c)) (trim_deque front p (far front c.texts)))
      (same_text number p e front)
      ∙ ap (turn front c (trim_deque front number (near front c.texts)) (content source c) (trim_text front number (content source c)))
      (same_deque number p e front (far front c.texts))
      ∙ sym (chunk_turn front number source c)

  same_trimmed : (front : Bool) (source ps s : List ℕ) (x : Entry) (top byte : ℕ) (ps' s' : List ℕ) (x' : Entry)
      → RowTrimmed front p source ps s x top byte ps' s' x' → RowTrimmed front number source ps s x top byte ps' s' x'
  same_trimmed front source ps s x top byte ps' s' x' h =
      record {
        rows = h.rows;
        bytes = h.bytes;
        chunk = sym (same_chunk front source (chunk_of ps s x)) ∙ h.chunk;
        runs = h.runs;
        text = h.text;
        spent = h.spent;
        apart = h.apart;
      }

  pub same_row : (front : Bool) (source ps s : List ℕ) (r : Row) (top byte : ℕ) (ps' s' : List ℕ) (q : Row)
      → RowDone front p source ps s r top byte ps' s' q → RowDone front number source ps s r top byte ps' s' q
  same_row front source ps s r top byte ps' s' q h =
      record { trimmed = same_trimmed front source ps s (entry_of r) top byte ps' s' (entry_of q) h.trimmed; start = h.start; next = h.next; prev = h.prev }
