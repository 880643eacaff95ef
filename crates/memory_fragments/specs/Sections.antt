-- A desk's sections in output order (the Rust's word in `last_line`): the head, the chunks in list order, the tail. Head and tail are taken as rows with an empty
-- replacement, so that every section has a row and at least one fragment; the empty fragment shows nothing.
use Rattle.std.specs.Iterator.{YieldsFirstRef}
use Rattle.std.specs.Borrow.{Bor}
use Rattle.std.specs.Prelude.{◌≡◌, cond, List, [], ◌∷◌, ◌++◌, map, ◌⊎◌, Option, ℕ, suc, ◌+◌, ◌^◌, ◌≤◌, ◌<◌, eqb, get_or, drop}
use Rattle.memory_table.specs.declared.Row.{Row}
use Rattle.memory_table.specs.Order.{Entry, entry_at, entry_of, entries, order, next_of, prev_of, count_of, Linked}
use Rattle.model.specs.Text.{Text}
use Rattle.model.specs.Chunk as chunk
use Rattle.model.specs.MagicString.{chunk_fragments}
use Rattle.memory.specs.Layout.{tabulate, chunk_of}
use Rattle.memory.specs.WellFormed.{EntryIn}
use Rattle.memory_view.specs.declared.DeskView.{DeskView}
use Rattle.memory_texts.specs.Texts.{SpanIn}
use Rattle.memory_fragments.specs.declared.Cursor.{Cursor}

-- ---- the rows in output order

abbrev pub rows : List ℕ → List ℕ
rows t = 0 ∷ (order t ++ (0 ∷ []))

-- the row of section g: 0 for the head, and for the tail
unfoldable pub row_no : List ℕ → ℕ → ℕ
row_no t g = get_or (rows t) g 0

abbrev pub head_of : List ℕ → Entry
head_of t = record { start = 0; end = 0; frozen = (entry_at t 0).frozen; intro = (entry_at t 0).intro; outro = (0, 0); text = (0, 0) }

abbrev pub tail_part_of : List ℕ → Entry
tail_part_of t = record { start = 0; end = 0; frozen = (entry_at t 0).frozen; intro = (0, 0); outro = (entry_at t 0).outro; text = (0, 0) }

unfoldable pub section_at : List ℕ → ℕ → ℕ → Entry
section_at t g row = cond (eqb row 0) (cond (eqb g 0) (head_of t) (tail_part_of t)) (entry_at t row)

abbrev pub section : List ℕ → ℕ → Entry
section t g = section_at t g (row_no t g)

-- all of them
abbrev pub sections : List ℕ → List Entry
sections t = tabulate (section t) (suc (suc (count_of t)))

-- a section's row as a row of the table, with its links
pub record SectionRow (t : List ℕ) (g row : ℕ) (r : Row) : Type 0 where
  pub entry : entry_of r ≡ section_at t g row
  pub next : r.next ≡ next_of t row
  pub prev : r.prev ≡ prev_of t row

-- ---- the fragments of a section, and of several

abbrev pub fragments_of : List ℕ → List ℕ → List ℕ → Entry → List Text
fragments_of source p s e = chunk.fragments source (chunk_of p s e)

abbrev pub fragments_all : List ℕ → List ℕ → List ℕ → List Entry → List Text
fragments_all source p s es = chunk_fragments source (map (chunk_of p s) es)

-- how many
abbrev pub size : Entry → ℕ
size e = e.intro.1 + suc e.outro.1

-- what a report needs of a section
pub record Shown (source p s : List ℕ) (e : Entry) : Type 0 where
  pub entry : EntryIn p s e
  pub span : SpanIn source e

-- counts fit a word
abbrev pub Narrow : List ℕ → Type 0
Narrow t = (count_of t + 2 < 2 ^ 32) × ((g : ℕ) → size (section t g) < 2 ^ 32)

pub record Ready (source t p s : List ℕ) : Type 0 where
  pub linked : Linked t
  pub narrow : Narrow t
  pub shown : (g : ℕ) → Shown source p s (section t g)

-- ---- the fragments that are left from a place on

unfoldable pub rest : List ℕ → List ℕ → List ℕ → List ℕ → ℕ → ℕ → List Text
rest source t p s g item = drop item (fragments_all source p s (drop g (sections t)))

-- up to the section `stop`
unfoldable pub up_to : List ℕ → List ℕ → List ℕ → List ℕ → ℕ → ℕ → ℕ → List Text
up_to source t p s stop g item = drop item (fragments_all source p s (drop g (tabulate (section t) stop)))

-- what a call of `next` does to the list of what is left
abbrev pub TakesFirst : List Text → Option (Bor Text) → List Text → Type 0
TakesFirst = YieldsFirstRef (λ texts. texts)

-- a place: the row is the section's, and the section has that fragment, or the place is the end
pub record On (t : List ℕ) (g row item : ℕ) : Type 0 where
  pub row_is : g < count_of t + 2 → row ≡ row_no t g
  pub inside : g ≤ count_of t + 2
  pub item_in : item < size (section t g)

-- one place further
pub record Went (t : List ℕ) (g item g' row' item' : ℕ) : Type 0 where
  pub on : On t g' row' item'
  pub step : ((g' ≡ g) × (item' ≡ suc item)) ⊎ ((g' ≡ suc g) × (item' ≡ 0) × (suc item ≡ size (section t g)))

-- a place of a walk up to the section `stop`
pub record Walk (source t p s : List ℕ) (stop g row item : ℕ) : Type 0 where
  pub ready : Ready source t p s
  pub on : On t g row item
  pub below : g ≤ stop
  pub stop_in : stop ≤ count_of t + 2
  pub ends : g ≡ stop → item ≡ 0

-- ---- of a desk that is read

-- all its texts, those of the chunks, those from a place on
abbrev pub all_texts : DeskView → List Text
all_texts v = fragments_all v.source.now v.pieces.now v.store.now (sections v.chunks.now)

abbrev pub chunk_texts : DeskView → List Text
chunk_texts v = fragments_all v.source.now v.pieces.now v.store.now (entries v.chunks.now)

abbrev pub texts_from : DeskView → Cursor → List Text
texts_from v c = rest v.source.now v.chunks.now v.pieces.now v.store.now c.section c.item
