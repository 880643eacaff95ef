-- Row i of the list replaced by rows with other entries, at its place: a row written anew, a row cut in two, and the indentor put in front of the second.
use Rattle.std.specs.Prelude.{◌≡◌, List, ◌∷◌, ◌++◌, map, ℕ, ◌+◌, ◌*◌, ◌≤◌, ◌<◌, length}
use Rattle.memory_table.specs.declared.Row.{Row}
use Rattle.memory_table.specs.Ring.{Not}
use Rattle.memory_table.specs.Table.{row_at}
use Rattle.memory_table.specs.Order.{Entry, entry_of, entry_at, order, count_of, Linked}
use Rattle.memory_layout.specs.Layout.{ROW}
use Rattle.memory.specs.Layout.{Place, bytes_at, run_of}
use Rattle.memory_used.specs.Below.{Below}
use Rattle.memory_texts.specs.Low.{RowsKept}
use Rattle.memory_list.specs.Insert.{runs_of}
use Rattle.memory_list.specs.Split.{first, second}

abbrev pub with_intro_at : Place → Entry → Entry
with_intro_at r e = record { start = e.start; end = e.end; frozen = e.frozen; intro = r; outro = e.outro; text = e.text }

abbrev pub with_text_at : Place → Entry → Entry
with_text_at r e = record { start = e.start; end = e.end; frozen = e.frozen; intro = e.intro; outro = e.outro; text = r }

-- the row q is r with the entry e
pub record Rewritten (r q : Row) (e : Entry) : Type 0 where
  pub entry_is : entry_of q ≡ e
  pub next : q.next ≡ r.next
  pub prev : q.prev ≡ r.prev

-- row i's place in the list holds the entries es
pub record SplicedAt (t' us bs : List ℕ) (es : List Entry) : Type 0 where
  pub vs : List ℕ
  pub order_is : order t' ≡ us ++ (vs ++ bs)
  pub here : map (entry_at t') vs ≡ es

pub record Spliced (t t' : List ℕ) (i : ℕ) (es : List Entry) : Type 0 where
  pub linked : Linked t'
  pub place : (us bs : List ℕ) → order t ≡ us ++ i ∷ bs → SplicedAt t' us bs es
  pub off : (a : ℕ) → 0 < a → a ≤ count_of t → Not i a → entry_at t' a ≡ entry_at t a
  pub desk : runs_of (row_at t' 0) ≡ runs_of (row_at t 0)
  pub count : count_of t' + 1 ≡ count_of t + length es
  pub len : length t' ≡ length t

-- ---- the row cut at q: row n, behind it, has the intro `run`

pub record CutPart (t t' : List ℕ) (i n q : ℕ) (run : Place) : Type 0 where
  pub linked : Linked t'
  pub number : n ≡ count_of t + 1
  pub order_is : (us bs : List ℕ) → order t ≡ us ++ i ∷ bs → order t' ≡ us ++ i ∷ n ∷ bs
  pub here : entry_at t' i ≡ first q (entry_at t i)
  pub new : entry_at t' n ≡ with_intro_at run (second q (entry_at t i))
  pub off : (a : ℕ) → 0 < a → a ≤ count_of t → Not i a → entry_at t' a ≡ entry_at t a
  pub desk : runs_of (row_at t' 0) ≡ runs_of (row_at t 0)
  pub count : count_of t' ≡ count_of t + 1
  pub len : length t' ≡ length t

-- ---- the indentor in front of an intro

-- the run has the text at y in front of the run x; rows below top stay
pub record Begun (y x : Place) (top : ℕ) (p p' : List ℕ) (run : Place) (top' : ℕ) : Type 0 where
  pub rows : RowsKept top p p'
  pub texts : (s : List ℕ) → run_of p' s run ≡ bytes_at s y ∷ run_of p s x
  pub low : (byte : ℕ) → y.0 + y.1 ≤ byte → Below p byte top x → Below p' byte top' run
  pub up : top ≤ top'

-- room for a row more, and for a piece row
pub record CutRoom (t p : List ℕ) (top : ℕ) : Type 0 where
  pub chunk : (count_of t + 1) * ROW + ROW ≤ length t
  pub narrow : length t ≤ 4294967296
  pub piece : (top + 1) * 2 ≤ length p
  pub narrow_pieces : length p ≤ 4294967296

-- the row cut at q, and the text at y put in front of the new row's intro, which is empty
pub record CutDone (t p t' p' : List ℕ) (i n q : ℕ) (y : Place) (top : ℕ) : Type 0 where
  pub run : Place
  pub part : CutPart t t' i n q run
  pub begun : Begun y (0, 0) top p p' run (top + 1)
