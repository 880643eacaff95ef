-- The chunk list of a table: its order, its records, and when it is linked.
use Rattle.std.specs.Prelude.{Bool, not, List, map, ℕ, ◌+◌, ◌*◌, ◌≤◌, eqb, length}
use Rattle.memory_layout.specs.Layout.{ROW}
use Rattle.memory_table.specs.declared.Row.{Row}
use Rattle.memory_table.specs.Ring.{follow, Ring}
use Rattle.memory_table.specs.Table.{row_at}

abbrev pub next_of : List ℕ → ℕ → ℕ
next_of t i = (row_at t i).next

abbrev pub prev_of : List ℕ → ℕ → ℕ
prev_of t i = (row_at t i).prev

-- row 0 is the desk's own
abbrev pub count_of : List ℕ → ℕ
count_of t = (row_at t 0).start

-- the chunks' rows, in list order
unfoldable pub order : List ℕ → List ℕ
order t = follow (next_of t) (count_of t) (next_of t 0)

pub record Linked (t : List ℕ) : Type 0 where
  pub ring : Ring (next_of t) (prev_of t) (count_of t)
  pub room : count_of t * ROW + ROW ≤ length t

-- a chunk apart from its links: a span, the mark of a frozen part, and three runs (first, count)
pub record Entry : Type 0 where
  pub start : ℕ
  pub end : ℕ
  pub frozen : ℕ
  pub intro : ℕ × ℕ
  pub outro : ℕ × ℕ
  pub text : ℕ × ℕ

-- document 02, L8: the mark's word is 0 where it is clear
abbrev pub is_frozen : Entry → Bool
is_frozen e = not (eqb e.frozen 0)

abbrev pub entry_of : Row → Entry
entry_of r =
    record {
      start = r.start;
      end = r.end;
      frozen = r.frozen;
      intro = (r.intro_at, r.intro_n);
      outro = (r.outro_at, r.outro_n);
      text = (r.text_at, r.text_n);
    }

abbrev pub entry_at : List ℕ → ℕ → Entry
entry_at t i = entry_of (row_at t i)

-- the chunk list, decoded as far as the runs
abbrev pub entries : List ℕ → List Entry
entries t = map (entry_at t) (order t)
