-- A row's two piece lists, by side: the outro or the intro.
use Rattle.std.specs.Prelude.{Bool, cond, ℕ}
use Rattle.memory_table.specs.declared.Row.{Row}
use Rattle.memory_table.specs.Order.{Entry}

abbrev pub side : Bool → Entry → ℕ × ℕ
side outro e = cond outro e.outro e.intro

-- the row with another list on that side
abbrev pub with_side : Bool → ℕ × ℕ → Row → Row
with_side outro x r =
    record {
      start = r.start;
      end = r.end;
      next = r.next;
      prev = r.prev;
      intro_at = cond outro r.intro_at x.0;
      intro_n = cond outro r.intro_n x.1;
      outro_at = cond outro x.0 r.outro_at;
      outro_n = cond outro x.1 r.outro_n;
      text_at = r.text_at;
      text_n = r.text_n;
      frozen = r.frozen;
      spare = r.spare;
    }
