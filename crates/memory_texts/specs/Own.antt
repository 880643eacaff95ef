-- The desk's own row as a chunk's: head and tail, no span, no replacement.
use Rattle.memory_table.specs.declared.Row.{Row}
use Rattle.memory_table.specs.Order.{Entry}
use Rattle.memory_layout.specs.Layout.{NONE}

abbrev pub own_of : Row → Entry
own_of r = record { start = 0; end = 0; frozen = r.frozen; intro = (r.intro_at, r.intro_n); outro = (r.outro_at, r.outro_n); text = (NONE, 0) }
