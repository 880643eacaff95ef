-- Document 02's L2: one insertion with two switches in place of four functions of append.rs and prepend.rs. Left adds to the outro of the chunk that ends at the
-- position, or to the head where there is none, right to the intro of the chunk that starts there, or to the tail; at the front or the back of that piece list.
use Rattle.std.specs.Prelude.{ℕ, Bool, true, false, cond, List}
use Rattle.model.specs.Text.{Text, push_back}
use Rattle.model.specs.Chunk.{Texts}
use Rattle.model.specs.MagicString.{MagicString, Result, change_at, by_edge_mut}
use Rattle.model.specs.Append.{append_left, append_right}
use Rattle.model.specs.Prepend.{push_front, prepend_left, prepend_right}

-- the settings of the two switches, by name
abbrev pub left : Bool
left = true

abbrev pub right : Bool
right = false

abbrev pub front : Bool
front = true

abbrev pub back : Bool
back = false

-- `push_front` or `push_back`
abbrev pub push : Bool → Text → List Text → List Text
push true t l = push_front t l
push false t l = push_back t l

-- on a chunk: `append_outro` and `prepend_outro` left of its end, `append_intro` and `prepend_intro` right of its start
abbrev pub push_to : Bool → Bool → Text → Texts → Texts
push_to left front t x =
    record {
      intro = cond left x.intro (push front t x.intro);
      outro = cond left (push front t x.outro) x.outro;
      edited_content = x.edited_content;
    }

-- the insertion: the cut, then the piece
abbrev pub insert : ℕ → Text → Bool → Bool → MagicString → Result
insert at t left front = by_edge_mut left at (push_to left front t) (push front t)

-- behind the cut
abbrev pub insert_step : ℕ → Text → Bool → Bool → MagicString → Result
insert_step at t left front = change_at left at (push_to left front t) (push front t)

-- the Rust's function of each setting. proofs/Insert.antt has the law that `insert` is that function
abbrev pub rust_function : Bool → Bool → ℕ → Text → MagicString → Result
rust_function true true = prepend_left
rust_function true false = append_left
rust_function false true = prepend_right
rust_function false false = append_right
