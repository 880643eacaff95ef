-- Laws of what `Both` in specs/ defines.
use mathlib.Core.Path.{◌≡◌, sym, ap, ◌∙◌, subst}
use mathlib.Core.Bool.{Bool, true, false}
use mathlib.Core.List.{List}
use Prim.Native.Nat.{ℕ, ◌+◌, ◌*◌, ◌≤◌}
use native.Mathlib.Omega.{arith}
use lib.ListN.{length}
use Rattle.model.specs.MagicString.{MagicString}
use Rattle.model.specs.Limits.{piece_count}
use Rattle.model.specs.Trim as trim_rs
use Rattle.model.specs.WellFormed as model
use Rattle.memory.specs.Layout.{magic_string_of}
use Rattle.memory.specs.WellFormed.{Readable}
use Rattle.memory.proofs.Desks.{source_of}
use Rattle.memory_counting.proofs.Once.{linked_once}
use Rattle.model_preservation.proofs.Desk.{FormedOf}
use Rattle.memory_texts.proofs.Low.{desk_in}
use Rattle.trim_steps.proofs.Model.{side_keeps, side_pieces}
use Rattle.trim_steps.specs.Side.{desk_pieces, SideReady, SideTrimmed}
use Rattle.trim_steps.specs.Both.{SidesReady, SidesTrimmed}

-- room for more pieces serves
pub sides_ready : {source t p s : List ℕ} {top wide byte : ℕ} → SideReady source t p s top wide byte → (top + wide + wide) * 2 ≤ length p → SidesReady source t p s top byte
unfolding desk_pieces
sides_ready h room =
    record {
      ready = record { low = h.low; formed = h.formed; few = omega arith; rows = omega (arith, h.few, h.rows); narrow = h.narrow; bytes = h.bytes; small = h.small };
      room = omega (arith, h.few, room);
    }

pub trimmed_readable : {both front : Bool} {pattern : ℕ} {source t p s t' p' s' : List ℕ} {row byte : ℕ} → SidesTrimmed both front pattern source t p s t' p' s' row byte → Readable t' p' s'
trimmed_readable {p' = p'} {s'} {row} {byte} x = desk_in p' s' row byte x.row_in x.byte_in _ x.low

module _ (front : Bool) (pattern : ℕ) (source t p s : List ℕ) (top byte : ℕ) (g : SidesReady source t p s top byte) where
  abbrev m : MagicString
  m = magic_string_of source t p s

  h : SideReady source t p s top (desk_pieces source t p s) byte
  h = g.ready

  module _ (t1 p1 s1 : List ℕ) (row b : ℕ) (d : SideTrimmed front pattern source t p s top (desk_pieces source t p s) byte t1 p1 s1 row b) where
    fewer : desk_pieces source t1 p1 s1 ≤ desk_pieces source t p s
    unfolding desk_pieces
    fewer = subst (λ (x : MagicString). piece_count x ≤ piece_count m) (sym d.desk) (side_pieces front pattern m)

    pub one_side : (both : Bool) → both ≡ false → SidesTrimmed both front pattern source t p s t1 p1 s1 row b
    one_side both e =
        subst (λ (x : Bool). SidesTrimmed x front pattern source t p s t1 p1 s1 row b) (sym e)
        (record {
          low = d.low;
          row_in = omega (arith, d.most, d.pieces, h.rows);
          byte_in = omega (arith, d.spent, h.bytes, d.store);
          desk = d.desk;
          rows_len = d.len;
          pieces_len = d.pieces;
          store_len = d.store;
          each = λ _. (linked_once t1 d.low.linked).each;
          apart = d.apart;
        })

    -- ready for the other
    pub side_again : SideReady source t1 p1 s1 row (desk_pieces source t1 p1 s1) b
    unfolding desk_pieces
    side_again =
        let k : FormedOf source m = record { formed = h.formed; source_is = source_of source t p s } in
        record {
          low = d.low;
          formed = subst model.Formed (sym d.desk) (side_keeps front source pattern m k).formed;
          few = omega arith;
          rows = omega (arith, fewer, d.most, g.room, d.pieces);
          narrow = omega (arith, d.pieces, h.narrow);
          bytes = omega (arith, d.spent, h.bytes, d.store);
          small = omega (arith, d.store, h.small);
        }

    pub both_sides : (both : Bool) → both ≡ true → (t2 p2 s2 : List ℕ) (row2 b2 : ℕ) → SideTrimmed false pattern source t1 p1 s1 row (desk_pieces source t1 p1 s1) b t2 p2 s2 row2 b2
        → SidesTrimmed both front pattern source t p s t2 p2 s2 row2 b2
    both_sides both z t2 p2 s2 row2 b2 e =
        subst (λ (x : Bool). SidesTrimmed x front pattern source t p s t2 p2 s2 row2 b2) (sym z)
        (record {
          low = e.low;
          row_in = omega (arith, e.most, fewer, d.most, g.room, e.pieces, d.pieces);
          byte_in = omega (arith, e.spent, d.spent, h.bytes, e.store, d.store);
          desk = e.desk ∙ ap (trim_rs.trim_end pattern) d.desk;
          rows_len = e.len ∙ d.len;
          pieces_len = e.pieces ∙ d.pieces;
          store_len = e.store ∙ d.store;
          each = λ _. (linked_once t2 e.low.linked).each;
          apart = λ k. e.apart (d.apart k);
        })
