-- Tables behind a call can be counted anew, and what lies below `byte` bounds the bytes of all texts.
use mathlib.Core.Path.{◌≡◌, sym, ap, ◌∙◌, subst}
use mathlib.Core.Bool.{Bool}
use mathlib.Core.List.{List, [], ◌++◌}
use Prim.Native.Nat.{ℕ, ◌*◌, ◌≤◌}
use native.Mathlib.Omega.{arith}
use lib.ListN.{take, drop, take-append-drop}
use lib.Seq.{length-take-le}
use Rattle.model.specs.Limits.{Limits, within, byte_count}
use Rattle.model.proofs.Lists.{bool-elim}
use Rattle.memory.specs.Layout.{magic_string_of}
use Rattle.memory.specs.WellFormed.{limits_of, Disjoint, WellFormed}
use Rattle.memory.proofs.Desks.{limits_as, sized_as, short_source}
use Rattle.memory_used.specs.declared.Used.{Used}
use Rattle.memory_used.specs.Above.{Above}
use Rattle.memory_counting.proofs.Bytes.{bytes_fit}
use Rattle.edit_rebuild.specs.Rebuilt.{Finished}
use Rattle.edit_scratch.specs.Written.{Written}
use Rattle.edit_scratch.proofs.Counting.{finish_written, finish_unwritten}
use Rattle.edit_scratch.proofs.Tables.{within_any}
use Rattle.edit_room_above.specs.Live.{Usable}
use Rattle.edit_room_above.proofs.Bounds.{read_below}
use Rattle.edit_room_above.proofs.Apart.{store_uses_front}

pub formed_usable : {source t p s : List ℕ} → WellFormed source t p s → Usable t p s
formed_usable {source} {t} {p} {s} w =
    record { readable = w.readable; within_is = within_any (limits_of t p s) source t p s (short_source w) ∙ w.desk.limits; sized = w.sized }

-- what the end of a call on scratch tables leaves in the lent ones
pub finished_usable : {t p s t2 p2 s2 t' p' s' : List ℕ} {r c r' c' : ℕ} → Usable t p s → Finished t2 p2 s2 t p s t' p' s' r c r' c' → Usable t' p' s'
finished_usable {t} {p} {s} {t2} {p2} {s2} {t'} {p'} {s'} u f =
    bool-elim (within (limits_of t p s) (magic_string_of [] t2 p2 s2))
    (λ e.
    let g = f.fits e in
    record {
      readable = g.1.readable;
      within_is = ap (λ (k : Limits). within k (magic_string_of [] t' p' s')) (limits_as f.lengths) ∙ ap (within (limits_of t p s)) (g.1.desk []) ∙ e;
      sized = sized_as f.lengths u.sized;
    })
    (λ e.
    let a = (f.breaks e).1 in
    rw (a.chunks, a.pieces, a.store) u)

pub written_usable : {t p s t2 p2 s2 t' p' s' : List ℕ} {b : Bool} → Usable t p s → Written t2 p2 s2 t p s t' p' s' b → Usable t' p' s'
written_usable {b = b} u w = bool-elim b (λ e. finished_usable u (finish_written {r = 0} {c = 0} w e)) (λ e. finished_usable u (finish_unwritten {r = 0} {c = 0} w e))

-- texts lie apart below the byte, so they have no more bytes than lie there
pub bytes_below : {t p s : List ℕ} {l : Used} → Disjoint t p → Above t p s l → byte_count (magic_string_of [] t p s) ≤ l.byte
bytes_below {t} {p} {s} {l} d a =
    let q = take (l.row * 2) p in
    let k = take l.byte s in
    let whole : q ++ drop (l.row * 2) p ≡ p = take-append-drop (l.row * 2) p in
    let apart : Disjoint t q =
    record {
      pieces = d.pieces;
      bytes = λ b. omega (arith, store_uses_front q k (drop (l.row * 2) p) b t a.readable, (subst (Disjoint t) (sym whole) d).bytes b);
    } in
    omega (arith, ap byte_count (read_below t p s l.row l.byte a.readable []), bytes_fit [] t q k a.readable apart, length-take-le l.byte s a.byte)
