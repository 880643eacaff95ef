-- What makes steps on the lent tables themselves what `Ran` asks, for any edit: nothing is laid out anew, so what they leave must be shown to be well formed.
use mathlib.Core.Path.{◌≡◌, refl, sym, ◌∙◌}
use mathlib.Core.Bool.{true}
use mathlib.Core.List.{List, []}
use Prim.Native.Nat.{ℕ, ◌+◌, ◌*◌, ◌≤◌}
use native.Mathlib.Omega.{arith}
use lib.ListN.{length, take}
use Rattle.memory_layout.specs.Layout.{ROW}
use Rattle.memory_table.specs.Order.{count_of}
use Rattle.model.specs.Limits.{within}
use Rattle.model.specs.Call.{Edit, steps, refused_before}
use Rattle.model.proofs.Lists.{no_tf}
use Rattle.memory.specs.Layout.{magic_string_of}
use Rattle.memory.specs.WellFormed.{limits_of, Lengths, Readable, HoldsEach, Disjoint, WellFormed}
use Rattle.memory.specs.Calls.{may_write, Ran}
use Rattle.edit_rebuild.specs.Rebuilt.{Finished}
use Rattle.edit_scratch.specs.Tables.{Roomy, Did}
use Rattle.edit_scratch.proofs.Tables.{ran_finished}
use Rattle.edit_row_laws.specs.Kept.{Kept}
use Rattle.edit_row_laws.proofs.Kept.{kept_apart, kept_within, fewer_pieces}
use Rattle.memory_used.specs.declared.Used.{Used}
use Rattle.memory_used.specs.Above.{Above}

-- lent rows with room for n chunks more
pub lent_roomy : {source t p s : List ℕ} (n : ℕ) → WellFormed source t p s → (count_of t + n) * ROW + ROW ≤ length t → Roomy n t
lent_roomy n w h = record { linked = w.readable.linked; room = h; narrow = omega (arith, w.sized.chunks) }

-- the lent tables are what the steps left
pub ran_in_place : {e : Edit} {source t p s t' p' s' : List ℕ} {r c : ℕ} → WellFormed source t p s → refused_before (magic_string_of source t p s) e ≡ 0
    → Did (steps e) source t p s t' p' s' r c → may_write e r ≡ true → Lengths t p s t' p' s' → HoldsEach t' → Disjoint t' p'
    → within (limits_of t p s) (magic_string_of [] t' p' s') ≡ true → Ran e source t p s t' p' s' r c
ran_in_place {t = t} {p} {s} {t'} {p'} {s'} {r} {c} w h d may z each apart k =
    let f : Finished t' p' s' t p s t' p' s' r c r c =
    record {
      lengths = z;
      fits = λ _. (refl, record { readable = d.readable; each = each; disjoint = apart; desk = λ source. refl });
      breaks = λ b. no_tf (sym k ∙ b);
      cuts = λ _. refl;
      no_cuts = λ b. no_tf (sym k ∙ b);
    } in
    ran_finished w h d may f

-- the chunk rows alone changed
pub ran_rows : {e : Edit} {source t p s t' : List ℕ} {r c : ℕ} → WellFormed source t p s → refused_before (magic_string_of source t p s) e ≡ 0
    → Did (steps e) source t p s t' p s r c → may_write e r ≡ true → length t' ≡ length t → Kept t t' → Ran e source t p s t' p s r c
ran_rows {source = source} {t} {p} {s} {t'} w h d may len k =
    ran_in_place w h d may (record { chunks = len; pieces = refl; store = refl }) (k.each w.each) (kept_apart k p w.disjoint)
    (kept_within k (limits_of t p s) source p s w.desk.limits (omega (arith, d.readable.linked.room)))

-- what the chunk rows use is not more than before, so a bound of it stays one
pub above_kept : {t p s t' : List ℕ} {l : Used} → Kept t t' → Readable t' (take (l.row * 2) p) (take l.byte s) → Above t p s l → Above t' p s l
above_kept {t} {p} {s} {t'} {l} k h a = record { pieces = omega (arith, fewer_pieces k p s, a.pieces); few = a.few; readable = h; row = a.row; byte = a.byte }
