-- Laws of what `Replaced` in specs/ defines.
use mathlib.Core.Path.{◌≡◌, sym, ap, ◌∙◌}
use mathlib.Core.Bool.{Bool, true, false, cond}
use mathlib.Core.List.{List, [], ◌∷◌, map}
use Prim.Native.Nat.{ℕ, ◌+◌, ◌≤◌}
use native.Mathlib.Omega.{arith}
use lib.Dec.{eqb}
use lib.ListN.{length}
use Rattle.memory_table.specs.Order.{Entry, entry_of, entry_at, entries, order, count_of, Linked}
use Rattle.memory_table.proofs.Order.{order_length}
use Rattle.model.specs.Text.{sum}
use Rattle.model.specs.Limits.{piece_count, byte_count, replacement_bytes}
use Rattle.model.proofs.Lists.{sum_append}
use Rattle.memory.specs.Layout.{Place, run_of, replacement_of, magic_string_of}
use Rattle.memory.specs.WellFormed.{times, HoldsEach}
use Rattle.std.specs.Prelude.{Option}
use Rattle.memory_list.specs.Insert.{Placed}
use Rattle.memory_list.specs.Split.{RowSet}
use Rattle.memory_list.proofs.Split.{row_set, entries_at}
use Rattle.edit_row_laws.specs.Counted.{count_in_entry, Counts}
use Rattle.edit_row_laws.proofs.Counted.{nothing, counts_pieces, counts_bytes, sum_bytes}
use Rattle.edit_row_laws.specs.Kept.{Kept}
use Rattle.edit_row_laws.proofs.Kept.{own_lists, less_pieces}
use Rattle.edit_update_steps.specs.Walk.{onto, emptied, runs, walk_from, Walked}
use Rattle.edit_update_steps.specs.Steps.{edited_entry, FirstEdited}
use Rattle.edit_update_steps.specs.Replaced.{Replaced}

pub kept_replaced : {t t' : List ℕ} (x : Place) → Kept t t' → Replaced t t' x
kept_replaced x k = record { each = k.each; desk = k.desk; less = λ f g c. omega (arith, k.less f g c) }

pub replaced_then : {t t1 t2 : List ℕ} {x : Place} → Kept t t1 → Replaced t1 t2 x → Replaced t t2 x
replaced_then k r = record { each = λ h. r.each (k.each h); desk = r.desk ∙ k.desk; less = λ f g c. omega (arith, k.less f g c, r.less f g c) }

-- ── the walk ──
module _ (f g : Place → ℕ) (c : Counts f g) where
  runs_less : (at end : ℕ) (es : List Entry) → sum (count_in_entry f g) (runs at end es).list ≤ sum (count_in_entry f g) es
  runs_less at end [] = omega arith
  runs_less at end (e ∷ es) = go (eqb at end) (eqb e.start at) (runs_less e.end end es)
    where
      go : (x y : Bool) → sum (count_in_entry f g) (runs e.end end es).list ≤ sum (count_in_entry f g) es
          → sum (count_in_entry f g) (cond x (record { done = true; list = e ∷ es })
          (cond y (onto (emptied e) (runs e.end end es)) (record { done = false; list = e ∷ es }))).list ≤ count_in_entry f g e + sum
          (count_in_entry f g) es
      go true y ih = omega arith
      go false true ih = omega (arith, c.no_pieces 0, c.no_bytes 0)
      go false false ih = omega arith

  walk_less : (a b : ℕ) (es : List Entry) → sum (count_in_entry f g) (walk_from a b es).list ≤ sum (count_in_entry f g) es
  walk_less a b [] = omega arith
  walk_less a b (e ∷ es) = go (eqb e.start a) (walk_less a b es) (runs_less e.end b es)
    where
      go : (x : Bool) → sum (count_in_entry f g) (walk_from a b es).list ≤ sum (count_in_entry f g) es → sum (count_in_entry f g) (runs e.end b es).list ≤ sum (count_in_entry f g) es
          → sum (count_in_entry f g) (cond x (onto e (runs e.end b es)) (onto e (walk_from a b es))).list ≤ count_in_entry f g e + sum (count_in_entry f g) es
      go true ih r = omega arith
      go false ih r = omega arith

same_count : (t t' : List ℕ) → order t' ≡ order t → count_of t' ≡ count_of t
same_count t t' o = sym (order_length t') ∙ ap length o ∙ order_length t

same_each : (t t' : List ℕ) → order t' ≡ order t → HoldsEach t → HoldsEach t'
same_each t t' o h i a b = ap (times i) o ∙ h i a (omega (arith, same_count t t' o))

pub walked_count : {a b : ℕ} {t t' : List ℕ} {r : Option ℕ} → Walked a b t t' r → count_of t' ≡ count_of t
walked_count {t = t} {t' = t'} d = same_count t t' d.order_is

pub walked_kept : {a b : ℕ} {t t' : List ℕ} {r : Option ℕ} → Walked a b t t' r → Kept t t'
walked_kept {a} {b} {t} {t'} d =
    record {
      each = same_each t t' d.order_is;
      desk = d.desk;
      less = λ f g c. omega (arith, ap (sum (count_in_entry f g)) d.chunks, walk_less f g c a b (entries t));
    }

-- ── the first chunk ──
edit_less : (f g : Place → ℕ) → Counts f g → (o : Bool) (at n : ℕ) (e : Entry) → count_in_entry f g (edited_entry o at n e) ≤ count_in_entry f g e + g (at, n)
edit_less f g c true at n e = omega (arith, c.no_pieces 0)
edit_less f g c false at n e = omega arith

module _ {o : Bool} {at : ℕ} {text t s t' s' : List ℕ} {i : ℕ} (w : Placed t i) (d : FirstEdited o at text t s t' s' i) (l : Linked t) (len : length t' ≡ length t) where
  set : RowSet t t' i (entry_of d.row)
  set = row_set t t' i d.row l w d.put d.edited.next d.edited.prev len

  pub edited_count : count_of t' ≡ count_of t
  edited_count = set.count

  pub edited_replaced : Replaced t t' (at, length text)
  edited_replaced =
      record {
        each = same_each t t' set.order_is;
        desk = set.desk;
        less = λ f g c.
            let k : Entry → ℕ = count_in_entry f g in
            let xs = map (entry_at t) w.us in
            let ys = map (entry_at t) w.bs in
            let e' = entry_of d.row in
            omega (
              arith,
              ap (sum k) (set.place w.us w.bs w.place),
              ap (sum k) (entries_at t w.us i w.bs w.place),
              sum_append k xs (e' ∷ ys),
              sum_append k xs (entry_at t i ∷ ys),
              ap k d.edited.entry_is,
              edit_less f g c o at (length text) (entry_at t i),
            );
      }

-- ── what the desk has ──
module _ {t t' : List ℕ} {x : Place} (k : Replaced t t' x) where
  pub replaced_pieces : (p s : List ℕ) → piece_count (magic_string_of [] t' p s) ≤ piece_count (magic_string_of [] t p s)
  replaced_pieces p s = less_pieces t t' k.desk p s (omega (arith, k.less (λ r. length (run_of p s r)) nothing (counts_pieces p s)))

  pub replaced_bytes : (p s : List ℕ) → byte_count (magic_string_of [] t' p s) ≤ byte_count (magic_string_of [] t p s) + replacement_bytes (replacement_of s x)
  unfolding magic_string_of
  replaced_bytes p s =
      let f : Place → ℕ = λ r. sum length (run_of p s r) in
      let g : Place → ℕ = λ r. replacement_bytes (replacement_of s r) in
      omega (arith, own_lists t t' k.desk f, sum_bytes p s (entries t), sum_bytes p s (entries t'), k.less f g (counts_bytes p s))
