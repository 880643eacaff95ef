-- Laws of what `Kept` in specs/ defines.
use mathlib.Core.Path.{◌≡◌, refl, ap, ◌∙◌}
use mathlib.Core.Bool.{true}
use mathlib.Core.List.{List, []}
use Prim.Native.Nat.{ℕ, ◌+◌, ◌≤◌}
use native.Mathlib.Omega.{arith}
use lib.ListN.{length}
use Rattle.memory_table.specs.Table.{row_at}
use Rattle.memory_table.specs.Order.{entry_at, entries, count_of}
use Rattle.model.specs.Text.{sum}
use Rattle.model.specs.Limits.{Limits, within, piece_count, byte_count, replacement_bytes}
use Rattle.memory.specs.Layout.{Place, run_of, replacement_of, magic_string_of}
use Rattle.memory.specs.WellFormed.{Disjoint, among, run_uses, replacement_uses}
use Rattle.memory.proofs.Desks.{source_of, chunk_count, within_keeps, keeps_within}
use Rattle.memory_list.specs.Insert.{runs_of}
use Rattle.edit_row_laws.specs.Counted.{count_in_entry}
use Rattle.edit_row_laws.proofs.Counted.{nothing, counts_rows, counts_store, counts_pieces, counts_bytes, sum_lists, sum_pieces, sum_bytes}
use Rattle.edit_row_laws.specs.Kept.{Kept}

-- the source is no part of these counts
pub pieces_any : (source t p s : List ℕ) → piece_count (magic_string_of source t p s) ≡ piece_count (magic_string_of [] t p s)
unfolding magic_string_of
pieces_any source t p s = refl

pub bytes_any : (source t p s : List ℕ) → byte_count (magic_string_of source t p s) ≡ byte_count (magic_string_of [] t p s)
unfolding magic_string_of
bytes_any source t p s = refl

pub kept_same : (t : List ℕ) → Kept t t
kept_same t = record { each = λ h. h; desk = refl; less = λ f g c. omega arith }

pub kept_then : {t t1 t2 : List ℕ} → Kept t t1 → Kept t1 t2 → Kept t t2
kept_then a b = record { each = λ h. b.each (a.each h); desk = b.desk ∙ a.desk; less = λ f g c. omega (arith, a.less f g c, b.less f g c) }

-- where the desk's own runs stay
module _ (t t' : List ℕ) (d : runs_of (row_at t' 0) ≡ runs_of (row_at t 0)) where
  pub own_lists : (f : Place → ℕ) → f (entry_at t' 0).intro + f (entry_at t' 0).outro ≡ f (entry_at t 0).intro + f (entry_at t 0).outro
  own_lists f = ap (λ (x : Place × Place). f x.0 + f x.1) d

  pub less_pieces : (p s : List ℕ) → sum (count_in_entry (λ r. length (run_of p s r)) nothing) (entries t') ≤ sum (count_in_entry (λ r. length (run_of p s r)) nothing) (entries t)
      → piece_count (magic_string_of [] t' p s) ≤ piece_count (magic_string_of [] t p s)
  unfolding magic_string_of
  less_pieces p s h = omega (arith, own_lists (λ r. length (run_of p s r)), sum_pieces p s (entries t), sum_pieces p s (entries t'))

module _ {t t' : List ℕ} (k : Kept t t') where
  -- "no piece stands in two lists or twice in one .. and no store byte belongs to two texts"
  pub kept_apart : (p : List ℕ) → Disjoint t p → Disjoint t' p
  kept_apart p d =
      record {
        pieces = λ j.
            omega (
              arith,
              d.pieces j,
              own_lists t t' k.desk (λ r. among r j),
              sum_lists (λ r. among r j) (entries t),
              sum_lists (λ r. among r j) (entries t'),
              k.less (λ r. among r j) nothing (counts_rows j),
            );
        bytes = λ b. omega (arith, d.bytes b, own_lists t t' k.desk (run_uses p b), k.less (run_uses p b) (replacement_uses b) (counts_store p b));
      }

  pub fewer_pieces : (p s : List ℕ) → piece_count (magic_string_of [] t' p s) ≤ piece_count (magic_string_of [] t p s)
  fewer_pieces p s = less_pieces t t' k.desk p s (k.less (λ r. length (run_of p s r)) nothing (counts_pieces p s))

  pub fewer_bytes : (p s : List ℕ) → byte_count (magic_string_of [] t' p s) ≤ byte_count (magic_string_of [] t p s)
  unfolding magic_string_of
  fewer_bytes p s =
      let f : Place → ℕ = λ r. sum length (run_of p s r) in
      let g : Place → ℕ = λ r. replacement_bytes (replacement_of s r) in
      omega (arith, own_lists t t' k.desk f, sum_bytes p s (entries t), sum_bytes p s (entries t'), k.less f g (counts_bytes p s))

  -- so the limits are kept where the chunks are few enough
  pub kept_within : (l : Limits) (source p s : List ℕ) → within l (magic_string_of source t p s) ≡ true → count_of t' ≤ l.most_chunks → within l (magic_string_of [] t' p s) ≡ true
  kept_within l source p s h c =
      let q = within_keeps l (magic_string_of source t p s) h in
      keeps_within
      (record {
        source = rw (source_of [] t' p s) (omega arith);
        chunks = rw (chunk_count [] t' p s) c;
        pieces = omega (arith, q.pieces, fewer_pieces p s, pieces_any source t p s);
        bytes = omega (arith, q.bytes, fewer_bytes p s, bytes_any source t p s);
      })
