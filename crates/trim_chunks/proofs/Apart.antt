-- Laws of what `Apart` in specs/ defines.
use mathlib.Core.Path.{◌≡◌, refl, ap, ◌∙◌}
use mathlib.Core.Bool.{Bool}
use mathlib.Core.List.{List, [], ◌∷◌, ◌++◌}
use Prim.Native.Nat.{ℕ, ◌+◌, ◌≤◌}
use native.Mathlib.Omega.{arith}
use Rattle.memory_table.specs.Ring.{Each}
use Rattle.memory_table.proofs.Ring.{each_map}
use Rattle.memory_table.specs.Order.{Entry, entry_at, entries, order}
use Rattle.model.specs.Text.{sum}
use Rattle.memory.specs.WellFormed.{piece_uses, byte_uses}
use Rattle.memory_texts.specs.Low.{EntryLow}
use Rattle.trim_chunk.proofs.Uses.{Fewer, row_above, bytes_none}
use Rattle.trim_chunk.specs.Uses.{RowApart}
use Rattle.trim_chunks.specs.Sums.{way}
use Rattle.trim_chunks.proofs.Sums.{each_sum, but_one, entries_sum}
use Rattle.trim_chunks.specs.Apart.{ChunksApart}

module _ (front : Bool) (p p' : List ℕ) (top byte : ℕ) (t t' : List ℕ) (o : order t' ≡ order t) where
  abbrev FewerAt : ℕ → Type 0
  FewerAt x = Fewer p p' (entry_at t x) (entry_at t' x)

  abbrev LowAt : ℕ → Type 0
  LowAt x = EntryLow p top byte (entry_at t x)

  -- a count of the old rows and one of the new, over the rows in the direction of the trim
  module _ (xs : List ℕ) (W : way front (order t) ≡ xs) (f f' : Entry → ℕ) where
    over_rows : (n : ℕ) → sum (λ x. f' (entry_at t' x)) xs ≤ n + sum (λ x. f (entry_at t x)) xs → sum f' (entries t') ≤ n + sum f (entries t)
    over_rows n h =
        omega (
          arith,
          entries_sum front f t ∙ ap (sum (λ x. f (entry_at t x))) W,
          entries_sum front f' t' ∙ ap (λ (m : List ℕ). sum (λ x. f' (entry_at t' x)) (way front m)) o ∙ ap (sum (λ x. f' (entry_at t' x))) W,
          h,
        )

    -- what no old row uses
    none : Each LowAt xs → ((x : ℕ) → LowAt x → f (entry_at t x) ≡ 0) → sum f (entries t) ≡ 0
    none l h = entries_sum front f t ∙ ap (sum (λ x. f (entry_at t x))) W ∙ go xs l
      where
        go : (ys : List ℕ) → Each LowAt ys → sum (λ x. f (entry_at t x)) ys ≡ 0
        go [] k = refl
        go (y ∷ ys) k = omega (arith, h y k.0, go ys k.1)

  -- no row uses more
  module _ (xs : List ℕ) (W : way front (order t) ≡ xs) (l : Each LowAt xs) (a : Each FewerAt xs) where
    all_rows : (j : ℕ) → sum (piece_uses j) (entries t') ≤ sum (piece_uses j) (entries t)
    all_rows j =
        let Q : ℕ → Type 0 = λ x. piece_uses j (entry_at t' x) ≤ piece_uses j (entry_at t x) in
        let s = each_sum (λ x. piece_uses j (entry_at t' x)) (λ x. piece_uses j (entry_at t x)) xs (each_map FewerAt Q (λ x h. h.rows j) xs a) in
        omega (arith, over_rows xs W (piece_uses j) (piece_uses j) 0 (omega (arith, s)))

    all_bytes : (b : ℕ) → sum (byte_uses p' b) (entries t') ≤ sum (byte_uses p b) (entries t)
    all_bytes b =
        let Q : ℕ → Type 0 = λ x. byte_uses p' b (entry_at t' x) ≤ byte_uses p b (entry_at t x) in
        let s = each_sum (λ x. byte_uses p' b (entry_at t' x)) (λ x. byte_uses p b (entry_at t x)) xs (each_map FewerAt Q (λ x h. h.bytes b) xs a) in
        omega (arith, over_rows xs W (byte_uses p b) (byte_uses p' b) 0 (omega (arith, s)))

    pub all_apart : ChunksApart p p' top byte t t'
    all_apart =
        record {
          rows_below = λ j h. all_rows j;
          rows_above = λ j h. omega (arith, all_rows j, none xs W (piece_uses j) (piece_uses j) l (λ x k. row_above p top byte (entry_at t x) k.runs j h));
          bytes_below = λ b h. all_bytes b;
          bytes_above = λ b h. omega (arith, all_bytes b, none xs W (byte_uses p b) (byte_uses p' b) l (λ x k. bytes_none p top byte (entry_at t x) k b h));
        }

  -- but row i, which may use what was written
  module _ (us : List ℕ) (i : ℕ) (bs : List ℕ) (W : way front (order t) ≡ us ++ i ∷ bs) (l : Each LowAt (us ++ i ∷ bs)) (a : Each FewerAt us) (m : RowApart p p' top byte (entry_at t i) (entry_at t' i))
      (z : Each FewerAt bs) where
    rows : (n j : ℕ) → piece_uses j (entry_at t' i) ≤ n + piece_uses j (entry_at t i) → sum (piece_uses j) (entries t') ≤ n + sum (piece_uses j) (entries t)
    rows n j h =
        let Q : ℕ → Type 0 = λ x. piece_uses j (entry_at t' x) ≤ piece_uses j (entry_at t x) in
        let s = but_one (λ x. piece_uses j (entry_at t' x)) (λ x. piece_uses j (entry_at t x)) 0 n us i bs (each_map FewerAt Q (λ x k. k.rows j) us a)
        (omega (arith, h)) (each_map FewerAt Q (λ x k. k.rows j) bs z) in
        over_rows (us ++ i ∷ bs) W (piece_uses j) (piece_uses j) n (omega (arith, s))

    bytes : (n b : ℕ) → byte_uses p' b (entry_at t' i) ≤ n + byte_uses p b (entry_at t i) → sum (byte_uses p' b) (entries t') ≤ n + sum (byte_uses p b) (entries t)
    bytes n b h =
        let Q : ℕ → Type 0 = λ x. byte_uses p' b (entry_at t' x) ≤ byte_uses p b (entry_at t x) in
        let s = but_one (λ x. byte_uses p' b (entry_at t' x)) (λ x. byte_uses p b (entry_at t x)) 0 n us i bs (each_map FewerAt Q (λ x k. k.bytes b) us a)
        (omega (arith, h)) (each_map FewerAt Q (λ x k. k.bytes b) bs z) in
        over_rows (us ++ i ∷ bs) W (byte_uses p b) (byte_uses p' b) n (omega (arith, s))

    pub one_apart : ChunksApart p p' top byte t t'
    one_apart =
        let xs : List ℕ = us ++ i ∷ bs in
        record {
          rows_below = λ j h. omega (arith, rows 0 j (omega (arith, m.rows_below j h)));
          rows_above = λ j h. omega (arith, rows 1 j (omega (arith, m.rows_above j h)), none xs W (piece_uses j) (piece_uses j) l (λ x k. row_above p top byte (entry_at t x) k.runs j h));
          bytes_below = λ b h. omega (arith, bytes 0 b (omega (arith, m.bytes_below b h)));
          bytes_above = λ b h. omega (arith, bytes 1 b (omega (arith, m.bytes_above b h)), none xs W (byte_uses p b) (byte_uses p' b) l (λ x k. bytes_none p top byte (entry_at t x) k b h));
        }
