-- Small tables hold what keeps their limits.
use mathlib.Core.Path.{◌≡◌, ap, ◌∙◌}
use mathlib.Core.Bool.{true}
use mathlib.Core.List.{List, []}
use Prim.Native.Nat.{ℕ, ◌%◌}
use native.Mathlib.Omega.{arith}
use lib.ListN.{length}
use Rattle.model.specs.Limits.{Limits, within}
use Rattle.memory.specs.Layout.{magic_string_of}
use Rattle.memory.specs.WellFormed.{limits_by, limits_of}
use Rattle.edit_small_tables.specs.Small.{Fits}
use Rattle.memory_layout.specs.Layout.{ROW, PIECE, SMALL_CHUNKS, SMALL_PIECES, SMALL_CHUNKS_LEN, SMALL_PIECES_LEN, SMALL_STORE_LEN}

pub small_fits : {t p s t₀ p₀ s₀ : List ℕ} → length t₀ ≡ SMALL_CHUNKS_LEN → length p₀ ≡ SMALL_PIECES_LEN → length s₀ ≡ SMALL_STORE_LEN →
    within (limits_by SMALL_CHUNKS SMALL_PIECES SMALL_STORE_LEN) (magic_string_of [] t p s) ≡ true
    → Fits t p s t₀ p₀ s₀
small_fits {t} {p} {s} {t₀} {p₀} {s₀} a b c e =
    let k : limits_of t₀ p₀ s₀ ≡ limits_by SMALL_CHUNKS SMALL_PIECES SMALL_STORE_LEN = rw (a, b, c) in
    record {
      sized =
          record {
            whole_chunks = ap (λ (n : ℕ). n % ROW) a;
            whole_pieces = ap (λ (n : ℕ). n % PIECE) b;
            some = omega arith;
            chunks = omega arith;
            pieces = omega arith;
            store = omega arith;
          };
      within_is = ap (λ (l : Limits). within l (magic_string_of [] t p s)) k ∙ e;
    }
