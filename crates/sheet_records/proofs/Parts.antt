-- The parts of a sheet that are lent on: its source, and its records.
use Prim.Native.Nat.{ℕ, ◌+◌, ◌-◌}
use mathlib.Core.Path.{◌≡◌, ap, ◌∙◌}
use mathlib.Core.List.{List}
use lib.ListN.{length, take, drop, length-drop}
use lib.Seq.{take_all}
use native.Mathlib.Omega.{arith}
use Rattle.model_sheet.specs.BigEndian.{number}
use Rattle.model_sheet.specs.Record.{records}
use Rattle.model_sheet.specs.Sheet.{FRONT, source_size, source_of, records_of}

abbrev pub source_part : List ℕ → ℕ → List ℕ
source_part s n = take (FRONT + n - FRONT) (drop FRONT s)

abbrev pub records_part : List ℕ → ℕ → List ℕ
records_part s n = take (length s - (FRONT + n)) (drop (FRONT + n) s)

module _ (s : List ℕ) (n : ℕ) where
  -- the number behind the version is the source's size
  pub size_is : n ≡ number (take 2 (drop 1 s)) → n ≡ source_size s
  unfolding source_size
  size_is e = e

  pub source_is : n ≡ source_size s → source_part s n ≡ source_of s
  source_is e = let q : FRONT + n - FRONT ≡ source_size s = omega arith in ap (λ k. take k (drop FRONT s)) q

  pub records_are : n ≡ source_size s → records (records_part s n) ≡ records (records_of s)
  records_are e =
      ap records (take_all (length s - (FRONT + n)) (drop (FRONT + n) s) (omega (arith, length-drop (FRONT + n) s)))
      ∙ ap (λ k. records (drop (FRONT + k) s)) e
