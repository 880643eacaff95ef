-- What lies below a row and a byte is read from there alone.
use mathlib.Core.Path.{◌≡◌, ap, ap₂}
use mathlib.Core.List.{List}
use Prim.Native.Nat.{ℕ, ◌+◌, ◌*◌, ◌/◌, ◌≤◌, ◌<◌}
use native.Mathlib.Omega.{arith}
use lib.ListN.{length, get_or, take}
use lib.Seq.{length-take-le, get_or-take}
use Rattle.utf8.specs.Chars.{All, nil, cons}
use Rattle.memory_table.specs.Order.{Entry}
use Rattle.memory_layout.specs.Layout.{NONE}
use Rattle.memory.specs.Layout.{Place, piece_at}
use Rattle.memory.specs.WellFormed.{RunIn, ReplacementIn, EntryIn}
use Rattle.memory_used.specs.Below.{Below, EntryBelow}

word_below : (p : List ℕ) (m i : ℕ) → i < m → get_or (take m p) i 0 ≡ get_or p i 0
word_below p m i h = get_or-take m p i 0 h

module _ (p s : List ℕ) (byte row : ℕ) (hr : row * 2 ≤ length p) (hb : byte ≤ length s) where
  piece_below : (j : ℕ) → j < row → piece_at (take (row * 2) p) j ≡ piece_at p j
  piece_below j h =
      ap₂ (λ (u v : ℕ). (u, v)) (word_below p (row * 2) (j * 2) (omega arith)) (word_below p (row * 2) (j * 2 + 1) (omega arith))

  pub run_below : (x : Place) → Below p byte row x → RunIn (take (row * 2) p) (take byte s) x
  unfolding RunIn
  run_below x h k g =
      let a = h k g in
      let e = ap (λ (r : Place). r.0 + r.1) (piece_below (x.0 + k) a.0) in
      let lp = length-take-le (row * 2) p hr in
      let ls = length-take-le byte s hb in
      record { row = omega arith; text = omega arith }

  text_below : (x : Place) → ((x.0 ≡ NONE → ⊥) → x.0 + x.1 ≤ byte) → ReplacementIn (take byte s) x
  unfolding ReplacementIn
  text_below x h n = omega (arith, h n, length-take-le byte s hb)

  pub entry_below : (e : Entry) → EntryBelow p byte row e → EntryIn (take (row * 2) p) (take byte s) e
  entry_below e h = record { runs = record { intro = run_below e.intro h.intro; outro = run_below e.outro h.outro }; replacement = text_below e.text h.text }

  pub entries_below : {es : List Entry} → All (EntryBelow p byte row) es → All (EntryIn (take (row * 2) p) (take byte s)) es
  entries_below nil = nil
  entries_below (cons {x = e} h k) = cons (entry_below e h) (entries_below k)

-- and lies inside the tables themselves
module _ (p s : List ℕ) (byte row : ℕ) (hr : row * 2 ≤ length p) (hb : byte ≤ length s) where
  pub run_inside : (x : Place) → Below p byte row x → RunIn p s x
  unfolding RunIn
  run_inside x h k g = let a = h k g in record { row = omega arith; text = omega arith }

  pub entry_inside : (e : Entry) → EntryBelow p byte row e → EntryIn p s e
  unfolding ReplacementIn
  entry_inside e h =
      record { runs = record { intro = run_inside e.intro h.intro; outro = run_inside e.outro h.outro }; replacement = λ n. omega (arith, h.text n) }

-- what lies inside the tables lies below their ends
module _ (p s : List ℕ) where
  pub inside_run : (x : Place) → RunIn p s x → Below p (length s) (length p / 2) x
  unfolding RunIn
  inside_run x h k g = let a = h k g in (omega (arith, a.row), a.text)

  pub inside_entry : (e : Entry) → EntryIn p s e → EntryBelow p (length s) (length p / 2) e
  unfolding ReplacementIn
  inside_entry e h = record { intro = inside_run e.intro h.runs.intro; outro = inside_run e.outro h.runs.outro; text = λ n. h.replacement n }
