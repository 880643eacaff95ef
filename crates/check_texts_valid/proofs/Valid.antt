-- Texts of ASCII are UTF-8, and what is told text by text.
use mathlib.Core.Path.{◌≡◌, sym, ap₂, ◌∙◌}
use mathlib.Core.Bool.{Bool, true}
use mathlib.Core.List.{List}
use Prim.Native.Nat.{ℕ, ◌+◌, ◌*◌, ◌≤◌, ◌<◌}
use native.Mathlib.Omega.{arith}
use native.Mathlib.Decide.{ℕ_discrete, dec_lt}
use lib.Bits.{bit_or}
use lib.ListN.{length, get_or, take, drop, length-drop}
use lib.Seq.{length-take-le, get_or-take, get_or-drop}
use Rattle.utf8.specs.Rfc3629.{utf8}
use Rattle.utf8.specs.Chars.{All}
use Rattle.utf8.proofs.Between.{ascii_each, or_left, or_right}
use Rattle.memory_table.specs.Order.{entry_at}
use Rattle.model.specs.WellFormed.{Valid, ValidReplacement}
use Rattle.memory_layout.specs.Layout.{NONE}
use Rattle.memory.specs.Layout.{Place, bytes_at, piece_at, run_of, replacement_of}
use Rattle.memory.specs.WellFormed.{PieceIn, RunIn, ReplacementIn, RunsIn, EntryIn}
use Rattle.memory.proofs.Desks.{all_tabulate, tabulate_all, none_text, some_text}
use Rattle.memory_counting.specs.Counts.{Decides}
use Rattle.memory_counting.proofs.Sums.{is_yes, told}
use Rattle.memory_used.specs.Below.{Below}
use Rattle.memory_used.proofs.Below.{run_inside, entry_inside}
use Rattle.check_texts_apart.specs.Places.{RowsBelow}
use Rattle.check_texts_valid.specs.Valid.{TextsValid}

-- ── joined bits ──
pub or_more : (s : List ℕ) (j x : ℕ) → ((k : ℕ) → k < j → get_or s k 0 ≤ x) → (k : ℕ) → k < j + 1 → get_or s k 0 ≤ bit_or x (get_or s j 0)
or_more s j x h k l =
    elim (dec_lt k j) [
      | yes m ↦ omega (arith, h k m, or_left x (get_or s j 0))
      | no m ↦ let e : k ≡ j = omega arith in rw e (or_right x (get_or s j 0))
    ]

pub ascii_valid : (s : List ℕ) (x : ℕ) → ((k : ℕ) → k < length s → get_or s k 0 ≤ x) → x < 0x80 → true ≡ utf8 s
ascii_valid s x h l = sym (ascii_each s (λ k m. omega (arith, h k m)))

-- ── the texts of a run ──
module _ (p s : List ℕ) (at n : ℕ) where
  pub row_of : (k : ℕ) → RunIn p s (at, n) → k < n → PieceIn p s (at + k)
  unfolding RunIn
  row_of k h l = h k l

  pub run_all : ((k : ℕ) → k < n → Valid (bytes_at s (piece_at p (at + k)))) → All Valid (run_of p s (at, n))
  unfolding run_of
  run_all h = all_tabulate (λ k. bytes_at s (piece_at p (at + k))) n h

  pub all_run : All Valid (run_of p s (at, n)) → (k : ℕ) → k < n → Valid (bytes_at s (piece_at p (at + k)))
  unfolding run_of
  all_run h = tabulate_all (λ k. bytes_at s (piece_at p (at + k))) n h

-- ── all bytes below one are ASCII ──
module _ (s : List ℕ) (byte x : ℕ) (h : (j : ℕ) → j < length (take byte s) → get_or (take byte s) j 0 ≤ x) (small : x < 0x80) (inside : byte ≤ length s) where
  ascii_text : (at n : ℕ) → at + n ≤ byte → Valid (bytes_at s (at, n))
  ascii_text at n l =
      ascii_each (take n (drop at s)) (λ k m.
      let Lower = length-take-le n (drop at s) (rw length-drop (omega arith)) in
      let e = get_or-take n (drop at s) k 0 (omega arith) ∙ get_or-drop at s k 0 in
      let f = get_or-take byte s (at + k) 0 (omega arith) in
      omega (arith, h (at + k) (omega (arith, length-take-le byte s inside)), e, f))

  ascii_run : (p : List ℕ) (row : ℕ) (r : Place) → Below p byte row r → All Valid (run_of p s r)
  ascii_run p row r b = run_all p s r.0 r.1 (λ k l. ascii_text (piece_at p (r.0 + k)).0 (piece_at p (r.0 + k)).1 (b k l).1)

  ascii_replacement : (r : Place) → ((r.0 ≡ NONE → ⊥) → r.0 + r.1 ≤ byte) → ValidReplacement (replacement_of s r)
  ascii_replacement r b =
      elim (ℕ_discrete r.0 NONE) [
        | yes e ↦ rw (none_text s r e) tt
        | no e ↦ rw (some_text s r e) (ascii_text r.0 r.1 (b e))
      ]

  pub ascii_all : (t p : List ℕ) (n row : ℕ) → RowsBelow t p n byte row → TextsValid t p s n
  ascii_all t p n row b =
      record {
        desk = record { intro = ascii_run p row (entry_at t 0).intro b.desk.0; outro = ascii_run p row (entry_at t 0).outro b.desk.1 };
        chunks = λ k l.
            let e = b.chunks k l in
            record {
              intro = ascii_run p row (entry_at t (k + 1)).intro e.intro;
              outro = ascii_run p row (entry_at t (k + 1)).outro e.outro;
              replacement = ascii_replacement (entry_at t (k + 1)).text e.text;
            };
      }

-- ── text by text ──
module _ (s : List ℕ) (x : Place) {at : ℕ} (ea : at ≡ x.0) where
  pub replacement_none : at ≡ NONE → Decides true (ValidReplacement (replacement_of s x))
  replacement_none e = is_yes (rw (none_text s x (sym ea ∙ e)) tt)

  pub text_in : {n : ℕ} → n ≡ x.1 → ReplacementIn s x → (at ≡ NONE → ⊥) → at + n ≤ length s
  unfolding ReplacementIn
  text_in en h ne = omega (arith, h (λ e. ne (ea ∙ e)))

  pub replacement_some : {r : Bool} {n : ℕ} → n ≡ x.1 → (at ≡ NONE → ⊥) → r ≡ utf8 (bytes_at s (at, n)) → Decides r (ValidReplacement (replacement_of s x))
  replacement_some {r} {n} en ne e =
      rw (some_text s x (λ q. ne (ea ∙ q))) (told r (utf8 (bytes_at s x)) (e ∙ ap₂ (λ (a k : ℕ). utf8 (bytes_at s (a, k))) ea en))

-- ── what lies below a row and a byte can be read ──
module _ (t p s : List ℕ) (n byte row : ℕ) (hr : row * 2 ≤ length p) (hb : byte ≤ length s) (b : RowsBelow t p n byte row) where
  pub desk_inside : RunsIn p s (entry_at t 0)
  desk_inside =
      record {
        intro = run_inside p s byte row hr hb (entry_at t 0).intro b.desk.0;
        outro = run_inside p s byte row hr hb (entry_at t 0).outro b.desk.1;
      }

  pub chunks_inside : (k : ℕ) → k < n → EntryIn p s (entry_at t (k + 1))
  chunks_inside k l = entry_inside p s byte row hr hb (entry_at t (k + 1)) (b.chunks k l)
