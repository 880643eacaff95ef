-- The record's slices as the functions leave them.
use Prim.Native.Nat.{ℕ, ◌+◌, ◌-◌, ◌≤◌, ◌<◌}
use mathlib.Core.Path.{◌≡◌, refl, ap, subst, ◌∙◌}
use mathlib.Core.List.{List, [], ◌∷◌, ◌++◌}
use native.Mathlib.Omega.{arith}
use lib.ListN.{length, set, take, drop}
use lib.Seq.{get_or-set_same}
use Rattle.memory_layout.specs.Layout.{RECORD_ANSWERS, RECORD_MARKS, RECORD_USED, KEPT_CHUNKS}
use Rattle.memory_texts.proofs.Over.{put_back}
use Rattle.model_sheet.specs.Record.{records}
use Rattle.filed_record.specs.declared.Size.{Size}
use Rattle.filed_record.specs.Record.{Holds}
use Rattle.filed_entries.specs.Places.{Behind, Located}
use Rattle.filed_entries.specs.Entries.{EntryPut, Closed, EntryOut}

-- the words behind the one that says how many bytes are in use
words_kept : (w : List ℕ) (x : ℕ) → drop KEPT_CHUNKS (set w RECORD_USED x) ≡ drop KEPT_CHUNKS w
words_kept [] x = refl
words_kept (y ∷ w) x = refl

module _ {w b : List ℕ} {z : Size} (h : Holds w b z) where
  pub entry_put : (call ys : List ℕ) (answer : ℕ) → z.used + length call ≤ RECORD_ANSWERS
      → ys ≡ call ++ drop (length call) (take (length b - z.used) (drop z.used b))
      → EntryPut call answer z w b (set w RECORD_USED (z.used + length call))
      (set (set (take z.used b ++ (ys ++ drop (length b - z.used) (drop z.used b))) (RECORD_ANSWERS + z.count) answer) (RECORD_MARKS + z.count) 0)
  entry_put call ys answer room e =
      record {
        used = get_or-set_same w RECORD_USED (z.used + length call) 0 (omega (arith, h.words));
        tables = words_kept w (z.used + length call);
        bytes = ap (λ l. set (set l (RECORD_ANSWERS + z.count) answer) (RECORD_MARKS + z.count) 0) (put_back b call call ys z.used (omega (arith, h.bytes)) e refl);
      }

  -- the calls, as a part that is lent on
  lent_as : take (z.used - 0) b ≡ take z.used b
  lent_as = ap (λ n. take n b) (let n : z.used - 0 ≡ z.used = omega arith in n)

  pub behind_lent : (i : ℕ) → i < z.count → Behind (take (z.used - 0) b) i
  behind_lent i g = record { list = h.list; are = ap records lent_as ∙ h.are; more = omega (arith, h.count) }

  pub entry_out : (i at next : ℕ) {middle b' : List ℕ} → Located (take (z.used - 0) b) i at next → Closed at next z.used b middle
      → Closed (RECORD_MARKS + i) (RECORD_MARKS + (i + 1)) (RECORD_MARKS + z.count) middle b'
      → EntryOut i z w b (set w RECORD_USED (z.used - (next - at))) b' (z.used - (next - at))
  entry_out i at next {middle} l c m =
      record {
        at = at;
        next = next;
        located = subst (λ s. Located s i at next) lent_as l;
        middle = middle;
        closed = c;
        marks = m;
        used = get_or-set_same w RECORD_USED (z.used - (next - at)) 0 (omega (arith, h.words));
        tables = words_kept w (z.used - (next - at));
        left = refl;
      }
