-- What a report tells, by the kind of its answer: a value, a text that fits the buffer, or a refusal.
use mathlib.Core.Path.{◌≡◌, refl, ap, sym, ◌∙◌}
use mathlib.Core.List.{List, [], ◌++◌}
use Prim.Native.Nat.{ℕ, ◌≤◌, ◌<◌}
use lib.ListN.{length, drop}
use borrow.Author.Tests.{le-leb, lt-leb}
use Rattle.model.specs.Text.{Text}
use Rattle.model.specs.MagicString.{MagicString}
use Rattle.model.specs.Call.{Report, Shown, show, into, value_of, refusal}
use Rattle.memory.specs.Calls.{Told}

module _ (q : Report) (m : MagicString) where
  told : (x : Shown) (out out' : List ℕ) → show q m ≡ x → out' ≡ x.written ++ drop (length x.written) out → Told q m out out' x.number x.value
  told x out out' e w = record {
    number_is = sym (ap (λ (y : Shown). y.number) e);
    value_is = sym (ap (λ (y : Shown). y.value) e);
    written = w ∙ sym (ap (λ (y : Shown). y.written ++ drop (length y.written) out) e);
  }

  pub told_value : (v : ℕ) → show q m ≡ value_of v → Told q m [] [] 0 v
  told_value v e = told (value_of v) [] [] e refl

  pub told_refusal : (k : ℕ) (out : List ℕ) → show q m ≡ refusal k → Told q m out out k 0
  told_refusal k out e = told (refusal k) out out e refl

  pub told_short : (room : ℕ) (t : Text) (out : List ℕ) → show q m ≡ into room t → room < length t → Told q m out out 14 0
  told_short room t out e h = told_refusal 14 out (e ∙ rw (lt-leb (length t) room h))

  pub told_text : (room : ℕ) (t : Text) (out out' : List ℕ) (n : ℕ) → show q m ≡ into room t → length t ≤ room → n ≡ length t → out' ≡ t ++ drop (length t) out → Told q m out out' 0 n
  told_text room t out out' n e h k w =
      rw k (told (record { number = 0; value = length t; written = t }) out out' (e ∙ rw (le-leb (length t) room h)) w)
