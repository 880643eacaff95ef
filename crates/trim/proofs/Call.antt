-- Laws of what `Asks` in specs/ defines: a trim that is refused, one past its tests, and the four calls.
use mathlib.Core.Path.{◌≡◌, refl, sym, ◌∙◌}
use mathlib.Core.Bool.{Bool, true, false}
use mathlib.Core.List.{List}
use Prim.Native.Nat.{ℕ, suc, ◌-◌}
use native.Mathlib.Omega.{arith}
use Rattle.model.specs.Call.{Edit, trim, trim_start, trim_end, trim_lines, refused_before}
use Rattle.memory.specs.Layout.{magic_string_of}
use Rattle.memory_used.specs.declared.Used.{Used}
use Rattle.memory_used.specs.declared.Outcome.{Outcome}
use Rattle.memory_used.specs.Above.{Above, Desk, Leaves}
use Rattle.memory_frozen.specs.Frozen.{frozen_in_rows}
use Rattle.memory_frozen.proofs.Frozen.{frozen_any}
use Rattle.std.specs.Prelude.{Err}
use Rattle.memory_layout.specs.declared.refusal.Refusal.{Refusal}
use Rattle.memory_layout.specs.Refusals.{code, number_of}
use Rattle.edit_scratch.proofs.Refused.{code_some}
use Rattle.edit_scratch.proofs.Tables.{ran_before}
use Rattle.trim_scratch.specs.Call.{TrimRan}
use Rattle.trim.specs.Asks.{Asks, refusal}

-- ---- past the tests, or refused by them

module _ (source t p s : List ℕ) {both front : Bool} {pattern : ℕ} (e : Edit) (a : Asks both front pattern e) where
  refused_is : refused_before (magic_string_of source t p s) e ≡ refusal pattern (frozen_in_rows true 0 0 t)
  unfolding refused_before
  refused_is = rw (a.options, a.no_text, a.no_position, a.whole_desk, sym (frozen_any source t p s))

  -- the desk stays, and what it uses
  pub refused : {used : Used} (r : Refusal) → Desk source t p s used → code r ≡ refusal pattern (frozen_in_rows true 0 0 t)
      → Leaves e source t p s t p s (record { status = Err r; cuts = 0; used = used })
  refused r d n =
      let positive : code r ≡ suc (code r - 1) = omega (arith, code_some r) in
      record { ran = ran_before e source t p s (code r - 1) (code r) d.well_formed (refused_is ∙ sym n ∙ positive) positive; above = d.above }

  pub ran : 0 ≡ refusal pattern (frozen_in_rows true 0 0 t) → {t' p' s' : List ℕ} {o : Outcome} → TrimRan both front pattern source t p s t' p' s' (number_of o.status) o.cuts × Above t' p' s' o.used
      → Leaves e source t p s t' p' s' o
  ran z f = record { ran = f.0 e (refused_is ∙ sym z) (a.does (magic_string_of source t p s)) a.busy; above = f.1 }

-- ---- the calls

pub asks_start : (n : ℕ) → Asks false true n (trim_start n)
asks_start n = record { options = refl; no_text = refl; no_position = refl; whole_desk = refl; busy = refl; does = λ m. refl }

pub asks_end : (n : ℕ) → Asks false false n (trim_end n)
asks_end n = record { options = refl; no_text = refl; no_position = refl; whole_desk = refl; busy = refl; does = λ m. refl }

pub asks_both : (n : ℕ) → Asks true true n (trim n)
asks_both n = record { options = refl; no_text = refl; no_position = refl; whole_desk = refl; busy = refl; does = λ m. refl }

pub asks_lines : Asks true true 1 trim_lines
asks_lines = record { options = refl; no_text = refl; no_position = refl; whole_desk = refl; busy = refl; does = λ m. refl }
