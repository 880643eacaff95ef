-- What `trim_text`'s laws of a number and its pattern give for the calls past their test of the pattern.
use mathlib.Core.Path.{◌≡◌, sym, ap, ◌∙◌}
use mathlib.Core.Bool.{Bool}
use mathlib.Core.List.{List}
use Prim.Native.Nat.{ℕ, min}
use Rattle.memory.specs.Layout.{magic_string_of}
use Rattle.model.specs.MagicString.{ok}
use Rattle.trim_steps.proofs.Numbers.{same_sides}
use Rattle.trim_scratch.specs.Call.{TrimRan}

pub same_ran : (number p : ℕ) → p ≡ min number 1 → (both front : Bool) (source t ps s t' ps' s' : List ℕ) (r c : ℕ)
    → TrimRan both front p source t ps s t' ps' s' r c → TrimRan both front number source t ps s t' ps' s' r c
same_ran number p e both front source t ps s t' ps' s' r c h edit none steps busy =
    h edit none (steps ∙ ap ok (sym (same_sides number p e both front (magic_string_of source t ps s)))) busy
