-- Laws of what `Live` in specs/ defines.
use mathlib.Core.Path.{◌≡◌, sym, ap₂, ◌∙◌}
use mathlib.Core.List.{List, ◌++◌}
use Prim.Native.Nat.{ℕ, ◌*◌}
use lib.ListN.{length, take, drop, take-append-drop}
use Rattle.memory.specs.Layout.{magic_string_of}
use Rattle.memory.specs.WellFormed.{Readable}
use Rattle.edit_scratch.proofs.Front.{desk_front}
use Rattle.memory_used.specs.declared.Used.{Used}
use Rattle.memory_used.specs.Above.{Above}
use Rattle.edit_room_above.specs.Live.{Small}

pub above_small : {t p s : List ℕ} {l : Used} → Above t p s l → Small (length p) (length s) l
above_small h = record { pieces = h.few; row = h.row; byte = h.byte }

-- ── the rows and bytes below the two places ──
module _ (t p s : List ℕ) (row byte : ℕ) (h : Readable t (take (row * 2) p) (take byte s)) where
  below_desk : Readable t (take (row * 2) p ++ drop (row * 2) p) (take byte s ++ drop byte s)
      × ((source : List ℕ) → magic_string_of source t (take (row * 2) p ++ drop (row * 2) p) (take byte s ++ drop byte s) ≡ magic_string_of source t (take (row * 2) p) (take byte s))
  below_desk = desk_front (take (row * 2) p) (take byte s) (drop (row * 2) p) (drop byte s) t h

  -- they hold the desk
  pub read_below : (source : List ℕ) → magic_string_of source t p s ≡ magic_string_of source t (take (row * 2) p) (take byte s)
  read_below source = ap₂ (λ (a b : List ℕ). magic_string_of source t a b) (sym (take-append-drop (row * 2) p)) (sym (take-append-drop byte s)) ∙ below_desk.1 source
