-- A row's sides as a trim sees them: near and far in place of intro and outro.
use mathlib.Core.Path.{◌≡◌, refl, ap, ◌∙◌}
use mathlib.Core.Bool.{Bool, true, false, not}
use Rattle.memory_table.specs.declared.Row.{Row}
use Rattle.memory_table.specs.Order.{Entry, entry_of}
use Rattle.memory_table.specs.Sides.{side, with_side}
use Rattle.memory.specs.Layout.{Place}
use Rattle.trim_chunk.specs.Row.{near_of, far_of, with_side_places, Rewritten}

pub near_side : (front : Bool) (e : Entry) → side (not front) e ≡ near_of front e
near_side true e = refl
near_side false e = refl

pub far_side : (front : Bool) (e : Entry) → side front e ≡ far_of front e
far_side true e = refl
far_side false e = refl

pub near_written : (front : Bool) (r q : Row) (n : Place) → q ≡ with_side (not front) n r → Rewritten r q (with_side_places front (entry_of r) n (far_of front (entry_of r)) (entry_of r).text)
near_written true r q n e = record { entry_is = ap entry_of e; next = ap (λ (x : Row). x.next) e; prev = ap (λ (x : Row). x.prev) e }
near_written false r q n e = record { entry_is = ap entry_of e; next = ap (λ (x : Row). x.next) e; prev = ap (λ (x : Row). x.prev) e }

-- the row with another replacement
abbrev pub with_text : Place → Row → Row
with_text t r =
    record {
      start = r.start;
      end = r.end;
      next = r.next;
      prev = r.prev;
      intro_at = r.intro_at;
      intro_n = r.intro_n;
      outro_at = r.outro_at;
      outro_n = r.outro_n;
      text_at = t.0;
      text_n = t.1;
      frozen = r.frozen;
      spare = r.spare;
    }

pub sides_written : (front : Bool) (r x q : Row) (n f t : Place) → x ≡ with_side (not front) n r → q ≡ with_side front f x → Rewritten r (with_text t q) (with_side_places front (entry_of r) n f t)
sides_written true r x q n f t d e =
    let g : q ≡ with_side true f (with_side false n r) = e ∙ ap (with_side true f) d in
    record { entry_is = ap (λ (y : Row). entry_of (with_text t y)) g; next = ap (λ (y : Row). y.next) g; prev = ap (λ (y : Row). y.prev) g }
sides_written false r x q n f t d e =
    let g : q ≡ with_side false f (with_side true n r) = e ∙ ap (with_side false f) d in
    record { entry_is = ap (λ (y : Row). entry_of (with_text t y)) g; next = ap (λ (y : Row). y.next) g; prev = ap (λ (y : Row). y.prev) g }
