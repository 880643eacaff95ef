use mathlib.Core.Path.{refl, sym, ap, ◌∙◌, subst}
use denote.Enum.Declared.{tag_of}
use borrow.Enum.Refused.{opened}
use Rattle.memory_table.specs.declared.Row.{Row}
use Rattle.edit_relocate_range.specs.contracts.Range.{the_type}
use Rattle.edit_relocate_range.specs.Range.{RangeIn}
use Rattle.edit_relocate_steps.proofs.Moving.{moved_else, moved_row, moved_there, moved_at, moved_done}
use Rattle.edit_relocate_steps.proofs.move_range.Goals as goal

pub returns-in_default : goal.returns-in_default
returns-in_default c = moved_else c.args.a c.args.b c.args.to c.args.t.now (tag_of the_type) (λ f l. refl) c.find_range.result c.find_range.ensures (opened c.in_default.in_default-own.keys2)

pub get_row-l-requires : goal.get_row-l-requires
get_row-l-requires c =
    let t = c.args.t.now in
    let a = c.args.a in
    let b = c.args.b in
    let to = c.args.to in
    let w = subst (RangeIn t a b) c.in-Whole.is c.find_range.ensures in
    moved_row a b to t c.requires.spanned c.requires.movable c.in-Whole.first c.in-Whole.last w

pub returns-then-l-n : goal.returns-then-l-n
returns-then-l-n c =
    let t = c.args.t.now in
    let a = c.args.a in
    let b = c.args.b in
    let to = c.args.to in
    let w = subst (RangeIn t a b) c.in-Whole.is c.find_range.ensures in
    moved_there a b to t c.requires.spanned c.requires.movable c.in-Whole.first c.in-Whole.last w c.place_of-n.result
    c.place_of-n.ensures (sym (ap (λ (r : Row). r.next) c.get_row-l.ensures) ∙ c.if-l-n.true)

pub move_run-requires : goal.move_run-requires
move_run-requires c =
    let t = c.args.t.now in let a = c.args.a in let b = c.args.b in let to = c.args.to in let w = subst (RangeIn t a b) c.in-Whole.is c.find_range.ensures in record {
      linked = c.requires.spanned.readable.linked;
      move_at = moved_at a b to t c.requires.spanned c.requires.movable c.in-Whole.first c.in-Whole.last w
          c.place_of-n.result c.place_of-n.ensures
          (λ h. c.if-l-n.false (ap (λ (r : Row). r.next) c.get_row-l.ensures ∙ h));
    }

pub returns : goal.returns
returns c =
    let t = c.args.t.now in
    let a = c.args.a in
    let b = c.args.b in
    let to = c.args.to in
    let w = subst (RangeIn t a b) c.in-Whole.is c.find_range.ensures in
    moved_done a b to t c.requires.spanned c.requires.movable c.in-Whole.first c.in-Whole.last w c.place_of-n.result
    c.place_of-n.ensures
    (λ h. c.if-l-n.false (ap (λ (r : Row). r.next) c.get_row-l.ensures ∙ h))
    c.move_run.new.t c.move_run.ensures
