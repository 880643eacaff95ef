use mathlib.Core.Path.{◌≡◌, sym, ap, ◌∙◌, subst}
use Prim.Native.Nat.{ℕ, ◌+◌}
use native.Mathlib.Omega.{arith}
use Rattle.memory_table.specs.declared.Row.{Row}
use Rattle.memory_table.specs.Order.{entry_at}
use Rattle.memory_list.specs.declared.Key.TheVariants.{Start}
use Rattle.memory_list.specs.Find.{meets, FoundIn}
use Rattle.edit_relocate_range.specs.Range.{goes_on}
use Rattle.edit_relocate_range.proofs.Walk.{WalkAt, walk_none, walk_row, walk_next, walk_whole, walk_broken, walk_more, walk_over}
use Rattle.edit_relocate_range.proofs.find_range.Goals as goal

pub returns-in_default : goal.returns-in_default
returns-in_default c = subst (FoundIn (meets Start c.args.a) c.args.t.now) c.in_default.is c.find.ensures

pub get_row-z-requires : goal.get_row-z-requires
get_row-z-requires c = omega (arith, c.requires.room)

pub loop-k-init : goal.loop-k-init
loop-k-init c = walk_none c.args.t.now c.args.a c.args.b c.in-Some.first (subst (FoundIn (meets Start c.args.a) c.args.t.now) c.in-Some.is c.find.ensures)

pub get_row-c-requires : goal.get_row-c-requires
get_row-c-requires c =
    let first = c.in-Some.first in
    let t = c.args.t.now in
    let a = c.args.a in
    let b = c.args.b in
    walk_row t a b first c.requires c.loop-k.last c.loop-k._k c.loop-k.invariant

pub returns-then-c-b : goal.returns-then-c-b
returns-then-c-b c =
    let first = c.in-Some.first in
    let t = c.args.t.now in
    let a = c.args.a in
    let b = c.args.b in
    walk_whole t a b first c.requires c.loop-k.last c.loop-k._k c.loop-k.invariant (sym (ap (λ (r : Row). r.end) c.get_row-c.ensures) ∙ c.if-c-b.true)

pub next_follows-requires : goal.next_follows-requires
next_follows-requires c =
    let first = c.in-Some.first in
    let t = c.args.t.now in
    let a = c.args.a in
    let b = c.args.b in
    omega (arith, ap (λ (r : Row). r.next) c.get_row-c.ensures, walk_next t a b first c.requires c.loop-k.last c.loop-k._k c.loop-k.invariant)

pub loop-k-preserved : goal.loop-k-preserved
loop-k-preserved c =
    let first = c.in-Some.first in
    let t = c.args.t.now in
    let a = c.args.a in
    let b = c.args.b in
    let e = c.get_row-c.ensures in
    let short : (entry_at t c.loop-k.last).end ≡ b → ⊥ = λ h. c.if-c-b.false (ap (λ (r : Row). r.end) e ∙ h) in
    let goes = sym (ap (λ (r : Row). goes_on t r.next r.end) e) ∙ sym c.next_follows.ensures in
    subst (λ (x : ℕ). WalkAt t a b first x (c.loop-k._k + 1)) (sym (ap (λ (r : Row). r.next) e))
    (walk_more t a b first c.requires c.loop-k.last c.loop-k._k c.loop-k.invariant short (goes ∙ c.if-not-next_follows.false))

pub returns-then-not-next_follows : goal.returns-then-not-next_follows
returns-then-not-next_follows c =
    let first = c.in-Some.first in
    let t = c.args.t.now in
    let a = c.args.a in
    let b = c.args.b in
    let e = c.get_row-c.ensures in
    let short : (entry_at t c.loop-k.last).end ≡ b → ⊥ = λ h. c.if-c-b.false (ap (λ (r : Row). r.end) e ∙ h) in
    let goes = sym (ap (λ (r : Row). goes_on t r.next r.end) e) ∙ sym c.next_follows.ensures in
    walk_broken t a b first c.requires c.loop-k.last c.loop-k._k c.loop-k.invariant short (goes ∙ c.if-not-next_follows.true)

pub returns : goal.returns
returns c =
    let first = c.in-Some.first in
    let t = c.args.t.now in
    let a = c.args.a in
    let b = c.args.b in
    walk_over t a b first c.requires c.loop-k.last c.loop-k._k c.loop-k.invariant (omega (arith, ap (λ (r : Row). r.start) c.get_row-z.ensures))
