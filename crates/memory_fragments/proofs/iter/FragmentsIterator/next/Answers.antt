use mathlib.Core.Path.{ap, sym, ◌∙◌}
use mathlib.Core.List.{List, ◌∷◌}
use Prim.Native.Nat.{ℕ}
use native.Mathlib.Omega.{arith}
use lib.ListN.{length}
use Rattle.model.specs.Text.{Text}
use Rattle.memory_fragments.specs.Sections.{up_to}
use Rattle.memory_fragments.proofs.Sections.{up_to_end, up_to_went}
use Rattle.memory_fragments.proofs.iter.FragmentsIterator.next.Goals as goal

pub returns-then-self-clause-steps : goal.returns-then-self-clause-steps
returns-then-self-clause-steps c =
    let i = c.self.inside in
    let e = sym c.self.view_is ∙ ap (λ (g : ℕ). up_to i.desk.source.now i.desk.chunks.now i.desk.pieces.now i.desk.store.now i.stop g i.at.item) c.if-self.true ∙ up_to_end _ _ _ _ i.stop i.at.item in
    (e, e)

pub returns-clause-steps : goal.returns-clause-steps
returns-clause-steps c =
    let i = c.self.inside in
    let after : List Text = up_to i.desk.source.now i.desk.chunks.now i.desk.pieces.now i.desk.store.now i.stop c.next-self-inside.result.section c.next-self-inside.result.item in
    sym c.self.view_is
    ∙ up_to_went i.desk.source.now i.desk.chunks.now i.desk.pieces.now i.desk.store.now i.stop (omega (arith, c.self.invariant.below, c.if-self.false)) c.self.invariant.on.item_in c.next-self-inside.ensures
    ∙ ap (λ (x : Text). x ∷ after) (sym c.fragment-text.ensures)

pub returns-clause-goes : goal.returns-clause-goes
returns-clause-goes c = record { on = λ _. (tt, tt, omega (arith, ap length (returns-clause-steps c))); keeps = tt; rests = λ _. tt }
