use mathlib.Core.Path.{sym, ◌∙◌}
use mathlib.Core.Bool.{and-true}
use Rattle.join_apart.proofs.ByKind.{tests_third, tests_second, tests_first, range_test, range_out, range_fits, move_fits, insert_fits}
use Rattle.join_apart.proofs.places.fits.Goals as goal

pub returns-then-a-b : goal.returns-then-a-b
returns-then-a-b c t =
    let x = c.args in
    let range = sym c.has_range.ensures ∙ c.if-has_range.true in
    range_test x.n x.a x.b c.if-a-b.true c.within.ensures ∙ sym (range_fits x.kind x.a x.b x.c t x.n range)

pub returns-else-a-b : goal.returns-else-a-b
returns-else-a-b c t =
    let x = c.args in
    let range = sym c.has_range.ensures ∙ c.if-has_range.true in
    range_out x.a x.b _ c.if-a-b.false ∙ sym (range_fits x.kind x.a x.b x.c t x.n range)

pub returns-then-within-2 : goal.returns-then-within-2
returns-then-within-2 c t =
    let x = c.args in
    let moved = c.if-kind-code.true ∙ c.code.ensures.0 in
    tests_third c.within-then-kind-code.ensures c.within-then-within.ensures c.within-then-within-2.ensures c.if-within.true c.if-within-2.true
    ∙ sym (move_fits x.kind x.a x.b x.c t x.n moved)

pub returns-else-within-2 : goal.returns-else-within-2
returns-else-within-2 c t =
    let x = c.args in
    let moved = c.if-kind-code.true ∙ c.code.ensures.0 in
    tests_second _ c.within-then-kind-code.ensures c.within-then-within.ensures c.if-within.true c.if-within-2.false
    ∙ sym (move_fits x.kind x.a x.b x.c t x.n moved)

pub returns-else-within : goal.returns-else-within
returns-else-within c t =
    let x = c.args in
    let moved = c.if-kind-code.true ∙ c.code.ensures.0 in
    tests_first _ c.within-then-kind-code.ensures c.if-within.false ∙ sym (move_fits x.kind x.a x.b x.c t x.n moved)

pub returns : goal.returns
returns c t =
    let x = c.args in
    let other = sym c.has_range.ensures ∙ c.if-has_range.false in
    c.within-2.ensures ∙ sym (and-true _) ∙ sym (insert_fits x.kind x.a x.b x.c t x.n other (λ e. c.if-kind-code.false (e ∙ sym c.code.ensures.0)))
