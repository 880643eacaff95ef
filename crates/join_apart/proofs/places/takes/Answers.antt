use mathlib.Core.Path.{◌≡◌, sym, ◌∙◌}
use mathlib.Core.List.{[]}
use native.Mathlib.Omega.{arith}
use Rattle.join_apart.proofs.ByKind.{range_wide, range_place, move_place, insert_left_place, insert_right_place, insert_within}
use Rattle.join_apart.proofs.places.takes.Goals as goal

pub returns-then-has_range : goal.returns-then-has_range
returns-then-has_range c t =
    let x = c.args in
    let range = sym c.has_range.ensures ∙ c.if-has_range.true in
    sym (range_place x.kind x.a x.b x.c t x.n range)

pub overflow_sub-result : goal.overflow_sub-result
overflow_sub-result c =
    let x = c.args in
    let range = sym c.has_range.ensures ∙ c.if-has_range.true in
    let wide = range_wide x.kind x.a x.b x.c [] x.n range (sym (c.requires.fits [])) in
    omega (arith, wide)

pub returns-then-kind-code : goal.returns-then-kind-code
returns-then-kind-code c t = let x = c.args in sym (move_place x.kind x.a x.b x.c t x.n (c.if-kind-code.true ∙ c.code.ensures.0))

pub returns-then-inserts_left : goal.returns-then-inserts_left
returns-then-inserts_left c t =
    let x = c.args in
    let other = sym c.has_range.ensures ∙ c.if-has_range.false in
    let left = sym c.inserts_left.ensures ∙ c.if-inserts_left.true in
    sym (insert_left_place x.kind x.a x.b x.c t x.n other (λ e. c.if-kind-code.false (e ∙ sym c.code.ensures.0)) left)

pub returns : goal.returns
returns c t =
    let x = c.args in
    let other = sym c.has_range.ensures ∙ c.if-has_range.false in
    let unmoved : x.kind ≡ 8 → ⊥ = λ e. c.if-kind-code.false (e ∙ sym c.code.ensures.0) in
    let right = sym c.inserts_left.ensures ∙ c.if-inserts_left.false in
    let inside = insert_within x.kind x.a x.b x.c t x.n other unmoved (sym (c.requires.fits t)) in
    sym (insert_right_place x.kind x.a x.b x.c t x.n other unmoved right inside)
