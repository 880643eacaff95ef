-- `indent_string::put_indentor` meets its contract.
use native.Mathlib.Omega.{arith}
use lib.ListN.{length-take}
use Rattle.report_indent_string.proofs.Tallies.{tab_text, spaces_text, text_length, put_is}
use Rattle.report_indent_string.proofs.put_indentor.Goals as goal

pub slice_bounds-fill-end : goal.slice_bounds-fill-end
slice_bounds-fill-end c = omega (arith, c.requires, text_length c.args.g 1 _ (tab_text c.args.g c.in-Tab.is))

pub slice_bounds-fill-end-in-Tab : goal.slice_bounds-fill-end-in-Tab
slice_bounds-fill-end-in-Tab c = simp length-take (omega (arith, c.requires, text_length c.args.g 1 _ (tab_text c.args.g c.in-Tab.is)))

pub slice_bounds-fill-end-in-Spaces : goal.slice_bounds-fill-end-in-Spaces
slice_bounds-fill-end-in-Spaces c = omega (arith, c.requires, text_length c.args.g c.in-Spaces.n _ (spaces_text c.args.g _ _ c.in-Spaces.is))

pub slice_bounds-fill-end-in-Spaces-2 : goal.slice_bounds-fill-end-in-Spaces-2
slice_bounds-fill-end-in-Spaces-2 c = simp length-take (omega (arith, c.requires, text_length c.args.g c.in-Spaces.n _ (spaces_text c.args.g _ _ c.in-Spaces.is)))

pub returns-in-Tab : goal.returns-in-Tab
returns-in-Tab c =
    let e = tab_text c.args.g c.in-Tab.is in
    put_is c.args.g 1 _ e c.args.out.now c.fill.new.self (omega (arith, c.requires, text_length c.args.g 1 _ e)) (c.fill.ensures.after (λ y q. q))

pub returns-in-Spaces : goal.returns-in-Spaces
returns-in-Spaces c =
    let e = spaces_text c.args.g _ _ c.in-Spaces.is in
    put_is c.args.g c.in-Spaces.n _ e c.args.out.now c.fill-in-Spaces.new.self (omega (arith, c.requires, text_length c.args.g c.in-Spaces.n _ e))
    (c.fill-in-Spaces.ensures.after (λ y q. q))
