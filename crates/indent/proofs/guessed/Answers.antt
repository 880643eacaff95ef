use native.Mathlib.Omega.{arith}
use Rattle.indent.proofs.Call.{tab_guessed, spaces_guessed}
use Rattle.indent.proofs.guessed.Goals as goal

pub returns-in-Tab : goal.returns-in-Tab
returns-in-Tab c = tab_guessed c.requires c.in-Tab.is

pub slice_bounds-result-end-in-Spaces : goal.slice_bounds-result-end-in-Spaces
slice_bounds-result-end-in-Spaces c = let h = (c.requires.place c.in-Spaces.n c.in-Spaces.at c.in-Spaces.is).0 in omega (arith, h)

pub returns-in-Spaces : goal.returns-in-Spaces
returns-in-Spaces c = spaces_guessed c.requires c.in-Spaces.n c.in-Spaces.at c.in-Spaces.is _ (omega arith)
