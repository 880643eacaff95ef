-- The guessed indent as a value.
use Rattle.std.specs.Prelude.{ℕ, ◌+◌, ◌≤◌, ◌≡◌, [], ◌∷◌, length, take, drop, replicate}
use Rattle.model.specs.Text.{Text, TAB, SPACE}
use Rattle.model.specs.Indent.{get_indent_string}
use Rattle.report_indent_string.specs.declared.Indentor.{Indentor}
use Rattle.report_indent_string.specs.declared.Indentor.TheVariants.{Tab, Spaces}

-- its bytes: one tab, or the spaces
unfoldable pub indentor_text : Indentor → Text
indentor_text Tab = TAB ∷ []
indentor_text (Spaces n at) = replicate n SPACE

-- it is the source's indent string; spaces stand at their place in the source
pub record Guessed (source : Text) (g : Indentor) : Type 0 where
  pub text : indentor_text g ≡ get_indent_string source
  pub place : (n at : ℕ) → g ≡ Spaces n at → (at + n ≤ length source) × (take n (drop at source) ≡ get_indent_string source)
