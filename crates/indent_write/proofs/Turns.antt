-- A turn of the loop of `indent_into`, and a byte with the indentor.
use mathlib.Core.Path.{◌≡◌, refl, ap, sym, ◌∙◌, subst}
use mathlib.Core.Bool.{Bool, true}
use mathlib.Core.List.{List, [], ◌∷◌, ◌++◌, append-nil}
use Prim.Native.Nat.{ℕ, ◌+◌, ◌≤◌, ◌<◌}
use native.Mathlib.Omega.{arith}
use native.Mathlib.Numerals.{add-one}
use lib.ListN.{length, get_or, take, drop, take-append-drop}
use lib.Seq.{take-suc, take-length}
use Rattle.std.specs.Prelude.{Some, None}
use Rattle.model.specs.Text.{Text}
use Rattle.model.specs.Indent.{indent_frag}
use Rattle.utf8.specs.Rfc3629.{utf8}
use Rattle.indent_mark.specs.Bytes.{mark_on, mark_behind, indented_byte, Filled}
use Rattle.indent_mark.proofs.Bytes.{indent_bytes}
use Rattle.indent_mark.proofs.Fills.{fill_none, fill_then, fill_front, fill_same, fill_end}
use Rattle.indent_mark.proofs.ByCharacters.{mark_snoc, indent_append, indent_frag_is}

-- ---- `indent_into`: the first i bytes are put

pub record Putting (d : List ℕ) (place : ℕ) (indentor : Text) (mark : Bool) (text : Text) (i : ℕ) (d' : List ℕ) (end : ℕ) (m : Bool) : Type 0 where
  pub inside : i ≤ length text
  pub filled : Filled d place (indent_bytes indentor mark (take i text)) d' end
  pub mark_is : m ≡ mark_behind mark (take i text)

pub putting_none : (d : List ℕ) (place : ℕ) (indentor : Text) (mark : Bool) (text : Text) → place ≤ length d → Putting d place indentor mark text 0 d place mark
unfolding indent_bytes mark_behind
putting_none d place indentor mark text h = record { inside = omega arith; filled = fill_none d place h; mark_is = refl }

module _ {d : List ℕ} {place : ℕ} {indentor : Text} {mark : Bool} {text : Text} {i : ℕ} {d' : List ℕ} {end : ℕ} {m : Bool} (p : Putting d place indentor mark text i d' end m) where
  pub putting_room : end ≤ length d'
  putting_room = fill_end p.filled

  pub putting_same : length d' ≡ length d
  putting_same = fill_same p.filled

  snoc : i < length text → indent_bytes indentor mark (take (i + 1) text) ≡ indent_bytes indentor mark (take i text) ++ indented_byte indentor m (get_or text i 0)
  unfolding indent_bytes
  snoc h =
      rw (add-one, p.mark_is)
      (ap (indent_bytes indentor mark) (take-suc text i 0 h) ∙ indent_append indentor mark (take i text) (get_or text i 0 ∷ [])
      ∙ ap (λ (r : Text). indent_bytes indentor mark (take i text) ++ r) (append-nil (indented_byte indentor (mark_behind mark (take i text)) (get_or text i 0))))

  pub putting_more : i < length text → {d₂ : List ℕ} {e₂ : ℕ} {m' : Bool} → Filled d' end (indented_byte indentor m (get_or text i 0)) d₂ e₂ → m' ≡ mark_on m (get_or text i 0)
      → Putting d place indentor mark text (i + 1) d₂ e₂ m'
  putting_more h {d₂} {e₂} {m'} v e =
      record {
        inside = omega arith;
        filled = rw (snoc h) (fill_then p.filled _ d₂ (Some e₂) v);
        mark_is = e ∙ ap (λ (b : Bool). mark_on b (get_or text i 0)) p.mark_is ∙ sym (mark_snoc mark (take i text) (get_or text i 0)) ∙ ap (mark_behind mark) (sym (take-suc text i 0 h)) ∙ rw add-one;
      }

  pub putting_short : utf8 text ≡ true → i < length text → length d' < end + length (indented_byte indentor m (get_or text i 0)) → length d < place + length (indent_frag indentor mark text).text
  putting_short u h v =
      let rest : Text = indent_bytes indentor (mark_behind mark (take (i + 1) text)) (drop (i + 1) text) in
      let q : indent_bytes indentor mark text ≡ indent_bytes indentor mark (take (i + 1) text) ++ rest = ap (indent_bytes indentor mark) (sym (take-append-drop (i + 1) text))
      ∙ indent_append indentor mark (take (i + 1) text) (drop (i + 1) text) in
      rw (indent_frag_is indentor mark text u, q) (fill_front _ _ _ rest (rw (snoc h) (fill_then p.filled _ d' None v)))

  pub putting_all : utf8 text ≡ true → length text ≤ i → Filled d place (indent_frag indentor mark text).text d' end
  putting_all u h =
      let e : i ≡ length text = omega (arith, p.inside) in
      rw (indent_frag_is indentor mark text u) (subst (λ (t : Text). Filled d place (indent_bytes indentor mark t) d' end) (ap (λ (j : ℕ). take j text) e ∙ take-length text) p.filled)

  pub putting_mark : length text ≤ i → m ≡ mark_behind mark text
  putting_mark h =
      let e : i ≡ length text = omega (arith, p.inside) in
      p.mark_is ∙ ap (mark_behind mark) (ap (λ (j : ℕ). take j text) e ∙ take-length text)
