-- Laws of what `Replacement` in specs/ defines.
use mathlib.Core.Path.{◌≡◌, sym, ap, ◌∙◌, subst}
use mathlib.Core.Bool.{Bool, true}
use mathlib.Core.List.{List}
use Prim.Native.Nat.{ℕ, ◌+◌, ◌-◌, ◌≤◌, ◌<◌}
use native.Mathlib.Omega.{arith}
use lib.ListN.{length}
use Rattle.utf8.specs.Rfc3629.{utf8}
use Rattle.memory_table.specs.declared.Row.{Row}
use Rattle.memory_table.specs.Table.{row_at, Put}
use Rattle.memory_table.specs.Order.{Entry, entry_of, entry_at}
use Rattle.model.specs.Text.{Text}
use Rattle.model.specs.Indent.{Indented, indent_frag}
use Rattle.memory.specs.Layout.{Place, bytes_at}
use Rattle.indent_mark.specs.Bytes.{mark_behind, Filled}
use Rattle.indent_mark.proofs.ByCharacters.{indent_frag_is}
use Rattle.indent_cuts.specs.Splice.{with_text_at, Rewritten}
use Rattle.indent_cuts.proofs.Splice.{rewritten_set}
use Rattle.indent_replaced_chunk.specs.Replacement.{ReplacementReady, WrittenAt, Replaced}

-- ---- a text, written

pub written_fits : {s s' : List ℕ} {byte end : ℕ} (indentor : List ℕ) (mark : Bool) (text part : List ℕ) {mark' : Bool} → part ≡ text → utf8 text ≡ true
    → Filled s byte (indent_frag indentor mark part).text s' end → mark' ≡ mark_behind mark part → WrittenAt indentor mark text s byte s' mark' end
written_fits {s} {s'} {byte} {end} indentor mark text part e v f m =
    let q = subst (λ (x : Text). Filled s byte (indent_frag indentor mark x).text s' end) e f in
    record {
      store_is = q.done.out_is;
      end_is = q.done.next_is;
      room = q.room;
      mark_is = m ∙ ap (mark_behind mark) e ∙ sym (ap (λ (x : Indented). x.mark) (indent_frag_is indentor mark text v));
    }

-- ---- the replacement, written

pub replacement_written : {store t s t' s' : List ℕ} {i byte end : ℕ} (indentor : List ℕ) (mark : Bool) {mark' : Bool} {r q : Row} → ReplacementReady store t s i byte → r ≡ row_at t i
    → WrittenAt indentor mark (bytes_at store (r.text_at, r.text_n)) s byte s' mark' end →
    Rewritten r q (with_text_at (byte, end - byte) (entry_of r)) → Put t t' i q → length t' ≡ length t
    → Replaced indentor (bytes_at store (entry_at t i).text) t s i mark byte t' s' mark' end
replacement_written {store} {t} {s} {t'} {s'} {i} {byte} {end} indentor mark {mark'} {r} {q} h er w c u m =
    let e : ◌≡◌ {A = Place} (r.text_at, r.text_n) (entry_at t i).text = ap (λ (y : Row). (entry_of y).text) er in
    let v = subst (λ (y : Place). WrittenAt indentor mark (bytes_at store y) s byte s' mark' end) e w in
    let n : end - byte ≡ length (indent_frag indentor mark (bytes_at store (entry_at t i).text)).text = omega (arith, v.end_is) in
    let c' = subst (λ (y : Entry). Rewritten r q (with_text_at (byte, length (indent_frag indentor mark (bytes_at store (entry_at t i).text)).text) y))
    (ap entry_of er) (subst (λ (y : ℕ). Rewritten r q (with_text_at (byte, y) (entry_of r))) n c) in
    record {
      set = rewritten_set h.linked h.placed er c' u m;
      len = m;
      store_is = v.store_is;
      end_is = v.end_is;
      room = v.room;
      mark_is = v.mark_is;
    }

pub replacement_short : (store t : List ℕ) (i byte n : ℕ) (indentor : List ℕ) (mark : Bool) {r : Row} → r ≡ row_at t i
    → n < byte + length (indent_frag indentor mark (bytes_at store (r.text_at, r.text_n))).text → n < byte + length (indent_frag indentor mark (bytes_at store (entry_at t i).text)).text
replacement_short store t i byte n indentor mark er h = subst (λ (y : Row). n < byte + length (indent_frag indentor mark (bytes_at store (y.text_at, y.text_n))).text) er h

-- what writing the text asks
pub replacement_asks : {store t s : List ℕ} {i byte : ℕ} {r : Row} → ReplacementReady store t s i byte → r ≡ row_at t i
    → (r.text_at + r.text_n ≤ length store) × (utf8 (bytes_at store (r.text_at, r.text_n)) ≡ true)
replacement_asks {store} {t} {s} {i} h er =
    subst (λ (y : Row). (y.text_at + y.text_n ≤ length store) × (utf8 (bytes_at store (y.text_at, y.text_n)) ≡ true)) (sym er) (h.inside, h.valid)
