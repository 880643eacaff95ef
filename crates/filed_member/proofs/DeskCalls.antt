-- A call that opens a desk or works on one, made on two memories that differ in nothing but marks.
use Prim.Native.Nat.{ℕ}
use native.Mathlib.Omega.{arith}
use native.Mathlib.Decide.{ℕ_discrete}
use mathlib.Core.Path.{◌≡◌, sym, ap, ap₂, ◌∙◌}
use mathlib.Core.List.{List, []}
use lib.ListN.{length}
use Rattle.model.specs.MagicString.{MagicString, Result, new}
use Rattle.model.specs.Limits.{Limits}
use Rattle.model.specs.Call.{Edit, Report, Outcome, opened, run, show}
use Rattle.model_sheet.specs.Sheet.{source_of, run_sheet}
use Rattle.model_join.specs.Join.{join}
use Rattle.filed_exported.specs.Sittings.{Lent}
use Rattle.filed_member.specs.Calls.{Seen, SameDesk, SameFiled, SameLengths, Made}
use Rattle.filed_member.specs.Calls as calls
use Rattle.filed_member.specs.Claim.{SameButMarks}
use Rattle.filed_member.proofs.Unrefuted.{Unrefuted, is}
use Rattle.filed_member.proofs.Desks.{same_limits, same_desk, taken_or_not}
use Rattle.filed_member.proofs.Steps.{desk_of, Formed, Goes, seen_same, shown_same, DesksAlike, beside, stays, refuses, now_alike}

module _ (M M' N N' : Lent) (x x' : Seen) (m : SameButMarks M M') where
  -- ── opening: with 0 a fresh desk of the source, else nothing is changed ──
  reopened : (source : List ℕ) → x.number ≡ x'.number → SameLengths M N → SameLengths M' N' → SameFiled M N → SameFiled M' N'
      → (x.number ≡ 0 → Formed source N) → (x'.number ≡ 0 → Formed source N')
      → (x.number ≡ 0 → x'.number ≡ 0 → desk_of source N ≡ desk_of source N')
      → ((x.number ≡ 0 → ⊥) → SameDesk M N) → ((x'.number ≡ 0 → ⊥) → SameDesk M' N') → SameButMarks N N'
  reopened source e l l' f f' w w' d r r' =
      elim (ℕ_discrete x.number 0) [
        | yes z ↦ let z' = sym e ∙ z in beside M M' N N' m (now_alike M M' N N' source m l l' (w z) (w' z') (d z z')) f f'
        | no n ↦ stays M M' N N' m (r n) f (r' (λ z. n (e ∙ z))) f'
      ]

  pub opens : (source : List ℕ) → Made (calls.open source) M x N → Made (calls.open source) M' x' N' → Goes x x' N N'
  opens source c c' =
      let o = c.0 in
      let o' = c'.0 in
      let number : x.number ≡ x'.number =
      o.number_is m.desk.holds.full ∙ ap (λ (k : Limits). (opened k source (new [])).number) (same_limits m.desk) ∙ sym (o'.number_is m.desk.holds'.full) in
      record {
        seen = seen_same number (c.1 ∙ sym c'.1) (c.2 ∙ sym c'.2);
        left =
            reopened source number c.3 c'.3 c.4 c'.4 o.well_formed o'.well_formed (λ z z'. o.desk_is z ∙ sym (o'.desk_is z')) o.refused o'.refused;
      }

  pub runs_sheet : (sheet answers : List ℕ) → Made (calls.run_sheet sheet answers) M x N → Made (calls.run_sheet sheet answers) M' x' N' → Goes x x' N N'
  runs_sheet sheet answers c c' =
      let o = c.0.sized m.desk.holds.full in
      let o' = c'.0.sized m.desk.holds'.full in
      let one = ap (λ (k : Limits). run_sheet k (length answers) (new []) sheet) (same_limits m.desk) in
      let same : x ≡ x' = shown_same answers (ap (λ (r : Outcome). r.shown) one) (o.number_is, o.value_is, o.written) (o'.number_is, o'.value_is, o'.written) in
      record {
        seen = same;
        left =
            reopened (source_of sheet) (ap (λ (y : Seen). y.number) same) c.1 c'.1 c.2 c'.2 o.well_formed o'.well_formed
            (λ z z'. o.desk_is z ∙ ap (λ (r : Outcome). r.desk) one ∙ sym (o'.desk_is z')) o.refused o'.refused;
      }

  -- ── the check and the reports: nothing is changed ──
  pub checks : (source : List ℕ) → Made (calls.check source) M x N → Made (calls.check source) M' x' N' → Unrefuted (Goes x x' N N')
  checks source c c' =
      let goes : x.number ≡ x'.number → Goes x x' N N' = λ e.
      record { seen = seen_same e (c.1 ∙ sym c'.1) (c.2 ∙ sym c'.2); left = stays M M' N N' m c.3 c.4 c'.3 c'.4 } in
      taken_or_not m.desk source (λ h h'. is (goes (c.0.well_formed h ∙ sym (c'.0.well_formed h'))))
      (λ n n'. is (goes (c.0.not_well_formed n ∙ sym (c'.0.not_well_formed n'))))

  pub reports : (source : List ℕ) (q : Report) (out : List ℕ) → Made (calls.report source q out) M x N → Made (calls.report source q out) M' x' N'
      → Unrefuted (Goes x x' N N')
  reports source q out c c' =
      let goes : x ≡ x' → Goes x x' N N' = λ e. record { seen = e; left = stays M M' N N' m c.1 c.2 c'.1 c'.2 } in
      taken_or_not m.desk source
      (λ h h'.
      let o = c.0.well_formed h in
      let o' = c'.0.well_formed h' in
      let one = ap (show q) (same_desk m.desk source) in
      is (goes (shown_same out one (o.number_is, o.value_is, o.written) (o'.number_is, o'.value_is, o'.written))))
      (λ n n'.
      let o = c.0.not_well_formed n in
      let o' = c'.0.not_well_formed n' in
      is (goes (seen_same (o.0 ∙ sym o'.0) (o.1 ∙ sym o'.1) (o.2 ∙ sym o'.2))))

  -- ── calls that change a desk: equal desks are left, or 2 and nothing is changed ──
  leaves : x.number ≡ x'.number → x.value ≡ x'.value → DesksAlike N N' → x.buffer ≡ x'.buffer → SameFiled M N → SameFiled M' N' → Goes x x' N N'
  leaves n v d b f f' = record { seen = seen_same n v b; left = beside M M' N N' m d f f' }

  pub changes : (source : List ℕ) (e : Edit) → Made (calls.change source e) M x N → Made (calls.change source e) M' x' N' → Unrefuted (Goes x x' N N')
  changes source e c c' =
      let desk = same_desk m.desk source in
      taken_or_not m.desk source
      (λ h h'.
      let o = c.0.well_formed h in
      let o' = c'.0.well_formed h' in
      let one = ap₂ (λ (k : Limits) (d : MagicString). run k e d) (same_limits m.desk) desk in
      let number = o.number_is ∙ ap (λ (r : Result). r.number) one ∙ sym o'.number_is in
      let before = ap (λ (d : MagicString). length d.chunks) desk in
      let after = ap (λ (r : Result). length r.desk.chunks) one in
      let value : x.value ≡ x'.value = omega (arith, before, after, o.value_is, o'.value_is) in
      let left = o.desk_is ∙ ap (λ (r : Result). r.desk) one ∙ sym o'.desk_is in
      is (leaves number value (now_alike M M' N N' source m o.lengths o'.lengths o.well_formed o'.well_formed left) (c.1 ∙ sym c'.1) c.2 c'.2))
      (λ n n'. is (refuses M M' N N' x x' m (c.0.not_well_formed n) (c'.0.not_well_formed n') (c.1 ∙ sym c'.1) c.2 c'.2))

  pub joins : (source first second : List ℕ) → Made (calls.join source first second) M x N → Made (calls.join source first second) M' x' N' → Unrefuted (Goes x x' N N')
  joins source first second c c' =
      taken_or_not m.desk source
      (λ h h'.
      let o = c.0.well_formed h in
      let o' = c'.0.well_formed h' in
      let one = ap₂ (λ (k : Limits) (d : MagicString). join k first second d) (same_limits m.desk) (same_desk m.desk source) in
      let number = o.number_is ∙ ap (λ (r : Outcome). r.shown.number) one ∙ sym o'.number_is in
      let value = o.value_is ∙ ap (λ (r : Outcome). r.shown.value) one ∙ sym o'.value_is in
      let left = o.desk_is ∙ ap (λ (r : Outcome). r.desk) one ∙ sym o'.desk_is in
      is (leaves number value (now_alike M M' N N' source m o.lengths o'.lengths o.well_formed o'.well_formed left) (c.1 ∙ sym c'.1) c.2 c'.2))
      (λ n n'. is (refuses M M' N N' x x' m (c.0.not_well_formed n) (c'.0.not_well_formed n') (c.1 ∙ sym c'.1) c.2 c'.2))
