-- On a desk without marks no range is refused, before and behind the cuts, so that each edit's steps are the Rust's.
use Prim.Native.Nat.{ℕ, zero, suc}
use mathlib.Core.Path.{◌≡◌, refl, ap, ap₂}
use mathlib.Core.Bool.{Bool, true, false, ◌&&◌, cond, and-false}
use mathlib.Core.List.{[]}
use lib.Dec.{ltb, eqb}
use lib.ListN.{length}
use Rattle.utf8.specs.Chars.{All}
use Rattle.model.specs.Text.{Text}
use Rattle.model.specs.Chunk.{Texts, edit, reset_texts}
use Rattle.model.specs.MagicString.{MagicString, Result, ok, err, and_then, with_chunks, split_at}
use Rattle.model.specs.Frozen.{starts_within, has_frozen, any_frozen, unguarded, unless_guarded}
use Rattle.model.specs.Update.{update_chunks}
use Rattle.model.specs.Update as update_rs
use Rattle.model.specs.Movement.{change_by_position, change_range}
use Rattle.model.specs.Movement as movement_rs
use Rattle.model.specs.Reset as reset_rs
use Rattle.model.specs.Call.{Edit, remove, update_with, reset, insert, append, prepend, relocate, trim, trim_start, trim_end, trim_lines, indent_with, freeze}
use Rattle.model.specs.Call.{asked_by, refused_by, refused_before, judged, run, rust_run}
use Rattle.model.proofs.Lists.{all_map, any_false, false_any}
use Rattle.model_preservation.proofs.Spans.{split_all}
use Rattle.model_preservation.proofs.Desk.{split_cases}
use Rattle.model_preservation.specs.Frozen.{UnmarkedIsRust}

abbrev Unmarked : MagicString → Type 0
Unmarked m = All (λ c. c.frozen ≡ false) m.chunks

-- behind a cut there is no mark either
cut_agrees : (p : ℕ) (f g : MagicString → Result) → ((n : MagicString) → Unmarked n → f n ≡ g n) → (m : MagicString) → Unmarked m → and_then (split_at p m) f ≡ and_then (split_at p m) g
cut_agrees p f g h m u =
    split_cases (λ r. and_then r f ≡ and_then r g) p m (h m u) (λ _. refl)
    (λ _. h (with_chunks m _) (split_all (λ c. c.frozen ≡ false) p (λ c _ _ e. (e, e)) u))

module _ (a b : ℕ) where
  none_refused : (n : MagicString) (r : Result) → Unmarked n → unless_guarded has_frozen a b n r ≡ r
  unfolding has_frozen
  none_refused n r u = rw (false_any (λ c. starts_within a b c && c.frozen) (all_map (λ c e. rw e (and-false (starts_within a b c))) u))

  two_cuts_agree : (f g : MagicString → Result) → ((n : MagicString) → Unmarked n → f n ≡ g n) → (m : MagicString) → Unmarked m
      → and_then (split_at a m) (λ n. and_then (split_at b n) f) ≡ and_then (split_at a m) (λ n. and_then (split_at b n) g)
  two_cuts_agree f g h = cut_agrees a (λ n. and_then (split_at b n) f) (λ n. and_then (split_at b n) g) (cut_agrees b f g h)

  change_agrees : (f : Texts → Texts) (m : MagicString) → Unmarked m → change_range has_frozen f a b m ≡ change_range unguarded f a b m
  unfolding change_range
  change_agrees f =
      let step : MagicString → Result = λ n. ok (with_chunks n (change_by_position (length n.chunks) f a b n.chunks)) in
      two_cuts_agree (λ n. unless_guarded has_frozen a b n (step n)) step (λ n. none_refused n (step n))

  remove_agrees : (m : MagicString) → Unmarked m → movement_rs.remove has_frozen a b m ≡ movement_rs.remove unguarded a b m
  unfolding movement_rs.remove
  remove_agrees m u = ap (λ r. cond (eqb a b) (ok m) (cond (ltb b a) (err 4 m) r)) (change_agrees (edit [] true) m u)

  reset_agrees : (m : MagicString) → Unmarked m → reset_rs.reset has_frozen a b m ≡ reset_rs.reset unguarded a b m
  unfolding reset_rs.reset
  reset_agrees m u = ap (λ r. cond (eqb a b) (ok m) (cond (ltb b a) (err 4 m) (cond (ltb (length m.source) b) (err 10 m) r))) (change_agrees reset_texts m u)

  update_agrees : (t : Text) (o : Bool) (m : MagicString) → Unmarked m → update_rs.update_with has_frozen a b t o m ≡ update_rs.update_with unguarded a b t o m
  unfolding update_rs.update_with
  update_agrees t o m u =
      let step : MagicString → Result → Result = λ n r. cond (ltb (length n.source) b) (err 10 n) r in
      let walk : MagicString → Result = update_chunks a b t o in
      ap (λ r. cond (eqb a b) (err 5 m) (cond (ltb b a) (err 4 m) r))
      (two_cuts_agree (λ n. step n (unless_guarded has_frozen a b n (walk n))) (λ n. step n (walk n)) (λ n v. ap (step n) (none_refused n (walk n) v)) m u)

steps_agree : (e : Edit) (m : MagicString) → Unmarked m → (asked_by has_frozen e).steps m ≡ (asked_by unguarded e).steps m
steps_agree (remove a b) m u = remove_agrees a b m u
steps_agree (update_with a b t o) m u = update_agrees a b t o m u
steps_agree (reset a b) m u = reset_agrees a b m u
steps_agree (insert p t left front) m u = refl
steps_agree (append t) m u = refl
steps_agree (prepend t) m u = refl
steps_agree (relocate a b to) m u = refl
steps_agree (trim p) m u = refl
steps_agree (trim_start p) m u = refl
steps_agree (trim_end p) m u = refl
steps_agree trim_lines m u = refl
steps_agree (indent_with i l) m u = refl
steps_agree (freeze a b) m u = refl

pub unmarked_is_rust : UnmarkedIsRust
unfolding any_frozen refused_before run rust_run
unmarked_is_rust k e m h =
    ap₂ (λ (b : Bool) (r : Result). elim (refused_by b m e) as (λ _. Result) [ suc n ↦ err (suc n) m | zero ↦ judged k m r ]) h
    (steps_agree e m (any_false (λ c. c.frozen) m.chunks h))
