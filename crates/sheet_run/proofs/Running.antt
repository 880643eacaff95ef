-- A list of records, run: one record's call, and the loop over all of them.
use Prim.Native.Nat.{ℕ, suc, ◌+◌, ◌≤◌, ◌<◌}
use mathlib.Core.Path.{◌≡◌, refl, sym, ap, ap₂, subst, ◌∙◌}
use mathlib.Core.List.{List, [], ◌∷◌, ◌++◌, append_assoc, append-nil}
use mathlib.Core.Option.{Option, none, some, map}
use lib.ListN.{length, set, take, drop, length-set, take-append-drop}
use lib.Seq.{drop-drop, drop-set-lt, take-suc-set}
use native.Mathlib.Omega.{arith}
use Rattle.model.specs.MagicString.{MagicString}
use Rattle.model.specs.Limits.{Limits}
use Rattle.model.specs.Call.{run, after, answers}
use Rattle.model_sheet.specs.Record.{Recorded, records}
use Rattle.model_sheet.specs.Sheet.{call_of, recorded_calls}
use Rattle.model_sheet.proofs.Runs.{answer_small}
use Rattle.memory.specs.Layout.{magic_string_of}
use Rattle.memory.specs.WellFormed.{limits_of, Lengths}
use Rattle.memory.proofs.Desks.{limits_as}
use Rattle.memory_used.specs.declared.Used.{Used}
use Rattle.memory_layout.specs.Refusals.{number_of}
use Rattle.memory_used.specs.declared.Outcome.{Outcome}
use Rattle.memory_used.specs.Above.{Desk}
use Rattle.sheet_records.specs.Found.{Counted, Next}
use Rattle.sheet_run.specs.Steps.{Stepped}
use Rattle.sheet_run.specs.RanAll.{RanAll}

-- ── the loop ──
-- From the desk in t₀, p₀ and s₀ the first i records of r have been run, and those from a place on are left: the whole list leaves what they leave from here on,
-- and its answers are those at the front of a and theirs
pub record Done (list rest : List Recorded) (k : Limits) (m₀ m : MagicString) (front : List ℕ) : Type 0 where
  pub desk : after k (recorded_calls rest) m ≡ after k (recorded_calls list) m₀
  pub numbers : front ++ answers k (recorded_calls rest) m ≡ answers k (recorded_calls list) m₀

pub record Running (r source t₀ p₀ s₀ a₀ : List ℕ) (n at i : ℕ) (t p s a : List ℕ) (used : Used) : Type 0 where
  pub rest : List Recorded
  pub here : records (drop at r) ≡ some rest
  pub left : i + length rest ≡ n
  pub room : n ≤ length a
  pub desk : Desk source t p s used
  pub lengths : Lengths t₀ p₀ s₀ t p s
  pub long : length a ≡ length a₀
  pub kept : drop i a ≡ drop i a₀
  pub done : (list : List Recorded) → records r ≡ some list
      → Done list rest (limits_of t₀ p₀ s₀) (magic_string_of source t₀ p₀ s₀) (magic_string_of source t p s) (take i a)

same_list : {o : Option (List Recorded)} {l m : List Recorded} → o ≡ some l → o ≡ some m → l ≡ m
same_list e h = cc

pub running_start : {r source t p s a : List ℕ} {n : ℕ} {used : Used} → Desk source t p s used → Counted r (length a) n → Running r source t p s a n 0 0 t p s a used
running_start {r} {source} {t} {p} {s} {a} d c =
    record {
      rest = c.list;
      here = c.are;
      left = omega (arith, c.count);
      room = c.few;
      desk = d;
      lengths = record { chunks = refl; pieces = refl; store = refl };
      long = refl;
      kept = refl;
      done = λ list e. subst (λ l. Done list l (limits_of t p s) (magic_string_of source t p s) (magic_string_of source t p s) []) (same_list e c.are)
          (record { desk = refl; numbers = refl });
    }

module _ {r source t₀ p₀ s₀ a₀ : List ℕ} {n at i : ℕ} {t p s a : List ℕ} {used : Used} (w : Running r source t₀ p₀ s₀ a₀ n at i t p s a used) where
  -- while records are left, one stands at the place
  pub running_next : i < n → Next r at
  running_next h = go w.rest refl
    where
      go : (l : List Recorded) → w.rest ≡ l → Next r at
      go [] e = let left = w.left in absurd (omega (arith, ap length e))
      go (one ∷ rest) e = record { one = one; rest = rest; are = w.here ∙ ap {B = Option (List Recorded)} some e }

  module _ {t' p' s' : List ℕ} {made : Outcome} {next : ℕ} (x : Stepped r at source t p s t' p' s' made next) where
    -- a call's number is a byte
    pub running_byte : number_of made.status ≤ 20
    running_byte =
        let q = x.left.ran.number_is in
        omega (arith, answer_small (limits_of t p s) (call_of x.one) (magic_string_of source t p s) w.desk.well_formed.desk.formed)

    pub running_turn : i < n → Lengths t p s t' p' s'
        → Running r source t₀ p₀ s₀ a₀ n next (i + 1) t' p' s' (set a i (number_of made.status)) made.used
    running_turn h same = go (records (drop next r)) refl
      where
        go : (o : Option (List Recorded)) → records (drop next r) ≡ o
            → Running r source t₀ p₀ s₀ a₀ n next (i + 1) t' p' s' (set a i (number_of made.status)) made.used
        go none e =
            let here = w.here in
            let nothing : records (drop at r) ≡ none = x.here ∙ ap (map (λ l. x.one ∷ l)) e in
            let z : ◌≡◌ {A = ℕ} 0 1 = cc in
            absurd (omega arith)
        go (some l) e =
            let both : x.one ∷ l ≡ w.rest = same_list (x.here ∙ ap (map (λ l. x.one ∷ l)) e) w.here in
            let left = w.left in
            let room = w.room in
            let one : i + 1 ≡ suc i = omega arith in
            let k₀ = limits_of t₀ p₀ s₀ in
            let m = magic_string_of source t p s in
            let limits : limits_of t p s ≡ k₀ = limits_as w.lengths in
            let number : number_of made.status ≡ (run k₀ (call_of x.one) m).number =
            x.left.ran.number_is ∙ ap (λ q. (run q (call_of x.one) m).number) limits in
            let desk : magic_string_of source t' p' s' ≡ (run k₀ (call_of x.one) m).desk =
            x.left.ran.desk_is ∙ ap (λ q. (run q (call_of x.one) m).desk) limits in
            let front : take (i + 1) (set a i (number_of made.status)) ≡ take i a ++ ((number_of made.status) ∷ []) =
            ap (λ j. take j (set a i (number_of made.status))) one ∙ take-suc-set a i (number_of made.status) (omega arith) in
            record {
              rest = l;
              here = e;
              left = omega (arith, ap length both);
              room = omega (arith, length-set a i (number_of made.status));
              desk = record { well_formed = x.left.ran.well_formed; above = x.left.above };
              lengths = record {
                chunks = same.chunks ∙ w.lengths.chunks;
                pieces = same.pieces ∙ w.lengths.pieces;
                store = same.store ∙ w.lengths.store;
              };
              long = length-set a i (number_of made.status) ∙ w.long;
              kept = drop-set-lt (i + 1) a i (number_of made.status) (omega arith) ∙ sym (drop-drop 1 i a) ∙ ap (drop 1) w.kept ∙ drop-drop 1 i a₀;
              done = λ list q.
                  let d = subst (λ (y : List Recorded). Done list y k₀ (magic_string_of source t₀ p₀ s₀) m (take i a)) (sym both) (w.done list q) in
                  record {
                    desk = ap (after k₀ (recorded_calls l)) desk ∙ d.desk;
                    numbers =
                        ap₂ (λ f g. f ++ answers k₀ (recorded_calls l) g) front desk
                        ∙ append_assoc (take i a) ((number_of made.status) ∷ []) (answers k₀ (recorded_calls l) (run k₀ (call_of x.one) m).desk)
                        ∙ ap (λ j. take i a ++ (j ∷ answers k₀ (recorded_calls l) (run k₀ (call_of x.one) m).desk)) number
                        ∙ d.numbers;
                  };
            }

  -- nothing is left
  pub running_end : n ≤ i → (list : List Recorded) → records r ≡ some list → Counted r (length a₀) n → RanAll list source t₀ p₀ s₀ a₀ t p s a
  running_end h list e c = go w.rest refl
    where
      go : (l : List Recorded) → w.rest ≡ l → RanAll list source t₀ p₀ s₀ a₀ t p s a
      go (one ∷ l) q = let left = w.left in absurd (omega (arith, ap length q))
      go [] q =
          let left = w.left in
          let count : length list ≡ i = ap length (same_list e c.are) ∙ c.count ∙ omega (arith, ap length q) in
          let d = subst (λ (y : List Recorded). Done list y (limits_of t₀ p₀ s₀) (magic_string_of source t₀ p₀ s₀) (magic_string_of source t p s) (take i a)) q (w.done list e) in
          record {
            desk_is = d.desk;
            answers_are =
                sym (take-append-drop i a)
                ∙ ap₂ (λ f g. f ++ g) (sym (append-nil (take i a)) ∙ d.numbers) (w.kept ∙ ap (λ j. drop j a₀) (sym count));
            well_formed = w.desk.well_formed;
          }
