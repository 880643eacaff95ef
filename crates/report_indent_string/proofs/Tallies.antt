-- The lines of a text, and the tally over them.
use mathlib.Core.Path.{◌≡◌, refl, ap, sym, ◌∙◌, subst}
use mathlib.Core.Bool.{Bool, true, false, ◌&&◌, cond, false≢true}
use mathlib.Core.List.{List, [], ◌∷◌, ◌++◌}
use Prim.Native.Nat.{ℕ, zero, suc, ◌+◌, ◌-◌, ◌≤◌, ◌<◌, min}
use native.Mathlib.Omega.{arith}
use native.Mathlib.Numerals.{add-one}
use native.Mathlib.Decide.{dec_lt}
use lib.Dec.{eqb, leb}
use Rattle.std.proofs.lemmas.List.{get_or-take, get_or-drop}
use lib.ListN.{length, get_or, take, drop, replicate, length-replicate, length-take, length-drop, drop_of_length-le}
use lib.Seq.{drop-cons, drop-drop}
use borrow.Author.Tests.{eq-eqb, ne_eqb, le-leb, lt-leb, eqb-true}
use Rattle.utf8.proofs.Sequences.{both}
use Rattle.model.specs.Text.{Text, TAB, LF, CR, SPACE, lines, line_feeds, onto_first}
use Rattle.model.specs.Indent.{tabbed, spaced, leading_spaces, count, least_spaces, get_indent_string}
use Rattle.model.specs.Call.{show, get_indent_string as GetIndentString}
use Rattle.model.proofs.Lists.{one_most}
use Rattle.memory.specs.Layout.{magic_string_of}
use Rattle.memory.specs.Calls.{Told}
use Rattle.memory_fragments.proofs.Telling.{told_short, told_text}
use Rattle.report_indent_string.specs.declared.Indentor.{Indentor}
use Rattle.report_indent_string.specs.declared.Indentor.TheVariants.{Tab, Spaces}
use Rattle.report_indent_string.specs.declared.Tally.{Tally}
use Rattle.report_indent_string.specs.Lines.{behind_line, NoFeeds, Seeking, NextLine, Counts, Held, Places}
use Rattle.report_indent_string.specs.Guess.{indentor_text, Guessed}

-- a test with its two cases
by_test : (P : Bool → Type 0) (b : Bool) → (b ≡ true → P true) → (b ≡ false → P false) → P b
by_test P true f g = f refl
by_test P false f g = g refl

-- ---- the first line, without its line feed and a carriage return before that

abbrev first_line : Text → Text
first_line [] = []
first_line (a ∷ s) =
    let r : Text = first_line s in
    cond (eqb a LF) [] (cond (eqb a CR && eqb (get_or s 0 0) LF) [] (a ∷ r))

not_lf : (a : ℕ) → eqb a LF ≡ false → (s : Text) → behind_line (a ∷ s) ≡ behind_line s
not_lf a e s = rw e

-- the lines of a text that is not empty: the first, and those behind its line feed
both_ended : (a : ℕ) (s : Text) → (eqb a CR && eqb (get_or s 0 0) LF) ≡ true → lines s ≡ [] ∷ lines (behind_line s)
both_ended a [] h = absurd (false≢true (both (eqb a CR) false h).1)
both_ended a (b ∷ s) h = let e : eqb b LF ≡ true = (both (eqb a CR) (eqb b LF) h).1 in rw e

LinesOf : Text → Type 0
LinesOf [] = Unit {0}
LinesOf (a ∷ s) = lines (a ∷ s) ≡ first_line (a ∷ s) ∷ lines (behind_line (a ∷ s))

onto_line : (a : ℕ) (s : Text) → LinesOf s → onto_first a (lines s) ≡ (a ∷ first_line s) ∷ lines (behind_line s)
unfolding LinesOf
onto_line a [] h = refl
onto_line a (b ∷ s) h = ap (onto_first a) h

lines_of : (s : Text) → LinesOf s
unfolding LinesOf
lines_of [] = tt
lines_of (a ∷ s) =
    by_test (λ b. cond b ([] ∷ lines s) (cond (eqb a CR && eqb (get_or s 0 0) LF) (lines s) (onto_first a (lines s)))
    ≡ cond b [] (cond (eqb a CR && eqb (get_or s 0 0) LF) [] (a ∷ first_line s)) ∷ lines (cond b s (behind_line s))) (eqb a LF)
    (λ e. refl)
    (λ e. by_test (λ b. cond b (lines s) (onto_first a (lines s)) ≡ cond b [] (a ∷ first_line s) ∷ lines (behind_line s)) (eqb a CR && eqb (get_or s 0 0) LF)
    (λ h. both_ended a s h) (λ h. onto_line a s (lines_of s)))

lines_cons : (a : ℕ) (s : Text) → lines (a ∷ s) ≡ first_line (a ∷ s) ∷ lines (behind_line (a ∷ s))
unfolding LinesOf
lines_cons a s = lines_of (a ∷ s)

-- ---- what a line begins with

-- the first line begins as the text does
another : (a x y : ℕ) → eqb a x ≡ true → (x ≡ y → ⊥) → eqb a y ≡ false
another a x y e n = ne_eqb a y (λ z. n (sym (eqb-true a x e) ∙ z))

first_spaces : (s : Text) → leading_spaces (first_line s) ≡ leading_spaces s
first_spaces [] = refl
first_spaces (a ∷ s) =
    let more : leading_spaces (a ∷ first_line s) ≡ leading_spaces (a ∷ s) = ap (λ (n : ℕ). cond (eqb a SPACE) (suc n) 0) (first_spaces s) in
    by_test (λ b. leading_spaces (cond b [] (cond (eqb a CR && eqb (get_or s 0 0) LF) [] (a ∷ first_line s))) ≡ leading_spaces (a ∷ s)) (eqb a LF)
    (λ e. rw (another a LF SPACE e (λ z. omega arith)))
    (λ e. by_test (λ b. leading_spaces (cond b [] (a ∷ first_line s)) ≡ leading_spaces (a ∷ s)) (eqb a CR && eqb (get_or s 0 0) LF)
    (λ h. rw (another a CR SPACE (both (eqb a CR) (eqb (get_or s 0 0) LF) h).0 (λ z. omega arith))) (λ h. more))

first_tabbed : (s : Text) → tabbed (first_line s) ≡ eqb (get_or s 0 0) TAB
first_tabbed [] = refl
first_tabbed (a ∷ s) =
    by_test (λ b. tabbed (cond b [] (cond (eqb a CR && eqb (get_or s 0 0) LF) [] (a ∷ first_line s))) ≡ eqb a TAB) (eqb a LF)
    (λ e. sym (another a LF TAB e (λ z. omega arith)))
    (λ e. by_test (λ b. tabbed (cond b [] (a ∷ first_line s)) ≡ eqb a TAB) (eqb a CR && eqb (get_or s 0 0) LF)
    (λ h. sym (another a CR TAB (both (eqb a CR) (eqb (get_or s 0 0) LF) h).0 (λ z. omega arith))) (λ h. refl))

-- two spaces at the front
spaced_by : (l : Text) → spaced l ≡ leb 2 (leading_spaces l)
spaced_by [] = refl
spaced_by (a ∷ l) =
    by_test (λ b. (b && eqb (get_or l 0 0) SPACE) ≡ leb 2 (cond b (suc (leading_spaces l)) 0)) (eqb a SPACE) (λ e. second l) (λ e. refl)
  where
    second : (l : Text) → eqb (get_or l 0 0) SPACE ≡ leb 2 (suc (leading_spaces l))
    second [] = refl
    second (b ∷ l) =
        by_test (λ x. x ≡ leb 2 (suc (cond x (suc (leading_spaces l)) 0))) (eqb b SPACE) (λ e. sym (le-leb 2 (suc (suc (leading_spaces l))) (omega arith))) (λ e. refl)

-- no spaces before a tab
tab_first : (l : Text) → tabbed l ≡ true → leading_spaces l ≡ 0
tab_first [] h = refl
tab_first (a ∷ l) h =
    let e : a ≡ TAB = eqb-true a TAB h in
    let f : eqb a SPACE ≡ false = ne_eqb a SPACE (λ z. omega (arith, sym e ∙ z)) in
    rw f

-- ---- a line more

module _ (t : Tally) (first n : ℕ) where
  pub adds_tab : first ≡ TAB → Counts t first n (record { tabbed = t.tabbed + 1; spaced = t.spaced; least = t.least; at = t.at })
  adds_tab h l a b =
      let x : tabbed l ≡ true = a ∙ eq-eqb first TAB h in
      let y : spaced l ≡ false = spaced_by l ∙ ap (leb 2) (tab_first l x) in
      record { tabs = rw x (omega arith); spaces = rw y (omega arith); fewest = rw y }

  module _ (h : first ≡ TAB → ⊥) where
    no_tab : (l : Text) → tabbed l ≡ eqb first TAB → tabbed l ≡ false
    no_tab l a = a ∙ ne_eqb first TAB h

    pub adds_none : n < 2 → Counts t first n t
    adds_none k l a b =
        let x : tabbed l ≡ false = no_tab l a in
        let y : spaced l ≡ false = spaced_by l ∙ ap (leb 2) b ∙ lt-leb 2 n k in
        record { tabs = rw x (omega arith); spaces = rw y (omega arith); fewest = rw y }

    module _ (k : 2 ≤ n) where
      is_spaced : (l : Text) → leading_spaces l ≡ n → spaced l ≡ true
      is_spaced l b = spaced_by l ∙ ap (leb 2) b ∙ le-leb 2 n k

      pub adds_fewer : (at : ℕ) → n ≤ t.least → Counts t first n (record { tabbed = t.tabbed; spaced = t.spaced + 1; least = n; at = at })
      adds_fewer at m l a b =
          let x : tabbed l ≡ false = no_tab l a in
          let y : spaced l ≡ true = is_spaced l b in
          record { tabs = rw x (omega arith); spaces = rw y (omega arith); fewest = rw (y, b) (omega arith) }

      pub adds_spaced : t.least < n → Counts t first n (record { tabbed = t.tabbed; spaced = t.spaced + 1; least = t.least; at = t.at })
      adds_spaced m l a b =
          let x : tabbed l ≡ false = no_tab l a in
          let y : spaced l ≡ true = is_spaced l b in
          record { tabs = rw x (omega arith); spaces = rw y (omega arith); fewest = rw (y, b) (omega arith) }

-- ---- places in a text

spaces_le : (s : Text) → leading_spaces s ≤ length s
spaces_le [] = omega arith
spaces_le (a ∷ s) = by_test (λ b. cond b (suc (leading_spaces s)) 0 ≤ suc (length s)) (eqb a SPACE) (λ e. omega (arith, spaces_le s)) (λ e. omega arith)

-- some of the leading spaces are spaces
spaces_taken : (n : ℕ) (s : Text) → n ≤ leading_spaces s → take n s ≡ replicate n SPACE
spaces_taken zero s h = refl
spaces_taken (suc n) [] h = absurd (omega arith)
spaces_taken (suc n) (a ∷ s) h =
    by_test (λ b. eqb a SPACE ≡ b → suc n ≤ cond b (suc (leading_spaces s)) 0 → a ∷ take n s ≡ SPACE ∷ replicate n SPACE) (eqb a SPACE)
    (λ _ e k. ap (λ (x : ℕ). x ∷ take n s) (eqb-true a SPACE e) ∙ ap (λ (l : Text). SPACE ∷ l) (spaces_taken n s (omega arith))) (λ _ e k. absurd (omega arith)) refl h

-- the place of a line with the fewest spaces
pub holds_tab : (t : Tally) (n at : ℕ) → Places t n at (record { tabbed = t.tabbed + 1; spaced = t.spaced; least = t.least; at = t.at })
holds_tab t n at s l e h = record { none = h.none; inside = h.inside; some = h.some }

pub holds_none : (t : Tally) (n at : ℕ) → Places t n at t
holds_none t n at s l e h = h

pub holds_fewer : (t : Tally) (n at : ℕ) → Places t n at (record { tabbed = t.tabbed; spaced = t.spaced + 1; least = n; at = at })
holds_fewer t n at s l e h = record { none = λ z. absurd (omega arith); inside = l; some = λ _. omega arith }

pub holds_spaced : (t : Tally) (n at : ℕ) → t.least < n → Places t n at (record { tabbed = t.tabbed; spaced = t.spaced + 1; least = t.least; at = t.at })
holds_spaced t n at m s l e h = record {
  none = λ z. absurd (omega arith);
  inside = h.inside;
  some = λ _. elim (dec_lt 0 t.spaced) [ yes q ↦ h.some q | no q ↦ absurd (omega (arith, h.none (omega arith), spaces_le (drop at s), length-drop at s)) ];
}

-- the rest of the line is the same behind its spaces
behind_spaces_line : (s : Text) → behind_line (drop (leading_spaces s) s) ≡ behind_line s
behind_spaces_line [] = refl
behind_spaces_line (a ∷ s) =
    by_test (λ b. behind_line (drop (cond b (suc (leading_spaces s)) 0) (a ∷ s)) ≡ behind_line (a ∷ s)) (eqb a SPACE)
    (λ e. behind_spaces_line s ∙ sym (not_lf a (another a SPACE LF e (λ z. omega arith)) s)) (λ e. refl)

-- a step in each of the two searches
abbrev pub Spacing : Text → ℕ → ℕ → Type 0
Spacing s at i = (at ≤ i) × (i ≤ length s) × (i + leading_spaces (drop i s) ≡ at + leading_spaces (drop at s))

module _ (s : Text) (at i : ℕ) (c : Spacing s at i) where
  pub spacing_met : i < length s → (get_or s i 0 ≡ SPACE → ⊥) → i ≡ at + leading_spaces (drop at s)
  spacing_met h n =
      let e : leading_spaces (drop i s) ≡ 0 = ap leading_spaces (drop-cons s i 0 h) ∙ rw (ne_eqb (get_or s i 0) SPACE n) in
      omega (arith, c.2)

  pub spacing_more : i < length s → get_or s i 0 ≡ SPACE → Spacing s at (i + 1)
  spacing_more h n =
      let e : leading_spaces (drop i s) ≡ suc (leading_spaces (drop (i + 1) s)) = rw add-one (ap leading_spaces (drop-cons s i 0 h) ∙ rw (eq-eqb (get_or s i 0) SPACE n)) in
      (omega (arith, c.0), omega arith, omega (arith, c.2))

  pub spacing_done : length s ≤ i → length s ≡ at + leading_spaces (drop at s)
  spacing_done h = omega (arith, c.1, c.2, ap leading_spaces (drop_of_length-le s {i = i} h))

module _ (s : Text) (at i : ℕ) (c : Seeking s at i) where
  pub seeking_met : i < length s → get_or s i 0 ≡ LF → NextLine s at (i + 1)
  seeking_met h n = record {
    left = rw add-one (sym (ap behind_line (drop-cons s i 0 h) ∙ rw (eq-eqb (get_or s i 0) LF n)) ∙ c.2);
    inside = omega arith;
    from = omega (arith, c.0);
    ahead = λ k. omega (arith, c.0);
  }

  pub seeking_more : i < length s → (get_or s i 0 ≡ LF → ⊥) → Seeking s at (i + 1)
  seeking_more h n = (omega (arith, c.0), omega arith, rw add-one (sym (ap behind_line (drop-cons s i 0 h) ∙ rw (ne_eqb (get_or s i 0) LF n)) ∙ c.2))

  pub seeking_done : length s ≤ i → NextLine s at (length s)
  seeking_done h =
      let e : drop i s ≡ [] = drop_of_length-le s {i = i} h in
      let q : drop (length s) s ≡ [] = drop_of_length-le s {i = length s} (omega arith) in
      record { left = q ∙ sym (ap behind_line e) ∙ c.2; inside = omega arith; from = omega (arith, c.0, c.1); ahead = λ k. k }

-- a block without a line feed
no_feeds : (t : Text) → line_feeds t ≡ 0 → (j : ℕ) → j < length t → get_or t j 0 ≡ LF → ⊥
no_feeds [] z j l e = omega arith
no_feeds (a ∷ t) z zero l e = let k : eqb a LF ≡ true = eq-eqb a LF e in let y : line_feeds (a ∷ t) ≡ 1 + line_feeds t = rw k refl in omega arith
no_feeds (a ∷ t) z (suc j) l e = no_feeds t (omega arith) j (omega arith) e

pub no_feeds_in : (s : Text) (i n : ℕ) → i + n ≤ length s → line_feeds (take n (drop i s)) ≡ 0 → NoFeeds s i n
no_feeds_in s i n h z j l e =
    no_feeds (take n (drop i s)) z j (simp (length-take, length-drop) (omega arith)) (get_or-take n (drop i s) j 0 l ∙ get_or-drop i s j 0 ∙ e)

pub seeking_from : (s : Text) (at i k : ℕ) → Seeking s at i → Seeking s i k → Seeking s at k
seeking_from s at i k c d = (omega (arith, c.0, d.0), d.1, d.2 ∙ c.2)

pub seeking_block : (s : Text) (i n : ℕ) → i + n ≤ length s → NoFeeds s i n → Seeking s i (i + n)
seeking_block s i zero h f = let z : i + 0 ≡ i = omega arith in rw z (omega arith, omega arith, refl)
seeking_block s i (suc n) h f =
    let a = seeking_block s i n (omega arith) (λ j l. f j (omega arith)) in
    let z : i + n + 1 ≡ i + suc n = omega arith in
    rw z at (seeking_more s i (i + n) a (omega arith) (f n (omega arith)))

-- ---- the tally over the lines passed, and what is left

least_more : (k n : ℕ) (ls : List Text) → least_spaces (min k n) ls ≡ min k (least_spaces n ls)
least_more k n [] = refl
least_more k n (l ∷ ls) =
    by_test (λ b. cond b (min (leading_spaces l) (least_spaces (min k n) ls)) (least_spaces (min k n) ls) ≡ min k (cond b (min (leading_spaces l) (least_spaces n ls)) (least_spaces n ls))) (spaced l)
    (λ e. ap (min (leading_spaces l)) (least_more k n ls) ∙ omega arith) (λ e. least_more k n ls)

pub record Tallied (s : Text) (t : Tally) (i : ℕ) : Type 0 where
  pub inside : i ≤ length s
  pub few_tabs : t.tabbed ≤ i
  pub few_spaced : t.spaced ≤ i
  pub short : t.least ≤ length s
  pub held : Held s t
  pub tabs : t.tabbed + count tabbed (lines (drop i s)) ≡ count tabbed (lines s)
  pub spaces : t.spaced + count spaced (lines (drop i s)) ≡ count spaced (lines s)
  pub fewest : least_spaces t.least (lines (drop i s)) ≡ least_spaces (length s) (lines s)

pub tallied_none : (s : Text) → Tallied s (record { tabbed = 0; spaced = 0; least = length s; at = 0 }) 0
tallied_none s = record {
  inside = omega arith;
  few_tabs = omega arith;
  few_spaced = omega arith;
  short = omega arith;
  held = record { none = λ _. refl; inside = omega arith; some = λ z. absurd (omega arith) };
  tabs = omega arith;
  spaces = omega arith;
  fewest = refl;
}

fewest_le : (b : Bool) (k n m : ℕ) → n ≤ m → cond b (min k n) n ≤ m
fewest_le true k n m h = omega arith
fewest_le false k n m h = h

fewest_step : (b : Bool) (k n : ℕ) (ls : List Text) → least_spaces (cond b (min k n) n) ls ≡ cond b (min k (least_spaces n ls)) (least_spaces n ls)
fewest_step true k n ls = least_more k n ls
fewest_step false k n ls = refl

module _ {s : Text} {t : Tally} {i : ℕ} (c : Tallied s t i) where
  module _ (h : i < length s) where
    -- the place behind the line's spaces
    pub tallied_end : (end : ℕ) → end ≡ i + leading_spaces (drop i s) → (i ≤ end) × (end ≤ length s)
    tallied_end end e = (omega arith, omega (arith, spaces_le (drop i s), length-drop i s))

    module _ (end : ℕ) (e : end ≡ i + leading_spaces (drop i s)) (r : ℕ) (n : NextLine s end r) where
      abbrev line : Text
      line = first_line (drop i s)

      ahead : i < r
      ahead =
          elim (dec_lt i end) [
            | yes q ↦ omega (arith, n.from)
            | no q ↦ let z : end ≡ i = omega arith in omega (arith, n.ahead (omega arith))
          ]

      left : lines (drop i s) ≡ line ∷ lines (drop r s)
      left =
          let a : drop end s ≡ drop (leading_spaces (drop i s)) (drop i s) = ap (λ (k : ℕ). drop k s) e ∙ sym (drop-drop (leading_spaces (drop i s)) i s) in
          let b : drop r s ≡ behind_line (drop i s) = n.left ∙ ap behind_line a ∙ behind_spaces_line (drop i s) in
          let d : drop i s ≡ get_or s i 0 ∷ drop (suc i) s = drop-cons s i 0 h in
          subst (λ (x : Text). lines x ≡ first_line x ∷ lines (behind_line x)) (sym d) (lines_cons (get_or s i 0) (drop (suc i) s))
          ∙ ap (λ (x : Text). line ∷ lines x) (sym b)

      pub tallied_less : length s - r < length s - i
      tallied_less = omega (arith, ahead, n.inside)

      pub tallied_more : (t' : Tally) → Counts t (get_or s i 0) (end - i) t' → Places t (end - i) i t' → Tallied s t' r
      tallied_more t' k places =
          let first : tabbed line ≡ eqb (get_or s i 0) TAB = first_tabbed (drop i s) ∙ ap (λ (l : Text). eqb (get_or l 0 0) TAB) (drop-cons s i 0 h) in
          let a = k line first (first_spaces (drop i s) ∙ omega arith) in
          let x : count tabbed (lines (drop i s)) ≡ cond (tabbed line) 1 0 + count tabbed (lines (drop r s)) = ap (count tabbed) left in
          let y : count spaced (lines (drop i s)) ≡ cond (spaced line) 1 0 + count spaced (lines (drop r s)) = ap (count spaced) left in
          record {
            inside = n.inside;
            few_tabs = omega (arith, a.tabs, one_most (tabbed line), c.few_tabs, ahead);
            few_spaced = omega (arith, a.spaces, one_most (spaced line), c.few_spaced, ahead);
            short = rw a.fewest (fewest_le (spaced line) (leading_spaces line) t.least (length s) c.short);
            held = places s (omega arith) (omega arith) c.held;
            tabs = omega (arith, a.tabs, c.tabs);
            spaces = omega (arith, a.spaces, c.spaces);
            fewest = ap (λ (m : ℕ). least_spaces m (lines (drop r s))) a.fewest ∙ fewest_step (spaced line) (leading_spaces line) t.least (lines (drop r s))
                ∙ sym (ap (least_spaces t.least) left) ∙ c.fewest;
          }

  module _ (h : length s ≤ i) where
    none_left : drop i s ≡ []
    none_left = drop_of_length-le s {i = i} h

    all_tabs : t.tabbed ≡ count tabbed (lines s)
    all_tabs = let e : count tabbed (lines (drop i s)) ≡ 0 = ap (λ (l : Text). count tabbed (lines l)) none_left in omega (arith, c.tabs)

    all_spaced : t.spaced ≡ count spaced (lines s)
    all_spaced = let e : count spaced (lines (drop i s)) ≡ 0 = ap (λ (l : Text). count spaced (lines l)) none_left in omega (arith, c.spaces)

    all_fewest : t.least ≡ least_spaces (length s) (lines s)
    all_fewest = sym (ap (λ (l : Text). least_spaces t.least (lines l)) none_left) ∙ c.fewest

    pub guessed_tab : t.spaced ≤ t.tabbed → Guessed s Tab
    unfolding indentor_text get_indent_string
    guessed_tab k = record {
      text = rw (le-leb (count spaced (lines s)) (count tabbed (lines s)) (omega (arith, all_tabs, all_spaced)));
      place = λ n at e. let z : ◌≡◌ {A = ℕ} 0 1 = cc e in absurd (omega arith);
    }

    pub guessed_spaces : t.tabbed < t.spaced → Guessed s (Spaces t.least t.at)
    unfolding indentor_text get_indent_string
    guessed_spaces k =
        let text : replicate t.least SPACE ≡ get_indent_string s =
        rw (lt-leb (count spaced (lines s)) (count tabbed (lines s)) (omega (arith, all_tabs, all_spaced))) (ap (λ (n : ℕ). replicate n SPACE) all_fewest) in
        let some = c.held.some (omega arith) in
        let n_is : (n at : ℕ) → Spaces t.least t.at ≡ Spaces n at → t.least ≡ n = λ n at e. cc e in
        let at_is : (n at : ℕ) → Spaces t.least t.at ≡ Spaces n at → t.at ≡ at = λ n at e. cc e in
        record {
          text = text;
          place = λ n at e.
              rw (sym (n_is n at e), sym (at_is n at e))
              (omega (arith, c.held.inside, some, spaces_le (drop t.at s), length-drop t.at s), spaces_taken t.least (drop t.at s) some ∙ text);
        }

-- ---- the bytes of an indent

pub tab_text : (g : Indentor) → g ≡ Tab → indentor_text g ≡ replicate 1 TAB
unfolding indentor_text
tab_text g e = rw e refl

pub spaces_text : (g : Indentor) (n at : ℕ) → g ≡ Spaces n at → indentor_text g ≡ replicate n SPACE
unfolding indentor_text
spaces_text g n at e = rw e refl

module _ (g : Indentor) (n b : ℕ) (e : indentor_text g ≡ replicate n b) where
  pub text_length : length (indentor_text g) ≡ n
  text_length = ap length e ∙ length-replicate n b

  -- what writing it leaves: n bytes b, and what stands behind them
  pub put_is : (out front : Text) → n ≤ length out → front ≡ replicate (length (take n out)) b → front ++ drop n out ≡ indentor_text g ++ drop (length (indentor_text g)) out
  put_is out front h q =
      let l : length (take n out) ≡ n = simp length-take (omega arith) in
      ap (λ (x : Text). x ++ drop n out) (q ∙ ap (λ (k : ℕ). replicate k b) l ∙ sym e) ∙ ap (λ (k : ℕ). indentor_text g ++ drop k out) (sym text_length)

-- ---- what the report tells

module _ (source t p s : List ℕ) (g : Indentor) (k : Guessed source g) (n : ℕ) (e : n ≡ length (indentor_text g)) where
  length_is : n ≡ length (get_indent_string source)
  length_is = e ∙ ap length k.text

  pub told_14 : (out : List ℕ) → length out < n → Told (GetIndentString (length out)) (magic_string_of source t p s) out out 14 0
  unfolding show magic_string_of
  told_14 out h = told_short (GetIndentString (length out)) (magic_string_of source t p s) (length out) (get_indent_string source) out refl (omega (arith, length_is))

  pub told_indent : (out out' : List ℕ) → n ≤ length out → out' ≡ indentor_text g ++ drop (length (indentor_text g)) out
      → Told (GetIndentString (length out)) (magic_string_of source t p s) out out' 0 n
  unfolding show magic_string_of
  told_indent out out' h w =
      told_text (GetIndentString (length out)) (magic_string_of source t p s) (length out) (get_indent_string source) out out' n refl (omega (arith, length_is)) length_is
      (w ∙ ap (λ (x : Text). x ++ drop (length x) out) k.text)
