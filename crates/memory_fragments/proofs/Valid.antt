-- Every fragment of a well-formed desk is a text of RFC 3629.
use mathlib.Core.Path.{◌≡◌, ap, sym, subst}
use mathlib.Core.Bool.{true}
use mathlib.Core.List.{List, [], ◌∷◌, map}
use mathlib.Core.Option.{Option, none, some}
use Prim.Native.Nat.{ℕ, zero, suc, ◌-◌, ◌≤◌, ◌<◌}
use native.Mathlib.Omega.{arith}
use lib.ListN.{length, get_or, take, drop}
use Rattle.utf8.specs.Rfc3629.{utf8}
use Rattle.utf8.specs.Chars.{All, nil, cons}
use Rattle.utf8.proofs.Texts.{utf8_nil}
use Rattle.utf8.proofs.Between.{utf8_part}
use Rattle.memory_table.specs.Order.{Entry, entries, count_of}
use Rattle.model.specs.Text.{Text, sum, unwrap_or}
use Rattle.model.specs.Chunk.{Chunk, Span}
use Rattle.model.specs.WellFormed.{Covered, Valid, ValidReplacement, ValidTexts}
use Rattle.model.proofs.Lists.{all_append, all_map, map_kept}
use Rattle.memory.specs.Layout.{tabulate, run_of, chunk_of, magic_string_of, replacement_of}
use Rattle.memory.specs.WellFormed.{WellFormed}
use Rattle.memory.proofs.Desks.{all_tabulate}
use Rattle.memory_texts.proofs.Texts.{run_tabulate}
use Rattle.memory_fragments.specs.Sections.{section, sections, fragments_of, fragments_all, size, up_to, rest}
use Rattle.memory_fragments.proofs.Sections.{size_is, each_section}
use Rattle.memory_fragments.specs.Output.{most_output}
use Rattle.memory_fragments.proofs.Output.{all_both}

abbrev part : List ℕ → Span → Text
part source x = take (x.end - x.start) (drop x.start source)

part_valid : (source : List ℕ) (cs : List Chunk) → utf8 source ≡ true → Covered source cs → All (λ (c : Chunk). Valid (part source c.span)) cs
part_valid [] cs u h =
    map_kept (λ (c : Chunk). c.span) {P = λ (x : Span). Valid (part [] x)} cs
    (subst (All (λ (x : Span). Valid (part [] x))) (sym h) (cons utf8_nil nil))
part_valid (a ∷ source) cs u h =
    all_map (λ c z. utf8_part (a ∷ source) c.span.start c.span.end u z.start_between z.end_between (omega (arith, z.proper))) h.spans

content_valid : (e : Option Text) (x : Text) → ValidReplacement e → Valid x → Valid (unwrap_or e x)
content_valid none x h k = k
content_valid (some t) x h k = h

none_valid : (p s : List ℕ) → All Valid (run_of p s (0, 0))
none_valid p s = rw (run_tabulate p s 0 0) nil

empty_valid : (s : List ℕ) → ValidReplacement (replacement_of s (0, 0))
unfolding replacement_of
empty_valid s = utf8_nil

pub section_valid : (source t p s : List ℕ) → WellFormed source t p s → (g : ℕ) → All Valid (fragments_of source p s (section t g))
unfolding magic_string_of
section_valid source t p s w =
    let f = w.desk.formed in
    let a = map_kept (chunk_of p s) {P = λ (c : Chunk). ValidTexts c.texts × Valid (part source c.span)} (entries t)
    (all_both f.texts (part_valid source (map (chunk_of p s) (entries t)) f.source f.covered)) in
    let z : Valid (take 0 source) = utf8_nil in
    each_section {P = λ (e : Entry). All Valid (fragments_of source p s e)} t w.readable.linked
    (all_map (λ e h. all_append h.0.intro
    (cons (content_valid (replacement_of s e.text) (part source (chunk_of p s e).span) h.0.replacement h.1) h.0.outro)) a)
    (all_append f.intro (cons (content_valid (replacement_of s (0, 0)) (take 0 source) (empty_valid s) z) (none_valid p s)))
    (all_append (none_valid p s) (cons (content_valid (replacement_of s (0, 0)) (take 0 source) (empty_valid s) z) f.outro))

-- all fragments of the output
all_fragments : (source p s : List ℕ) (es : List Entry) → All (λ (e : Entry). All Valid (fragments_of source p s e)) es → All Valid (fragments_all source p s es)
all_fragments source p s [] nil = nil
all_fragments source p s (e ∷ es) (cons h k) = all_append h (all_fragments source p s es k)

pub output_valid : (source t p s : List ℕ) → WellFormed source t p s → All Valid (fragments_all source p s (sections t))
output_valid source t p s w =
    all_fragments source p s (sections t) (all_tabulate {P = λ (e : Entry). All Valid (fragments_of source p s e)} (section t) (suc (suc (count_of t))) (λ k _. section_valid source t p s w k))

all_drop : {A : Type 0} {P : A → Type 0} (k : ℕ) {xs : List A} → All P xs → All P (drop k xs)
all_drop zero h = h
all_drop (suc k) nil = nil
all_drop (suc k) (cons i j) = all_drop k j

-- and those of a walk
pub up_to_valid : (source t p s : List ℕ) → WellFormed source t p s → (stop g item : ℕ) → All Valid (up_to source t p s stop g item)
unfolding up_to
up_to_valid source t p s w stop g item =
    let P : Entry → Type 0 = λ (e : Entry). All Valid (fragments_of source p s e) in
    all_drop item (all_fragments source p s (drop g (tabulate (section t) stop)) (all_drop g (all_tabulate {P = P} (section t) stop (λ k _. section_valid source t p s w k))))

pub rest_valid : (source t p s : List ℕ) → WellFormed source t p s → (g item : ℕ) → All Valid (rest source t p s g item)
unfolding rest up_to
rest_valid source t p s w g item = up_to_valid source t p s w (suc (suc (count_of t))) g item

all_get_d : {A : Type 0} {P : A → Type 0} (xs : List A) (k : ℕ) (d : A) → All P xs → k < length xs → P (get_or xs k d)
all_get_d [] k d nil h = absurd (omega arith)
all_get_d (x ∷ xs) zero d (cons i j) h = i
all_get_d (x ∷ xs) (suc k) d (cons i j) h = all_get_d xs k d j (omega arith)

pub fragment_valid : (source t p s : List ℕ) → WellFormed source t p s → (g item : ℕ) → item < size (section t g) → utf8 (get_or (fragments_of source p s (section t g)) item []) ≡ true
fragment_valid source t p s w g item h =
    all_get_d (fragments_of source p s (section t g)) item [] (section_valid source t p s w g) (omega (arith, size_is source p s (section t g)))

-- ---- a walk over texts: the one at hand, and those behind it

module _ {A : Type 0} {P : A → Type 0} {xs ys : List A} {x : A} (h : All P xs) (e : xs ≡ x ∷ ys) where
  pub here_is : P x
  here_is = go (subst (All P) e h)
    where
      go : All P (x ∷ ys) → P x
      go (cons i j) = i

  pub left_is : All P ys
  left_is = go (subst (All P) e h)
    where
      go : All P (x ∷ ys) → All P ys
      go (cons i j) = j

pub here_short : {ts us : List Text} {t : Text} → sum length ts ≤ most_output → ts ≡ t ∷ us → length t ≤ most_output
here_short h e = omega (arith, h, ap (sum length) e)

pub left_short : {ts us : List Text} {t : Text} → sum length ts ≤ most_output → ts ≡ t ∷ us → sum length us ≤ most_output
left_short h e = omega (arith, h, ap (sum length) e)
