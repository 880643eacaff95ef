-- Nothing in the logic decides whether memory holds a desk over a source. What follows in both cases cannot be refuted, and an equality of plain data that cannot be refuted holds.
use Prim.Native.Nat.{ℕ}
use native.Mathlib.Decide.{ℕ_discrete}
use mathlib.Core.Path.{◌≡◌, refl, ap}
use mathlib.Core.Bool.{Bool, Bool-discrete}
use mathlib.Core.List.{List, [], ◌∷◌, nil≢cons, cons≢nil, head-eq_of_cons-eq, tail-eq_of_cons-eq}
use mathlib.Core.Option.{Option, none, some, none-ne-some, some-ne-none, some-injective}
use mathlib.Core.HLevel.{Discrete}
use Rattle.model.specs.Text.{Text}
use Rattle.model.specs.Chunk.{Span, Texts, Chunk}
use Rattle.model.specs.MagicString.{MagicString}
use Rattle.model_sheet.specs.Record.{Recorded}
use Rattle.model_filed.specs.Filed.{Entry}
use Rattle.filed_member.specs.Calls.{Seen}

abbrev pub Unrefuted : Type 0 → Type 0
Unrefuted A = (A → ⊥) → ⊥

-- what holds, what follows whether A holds or not, and what follows from what cannot be refuted
pub is : {A : Type 0} → A → Unrefuted A
is a refuted = refuted a

pub both_ways : {A B : Type 0} → (A → Unrefuted B) → ((A → ⊥) → Unrefuted B) → Unrefuted B
both_ways f g refuted = g (λ a. f a refuted) refuted

pub and_then : {A B : Type 0} → Unrefuted A → (A → Unrefuted B) → Unrefuted B
and_then a f refuted = a (λ x. f x refuted)

-- ── equalities ──
-- equal, unless that is refuted
abbrev pub Stable : Type 0 → Type 0
Stable A = (x y : A) → Unrefuted (x ≡ y) → x ≡ y

-- of what a function gives
image : {A B : Type 0} (f : A → B) → Stable B → {x y : A} → Unrefuted (x ≡ y) → f x ≡ f y
image f s {x} {y} u = s (f x) (f y) (λ n. u (λ e. n (ap f e)))

decided : {A : Type 0} → Discrete A → Stable A
decided d x y u = elim (d x y) [ yes e ↦ e | no n ↦ absurd (u n) ]

numbers : Stable ℕ
numbers = decided ℕ_discrete

bools : Stable Bool
bools = decided Bool-discrete

pub lists : {A : Type 0} → Stable A → Stable (List A)
lists s [] [] u = refl
lists s [] (y ∷ ys) u = absurd (u (λ e. nil≢cons e))
lists s (x ∷ xs) [] u = absurd (u (λ e. cons≢nil e))
lists s (x ∷ xs) (y ∷ ys) u =
    let first = s x y (λ n. u (λ e. n (head-eq_of_cons-eq e))) in
    let rest = lists s xs ys (λ n. u (λ e. n (tail-eq_of_cons-eq e))) in
    λ i. first i ∷ rest i

pub options : {A : Type 0} → Stable A → Stable (Option A)
options s none none u = refl
options s none (some y) u = absurd (u (none-ne-some y))
options s (some x) none u = absurd (u (some-ne-none x))
options s (some x) (some y) u = ap some (s x y (λ n. u (λ e. n (some-injective x y e))))

-- ── desks ──
texts : Stable (List Text)
texts = lists (lists numbers)

spans : Stable Span
spans x y u =
    let start = image (λ (s : Span). s.start) numbers u in
    let end = image (λ (s : Span). s.end) numbers u in
    λ i. record { start = start i; end = end i }

chunk_texts : Stable Texts
chunk_texts x y u =
    let intro = image (λ (t : Texts). t.intro) texts u in
    let outro = image (λ (t : Texts). t.outro) texts u in
    let edited = image (λ (t : Texts). t.edited_content) (options (lists numbers)) u in
    λ i. record { intro = intro i; outro = outro i; edited_content = edited i }

chunks : Stable Chunk
chunks x y u =
    let span = image (λ (c : Chunk). c.span) spans u in
    let frozen = image (λ (c : Chunk). c.frozen) bools u in
    let has = image (λ (c : Chunk). c.texts) chunk_texts u in
    λ i. record { span = span i; frozen = frozen i; texts = has i }

pub desks : Stable MagicString
desks x y u =
    let source = image (λ (m : MagicString). m.source) (lists numbers) u in
    let intro = image (λ (m : MagicString). m.intro) texts u in
    let outro = image (λ (m : MagicString). m.outro) texts u in
    let has = image (λ (m : MagicString). m.chunks) (lists chunks) u in
    λ i. record { source = source i; intro = intro i; outro = outro i; chunks = has i }

-- ── entries, and what a member sees ──
records : Stable Recorded
records x y u =
    let kind = image (λ (r : Recorded). r.kind) numbers u in
    let a = image (λ (r : Recorded). r.a) numbers u in
    let b = image (λ (r : Recorded). r.b) numbers u in
    let c = image (λ (r : Recorded). r.c) numbers u in
    let text = image (λ (r : Recorded). r.text) (lists numbers) u in
    λ i. record { kind = kind i; a = a i; b = b i; c = c i; text = text i }

pub entries : Stable Entry
entries x y u =
    let call = image (λ (e : Entry). e.call) records u in
    let answer = image (λ (e : Entry). e.answer) numbers u in
    let marks = image (λ (e : Entry). e.marks) numbers u in
    λ i. record { call = call i; answer = answer i; marks = marks i }

pub views : Stable Seen
views x y u =
    let number = image (λ (v : Seen). v.number) numbers u in
    let value = image (λ (v : Seen). v.value) numbers u in
    let buffer = image (λ (v : Seen). v.buffer) (lists numbers) u in
    λ i. record { number = number i; value = value i; buffer = buffer i }
