-- A run of chunks moves: three links change.
use Rattle.std.specs.Prelude.{◌≡◌, List, ◌∷◌, ◌++◌, ◌⊎◌, ℕ, ◌+◌, ◌*◌, ◌≤◌, length}
use Rattle.memory_layout.specs.Layout.{ROW}
use Rattle.memory_table.specs.declared.Row.{Row}
use Rattle.memory_table.specs.Ring.{Not}
use Rattle.memory_list.specs.Swap.{last_of}
use Rattle.memory_table.specs.Table.{row_at}
use Rattle.memory_table.specs.Order.{order, next_of, prev_of, Linked}
use Rattle.memory_list.specs.Insert.{with_links}

abbrev pub bare : Row → Row
bare r = with_links r 0 0

-- a leads to b, and all else is as before
pub record Joined (t t' : List ℕ) (a b : ℕ) : Type 0 where
  pub next_a : next_of t' a ≡ b
  pub next_o : (c : ℕ) → Not a c → next_of t' c ≡ next_of t c
  pub prev_b : prev_of t' b ≡ a
  pub prev_o : (c : ℕ) → Not b c → prev_of t' c ≡ prev_of t c
  pub rest : (c : ℕ) → bare (row_at t' c) ≡ bare (row_at t c)

-- three links, each from and to another row
pub record Three (t t' : List ℕ) (a b c d e f : ℕ) : Type 0 where
  pub next_1 : next_of t' a ≡ b
  pub next_2 : next_of t' c ≡ d
  pub next_3 : next_of t' e ≡ f
  pub next_o : (x : ℕ) → Not a x → Not c x → Not e x → next_of t' x ≡ next_of t x
  pub prev_1 : prev_of t' b ≡ a
  pub prev_2 : prev_of t' d ≡ c
  pub prev_3 : prev_of t' f ≡ e
  pub prev_o : (x : ℕ) → Not b x → Not d x → Not f x → prev_of t' x ≡ prev_of t x
  pub rest : (x : ℕ) → bare (row_at t' x) ≡ bare (row_at t x)

pub record Apart3 (a b c : ℕ) : Type 0 where
  pub ab : Not b a
  pub ac : Not c a
  pub bc : Not c b

-- rows first to last go before row n
abbrev pub Relinked : List ℕ → List ℕ → ℕ → ℕ → ℕ → Type 0
Relinked t t' f l n = Three t t' (prev_of t f) (next_of t l) (prev_of t n) f l n

abbrev pub InTable : List ℕ → ℕ → Type 0
InTable t i = i * ROW + ROW ≤ length t

pub record Movable (t : List ℕ) (f l n : ℕ) : Type 0 where
  pub in_f : InTable t f
  pub in_l : InTable t l
  pub in_n : InTable t n
  pub in_p : InTable t (prev_of t f)
  pub in_r : InTable t (next_of t l)
  pub in_m : InTable t (prev_of t n)
  pub sources : Apart3 (prev_of t f) (prev_of t n) l
  pub targets : Apart3 (next_of t l) f n

-- ---- the order

-- two neighbouring parts of the list, a ∷ ws and b ∷ bs
pub record Parts (t : List ℕ) : Type 0 where
  pub us : List ℕ
  pub a : ℕ
  pub ws : List ℕ
  pub b : ℕ
  pub bs : List ℕ
  pub ys : List ℕ
  pub place : order t ≡ us ++ a ∷ (ws ++ b ∷ (bs ++ ys))

abbrev pub swapped : {t : List ℕ} → Parts t → List ℕ
swapped s = s.us ++ s.b ∷ (s.bs ++ s.a ∷ (s.ws ++ s.ys))

-- rows f to l are the first part and go before row n, which follows the second; or they are the second part and go before the first
abbrev pub Moved : (t : List ℕ) → Parts t → ℕ → ℕ → ℕ → Type 0
Moved t s f l n =
    ((f ≡ s.a) × (l ≡ last_of s.a s.ws) × (n ≡ next_of t (last_of s.b s.bs)))
    ⊎ ((f ≡ s.b) × (l ≡ last_of s.b s.bs) × (n ≡ s.a))

-- what a move asks and leaves
pub record MoveAt (t : List ℕ) (f l n : ℕ) : Type 0 where
  pub parts : Parts t
  pub moved : Moved t parts f l n

pub record MoveDone (t t' : List ℕ) (f l n : ℕ) : Type 0 where
  pub linked : Linked t'
  pub place : (s : Parts t) → Moved t s f l n → order t' ≡ swapped s
  pub rest : (i : ℕ) → bare (row_at t' i) ≡ bare (row_at t i)
