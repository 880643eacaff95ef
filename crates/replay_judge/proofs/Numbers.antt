-- What `Agreed` says of the tables that `Tables::of` makes of a mode and a digest, said by these two numbers.
use mathlib.Core.Path.{◌≡◌, refl}
use mathlib.Core.List.{List}
use Prim.Native.Nat.{ℕ, zero, suc}
use Rattle.replay_compare.specs.Compare.{Written, Kept}
use Rattle.replay_record.specs.Modes.{tables_of}
use Rattle.replay_judge.specs.Agreed.{Answered, HasDigest, TablesAre, Agreed}

-- what the last column says of the tables: 0 that every byte is kept, 1 that the desk has the digest, every other number nothing
abbrev pub TablesAreBy : ℕ → ℕ → List ℕ → List ℕ → List ℕ → List ℕ → List ℕ → List ℕ → List ℕ → Type 0
TablesAreBy zero d source t p s t₀ p₀ s₀ = Kept t p s t₀ p₀ s₀
TablesAreBy (suc zero) d source t p s t₀ p₀ s₀ = HasDigest d source t p s
TablesAreBy (suc (suc m)) d source t p s t₀ p₀ s₀ = Unit {0}

pub record AgreedBy (number value number' value' mode digest : ℕ) (source t₀ p₀ s₀ t p s bytes out : List ℕ) : Type 0 where
  pub answered : Answered number value number' value'
  pub written : Written out bytes
  pub tables : TablesAreBy mode digest source t p s t₀ p₀ s₀

pub same_tables : (mode digest : ℕ) (source t p s t₀ p₀ s₀ : List ℕ) →
    TablesAre (tables_of mode digest) source t p s t₀ p₀ s₀ ≡ TablesAreBy mode digest source t p s t₀ p₀ s₀
same_tables zero digest source t p s t₀ p₀ s₀ = refl
same_tables (suc zero) digest source t p s t₀ p₀ s₀ = refl
same_tables (suc (suc mode)) digest source t p s t₀ p₀ s₀ = refl

module _ (number value number' value' digest : ℕ) (source t₀ p₀ s₀ t p s bytes out : List ℕ) where
  pub agreed_by : (mode : ℕ) → Agreed number value number' value' (tables_of mode digest) source t₀ p₀ s₀ t p s bytes out → AgreedBy number value number' value' mode digest source t₀ p₀ s₀ t p s bytes out
  agreed_by zero h = record { answered = h.answered; written = h.written; tables = h.tables }
  agreed_by (suc zero) h = record { answered = h.answered; written = h.written; tables = h.tables }
  agreed_by (suc (suc mode)) h = record { answered = h.answered; written = h.written; tables = h.tables }

  pub agreed_of : (mode : ℕ) → AgreedBy number value number' value' mode digest source t₀ p₀ s₀ t p s bytes out → Agreed number value number' value' (tables_of mode digest) source t₀ p₀ s₀ t p s bytes out
  agreed_of zero h = record { answered = h.answered; written = h.written; tables = h.tables }
  agreed_of (suc zero) h = record { answered = h.answered; written = h.written; tables = h.tables }
  agreed_of (suc (suc mode)) h = record { answered = h.answered; written = h.written; tables = h.tables }
