-- What it means that a call agrees with its record.
use Rattle.std.specs.Prelude.{◌≡◌, List, ℕ}
use Rattle.memory.specs.Layout.{magic_string_of}
use Rattle.memory.specs.WellFormed.{Taken}
use Rattle.replay_compare.specs.Compare.{Written}
use Rattle.replay_compare.specs.Compare
use Rattle.replay_record.specs.declared.Tables.{Tables}
use Rattle.replay_record.specs.declared.Tables.TheVariants.{Kept, Digest, Unseen}
use Rattle.replay_digest.specs.Digest.{digest_of}

-- the number and the value
pub record Answered (number value number' value' : ℕ) : Type 0 where
  pub number_is : number ≡ number'
  pub value_is : value ≡ value'

-- the tables hold a well-formed desk with this digest
pub record HasDigest (d : ℕ) (source t p s : List ℕ) : Type 0 where
  pub well_formed : Taken source t p s
  pub digest_is : digest_of (magic_string_of source t p s) ≡ d

-- what the last column says of the tables: they were t₀, p₀, s₀ and are t, p, s
abbrev pub TablesAre : Tables → List ℕ → List ℕ → List ℕ → List ℕ → List ℕ → List ℕ → List ℕ → Type 0
TablesAre Kept source t p s t₀ p₀ s₀ = Compare.Kept t p s t₀ p₀ s₀
TablesAre (Digest d) source t p s t₀ p₀ s₀ = HasDigest d source t p s
TablesAre Unseen source t p s t₀ p₀ s₀ = Unit {0}

-- all of it: the answer (number, value), the buffer `out` after the call with the record's `bytes` in it, and the tables before (t₀ ..) and after (t ..)
pub record Agreed (number value number' value' : ℕ) (tables_as : Tables) (source t₀ p₀ s₀ t p s bytes out : List ℕ) : Type 0 where
  pub answered : Answered number value number' value'
  pub written : Written out bytes
  pub tables : TablesAre tables_as source t p s t₀ p₀ s₀
