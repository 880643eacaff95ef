-- The scratch tables of an update: room for a text as long as the store, behind the store.
use Rattle.std.specs.Prelude.{◌≡◌, List, ℕ, length}
use Rattle.memory_layout.specs.Layout.{UPDATE_STORE_LEN}
use Rattle.edit_scratch.specs.Tables.{Scratch}

pub record UpdateScratch (t p s : List ℕ) : Type 0 where
  pub scratch : Scratch t p s
  pub store : length s ≡ UPDATE_STORE_LEN
