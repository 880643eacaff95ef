-- The desk that a record keeps, where nothing of it is written.
use Prim.Native.Nat.{ℕ}
use mathlib.Core.Path.{◌≡◌, sym, ap, ap₂, subst, ◌∙◌}
use mathlib.Core.List.{List, [], ◌∷◌}
use lib.ListN.{take, drop}
use lib.Seq.{drop-drop}
use Rattle.memory_layout.specs.Layout.{CHUNKS_LEN, PIECES_LEN, STORE_LEN, KEPT_CHUNKS}
use Rattle.memory.specs.Layout.{magic_string_of}
use Rattle.memory.specs.WellFormed.{Taken}
use Rattle.model_filed.specs.Filed.{Entry}
use Rattle.filed_record.specs.Record.{kept_chunks, kept_pieces, kept_store, kept_of, KeptTaken}
use Rattle.filed_record.specs.Promises.{SameKept}

module _ {w b w' b' : List ℕ} (k : SameKept w b w' b') where
  same_chunks : kept_chunks w' ≡ kept_chunks w
  same_chunks = ap (take CHUNKS_LEN) k.tables

  same_pieces : kept_pieces w' ≡ kept_pieces w
  same_pieces = ap (take PIECES_LEN) (sym (drop-drop CHUNKS_LEN KEPT_CHUNKS w') ∙ ap (drop CHUNKS_LEN) k.tables ∙ drop-drop CHUNKS_LEN KEPT_CHUNKS w)

  same_store : kept_store b' ≡ kept_store b
  same_store = ap (take STORE_LEN) k.store

  pub same_kept_desk : (source : List ℕ) → kept_of source w' b' ≡ kept_of source w b
  same_kept_desk source = ap₂ (λ x y. magic_string_of source x y (kept_store b')) same_chunks same_pieces ∙ ap (magic_string_of source (kept_chunks w) (kept_pieces w)) same_store

  -- whatever is said of its tables
  pub same_kept_tables : (P : List ℕ → List ℕ → List ℕ → Type 0) → P (kept_chunks w) (kept_pieces w) (kept_store b) → P (kept_chunks w') (kept_pieces w') (kept_store b')
  same_kept_tables P h =
      subst (λ x. P x (kept_pieces w') (kept_store b')) (sym same_chunks)
      (subst (λ x. P (kept_chunks w) x (kept_store b')) (sym same_pieces) (subst (P (kept_chunks w) (kept_pieces w)) (sym same_store) h))

-- a well-formed kept desk serves any entries
pub kept_any : (source w b : List ℕ) (l : List Entry) → Taken source (kept_chunks w) (kept_pieces w) (kept_store b) → KeptTaken source w b l
kept_any source w b [] h = tt
kept_any source w b (e ∷ l) h = h
