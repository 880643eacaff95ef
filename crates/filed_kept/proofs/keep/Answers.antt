-- `filed_kept::keep` meets its contract.
use mathlib.Core.Path.{refl, ap, ◌∙◌}
use Prim.Native.Nat.{◌+◌, ◌≤◌}
use lib.ListN.{length}
use native.Mathlib.Omega.{arith}
use Rattle.memory_layout.specs.Layout.{KEPT_CHUNKS, KEPT_PIECES, KEPT_STORE}
use Rattle.memory_texts.proofs.Over.{put_back, length_over}
use Rattle.filed_kept.proofs.Keeping.{keeps, words_long}
use Rattle.filed_kept.proofs.keep.Goals as goal

pub shape_of-words : goal.shape_of-words
shape_of-words c =
    let full = c.requires.full in
    words_long c.args.chunks.now c.args.pieces.now c.args.store.now c.args.words.now full c.requires.words_len
    (put_back _ _ _ _ KEPT_CHUNKS (omega (arith, c.requires.full.chunks, c.requires.words_len)) c.put.ensures refl)
    (put_back _ _ _ _ KEPT_PIECES (omega (arith, c.requires.full.pieces, c.requires.words_len, c.words-1)) c.put-2.ensures refl)

pub shape_of-bytes : goal.shape_of-bytes
shape_of-bytes c =
    let b = c.args.bytes.now in
    let s = c.args.store.now in
    let room : KEPT_STORE + length s ≤ length b = omega (arith, c.requires.full.store, c.requires.bytes_len) in
    ap length (put_back b s s _ KEPT_STORE room c.put-3.ensures refl) ∙ length_over b KEPT_STORE s room

pub returns : goal.returns
returns c =
    let full = c.requires.full in
    keeps full c.requires.words_len c.requires.bytes_len
    (put_back _ _ _ _ KEPT_CHUNKS (omega (arith, c.requires.full.chunks, c.requires.words_len)) c.put.ensures refl)
    (put_back _ _ _ _ KEPT_PIECES (omega (arith, c.requires.full.pieces, c.requires.words_len, c.words-1)) c.put-2.ensures refl)
    (put_back _ _ _ _ KEPT_STORE (omega (arith, c.requires.full.store, c.requires.bytes_len)) c.put-3.ensures refl)
