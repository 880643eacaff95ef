-- After each read the front of the buffer is what was there before and what the read gave.
use Rattle.std.proofs.Common.{drop, ◌≡◌, ℕ, ◌+◌, ◌-◌, ◌≤◌, List, ◌++◌, arith, length, take, sym, ap, ◌∙◌, subst, le_refl, drop_at, length-take-le}
use Rattle.std.proofs.lemmas.Slice.{take-put_mid_below}
use Rattle.std.specs.Io.KnownBytes.{Consumes}
use Rattle.std.proofs.KnownBytes.{Consumes-trans}
use borrow.Rule.Slice.PartMut.{put_mid, post_of}
use lib.Seq.{take-add, take-append-le}
use Rattle.read_input.proofs.read_full.Goals as goal

-- the front of a list into which ys was put from a on
front_of_put : (a k n : ℕ) (xs ys : List ℕ) → a ≤ length xs → n ≤ length ys → take a xs ++ take n ys ≡ take (a + n) (put_mid a k xs ys)
front_of_put a k n xs ys within fits =
    let after = post_of a k xs in
    let below = take-put_mid_below _ _ _ _ a (le_refl a) within in
    let part = drop_at (take a xs) (ys ++ after) a (length-take-le a xs within) in
    sym (take-add a n (put_mid a k xs ys) ∙ ap (λ l. l ++ take n (drop a (put_mid a k xs ys))) below ∙ ap (λ l. take a xs ++ take n l) part ∙ ap (λ l. take a xs ++ l) (take-append-le n ys after fits))

pub loop-n-preserved : goal.loop-n-preserved
loop-n-preserved g c =
    let n = c.loop-n.n in
    let room = length c.loop-n.buf - n in (
      grind arith,
      subst (Consumes _ _) (front_of_put n room c.in_ok-k.k c.loop-n.buf c.read.new.buf c.loop-n.invariant.0 c.in_ok-k.ensures.bound.0)
          (Consumes-trans _ _ _ _ _ c.loop-n.invariant.1 c.in_ok-k.ensures.bytes.0),
    )
