use Rattle.std.proofs.Common.{◌≡◌, ℕ, ◌+◌, ◌-◌, ◌≤◌, List, ◌++◌, rules, length, take, drop, sym, ap, ◌∙◌, subst, le_refl, drop_at, length-take-le}
use Rattle.std.proofs.lemmas.Slice.{take-put_mid_below}
use Rattle.std.specs.Io.KnownBytes.{Consumes}
use Rattle.std.proofs.KnownBytes.{Consumes-trans}
use borrow.Rule.Slice.PartMut.{put_mid, post_of}
use lib.Seq.{take-add, take-append-le}
use Rattle.input.proofs.read_full.Goals as goal

-- the first a + n of a room whose part from a on is ys: what stood in front, and the first n of ys
read_more : (a k n : ℕ) (xs ys : List ℕ) → a ≤ length xs → n ≤ length ys → take (a + n) (put_mid a k xs ys) ≡ take a xs ++ take n ys
read_more a k n xs ys within fits =
    let behind = post_of a k xs in
    let front = take-put_mid_below a k xs ys a (le_refl a) within in
    let part = ap (take n) (drop_at (take a xs) (ys ++ behind) a (length-take-le a xs within)) ∙ take-append-le n ys behind fits in
    take-add a n (put_mid a k xs ys) ∙ ap (λ l. l ++ take n (drop a (put_mid a k xs ys))) front ∙ ap (λ l. take a xs ++ l) part

pub loop-preserved : goal.loop-preserved
loop-preserved g c =
    let from = c.loop.count in
    let room = length c.loop.room - from in
    let within = c.loop.invariant.0 in
    let part = read_more from room c.in-Ok.more c.loop.room c.read.new.buf within c.in-Ok.ensures.bound.0 in
    (search rules, subst (Consumes _ _) (sym part) (Consumes-trans _ _ _ _ _ c.loop.invariant.1 c.in-Ok.ensures.bytes.0))
