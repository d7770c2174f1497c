-- What was read more stands behind what was there, which is as it was.
use Rattle.std.proofs.Common.{◌≡◌, ℕ, ◌+◌, ◌-◌, ◌≤◌, List, ◌++◌, length, take, rules, refl, arith, subst, take-take, length-take-le}
use Rattle.std.proofs.lemmas.Slice.{take-put_mid}
use Rattle.std.proofs.KnownBytes.{Consumes-trans}
use Rattle.std.proofs.Math.Seq.{take-append-add}
use Rattle.std.specs.Io.KnownBytes.{Consumes}
use borrow.Rule.Slice.PartMut.{put_mid}
use Rattle.lister.proofs.input.read_part.Goals as goal

more_read : (at k n : ℕ) (old buf : List ℕ) → at ≤ length old → n ≤ length buf → take at old ++ take n buf ≡ take (at + n) (put_mid at k old buf)
more_read at k n old buf h w =
    let all = take-put_mid at k old buf (at + length buf) refl h in
    let long = length-take-le at old h in
    let front = take-append-add (take at old) buf n in
    grind (arith, take-take)

pub loop-done-preserved : goal.loop-done-preserved
loop-done-preserved g c =
    let l = c.loop-done in
    let joined = more_read l.done (length l.part - l.done) c.in_ok-n.n l.part c.read.new.buf l.invariant.0 c.in_ok-n.ensures.bound.0 in
    (search rules, subst (Consumes _ _) joined (Consumes-trans _ _ _ _ _ l.invariant.1 c.in_ok-n.ensures.bytes.0))
