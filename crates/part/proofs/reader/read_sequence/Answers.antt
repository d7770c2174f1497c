-- `part::reader::read_sequence` meets its contract: at each return the tests on the way decide the rule's, in the same order.
use borrow.Author.Rules.{rules}
use borrow.Author.Tests.{lt-leb}
use lib.ListN.{length, drop, get_or, length-drop}
use lib.Seq.{length-take-le}
use mathlib.Core.Path.{◌≡◌, refl, sym, ◌∙◌}
use native.Mathlib.Nat.{add-sub_cancel}
use native.Mathlib.Omega.{arith}
use Prim.Native.Nat.{ℕ, ◌+◌, ◌-◌, ◌<◌}
use lib.Bits.{bit_and}
use Rattle.std.proofs.lemmas.Nat.{and_mask}
use Rattle.std.proofs.lemmas.Nat.Bits.{and_high}
use Rattle.part.specs.Reading.{between, sequence}
use Rattle.part.specs.Types.{function, chaining}
use Rattle.part.proofs.Reading.{body_cut}
use Rattle.part.proofs.Rows.{too_short, whole, text_row}
use Rattle.part.proofs.reader.read_sequence.Goals as goal
use Rattle.part.proofs.reader.read_sequence.Goals.{then-function, else-function}

-- TYPE without its low bit
even : (x : ℕ) → x < 256 → bit_and x 254 ≡ function x
even x h = omega (arith, and_high x 7 1)

odd : (x : ℕ) → bit_and x 1 ≡ chaining x
odd x = and_mask x 1

pub returns-then-bytes-from-clause-found : goal.returns-then-bytes-from-clause-found
unfolding sequence
returns-then-bytes-from-clause-found c =
    let a = c.args in
    rw (lt-leb (a.at + 2) (length a.bytes.now) c.if-bytes-from.true) refl

pub returns-then-n-lt2-clause-found : goal.returns-then-n-lt2-clause-found
returns-then-n-lt2-clause-found c =
    let a = c.args in
    let h = c.from-n.ensures in
    rw (add-sub_cancel a.at 2, too_short a.at a.bytes.now c.if-bytes-from.false (rw c.from-n.ensures at c.if-n-lt2.true)) refl

pub returns-then-bytes-size-clause-found : goal.returns-then-bytes-size-clause-found
returns-then-bytes-size-clause-found c =
    let a = c.args in
    body_cut a.at a.bytes.now c.if-bytes-from.false (rw c.from-n.ensures at c.if-n-lt2.false) (rw c.from-n.ensures at c.if-bytes-size.true) (rw (c.from-n.ensures, even (get_or a.bytes.now (a.at + 1) 0) (search rules)) at c.misfit.ensures a.at c.requires)

pub returns-clause-found : goal.returns-clause-found
returns-clause-found c =
    let a = c.args in
    let bytes = a.bytes.now in
    let n = c.from-n.ensures in
    let f = c.from.ensures in
    let p = even (get_or bytes (a.at + 1) 0) (search rules) in
    let q = odd (get_or bytes (a.at + 1) 0) in
    let s = whole a.at bytes c.if-bytes-from.false (rw n at c.if-n-lt2.false) (rw n at c.if-bytes-size.false) in
    let small : get_or bytes a.at 0 < 256 = search rules in
    let size = length-take-le (a.at + get_or bytes a.at 0 - (a.at + 2)) (drop (a.at + 2) bytes) (omega (arith, length-drop (a.at + 2) bytes, rw n at c.if-bytes-size.false)) in
    elim c.if-function.branch [
      | then-function w ↦ rw (w.what-is, f, n, q, s, sym p ∙ w.if-function.true, text_row a.at (between bytes (a.at + 2) (a.at + get_or bytes a.at 0)) (omega (arith, size))) refl
      | else-function w ↦ rw (w.what-is, f, n, q, s, add-sub_cancel a.at 2, p) refl
    ]
