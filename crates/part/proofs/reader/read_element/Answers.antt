-- `part::reader::read_element` meets its contract: the rule's tests, in the same order.
use borrow.Author.Rules.{rules}
use borrow.Author.Tests.{eq-eqb, ne_eqb}
use lib.ListN.{get_or, get_or-eq_default}
use mathlib.Core.Path.{◌≡◌, refl, ◌∙◌}
use native.Mathlib.Nat.{sub-zero}
use native.Mathlib.Omega.{arith}
use Rattle.part.specs.Reading.{stretch, element}
use Rattle.part.proofs.Bytes.{there}
use Rattle.part.proofs.Reading.{stretch-fits, stretch-some}
use Rattle.part.proofs.reader.read_element.Goals as goal
use Rattle.part.proofs.reader.read_element.Goals.{then-bytes-gt1+else-bytes, else-bytes-gt1}

pub returns-then-chain-eq1-clause-found : goal.returns-then-chain-eq1-clause-found
unfolding element
returns-then-chain-eq1-clause-found c = rw (eq-eqb _ _ c.if-chain-eq1.true) c.read_sequence.ensures.found

pub returns-then-bytes-ne43-clause-found : goal.returns-then-bytes-ne43-clause-found
unfolding element
returns-then-bytes-ne43-clause-found c =
    rw (c.run_length.ensures, ne_eqb _ _ c.if-chain-eq1.false, ne_eqb _ _ c.if-bytes-ne43.true, sub-zero (stretch c.args.bytes.now)) refl

pub returns-then-bytes-ne43-clause-within : goal.returns-then-bytes-ne43-clause-within
returns-then-bytes-ne43-clause-within c =
    let bytes = c.args.bytes.now in
    rw c.run_length.ensures (omega arith, stretch-some bytes c.requires (ne_eqb _ _ c.if-bytes-ne43.true), stretch-fits bytes, omega arith, omega arith, tt)

pub returns-then-bytes-clause-found : goal.returns-then-bytes-clause-found
unfolding element
returns-then-bytes-clause-found c =
    rw (ne_eqb _ _ c.if-chain-eq1.false, eq-eqb _ _ c.if-bytes-ne43.false, there c.args.bytes.now 1 0xD3 0 (search rules), ne_eqb _ _ c.if-bytes.true) refl

pub returns-clause-found : goal.returns-clause-found
unfolding element
returns-clause-found c =
    let bytes = c.args.bytes.now in
    let introduced : get_or bytes 1 0xD3 ≡ 0xD3 = elim c.if-bytes-gt1.branch [
      | then-bytes-gt1+else-bytes w ↦ there bytes 1 0xD3 0 w.if-bytes-gt1.true ∙ w.if-bytes.false
      | else-bytes-gt1 w ↦ get_or-eq_default bytes 0xD3 w.if-bytes-gt1.false
    ] in
    rw (ne_eqb _ _ c.if-chain-eq1.false, eq-eqb _ _ c.if-bytes-ne43.false, introduced) c.read_sequence-2.ensures.found
