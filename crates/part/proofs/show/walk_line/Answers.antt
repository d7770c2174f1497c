-- `part::show::walk_line` meets its contract: the characters go along the line that the state stands on.
use mathlib.Core.Bool.{true, false}
use mathlib.Core.Path.{◌≡◌, sym, ◌∙◌}
use native.Mathlib.Omega.{arith}
use Rattle.part.specs.Code.{baseline}
use Rattle.part.specs.Text.{cycle}
use Rattle.part.proofs.Cycles.{length-cycle}
use Rattle.part.proofs.Texts.{characters-along, characters_off, bytes-cycle}
use Rattle.part.proofs.show.walk_line.Goals as goal

pub returns-then-not-hidden-within : goal.returns-then-not-hidden-within
returns-then-not-hidden-within c =
    let a = c.args in
    let off : baseline a.d.now a.s.now ≡ false = rw (← c.requires.known, ← c.within.ensures) c.if-not-hidden-within.true in
    sym (characters_off a.widths.now a.d.now a.s.now a.s.now.at.i (cycle a.t.now 0 a.count) off (omega (arith, length-cycle a.t.now 0 a.count)))

pub returns : goal.returns
returns c =
    let a = c.args in
    let on : baseline a.d.now a.s.now ≡ true = rw (← c.requires.known, ← c.within.ensures) c.if-not-hidden-within.false in
    let line = c.line_of.ensures.value in
    rw (line, c.row_of-row.ensures, c.requires.known) at c.present.ensures ∙ sym (characters-along a.widths.now a.d.now a.s.now on a.s.now.at.i (cycle a.t.now 0 a.count) (bytes-cycle a.t.now 0 a.count (λ k. omega (arith, c.type_inv.t k))))
