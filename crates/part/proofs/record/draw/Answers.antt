-- `part::record::draw` meets its contract: up to one round the characters are the text's first.
use lib.Seq.{sets}
use mathlib.Core.Path.{sym, ◌∙◌, ap}
use Rattle.part.proofs.Cycles.{cycle-take}
use Rattle.part.proofs.record.draw.Goals as goal

pub returns-then-count-text : goal.returns-then-count-text
returns-then-count-text c =
    let a = c.args in
    c.store.ensures ∙ ap (sets a.area.now a.at) (sym (cycle-take a.text.now a.count c.if-count-text.true))
