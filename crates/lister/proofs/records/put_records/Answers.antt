-- A record more, while the rest begins with a whole one.
use Rattle.std.proofs.Common.{sym, ◌∙◌, arith}
use Rattle.lister.proofs.Lines.{all_left, fewer_left, none_left}
use Rattle.lister.proofs.records.put_records.Goals as goal

pub loop-rest-init : goal.loop-rest-init
loop-rest-init c = all_left c.args.out.now c.args.bytes.now c.requires.0

pub loop-rest-preserved : goal.loop-rest-preserved
loop-rest-preserved c = grind (arith, fewer_left)

pub returns-clause-lines : goal.returns-clause-lines
returns-clause-lines c = (none_left c.loop-rest.invariant (sym c.is_whole.ensures ∙ c.loop-rest-test.false)).0

pub returns-clause-short : goal.returns-clause-short
returns-clause-short c = (none_left c.loop-rest.invariant (sym c.is_whole.ensures ∙ c.loop-rest-test.false)).1
