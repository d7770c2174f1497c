-- `part::text::cycle_total` meets its contract: whole rounds and a last part of one are the characters, and their widths are as many.
use Rattle.std.proofs.Common.{ℕ, length, length-take, arith}
use Rattle.part.specs.Code.{width_in}
use Rattle.part.proofs.Cycles.{once}
use Rattle.part.proofs.Lines.{sum_cycle, rounds_most}
use Rattle.part.proofs.text.cycle_total.Goals as goal

pub returns-then-count-n : goal.returns-then-count-n
returns-then-count-n c = rw (c.if-count-n.true, once c.args.t.now) c.requires.counted

pub overflow_mul-result : goal.overflow_mul-result
overflow_mul-result c =
    let a = c.args in
    omega (arith, rounds_most (length a.t.now) a.count a.whole 4294967296 (omega arith) (omega arith))

pub overflow_add-result : goal.overflow_add-result
overflow_add-result c =
    let a = c.args in
    omega (arith, length-take {A = ℕ}, rounds_most (length a.t.now) a.count a.whole 4294967296 (omega arith) (omega arith))

pub returns : goal.returns
returns c =
    let a = c.args in
    (rw (sum_cycle (width_in a.row.now a.space) a.t.now a.count (omega arith), ← c.few_total.ensures.0, ← c.requires.counted.0), omega (arith, length-take {A = ℕ}, rounds_most (length a.t.now) a.count a.whole 4294967296 (omega arith) (omega arith)))
