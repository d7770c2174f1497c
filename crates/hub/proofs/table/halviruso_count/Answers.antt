-- `hub::table::halviruso_count` meets its contract: the open entries of sixteen, and none of a table of another length.
use Rattle.std.proofs.Common.{eq-eqb, ne_eqb, refl, ap, arith}
use Rattle.std.proofs.lemmas.List.{drop_all}
use Rattle.hub.specs.Requests.{open_jobs, count_open}
use Rattle.hub.proofs.table.halviruso_count.Goals as goal

pub returns-then-table-ne16 : goal.returns-then-table-ne16
unfolding count_open
returns-then-table-ne16 c = rw (ne_eqb _ _ c.if-table-ne16.true) refl

pub returns : goal.returns
unfolding count_open
returns c =
    let none = ap open_jobs (drop_all c.loop-e.e-index c.args.table.now c.loop-e-test.false) in
    rw (eq-eqb _ _ c.if-table-ne16.false) (omega (arith, c.loop-e.invariant.1, none))
