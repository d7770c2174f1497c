-- `part::interpret::at_length` meets its contract: the elements are placed into a scratch area like the job's, and what a whole run added is stored.
use Rattle.part.proofs.Answers.{fits, broken, whole}
use Rattle.part.proofs.Bounds.{used_fits}
use Rattle.part.specs.Code.{fault_code}
use lib.ListN.{length}
use mathlib.Core.Path.{◌∙◌}
use native.Mathlib.Omega.{arith}
use Rattle.part.proofs.interpret.at_length.Goals as goal

pub added-requires : goal.added-requires
added-requires c =
    let a = c.args in
    let fit = fits (length a.part.now) (length a.widths.now) (length a.area.now) a.d.now a.s c.requires in
    (record { in_range = fit.state; widths = fit.widths; small = omega arith; fits = used_fits a.s fit.state }, fit.descriptor, fit.part, omega (arith, fit.area))

pub overflow_sub-result : goal.overflow_sub-result
overflow_sub-result c =
    let a = c.args in
    (whole a.widths.now a.d.now a.s a.part.now a.area.now c.requires c.in-Ok.first c.added.new.s c.added.new.area c.in-Ok.ensures).0

pub returns-in-Ok : goal.returns-in-Ok
returns-in-Ok c =
    let a = c.args in
    let done = whole a.widths.now a.d.now a.s a.part.now a.area.now c.requires c.in-Ok.first c.added.new.s c.added.new.area c.in-Ok.ensures in
    record { value = done.1; area_after = done.2 }

pub returns-in-Err : goal.returns-in-Err
returns-in-Err c =
    let a = c.args in
    let stop = broken a.widths.now a.d.now a.s a.part.now a.area.now c.requires (fault_code c.in-Err.r.why) c.in-Err.r.at c.added.new.area c.in-Err.ensures in
    record { value = c.refused.ensures ∙ stop.0; area_after = stop.1 }
