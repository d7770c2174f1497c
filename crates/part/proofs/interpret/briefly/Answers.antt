-- `part::interpret::briefly` meets its contract: a short part on a small scratch area, as if nothing were used yet.
use Rattle.std.specs.Prelude.{Result, Ok, Err, Some}
use Rattle.std.specs.Result.{result_ok}
use Prim.Native.Nat.{◌+◌, ◌≤◌}
use Rattle.part.proofs.Answers.{fits, lowered, told, briefly}
use Rattle.part.specs.Part.{interpreted, area_after}
use Rattle.part.specs.States.{with_used}
use lib.ListN.{length}
use mathlib.Core.Path.{◌≡◌}
use native.Mathlib.Omega.{arith}
use Rattle.part.proofs.interpret.briefly.Goals as goal
use Rattle.part.proofs.interpret.briefly.Goals.{In_ok-first}

its_value : {T E : Type 0} {x : T} (r : Result T E) → Some x ≡ result_ok r → r ≡ Ok x
its_value (Ok y) e = cc
its_value (Err y) e = cc

-- all passed there
done : (c : In_ok-first) → (c.added.new.s.used ≤ 512)
    × (told 0 c.in_ok-first.first c.added.new.s.used (with_used c.added.new.s (c.args.s.used + c.added.new.s.used)) ≡ interpreted c.args.widths.now c.args.d.now c.args.s c.args.part.now c.args.area.now)
    × (c.added.new.area ≡ area_after c.args.widths.now c.args.d.now c.args.s c.args.part.now c.args.area.now)
done c =
    let a = c.args in
    let passed = its_value c.added.result c.in_ok-first.ensures.value in
    briefly a.widths.now a.d.now a.s a.part.now a.area.now c.requires.0 512 c.in_ok-first.first c.added.new.s c.added.new.area (omega (arith, c.requires.1)) (rw passed at c.added.ensures)

pub added-requires : goal.added-requires
added-requires c =
    let a = c.args in
    let fit = fits (length a.part.now) (length a.widths.now) (length a.area.now) a.d.now a.s c.requires.0 in
    (record { in_range = lowered a.s fit.state; widths = fit.widths; small = omega arith; fits = omega arith }, fit.descriptor, fit.part, omega (arith, fit.area, c.requires.1))

pub overflow_add-state : goal.overflow_add-state
overflow_add-state c = omega (arith, c.requires.1, (done (goal.at.overflow_add-state c).In_ok-first).0)

pub returns-clause-done : goal.returns-clause-done
returns-clause-done c =
    let d = done (goal.at.returns-clause-done c).In_ok-first in
    (d.1, d.2)
