-- `part::run::run` meets its contract: each turn of its loop is one of the laws about a turn.
use Rattle.part.proofs.Bytes.{tail_of}
use Rattle.part.proofs.Turns.{Done, start, unread, faulted, turn, text-done, sequence-done, ended}
use Rattle.part.proofs.run.run.Goals as goal
use Rattle.part.proofs.run.run.Goals.{in-Characters, in-Sequence}

pub loop-at-init : goal.loop-at-init
loop-at-init c = start c.args.widths.now c.args.d.now c.args.part.now c.args.s.now c.args.area.now c.requires.0

pub returns-in-Err : goal.returns-in-Err
returns-in-Err c =
    let tail = tail_of c.args.part.now c.loop-at.at in
    rw (c.place.ensures.0, c.first_parameter-from.ensures.0) (unread c.loop-at.invariant c.loop-at-test.true c.in-Err.why (rw tail at c.in-Err.ensures.found))

pub returns-in-Err-done : goal.returns-in-Err-done
returns-in-Err-done c =
    let here = c.loop-at.invariant in
    let did : Done here c.in-Ok.found c.match-found.done c.match-found.s c.match-found.area =
    elim c.match-found.branch [
      | in-Characters w ↦ rw (w.done-is, w.s-is, w.area-is) (text-done here c.in-Ok.found w.in-Characters.is c.in-Ok.ensures.found w.show_plain-done.ensures)
      | in-Sequence w ↦ rw (w.done-is, w.s-is, w.area-is) (sequence-done here c.in-Ok.found w.in-Sequence.is c.in-Ok.ensures.found c.in-Ok.ensures.within w.perform-done.ensures)
    ] in
    rw c.place-in-Err-done.ensures.0 (faulted here c.loop-at-test.true c.in-Ok.ensures.within.4 c.in-Err-done.is did)

pub loop-at-preserved : goal.loop-at-preserved
loop-at-preserved c =
    let here = c.loop-at.invariant in
    let did : Done here c.in-Ok.found c.match-found.done c.match-found.s c.match-found.area =
    elim c.match-found.branch [
      | in-Characters w ↦ rw (w.done-is, w.s-is, w.area-is) (text-done here c.in-Ok.found w.in-Characters.is c.in-Ok.ensures.found w.show_plain-done.ensures)
      | in-Sequence w ↦ rw (w.done-is, w.s-is, w.area-is) (sequence-done here c.in-Ok.found w.in-Sequence.is c.in-Ok.ensures.found c.in-Ok.ensures.within w.perform-done.ensures)
    ] in
    turn here c.loop-at-test.true c.in_default.is did c.requires.1

pub returns : goal.returns
returns c = ended c.loop-at.invariant c.loop-at-test.false
