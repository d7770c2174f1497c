-- `hub::table::halviruso_open` meets its contract: each way out is one of the laws of `Thin`.
use Rattle.std.proofs.Common.{sym, ◌∙◌, refl}
use Rattle.hub.proofs.Thin.{refused_step, placed_at, done_step}
use Rattle.hub.proofs.table.halviruso_open.Goals as goal

pub returns-in-Ok : goal.returns-in-Ok
returns-in-Ok c = λ widths records.
    let s = c.open.ensures in
    done_step _ _ _ _ (placed_at _ _ _ (sym c.place.ensures ∙ c.in-Ok.is)) (s.entry, c.answer.ensures ∙ s.answer, refl, s.number)

pub returns-in-Err : goal.returns-in-Err
returns-in-Err c = λ widths records. refused_step _ _ _ (sym c.place.ensures ∙ c.in-Err.is) c.into.ensures
