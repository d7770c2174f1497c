-- `hub::table::halviruso_submit` meets its contract: each way out is one of the laws of `Thin`.
use Rattle.std.proofs.Common.{sym, ap, ◌∙◌, refl}
use Rattle.hub.specs.Requests.{hub, with_area, Submit}
use Rattle.hub.proofs.Deciding.{here, whole}
use Rattle.hub.proofs.Slots.{put_back}
use Rattle.hub.proofs.Thin.{refused_step, placed_at, done_step}
use Rattle.hub.proofs.table.halviruso_submit.Goals as goal

pub returns-in-Ok : goal.returns-in-Ok
returns-in-Ok c = λ stored.
    let a = c.args in
    let h = hub a.table.now a.records.now stored in
    let s = c.submit.ensures in
    let l = placed_at a.widths.now h (Submit a.slot a.key a.number a.part.now) (sym c.place.ensures ∙ c.in-Ok.is) in
    let put = put_back h.records a.slot (whole a.widths.now h a.slot a.key a.number a.part.now (here a.widths.now h _ l.lent l.low)) l.low c.submit.new.area c.submit.auto.area in
    done_step a.widths.now h _ _ l (s.entry, c.answer.ensures ∙ s.answer, put ∙ ap (with_area h.records a.slot) s.area_after, refl)

pub returns-in-Err : goal.returns-in-Err
returns-in-Err c = λ stored. refused_step _ _ _ (sym c.place.ensures ∙ c.in-Err.is) c.into.ensures
