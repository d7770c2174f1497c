-- `hub::table::halviruso_take` meets its contract: each way out is one of the laws of `Thin`.
use Rattle.std.proofs.Common.{sym, ap, ◌∙◌, refl}
use Rattle.hub.specs.Requests.{hub, with_area, Take}
use Rattle.hub.proofs.Deciding.{here, take_whole}
use Rattle.hub.proofs.Slots.{put_back}
use Rattle.hub.proofs.Thin.{refused_step, placed_at, done_step}
use Rattle.hub.proofs.table.halviruso_take.Goals as goal

pub returns-in-Ok : goal.returns-in-Ok
returns-in-Ok c = λ widths stored.
    let a = c.args in
    let h = hub a.table.now a.records.now stored in
    let s = c.take.ensures in
    let l = placed_at widths h (Take a.slot a.key a.total) (sym c.place.ensures ∙ c.in-Ok.is) in
    let put = put_back h.records a.slot (take_whole widths h a.slot a.key a.total (here widths h _ l.lent l.low)) l.low c.take.new.area c.take.auto.area in
    done_step widths h _ _ l (s.entry, c.answer.ensures ∙ s.answer, put ∙ ap (with_area h.records a.slot) s.area_after, refl)

pub returns-in-Err : goal.returns-in-Err
returns-in-Err c = λ widths stored. refused_step _ _ _ (sym c.place.ensures ∙ c.in-Err.is) c.into.ensures
