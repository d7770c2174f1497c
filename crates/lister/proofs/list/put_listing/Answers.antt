-- One line behind the other, by whether the part is refused.
use Rattle.std.proofs.Common.{length, sym, arith, subst}
use Rattle.lister.specs.Code.{Grown}
use Rattle.lister.proofs.Grown.{grown_by_both}
use Rattle.lister.proofs.Listed.{alone, part_short, records_fit, area_long, records_long, its_refusal_fits, its_end_fits, listed_refused, listed_done}
use Rattle.lister.proofs.list.put_listing.Goals as goal

pub put_refused-requires : goal.put_refused-requires
put_refused-requires c =
    let a = alone c.sheet_state.ensures c.on_sheet-r.ensures.value c.on_sheet-r.ensures.area_after in
    (its_refusal_fits a c.requires.0, omega (arith, c.put_part.ensures.len, c.put_part.ensures.room, part_short (length c.args.part.now)))

pub returns-then-r-ne-DONE : goal.returns-then-r-ne-DONE
returns-then-r-ne-DONE c =
    let a = alone c.sheet_state.ensures c.on_sheet-r.ensures.value c.on_sheet-r.ensures.area_after in
    subst (Grown _ _) (listed_refused a c.if-r-ne-DONE.true) (grown_by_both c.put_part.ensures c.put_refused.ensures)

pub slice_bounds-area-end : goal.slice_bounds-area-end
slice_bounds-area-end c =
    let a = alone c.sheet_state.ensures c.on_sheet-r.ensures.value c.on_sheet-r.ensures.area_after in
    omega (arith, records_fit a c.if-r-ne-DONE.false, area_long a)

pub slice_bounds-put_records-end : goal.slice_bounds-put_records-end
slice_bounds-put_records-end c =
    let a = alone c.sheet_state.ensures c.on_sheet-r.ensures.value c.on_sheet-r.ensures.area_after in
    sym (records_long a c.if-r-ne-DONE.false)

pub put_records-requires : goal.put_records-requires
put_records-requires c =
    let a = alone c.sheet_state.ensures c.on_sheet-r.ensures.value c.on_sheet-r.ensures.area_after in
    let fits = records_fit a c.if-r-ne-DONE.false in
    rw (records_long a c.if-r-ne-DONE.false) (fits, omega (arith, c.put_part.ensures.len, c.put_part.ensures.room, part_short (length c.args.part.now)))

pub put_end-requires : goal.put_end-requires
put_end-requires c =
    let a = alone c.sheet_state.ensures c.on_sheet-r.ensures.value c.on_sheet-r.ensures.area_after in
    let fits = records_fit a c.if-r-ne-DONE.false in
    let short = rw (records_long a c.if-r-ne-DONE.false) at c.put_records.ensures.short in
    (its_end_fits a c.requires.0 c.if-r-ne-DONE.false, omega (arith, c.put_part.ensures.len, c.put_part.ensures.room, c.put_records.ensures.lines.room, part_short (length c.args.part.now)))

pub returns : goal.returns
returns c =
    let a = alone c.sheet_state.ensures c.on_sheet-r.ensures.value c.on_sheet-r.ensures.area_after in
    subst (Grown _ _) (listed_done a c.if-r-ne-DONE.false) (grown_by_both (grown_by_both c.put_part.ensures c.put_records.ensures.lines) c.put_end.ensures)
