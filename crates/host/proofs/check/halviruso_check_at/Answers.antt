-- `host::check::halviruso_check_at` meets its contract: 15 above the range, else the code of what the sheet gives.
use Rattle.std.proofs.Common.{ap}
use borrow.Author.Tests.{le-ltb}
use Rattle.part.specs.declared.shapes.Interpreted.{Interpreted}
use Rattle.host.proofs.check.halviruso_check_at.Goals as goal

pub returns : goal.returns
returns c =
    rw (le-ltb _ _ c.if-increment-gt32767.false)
    (ap (λ (x : Interpreted). x.answer.code) (rw c.sheet_state.ensures at c.on_sheet-r.ensures.value))
