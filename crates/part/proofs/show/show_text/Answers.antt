-- `part::show::show_text` meets its contract: by where its characters leave I.
use mathlib.Core.Path.{◌≡◌, sym, ◌∙◌, ap}
use borrow.Author.Rules.{rules}
use lib.ListN.{length}
use Rattle.std.specs.Prelude.{Err}
use Rattle.part.specs.Text.{cycle}
use Rattle.part.specs.Code.{valued}
use Rattle.part.proofs.Shown.{text_refused}
use Rattle.part.proofs.show.show_text.Goals as goal

pub returns-in_err-i : goal.returns-in_err-i
returns-in_err-i c =
    let a = c.args in
    let why = c.in_err-i.field-0.0 in
    let same : c.from_residual.result ≡ Err why = search rules in
    rw same (text_refused (length a.area.now) a.widths.now a.d.now a.s.now (cycle a.t.now 0 a.count) why a.area.now a.s.now.used (sym (ap valued c.in_err-i.was) ∙ c.walk_line.ensures))
