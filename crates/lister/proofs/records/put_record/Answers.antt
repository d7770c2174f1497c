-- Of a text: its numbers, and behind them its characters.
use Rattle.std.proofs.Common.{arith, length-append, length-drop, take_all, subst}
use Rattle.lister.specs.Code.{Grown}
use Rattle.lister.proofs.Digits.{numbers_short}
use Rattle.lister.proofs.Grown.{grown_by_both}
use Rattle.lister.proofs.Lines.{text_is}
use Rattle.lister.proofs.records.put_record.Goals as goal

pub characters-requires : goal.characters-requires
characters-requires c = grind (arith, numbers_short, length-append, length-drop, take_all)

pub returns-in-Text : goal.returns-in-Text
returns-in-Text c = subst (Grown _ _) (grind (arith, text_is, length-drop, take_all)) (grown_by_both c.fields.ensures c.characters.ensures)
