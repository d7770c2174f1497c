-- `part::perform::perform` meets its contract: where the check doesn't find it alone, one law says what a type's sequence comes to.
use Rattle.part.proofs.Arms.{comes_to, changes}
use Rattle.part.specs.States.{with_font, with_colour, with_suppression}
use mathlib.Core.Path.{refl}
use Rattle.part.proofs.perform.perform.Goals as goal

pub returns-in-Sia : goal.returns-in-Sia
returns-in-Sia c = changes _ _ _ _ _ _ _ _ _ (λ s. s) c.in_ok-kind.ensures c.in-Sia.is c.set_adjustment.ensures refl

pub returns-in-Scfl : goal.returns-in-Scfl
returns-in-Scfl c = changes _ _ _ _ _ _ _ _ _ (with_font c.args.s.now) c.in_ok-kind.ensures c.in-Scfl.is c.set_font.ensures refl

pub returns-in-Stc : goal.returns-in-Stc
returns-in-Stc c = changes _ _ _ _ _ _ _ _ _ (with_colour c.args.s.now) c.in_ok-kind.ensures c.in-Stc.is c.set_color.ensures refl

pub returns-in-Sto : goal.returns-in-Sto
returns-in-Sto c = changes _ _ _ _ _ _ _ _ _ (λ _. c.args.s.now) c.in_ok-kind.ensures c.in-Sto.is c.orientation.ensures refl

pub returns-in-Bsu : goal.returns-in-Bsu
returns-in-Bsu c = changes _ _ _ _ _ _ _ _ _ (with_suppression c.args.s.now) c.in_ok-kind.ensures c.in-Bsu.is c.begin_suppression.ensures refl

pub returns-in-Esu : goal.returns-in-Esu
returns-in-Esu c = changes _ _ _ _ _ _ _ _ _ (with_suppression c.args.s.now) c.in_ok-kind.ensures c.in-Esu.is c.end_suppression.ensures refl

pub returns-in-Dir : goal.returns-in-Dir
returns-in-Dir c = rw (comes_to _ _ _ _ _ c.in_ok-kind.ensures c.in-Dir.is) c.draw_rule.ensures

pub returns-in-Dbr : goal.returns-in-Dbr
returns-in-Dbr c = rw (comes_to _ _ _ _ _ c.in_ok-kind.ensures c.in-Dbr.is) c.draw_rule-in-Dbr.ensures
