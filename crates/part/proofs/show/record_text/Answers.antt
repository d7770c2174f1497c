-- `part::show::record_text` meets its contract: by the room for the record; the head, and then the characters, are the record.
use mathlib.Core.Path.{refl, sym, ◌∙◌, ap}
use native.Mathlib.Omega.{arith}
use Rattle.part.specs.Code.{head_of, head_bytes}
use Rattle.part.specs.Text.{cycle}
use Rattle.part.proofs.Bounds.{bounded}
use Rattle.part.proofs.Cycles.{length-cycle}
use Rattle.part.proofs.Inks.{text_full, text_fits, recorded_text}
use Rattle.part.proofs.Stores.{more}
use lib.ListN.{length}
use Rattle.part.proofs.show.record_text.Goals as goal

pub returns-then-area-end : goal.returns-then-area-end
returns-then-area-end c =
    let a = c.args in
    let cs = cycle a.t.now 0 a.count in
    rw (text_full (length a.area.now) a.s.now a.i cs (omega (arith, length-cycle a.t.now 0 a.count))) (refl, refl)

pub returns : goal.returns
returns c =
    let a = c.args in
    let s = a.s.now in
    let cs = cycle a.t.now 0 a.count in
    let long = length-cycle a.t.now 0 a.count in
    let same = c.text_head.ensures ∙ ap (head_of s) (sym long) in
    let stored = more a.area.now c.put_head.new.area c.draw.new.area s.used (head_bytes c.text_head.result) cs c.put_head.ensures c.draw.ensures in
    rw (text_fits (length a.area.now) s a.i cs (omega (arith, long)), long) (refl, stored ∙ recorded_text a.area.now s cs c.text_head.result same)

pub text_head-requires : goal.text_head-requires
text_head-requires c =
    let b = bounded c.args.s.now c.requires.in_range in
    (b.adjustment, b.inline, b.baseline, c.requires.sizes.2)
