-- `part::record::store` meets its contract: the first bytes are stored, sixteen more with each turn; then the last eight.
use Rattle.std.proofs.Common.{rules, ℕ, ◌≡◌, ◌+◌, ◌*◌, ◌/◌, arith, length, take}
use Rattle.std.proofs.lemmas.List.Edits.{sets}
use mathlib.Core.Path.{◌∙◌, ap}
use Rattle.part.proofs.Stores.{some_more, all_more}
use Rattle.part.proofs.record.store.Goals as goal
use Rattle.part.proofs.record.store.Goals.{then-n-k-gt8, else-n-k-gt8}

pub loop-i-preserved : goal.loop-i-preserved
loop-i-preserved c =
    let a = c.args in
    some_more a.area.now a.at a.bytes.now (16 * c.loop-i.i) 16 _ _ (search rules) c.loop-i.invariant c.store_some.ensures
    ∙ ap (λ (n : ℕ). sets a.area.now a.at (take n a.bytes.now)) (omega arith)

pub returns : goal.returns
returns c =
    let a = c.args in
    let k = 16 * (length a.bytes.now / 16) in
    let turns : c.loop-i.i ≡ length a.bytes.now / 16 = search rules in
    let blocks = c.loop-i.invariant ∙ ap (λ (n : ℕ). sets a.area.now a.at (take (16 * n) a.bytes.now)) turns in
    elim c.if-n-k-gt8.branch [
      | then-n-k-gt8 w ↦
          let eight = some_more a.area.now a.at a.bytes.now k 8 _ _ (search rules) blocks w.store_some-then-n-k-gt8.ensures in
          all_more a.area.now a.at a.bytes.now (k + 8) 8 _ _ (search rules) (search rules) (search rules) (w.area-is ∙ eight) c.store_some-2.ensures
      | else-n-k-gt8 w ↦ all_more a.area.now a.at a.bytes.now k 8 _ _ (search rules) (search rules) (search rules) (w.area-is ∙ blocks) c.store_some-2.ensures
    ]
