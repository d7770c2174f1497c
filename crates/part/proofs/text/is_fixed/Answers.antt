-- `part::text::is_fixed` meets its contract: every width is as the first.
use Rattle.std.proofs.Common.{◌≡◌, ◌&&◌, true, nat_eq, get_or, fold, arith}
use Rattle.std.proofs.lemmas.Grind.{common_steps}
use Rattle.part.proofs.Lines.{fixed_row}
use Rattle.part.proofs.text.is_fixed.Goals as goal

pub returns : goal.returns
returns c =
    let row = c.args.row.now in
    let folded : c.fold.result ≡ fold (λ same w. same && nat_eq w (get_or row 0 0)) true row = grind (arith, common_steps) in
    λ h. fixed_row row c.told-row (rw folded at h)
