-- `part::reader::run_length` meets its contract: clear blocks in front, and the place of the first 2B behind them.
use borrow.Author.Rules.{rules}
use borrow.Author.Tests.{tests}
use lib.ListN.{length, take, drop, length-drop}
use mathlib.Core.Path.{◌≡◌, sym, ◌∙◌}
use native.Mathlib.Omega.{arith}
use Prim.Native.Nat.{◌-◌, ◌*◌, ◌/◌}
use Rattle.std.specs.List.{prefix_len}
use Rattle.std.specs.Simd.{first_chunks}
use Rattle.std.proofs.lemmas.Iterator.{YieldsList-from_slice}
use Rattle.std.proofs.lemmas.Iterator.Consumers.{YieldsList-at, count_from_yields_List}
use Rattle.std.proofs.lemmas.Iterator.Search.{YieldsList-from_take_while, position_from_yields_List}
use Rattle.std.proofs.lemmas.List.Folds.{length-prefix_len}
use Rattle.part.proofs.Bytes.{tail_of}
use Rattle.part.proofs.Runs.{is_class, clear, past-blocks, first-class}
use Rattle.part.proofs.reader.run_length.Goals as goal

pub returns : goal.returns
returns c =
    let bytes = c.args.bytes.now in
    let blocks = first_chunks 16 (length bytes / 16) bytes in
    let n : c.count-clear.result ≡ length (take (prefix_len clear blocks) blocks) =
    count_from_yields_List c.take_while.result c.count-clear.result c.count-clear.ensures.ran
    (YieldsList-from_take_while _ clear (YieldsList-at c.take_while.ensures.source (YieldsList-from_slice blocks cc)) c.take_while.ensures.closure c.take_while.ensures.done (λ x b q k. search (rules, tests))) in
    let first = position_from_yields_List is_class _ _ c.position.result c.position.ensures.ran (YieldsList-from_slice _ c.iter-2.ensures.rest) (λ x b q k. search (rules, tests)) in
    let d = length-drop (16 * c.count-clear.result) bytes in
    rw (c.unwrap_or.ensures, first, tail_of bytes (16 * c.count-clear.result), first-class (drop (16 * c.count-clear.result) bytes) (length bytes - 16 * c.count-clear.result) (sym d))
    (past-blocks (length bytes / 16) bytes c.count-clear.result (omega arith) (n ∙ length-prefix_len clear blocks))
