-- `sheets::hex::decode` meets its contract: each byte is that of the pair where its two digits stood.
use Rattle.std.proofs.Common.{arith}
use Rattle.std.proofs.lemmas.Grind.{common_steps}
use Rattle.sheets.proofs.Pairs.{in_pair}
use Rattle.sheets.proofs.hex.decode.Goals as goal

pub loop-high-preserved : goal.loop-high-preserved
loop-high-preserved g c = record {
  kept = grind (arith, common_steps);
  end = grind (arith, common_steps);
  room = grind (arith, common_steps);
  spelled = λ k h. grind (arith, common_steps, c.loop-high.invariant.spelled k, in_pair);
}
