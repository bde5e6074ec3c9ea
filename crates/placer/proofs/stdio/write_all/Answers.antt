-- The bytes that a write took follow those before.
use Rattle.std.proofs.Common.{arith, length-drop}
use Rattle.std.proofs.lemmas.List.{take_rest}
use Rattle.placer.proofs.Streams.{gave_more}
use Rattle.placer.proofs.stdio.write_all.Goals as goal

pub loop-preserved : goal.loop-preserved
loop-preserved g c =
    let put = rw take_rest at c.in_ok-done.ensures.put in
    let most = rw (take_rest, length-drop) at c.in_ok-done.ensures.most in
    record {
      within = omega (arith, most);
      put = gave_more _ _ _ c.args.bytes.now c.loop.done c.in_ok-done.field-0 c.loop.invariant.put put;
    }
