-- `list_in` meets its contract. The loop: the first i bytes are written.
-- Assumes nothing.
use Prim.Native.Nat.{ℕ, ◌+◌, ◌<◌}
use mathlib.Core.Path.{◌≡◌, sym, ap, ap₂, ◌∙◌}
use mathlib.Core.List.{List, ◌++◌, append-nil}
use native.Mathlib.Nat.{zero-add}
use native.Mathlib.Numerals.{add-one}
use native.Mathlib.Omega.{arith}
use lib.ListN.{length, get_or, set, drop_of_length-le}
use lib.Seq.{paste, paste-suc, take_all}
use Rattle.replay.proofs.Words.{bytes_in, bytes_64, byte_in}
use Rattle.replay.proofs.encoding.list_in.Goals as goal

pub loop-i-preserved : goal.loop-i-preserved
loop-i-preserved c = let long : length c.args.list.now ≡ 64 = c.requires.1 in
    let bs = bytes_in c.args.call.now in
    let room : 0 + c.loop-i.i < length c.args.list.now = rw (zero-add c.loop-i.i) (omega (arith, c.loop-i-test.true, long)) in
    let wrote : set c.loop-i.list c.loop-i.i c.byte.result ≡ set (paste c.args.list.now 0 bs c.loop-i.i) c.loop-i.i (get_or bs c.loop-i.i 0) =
    ap₂ (λ (x : List ℕ) (v : ℕ). set x c.loop-i.i v) c.loop-i.invariant
    (c.byte.ensures ∙ sym (byte_in c.args.call.now c.requires.0 c.loop-i.i c.loop-i-test.true)) in
    wrote ∙ ap (λ (k : ℕ). set (paste c.args.list.now 0 bs c.loop-i.i) k (get_or bs c.loop-i.i 0)) (sym (zero-add c.loop-i.i))
    ∙ paste-suc c.args.list.now 0 bs c.loop-i.i 0 room (omega (arith, bytes_64 c.args.call.now c.requires.0))
    ∙ ap (paste c.args.list.now 0 bs) (sym (add-one c.loop-i.i))

pub returns : goal.returns
returns c = let long : length c.args.list.now ≡ 64 = c.requires.1 in
    let all : c.loop-i.i ≡ 64 = omega arith in
    let bs = bytes_in c.args.call.now in
    let many = bytes_64 c.args.call.now c.requires.0 in
    c.loop-i.invariant ∙ ap (paste c.args.list.now 0 bs) all
    ∙ ap₂ (λ (x y : List ℕ). x ++ y) (take_all 64 bs (omega (arith, many)))
    (drop_of_length-le c.args.list.now {i = 64} (omega (arith, long)))
    ∙ append-nil bs
