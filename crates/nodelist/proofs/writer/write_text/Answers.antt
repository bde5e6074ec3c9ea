-- `write_text` meets its contract: the line past its first comma is copied.
-- Assumes nothing.
use mathlib.Core.Path.{sym, ◌∙◌}
use native.Mathlib.Nat.{pos_of_ne-zero}
use native.Mathlib.Omega.{arith}
use Rattle.nodelist.proofs.WriteLaws.{text_length, text_part_lem, text_empty, text_too_long, text_copied}
use Rattle.nodelist.proofs.writer.write_text.Goals as goal

pub returns-then-len-eq0 : goal.returns-then-len-eq0
returns-then-len-eq0 c = sym (text_empty c.args.mask.0 c.args.out.now (sym c.put_runs-len.ensures.len ∙ c.if-len-eq0.true))

pub returns-then-len-out : goal.returns-then-len-out
returns-then-len-out c = sym (text_too_long c.args.mask.0 c.args.out.now
    (omega (arith, c.if-len-out.true, c.put_runs-len.ensures.len, text_length c.args.mask.0)))

pub returns : goal.returns
returns c = text_copied c.args.mask.0 c.args.out.now
    (omega (arith, c.if-len-out.false, c.put_runs-len.ensures.len, text_length c.args.mask.0))
    (text_part_lem c.args.mask.0 c.put_runs-len.result c.put_runs-len.new.line (pos_of_ne-zero c.if-len-eq0.false) c.put_runs-len.ensures.text)
    c.copy-size.ensures.count
    c.copy-size.ensures.bytes
