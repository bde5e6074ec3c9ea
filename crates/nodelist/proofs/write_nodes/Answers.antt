-- `write_nodes` meets its contract, refusal by refusal.
-- Assumes nothing.
use Rattle.std.proofs.Common.{sym, ◌∙◌}
use Rattle.nodelist.proofs.WriteLaws.{write_nodes_refused, write_mask_refused, write_text_lem}
use Rattle.nodelist.proofs.write_nodes.Goals as goal

pub returns-then-not-nodes_ok : goal.returns-then-not-nodes_ok
returns-then-not-nodes_ok c = sym (write_nodes_refused c.args.mask c.args.out.now c.args.nodes (sym c.nodes_ok.ensures ∙ c.if-not-nodes_ok.true))

pub returns-then-not-below : goal.returns-then-not-below
returns-then-not-below c = sym (write_mask_refused c.args.mask c.args.out.now c.args.nodes (sym c.nodes_ok.ensures ∙ c.if-not-nodes_ok.false)
    (sym c.below.ensures ∙ c.if-not-below.true))

pub returns : goal.returns
returns c = c.write_text.ensures
    ∙ sym (write_text_lem c.args.mask c.args.out.now c.args.nodes (sym c.nodes_ok.ensures ∙ c.if-not-nodes_ok.false)
    (sym c.below.ensures ∙ c.if-not-below.false))
