-- `read_nodes` meets its contract, refusal by refusal.
-- Assumes nothing.
use Rattle.std.specs.Prelude.{◌^◌}
use Rattle.std.proofs.Common.{sym, ap, ◌∙◌}
use borrow.Author.Tests.{ltb-true}
use Rattle.nodelist.specs.Forms.{decided}
use Rattle.rules.proofs.Kept.{nodes_few}
use Rattle.nodelist.proofs.FormLaws.{refused_nodes, refused_allowed, refused_length, decided_form}
use Rattle.nodelist.proofs.read_nodes.Goals as goal

pub returns-then-not-nodes_ok : goal.returns-then-not-nodes_ok
returns-then-not-nodes_ok c = sym (refused_nodes c.args.nodes c.args.allowed c.args.text.now (sym c.nodes_ok.ensures ∙ c.if-not-nodes_ok.true))

pub returns-then-not-below : goal.returns-then-not-below
returns-then-not-below c = sym (refused_allowed c.args.nodes c.args.allowed c.args.text.now (sym c.nodes_ok.ensures ∙ c.if-not-nodes_ok.false)
    (sym c.below.ensures ∙ c.if-not-below.true))

pub returns-then-text-gt255 : goal.returns-then-text-gt255
returns-then-text-gt255 c = sym (refused_length c.args.nodes c.args.allowed c.args.text.now (sym c.nodes_ok.ensures ∙ c.if-not-nodes_ok.false)
    (sym c.below.ensures ∙ c.if-not-below.false) c.if-text-gt255.true)

pub read_form-requires : goal.read_form-requires
read_form-requires c = (
  nodes_few c.args.nodes (sym c.nodes_ok.ensures ∙ c.if-not-nodes_ok.false),
  ltb-true c.args.allowed (2 ^ c.args.nodes) (sym c.below.ensures ∙ c.if-not-below.false),
)

-- the form decides
pub returns-in-Some : goal.returns-in-Some
returns-in-Some c = ap decided c.in-Some.ensures
    ∙ sym (decided_form c.args.nodes c.args.allowed c.args.text.now (sym c.nodes_ok.ensures ∙ c.if-not-nodes_ok.false)
    (sym c.below.ensures ∙ c.if-not-below.false) c.if-text-gt255.false)

pub returns-in-None : goal.returns-in-None
returns-in-None c = ap decided c.in-None.ensures
    ∙ sym (decided_form c.args.nodes c.args.allowed c.args.text.now (sym c.nodes_ok.ensures ∙ c.if-not-nodes_ok.false)
    (sym c.below.ensures ∙ c.if-not-below.false) c.if-text-gt255.false)
