-- `read_except` meets its contract, by what the items past the mark give.
-- Assumes nothing.
use Rattle.std.specs.Prelude.{◌≡◌, drop}
use Rattle.std.proofs.Common.{sym, ap, subst, ◌∙◌}
use Rattle.nodelist.specs.Reader.{numbers_read, items_read}
use Rattle.nodelist.specs.Forms.{Below}
use Rattle.nodelist.proofs.FormLaws.{items_below, past_mark}
use Rattle.nodelist.proofs.forms.read_except.Goals as goal

pub complement-requires : goal.complement-requires
complement-requires c = let told : numbers_read c.read_items.result ≡ items_read c.args.nodes (drop 1 c.args.text.now) =
    c.read_items.ensures ∙ ap (items_read c.args.nodes) (past_mark c.args.text.now) in (
      c.requires.1,
      rw c.from.ensures
          (subst (Below c.args.nodes) (sym told ∙ ap numbers_read c.in_ok-named.was)
          (items_below c.args.nodes (drop 1 c.args.text.now) c.requires.1)),
    )
