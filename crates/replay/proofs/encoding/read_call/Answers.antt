-- `read_call` meets its contract, kind by kind.
-- Assumes nothing.
use mathlib.Core.Path.{◌≡◌, sym, ap, ◌∙◌}
use Rattle.replay.specs.Encoding.{word_at, list_in}
use Rattle.replay.specs.Kinds.{number_of}
use Rattle.replay.proofs.Words.{says_request, says_release, says_rebind, says_install, says_clear, says_fresh, says_keep, says_set, says_drain}
use Rattle.replay.proofs.Words.{places_length, list_named, kind_read}
use Rattle.replay.proofs.encoding.read_call.Goals as goal
use Rattle.replay.proofs.encoding.read_call.Goals.{in-Request, in-Release, in-Rebind, in-Install, in-Clear, in-Fresh, in-Keep, in-SetMap, in-Drain}

pub returns-clause-says : goal.returns-clause-says
returns-clause-says c x e =
    let is : word_at c.args.call.now 0 ≡ number_of c.unwrap_or-kind.result = kind_read c.kind_of.result c.args.call.now c.kind_of.ensures e
    c.unwrap_or-kind.ensures in
    let named = list_named c.args.call.now c.requires.0 in
    elim c.match-kind.branch [
      | in-Install w ↦ rw (w.call-is, w.install_in.ensures) (
        list_in c.args.call.now,
        says_install _ x e (is ∙ ap number_of w.in-Install.is),
        record { long = sym (places_length c.args.call.now); held = w.places_in.ensures },
      )
      | in-Keep w ↦ rw (w.call-is, w.list-is, w.list_in.ensures)
          (list_in c.args.call.now, says_keep _ x e (is ∙ ap number_of w.in-Keep.is), named)
      | in-SetMap w ↦ rw (w.call-is, w.list-is, w.list_in-in-SetMap.ensures)
          (list_in c.args.call.now, says_set _ x e (is ∙ ap number_of w.in-SetMap.is), named)
      | in-Request w ↦ rw w.call-is (says_request _ x e (is ∙ ap number_of w.in-Request.is))
      | in-Release w ↦ rw w.call-is (says_release _ x e (is ∙ ap number_of w.in-Release.is))
      | in-Rebind w ↦ rw w.call-is (says_rebind _ x e (is ∙ ap number_of w.in-Rebind.is))
      | in-Clear w ↦ rw w.call-is (says_clear _ x e (is ∙ ap number_of w.in-Clear.is))
      | in-Fresh w ↦ rw w.call-is (says_fresh _ x e (is ∙ ap number_of w.in-Fresh.is))
      | in-Drain w ↦ rw w.call-is (says_drain _ x e (is ∙ ap number_of w.in-Drain.is))
    ]
