-- `name_ok` meets its contract: the tests are the definition's own.
-- Assumes nothing.
use Rattle.std.proofs.Common.{◌≡◌}
use Rattle.rules.specs.Basics.{same}
use Rattle.rules.specs.Notes.{name_ok, text_word, data_word, any_word, closing_word}
use Rattle.notes.proofs.Words.{equal_is}
use Rattle.notes.proofs.list.name_ok.Goals as goal

pub returns : goal.returns
unfolding name_ok
returns c =
    let text : c.eq-text.result ≡ same c.args.word.now text_word = equal_is _ _ _ text_word c.eq-text.ensures c.as_slice.ensures in
    let data-word : c.eq-data.result ≡ same c.args.word.now data_word = equal_is _ _ _ data_word c.eq-data.ensures c.as_slice-2.ensures in
    let any : c.eq-any.result ≡ same c.args.word.now any_word = equal_is _ _ _ any_word c.eq-any.ensures c.as_slice-3.ensures in
    let closing : c.eq-closing.result ≡ same c.args.word.now closing_word = equal_is _ _ _ closing_word c.eq-closing.ensures c.as_slice-4.ensures in
    rw (closing, any, data-word, text)
