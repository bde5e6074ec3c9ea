-- `pack` makes a word of eight places.
-- Assumes nothing.
use Rattle.std.specs.Prelude.{ℕ, ◌≡◌, ◌+◌, ◌-◌, take, drop}
use Rattle.std.proofs.Common.{ap, ◌∙◌, get_or, arith, rules}
use mir.Syntax.{w8}
use mir.Val.{Fits}
use Rattle.rules.specs.Records.{from_bytes}
use Rattle.rules.proofs.Bytes.{take_bytes, drop_bytes}
use Rattle.records.proofs.Shifts.{word_of}
use Rattle.records.proofs.words.pack.Goals as goal

pub returns : goal.returns
returns c =
    let bytes : (k : ℕ) → Fits w8 (get_or c.args.places k 0) = λ k. search rules in
    let part = drop c.args.from.0 c.args.places in
    let eight : c.args.from.0 + 8 - c.args.from.0 ≡ 8 = omega arith in
    let same : c.copy_from_slice.new.self ≡ take 8 part = c.copy_from_slice.ensures.after ∙ ap (λ (n : ℕ). take n part) eight in
    word_of c.copy_from_slice.new.self _ c.copy_from_slice.ensures.len
    (rw same (take_bytes 8 part (drop_bytes c.args.from.0 c.args.places (λ k. (bytes k).fits)))) (omega arith) c.from_le_bytes.ensures
    ∙ ap from_bytes same
