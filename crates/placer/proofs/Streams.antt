-- Bytes that were given to a writer in two parts.
use Rattle.std.proofs.Common.{ℕ, ◌+◌, List, ◌++◌, take, drop, Option, None, Some, sym, ap, ◌∙◌, append_assoc}
use Rattle.std.proofs.Math.Seq.{take-add}
use Rattle.std.specs.Io.KnownBytes.{Appends}

-- the first bytes, and then the next ones
pub gave_more : (old mid new : Option (List ℕ)) (bs : List ℕ) (done more : ℕ) → Appends old mid (take done bs)
    → Appends mid new (take more (drop done bs)) → Appends old new (take (done + more) bs)
gave_more None mid new bs done more h k = tt
gave_more (Some xs) None new bs done more h k = absurd h
gave_more (Some xs) (Some ys) None bs done more h k = absurd k
gave_more (Some xs) (Some ys) (Some zs) bs done more h k =
    k ∙ ap (λ (v : List ℕ). v ++ take more (drop done bs)) h ∙ append_assoc xs (take done bs) (take more (drop done bs))
    ∙ ap (λ (v : List ℕ). xs ++ v) (sym (take-add done more bs))
