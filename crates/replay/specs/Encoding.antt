-- A list of calls as 64-bit words, and an answer as one word: what `replay` reads and writes.
-- Assumes nothing.
use Rattle.std.specs.Prelude.{ℕ, ◌+◌, ◌-◌, ◌*◌, ◌/◌, ◌%◌, ◌^◌, Bool, ◌&&◌, cond, List, [], ◌∷◌, ◌++◌, length, get_or, take, drop, replicate, ltb, eqb}
use Rattle.rules.specs.Basics.{all, each, from}
use Rattle.rules.specs.Records.{bytes_of, places_per_job, policy}
use Rattle.rules.specs.Decisions.{Decision, refuse, accept, is_accepted, accepted_in}
use Rattle.rules.specs.Calls.{Answer, numbers}
use Rattle.rules.specs.Book.{Call, request, release, install, rebind, clear, fresh_table, keep_nodes, set_map, drain}
use Rattle.rules.specs.Journal.{Kind, request', release', rebind', install', clear', unknownKind, kind_of}

-- a call is sixteen words
abbrev pub call_words : ℕ
call_words = 16

-- word k of a call
abbrev pub word_at : List ℕ → ℕ → ℕ
word_at call k = get_or call k 0

-- a list of word 5's length stands in words 8 to 15, "one byte each, lowest byte first"; entries past the 64th are zero
unfoldable pub list_in : List ℕ → List ℕ
list_in call = take (word_at call 5) (each (bytes_of 8) (drop 8 call) ++ replicate (word_at call 5) 0)

-- the first sixteen places of a list, filled up with zeros
abbrev pub filled : List ℕ → List ℕ
filled places = take places_per_job (places ++ replicate places_per_job 0)

-- word 0 is the kind, below 16 that of the journal, "1 request, 2 release, 3 rebind, 4 install, 5 clear"; word 1 the job; word 2 the CPU,
-- the page, the allowed mask or the mode; word 3 the flag; word 4 the user mask. Words that a kind does not name are ignored. 13, no such
-- kind
unfoldable pub call_of : Kind → List ℕ → Decision Call
call_of request' call = accept (request (word_at call 1) (word_at call 2))
call_of release' call = accept (release (word_at call 1) (word_at call 2))
call_of rebind' call = accept (rebind (word_at call 1) (word_at call 2))
call_of install' call = accept (install (word_at call 1) (policy (word_at call 2) (word_at call 3) (word_at call 4) (list_in call)))
call_of clear' call = accept (clear (word_at call 1))
call_of unknownKind call = refuse 13

-- the kinds from 16 on, which the journal has not: 16 is M-100's fresh table, of which no other word is read; 17 and 18 are M-103's: the
-- nodes that the job of word 1 keeps, and its map; 19 is M-107's drain of the node of word 1 with the room of word 2
abbrev pub own_kinds : ℕ
own_kinds = 16

unfoldable pub own_call : List ℕ → ℕ → Decision Call
own_call call k =
    get_or
    (accept fresh_table ∷ accept (keep_nodes (word_at call 1) (list_in call)) ∷ accept (set_map (word_at call 1) (list_in call))
    ∷ accept (drain (word_at call 1) (word_at call 2)) ∷ [])
    k (refuse 13)

-- the call that sixteen words say
unfoldable pub call_in : List ℕ → Decision Call
call_in call = cond (ltb (word_at call 0) own_kinds) (call_of (kind_of (word_at call 0)) call) (own_call call (word_at call 0 - own_kinds))

-- the words of call i, and how many calls there are
abbrev pub words_of : List ℕ → ℕ → List ℕ
words_of words i = take call_words (drop (call_words * i) words)

abbrev pub call_count : List ℕ → ℕ
call_count words = length words / call_words

-- the first n calls in a list of words: those of a known kind
unfoldable pub calls_to : List ℕ → ℕ → List Call
calls_to words n = each (λ i. accepted_in (call_in (words_of words i))) (from 0 n)

abbrev pub calls_in : List ℕ → List Call
calls_in words = calls_to words (call_count words)

-- 13: no call is cut short, and each is of a known kind
unfoldable pub calls_ok : List ℕ → Bool
calls_ok words = eqb (length words % call_words) 0 && all (λ i. is_accepted (call_in (words_of words i))) (from 0 (call_count words))

-- "Answers .. refusal, node or FF, .. page or FFFFFFFF": refusal in bits 0-7, node in 8-15, page in 32-63
abbrev pub packed : List ℕ → ℕ
packed ns = get_or ns 0 0 + get_or ns 1 0 * 2 ^ 8 + get_or ns 2 0 * 2 ^ 32

unfoldable pub answer_word : Answer → ℕ
answer_word a = packed (numbers a)

-- for a proof that computes: `unfolding open_encoding` opens every definition of this file
unfoldable pub open_encoding : Unit {0}
unfolding list_in call_of own_call call_in calls_to calls_ok answer_word
open_encoding = tt
