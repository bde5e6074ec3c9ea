-- Document 01, "Node-list text": the reader and the writer, on lists of bytes.
use Rattle.std.specs.Prelude.{
  ℕ,
  suc,
  ◌+◌,
  ◌-◌,
  ◌*◌,
  ◌/◌,
  ◌%◌,
  Bool,
  true,
  false,
  not,
  ◌&&◌,
  ◌||◌,
  cond,
  List,
  [],
  ◌∷◌,
  ◌++◌,
  map,
  length,
  get_or,
  leb,
  ltb,
  eqb,
}
use Rattle.rules.specs.Basics.{all, any, keep, is_nil, from, between, same}
use Rattle.rules.specs.Machine.{nodes_ok}
use Rattle.rules.specs.Masks.{most_nodes, has, below, mask_of, rank, size}
use Rattle.rules.specs.Decisions.{Decision, accept, unless, decided, Written, not_written, written}

-- the bytes `!`, `+`, `,` and `-`, and the word `all`
abbrev pub bang : ℕ
bang = 33

abbrev pub plus : ℕ
plus = 43

abbrev pub comma : ℕ
comma = 44

abbrev pub dash : ℕ
dash = 45

abbrev pub all_word : List ℕ
all_word = 97 ∷ 108 ∷ 108 ∷ []

-- "Up to 255 bytes"
abbrev pub longest_text : ℕ
longest_text = 255

-- the parts of a text between the bytes c: one more than there are such bytes
unfoldable pub onto : ℕ → List (List ℕ) → List (List ℕ)
onto x [] = (x ∷ []) ∷ []
onto x (p ∷ ps) = (x ∷ p) ∷ ps

unfoldable pub split : ℕ → List ℕ → List (List ℕ)
split c [] = [] ∷ []
split c (x ∷ xs) = cond (eqb x c) ([] ∷ split c xs) (onto x (split c xs))

-- a number in decimal digits; the digit 0 is byte 48
unfoldable pub value_from : ℕ → List ℕ → ℕ
value_from v [] = v
value_from v (d ∷ ds) = value_from (v * 10 + (d - 48)) ds

abbrev pub value : List ℕ → ℕ
value ds = value_from 0 ds

-- "Numbers have no leading zero (0 itself is fine) and lie below N": below a limit
unfoldable pub is_number : ℕ → List ℕ → Bool
is_number limit ds =
    not (is_nil ds) && all (between 48 57) ds && (eqb (length ds) 1 || not (eqb (get_or ds 0 0) 48)) && ltb (value ds) limit

-- "a number or a-b with a at most b": an item by its parts between dashes
unfoldable pub is_item : ℕ → List (List ℕ) → Bool
is_item limit [] = false
is_item limit (a ∷ []) = is_number limit a
is_item limit (a ∷ b ∷ []) = is_number limit a && is_number limit b && leb (value a) (value b)
is_item limit (a ∷ b ∷ c ∷ rest) = false

-- the item names k
unfoldable pub item_has : ℕ → List (List ℕ) → Bool
item_has k [] = false
item_has k (a ∷ []) = eqb k (value a)
item_has k (a ∷ b ∷ []) = between (value a) (value b) k
item_has k (a ∷ b ∷ c ∷ rest) = false

-- "one or more items split by single commas"
unfoldable pub items_of : List ℕ → List (List (List ℕ))
items_of text = map (split dash) (split comma text)

unfoldable pub is_items : ℕ → List ℕ → Bool
is_items limit text = all (is_item limit) (items_of text)

-- some item of the text names k
unfoldable pub names : List ℕ → ℕ → Bool
names text k = any (item_has k) (items_of text)

-- "Empty text is the empty set; `all` is the allowed set. Else an optional `!` or `+`, then one or more items"
pub data Form : Type 0 where
  no_text allText : Form
  items except ranks : List ℕ → Form

unfoldable pub form_by : ℕ → List ℕ → Form
form_by x xs = cond (same (x ∷ xs) all_word) allText (cond (eqb x bang) (except xs) (cond (eqb x plus) (ranks xs) (items (x ∷ xs))))

unfoldable pub form_of : List ℕ → Form
form_of [] = no_text
form_of (x ∷ xs) = form_by x xs

-- "Numbers .. lie below N; after `+` they are ranks in the allowed set, below its size"
unfoldable pub form_ok : ℕ → ℕ → Form → Bool
form_ok n allowed no_text = true
form_ok n allowed allText = true
form_ok n allowed (items text) = is_items n text
form_ok n allowed (except text) = is_items n text
form_ok n allowed (ranks text) = is_items (size most_nodes allowed) text

-- "`!` takes all nodes below N not named"; after `+` the nodes whose rank is named
unfoldable pub form_mask : ℕ → ℕ → Form → ℕ
form_mask n allowed no_text = 0
form_mask n allowed allText = allowed
form_mask n allowed (items text) = mask_of n (names text)
form_mask n allowed (except text) = mask_of n (λ k. not (names text k))
form_mask n allowed (ranks text) = mask_of n (λ k. has allowed k && names text (rank allowed k))

-- "N outside 1 to 64 is refusal 1, allowed .. bits at N or above 6, both tested first"; "Up to 255 bytes, longer is 12 .. Anything
-- else is 12": the mask of a text
unfoldable pub read_text : ℕ → ℕ → List ℕ → Decision ℕ
read_text n allowed text =
    unless (nodes_ok n) 1
    (unless (below n allowed) 6
    (unless (leb (length text) longest_text) 12
    (unless (form_ok n allowed (form_of text)) 12
    (accept (form_mask n allowed (form_of text))))))

-- "The writer gives ascending maximal runs"
pub record Run : Type 0 where
  pub low : ℕ
  pub high : ℕ

-- a node in front of the runs of the nodes above it
unfoldable pub joined : ℕ → List Run → List Run
joined n [] = record { low = n; high = n } ∷ []
joined n (r ∷ rs) = cond (eqb (suc n) r.low) (record { low = n; high = r.high } ∷ rs) (record { low = n; high = n } ∷ r ∷ rs)

unfoldable pub runs : List ℕ → List Run
runs [] = []
runs (n ∷ ns) = joined n (runs ns)

-- a node number in decimal digits
unfoldable pub decimal : ℕ → List ℕ
decimal n = cond (ltb n 10) ((48 + n) ∷ []) ((48 + n / 10) ∷ (48 + n % 10) ∷ [])

-- "`4-5` for two neighbours"
unfoldable pub run_text : Run → List ℕ
run_text r = cond (eqb r.low r.high) (decimal r.low) (decimal r.low ++ (dash ∷ decimal r.high))

unfoldable pub commas : List (List ℕ) → List ℕ
commas [] = []
commas (t ∷ []) = t
commas (t ∷ u ∷ ts) = t ++ (comma ∷ commas (u ∷ ts))

-- the text of a mask
unfoldable pub text_of : ℕ → List ℕ
text_of m = commas (map run_text (runs (keep (has m) (from 0 most_nodes))))

-- "N outside 1 to 64 is refusal 1, .. written bits at N or above 6": the text to be written
unfoldable pub write_decision : ℕ → ℕ → Decision (List ℕ)
write_decision n m =
    unless (nodes_ok n) 1
    (unless (below n m) 6
    (accept (text_of m)))

-- "11 output shorter than the text"; "It changes no output byte past the text"; a refusal changes nothing
unfoldable pub write_text : ℕ → ℕ → List ℕ → Written
write_text n m out = decided (not_written out) (written out) (write_decision n m)

-- for a proof that computes: `unfolding open_text` opens every definition of this file
unfoldable pub open_text : Unit {0}
unfolding onto split value_from is_number is_item item_has items_of is_items names form_by form_of form_ok form_mask read_text
    joined runs decimal run_text commas text_of write_decision write_text
open_text = tt
