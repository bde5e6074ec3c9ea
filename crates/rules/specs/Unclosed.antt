-- The search order before request M-104, "Programs that name their memory": in mode 4 a 255 in the last place is passed over, as any byte
-- of N or more.
use Rattle.std.specs.Prelude.{ℕ, map}
use Rattle.rules.specs.Records.{Record, Mode, default, preferred, bind, interleave, list, ring, early, unknownMode, places_of}
use Rattle.rules.specs.SearchOrder.{Plan, placed, try, plan_in, mode_in_force}

-- "List: places in order"; the other modes are as they are
unfoldable pub plan_unclosed_in : Mode → ℕ → Record → ℕ → Plan
plan_unclosed_in default limit r x = plan_in default limit r x
plan_unclosed_in preferred limit r x = plan_in preferred limit r x
plan_unclosed_in bind limit r x = plan_in bind limit r x
plan_unclosed_in interleave limit r x = plan_in interleave limit r x
plan_unclosed_in list limit r x = placed (map (try r.turn) (places_of r))
plan_unclosed_in ring limit r x = plan_in ring limit r x
plan_unclosed_in early limit r x = plan_in early limit r x
plan_unclosed_in unknownMode limit r x = plan_in unknownMode limit r x

unfoldable pub plan_unclosed : ℕ → Record → ℕ → Plan
plan_unclosed limit r x = plan_unclosed_in (mode_in_force r) limit r x
