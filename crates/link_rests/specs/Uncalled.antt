-- Inner contracts: nothing that is to be believed rests on them.
-- Ticks of a link in which no host calls.
use Rattle.std.specs.Prelude.{ℕ, zero, suc}
use Rattle.frame.specs.Limits.{most_data}
use Rattle.turns.specs.Link.{LinkStep, link_tick, link_after}
use Rattle.turns.specs.Link as L
use Rattle.link_parties.specs.Stands.{uncalled}

abbrev pub uncalled_tick : L.Link → LinkStep
uncalled_tick l = link_tick most_data l uncalled

-- the link after so many of them
unfoldable pub after_ticks : ℕ → L.Link → L.Link
after_ticks zero l = l
after_ticks (suc n) l = link_after (uncalled_tick (after_ticks n l))
