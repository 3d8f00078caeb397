-- Inner contracts: nothing that is to be believed rests on them.
-- A record whose fields fit its four bytes.
use Rattle.std.specs.Prelude.{◌<◌}
use Rattle.player_script.specs.declared.Entry.{Entry}

pub record Fits (e : Entry) : Type 0 where
  pub tick : e.tick < 65536
  pub party : e.party < 16
  pub action : e.action < 16
  pub argument : e.argument < 256
