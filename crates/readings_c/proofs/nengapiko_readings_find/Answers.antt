use Rattle.std.proofs.Common.{ap, ◌∙◌}
use Rattle.readings.specs.Table.{looked_up}
use Rattle.readings.proofs.Searches.{found_is}
use Rattle.readings_c.proofs.nengapiko_readings_find.Goals as goal

pub returns : goal.returns
returns c =
    c.looked_up.ensures
    ∙ found_is c.args.rows.now c.key_of-k.result c.search.result c.search.ensures
    ∙ ap (looked_up c.args.rows.now) c.key_of-k.ensures
