use Rattle.std.proofs.Common.{ap, ◌∙◌, Ok}
use Rattle.readings.specs.Table.{sought}
use Rattle.readings.proofs.Enters.{put_entered, none_entered, refused_entered}
use Rattle.readings_c.proofs.nengapiko_readings_enter.Goals as goal

pub returns-in-Ok-Some : goal.returns-in-Ok-Some
returns-in-Ok-Some c =
    rw (← c.event_at-event.ensures)
    (put_entered c.args.rows.now c.args.area.now c.args.tick c.args.bytes.now c.event_at-event.result c.search-s.result c.store.result c.in-Ok-Some.put c.put.new.rows c.store.new.area
    (c.search-s.ensures ∙ ap (sought c.args.rows.now) c.told_key.ensures) c.store.ensures (c.in-Ok-Some.is ∙ ap Ok c.in-Ok-Some.field-0-is) c.put.ensures)

pub returns-in-Ok-None : goal.returns-in-Ok-None
returns-in-Ok-None c =
    rw (← c.event_at-event.ensures)
    (none_entered c.args.rows.now c.args.area.now c.args.tick c.args.bytes.now c.event_at-event.result c.search-s.result c.store.result c.store.new.area
    (c.search-s.ensures ∙ ap (sought c.args.rows.now) c.told_key.ensures) c.store.ensures (c.in-Ok-None.is ∙ ap Ok c.in-Ok-None.field-0-is))

pub returns-in-Err : goal.returns-in-Err
returns-in-Err c =
    rw (← c.event_at-event.ensures)
    (refused_entered c.args.rows.now c.args.area.now c.args.tick c.args.bytes.now c.event_at-event.result c.search-s.result c.store.result c.in-Err.refusal c.store.new.area c.number.result
    (c.search-s.ensures ∙ ap (sought c.args.rows.now) c.told_key.ensures) c.store.ensures c.in-Err.is c.number.ensures)
