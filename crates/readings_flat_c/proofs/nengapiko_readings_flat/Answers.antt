use Rattle.std.proofs.Common.{ap, ◌∙◌, Ok}
use Rattle.readings_flat_c.proofs.Puts.{flat_row, flat_none, flat_refused}
use Rattle.readings_flat_c.proofs.nengapiko_readings_flat.Goals as goal

pub returns-in-Ok-Some : goal.returns-in-Ok-Some
returns-in-Ok-Some c =
    rw (← c.event_at-event.ensures)
    (flat_row c.args.numbers.now c.args.area.now c.store.new.area c.args.tick c.event_at-event.result c.args.bytes.now c.told_key.result c.search-s.result c.store.result c.told_key.ensures c.search-s.ensures c.store.ensures
    c.put.new.numbers c.in-Ok-Some.p (c.in-Ok-Some.is ∙ ap Ok c.in-Ok-Some.field-0-is) c.put.ensures)

pub returns-in-Ok-None : goal.returns-in-Ok-None
returns-in-Ok-None c =
    rw (← c.event_at-event.ensures)
    (flat_none c.args.numbers.now c.args.area.now c.store.new.area c.args.tick c.event_at-event.result c.args.bytes.now c.told_key.result c.search-s.result c.store.result c.told_key.ensures c.search-s.ensures c.store.ensures
    (c.in-Ok-None.is ∙ ap Ok c.in-Ok-None.field-0-is))

pub returns-in-Err : goal.returns-in-Err
returns-in-Err c =
    rw (← c.event_at-event.ensures)
    (flat_refused c.args.numbers.now c.args.area.now c.store.new.area c.args.tick c.event_at-event.result c.args.bytes.now c.told_key.result c.search-s.result c.store.result c.told_key.ensures c.search-s.ensures c.store.ensures
    c.in-Err.refusal c.number.result c.in-Err.is c.number.ensures)
