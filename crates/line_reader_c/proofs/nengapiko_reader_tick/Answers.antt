use Rattle.line.specs.Heard.{heard_of}
use Rattle.line_reader_c.proofs.Ticks.{tick_is}
use Rattle.line_reader_c.proofs.nengapiko_reader_tick.Goals as goal

pub returns : goal.returns
returns c =
    tick_is c.args.state.now c.receiver_at.result c.heard_of-heard.result (heard_of c.args.kind c.args.character) c.args.bytes.now c.take-taken.new.bytes c.receiver_words.result c.tick_numbers.result c.take-taken.result
    c.receiver_at.ensures c.heard_of-heard.ensures c.take-taken.ensures c.receiver_fits.ensures c.receiver_words.ensures c.tick_numbers.ensures
