use Rattle.recording_capture.proofs.Capturing.{hears_either}
use Rattle.recording_capture.proofs.put_heard.Goals as goal

pub returns-in-Character : goal.returns-in-Character
returns-in-Character c = hears_either c.args.heard c.args.frame.now c.args.held c.in-Character.c c.put_byte.result c.put_byte.new.out c.in-Character.is c.put_byte.ensures
