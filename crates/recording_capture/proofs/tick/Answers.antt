use Rattle.recording_capture.proofs.Capturing.{taken_progress, grown_at, taken_packet}
use Rattle.recording_capture.proofs.tick.Goals as goal

pub returns : goal.returns
returns c =
    let read = c.take-taken.ensures in
    let grew = c.put_heard-held.ensures in
    let message = c.front.ensures in
    record {
      progress_is = taken_progress _ _ _ _ _ _ _ _ _ read grew c.behind_tick.ensures;
      bytes_are = read.buffer;
      frame_is = grown_at _ _ _ _ _ grew;
      text = taken_packet _ _ _ _ _ _ _ _ _ _ _ _ _ read grew message c.put_event-at.ensures;
    }
