use Rattle.std.proofs.Common.{rules}
use Rattle.frame_write.proofs.Answers.{writes}
use Rattle.frame_write.proofs.write.Goals as goal

pub slice_bounds-put_frame-count : goal.slice_bounds-put_frame-count
slice_bounds-put_frame-count c = search (rules, writes)

pub slice_bounds-put_frame-start : goal.slice_bounds-put_frame-start
slice_bounds-put_frame-start c = search (rules, writes)

pub put_frame-requires : goal.put_frame-requires
put_frame-requires c = search (rules, writes)

pub returns-in-Ok : goal.returns-in-Ok
returns-in-Ok c = search (rules, writes)

pub returns-in-Err : goal.returns-in-Err
returns-in-Err c = search (rules, writes)
