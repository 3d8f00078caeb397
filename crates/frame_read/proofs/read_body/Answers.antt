use Rattle.std.proofs.Common.{rules}
use Rattle.frame_read.proofs.Reading.{frames, bodies}
use Rattle.frame.specs.Read.{read_body}
use Rattle.frame_read.proofs.read_body.Goals as goal
use Rattle.frame_read.proofs.read_body.Goals.{then-too_few-via-then-too_few, then-too_few-via-else-too_few+then-xor_from-body}

pub returns-then-is_empty : goal.returns-then-is_empty
unfolding read_body
returns-then-is_empty c = search (rules, frames)

pub returns-in_default : goal.returns-in_default
unfolding read_body
returns-in_default c = search (rules, frames)

pub returns-then-body-place : goal.returns-then-body-place
unfolding read_body
returns-then-body-place c = search (rules, frames, bodies) depth 9

pub returns-then-body-last : goal.returns-then-body-last
unfolding read_body
returns-then-body-last c = search (rules, frames, bodies) depth 9

pub returns-then-too_few : goal.returns-then-too_few
unfolding read_body
returns-then-too_few c = elim c.then-too_few.branch [ then-too_few-via-then-too_few w ↦ search (rules, frames, bodies) depth 9 | then-too_few-via-else-too_few+then-xor_from-body w ↦ search (rules, frames, bodies) depth 9 ]

pub returns : goal.returns
unfolding read_body
returns c = search (rules, frames, bodies) depth 9
