use Rattle.link_run.proofs.Steps.{Counting}
use Rattle.link_run.proofs.senders_of.Given as goal

abbrev pub invariant-loop-code : goal.invariant-loop-code
invariant-loop-code l = Counting l.row l.senders l.code-index
