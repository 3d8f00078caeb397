use Rattle.std.proofs.Common.{rules}
use Rattle.load_writer.proofs.Answers.{written, refusal_passed}
use Rattle.load_writer.proofs.write.Goals as goal

pub returns-in_err-end : goal.returns-in_err-end
returns-in_err-end c = refusal_passed _ _ _ _ c.answer.result c.from_residual.result c.in_err-end.was (search rules) c.answer.ensures

pub returns : goal.returns
returns c = written _ _ _ _ _ c.answer.result c.in_ok-end.was c.answer.ensures c.put_script.ensures
