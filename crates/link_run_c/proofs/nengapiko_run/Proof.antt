use Rattle.link_run_c.proofs.Counted.{counts}
use borrow.Author.Rules.{rules}
use Rattle.link_run_c.proofs.nengapiko_run.Statement.{statement}
use Rattle.link_run_c.proofs.nengapiko_run.Tie as tie

pub nengapiko_run_spec : {M : Type 1} → statement M
nengapiko_run_spec =
    tie.close
    (tie.spec
    (λ c κs. search rules)
    (λ c κs. search rules)
    (λ c κs. search rules)
    (λ c. search rules)
    (λ c. search (rules, counts)))
