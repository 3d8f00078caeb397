use Rattle.link_run_c.proofs.Counted.{ends}
use borrow.Author.Rules.{rules}
use Rattle.link_run_c.proofs.end_run.Statement.{statement}
use Rattle.link_run_c.proofs.end_run.Tie as tie

pub end_run_spec : {M : Type 1} → statement M
end_run_spec =
    tie.close
    (tie.spec
    (λ c. search rules)
    (λ c. search rules)
    (λ c κs. search rules)
    (λ c. search rules)
    (λ c. search (rules, ends)))
