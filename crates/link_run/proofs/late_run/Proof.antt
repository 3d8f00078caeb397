use Rattle.link_run.proofs.LateKept.{kept}
use borrow.Author.Rules.{rules}
use Rattle.link_run.proofs.late_run.Statement.{statement}
use Rattle.link_run.proofs.late_run.Tie as tie

pub late_run_spec : {M : Type 1} → statement M
late_run_spec =
    tie.close
    (tie.spec
    (λ c κs. search rules)
    (λ c. search rules)
    (λ c. search (rules, kept))
    (λ c κs. search (rules, kept))
    (λ c. search rules)
    (λ c. search rules)
    (λ c. search (rules, kept))
    (λ c. search (rules, kept)))
