use Rattle.link_length_c.proofs.Calls.{calls}
use borrow.Author.Rules.{rules}
use Rattle.link_length_c.proofs.nengapiko_longest_wait.Statement.{statement}
use Rattle.link_length_c.proofs.nengapiko_longest_wait.Tie as tie

pub nengapiko_longest_wait_spec : {M : Type 1} → statement M
nengapiko_longest_wait_spec =
    tie.close
    (tie.spec
    (λ c κs. search rules)
    (λ c. search rules)
    (λ c. search rules)
    (λ c κs. search rules)
    (λ c. search (rules, calls))
    (λ c. search (rules, calls)))
