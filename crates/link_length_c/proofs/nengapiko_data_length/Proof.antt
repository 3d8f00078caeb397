use Rattle.link_length_c.proofs.Calls.{calls}
use borrow.Author.Rules.{rules}
use Rattle.link_length_c.proofs.nengapiko_data_length.Statement.{statement}
use Rattle.link_length_c.proofs.nengapiko_data_length.Tie as tie

pub nengapiko_data_length_spec : {M : Type 1} → statement M
nengapiko_data_length_spec =
    tie.close
    (tie.spec
    (λ c κs. search rules)
    (λ c. search rules)
    (λ c. search rules)
    (λ c κs. search rules)
    (λ c. search (rules, calls))
    (λ c. search (rules, calls)))
