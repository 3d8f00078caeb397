use borrow.Author.Rules.{rules}
use Prim.Native.Nat.{◌-◌}
use lib.ListN.{length}
use Rattle.link_parties.specs.Stands.{rows_of, heres}
use Rattle.link_run.specs.Step.{late_numbers}
use Rattle.link_run.proofs.Going.{Going, goings}
use Rattle.link_run.proofs.run_from.Statement.{statement}
use Rattle.link_run.proofs.run_from.Tie as tie

abbrev invariant-loop : tie.invariant-loop-i
invariant-loop limit ticks events₀ frames₀ bytes₀ contents₀ sent₀ l₀ s₀ at₀ i₀ events frames bytes contents sent l s at i = Going limit (heres l₀.devices) (late_numbers limit l₀ s₀ (rows_of frames₀ bytes₀ contents₀) ticks) ticks events₀ l s (rows_of frames bytes contents) events at i

abbrev decreases-loop : tie.decreases-loop-i
decreases-loop limit ticks events₀ frames₀ bytes₀ contents₀ sent₀ l₀ s₀ at₀ i₀ events frames bytes contents sent l s at i = length events₀ - i

pub run_from_spec : {M : Type 1} → statement M
run_from_spec =
    tie.close
    (tie.spec
    invariant-loop
    decreases-loop
    (λ c. search (rules, goings))
    (λ c. search (rules, goings))
    (λ c. search (rules, goings))
    (λ c. search (rules, goings))
    (λ c κs. search (rules, goings))
    (λ c. search (rules, goings))
    (λ c κs. search (rules, goings))
    (λ c. search (rules, goings))
    (λ c. search (rules, goings))
    (λ c. search (rules, goings))
    (λ c. search (rules, goings)))
