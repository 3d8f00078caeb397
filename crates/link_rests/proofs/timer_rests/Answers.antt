use Rattle.std.proofs.Common.{◌≡◌, ◌-◌, arith}
use mathlib.Core.Path.{ap, ◌∙◌}
use Rattle.link_rests.specs.Rests.{timer_rested}
use Rattle.link_rests.proofs.Timers.{rests_once, rests_part}
use Rattle.link_rests.proofs.timer_rests.Goals as goal
use Rattle.link_rests.proofs.timer_rests.Goals.{then-t-eq0, else-t-eq0}

pub returns-then-t-eq1 : goal.returns-then-t-eq1
returns-then-t-eq1 c =
    let one : 1 ≡ c.args.ticks - (c.args.ticks - 1) = omega (arith, c.requires) in
    (omega (arith, c.requires), c.count_clear.ensures ∙ rests_once c.args.p c.args.t ∙ ap (λ n. timer_rested n c.args.p c.args.t) one)

-- no window will open, or its ticks are counted up to the one before it
pub returns : goal.returns
returns c =
    elim c.if-t-eq0.branch [
      | then-t-eq0 w ↦ rests_part c.args.p c.args.t c.args.ticks c.min-counted.result c.saturating_sub.result c.saturating_sub-2.result c.saturating_sub.ensures c.saturating_sub-2.ensures
          (omega (arith, c.requires, c.min-counted.ensures, w.most-is)) (omega (arith, c.min-counted.ensures)) c.if-t-eq1.false (λ some. omega (arith, some, w.if-t-eq0))
      | else-t-eq0 w ↦ rests_part c.args.p c.args.t c.args.ticks c.min-counted.result c.saturating_sub.result c.saturating_sub-2.result c.saturating_sub.ensures c.saturating_sub-2.ensures
          (omega (arith, c.requires, c.min-counted.ensures, w.most-is, w.if-t-eq0, c.if-t-eq1.false)) (omega (arith, c.min-counted.ensures)) c.if-t-eq1.false (λ some. omega (arith, c.min-counted.ensures, w.most-is))
    ]
