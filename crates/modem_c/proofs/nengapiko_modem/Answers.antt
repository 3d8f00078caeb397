use Rattle.std.proofs.Common.{◌≡◌, ℕ, ◌<◌, ◌/◌, min, length, arith, subst, ◌∙◌}
use Rattle.base.specs.Events.{RunIs}
use Rattle.modem_c.specs.Script.{answers}
use Rattle.std.proofs.Math.Nat.{min-le_left, min-le_right}
use Rattle.modem_c.proofs.Script.{run_access, run_over}
use Rattle.modem_c.proofs.nengapiko_modem.Goals as goal

pub loop-i-preserved : goal.loop-i-preserved
loop-i-preserved c =
    let room : c.loop-i.i < length c.loop-i.events = omega (arith, min-le_left (length c.args.events.now) (length c.args.script.now / 2)) in
    let left : c.loop-i.i < length c.args.script.now / 2 = omega (arith, min-le_right (length c.args.events.now) (length c.args.script.now / 2)) in
    run_access _ c.args.script.now c.args.events.now c.loop-i.x c.loop-i.events c.loop-i.i c.access-accessed.result
    c.loop-i.invariant room left c.access-accessed.ensures

pub returns : goal.returns
returns c =
    let done : c.loop-i.i ≡ c.min-count.result = omega arith in
    let least : c.loop-i.i ≡ min (length c.loop-i.events) (length c.args.script.now / 2) = rw c.loop-i.auto.events (done ∙ c.min-count.ensures) in
    subst (λ (n : ℕ). RunIs (answers c.args.script.now) c.args.events.now n c.loop-i.events) done
    (run_over (answers c.args.script.now) c.args.script.now c.args.events.now c.loop-i.x c.loop-i.events c.loop-i.i c.loop-i.invariant least)
