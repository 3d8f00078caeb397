-- Theorem: the port's profile meets each of document 01's conditions but that on RT1 secondary (specs/Numbers).
use native.Mathlib.Omega.{arith}
use mathlib.Core.Path.{refl}
use Rattle.base.specs.Choice.{when◌then◌else◌}
use Rattle.port.specs.Numbers.{InfraredConditions}

pub infrared_conditions : InfraredConditions
unfolding when◌then◌else◌
infrared_conditions = record {
  no_value_refused = refl;
  hold_below_rt2 = omega arith;
  rt2_below_rt1 = omega arith;
  sto_below_rt1 = omega arith;
  secondary_is_not = λ e. omega arith;
  refused_on_the_pair = refl;
}
