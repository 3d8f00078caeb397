-- Theorem: the two profiles that are supplied by name are among those that the check takes.
use mathlib.Core.Path.{◌≡◌, refl}
use Rattle.base.specs.Refusal.{accepted}
use Rattle.base.specs.Choice.{when◌then◌else◌}
use Rattle.line.specs.Profile.{fsk_profile, c8psk_profile, profile_made}

pub fsk_taken : profile_made fsk_profile ≡ accepted fsk_profile
unfolding when◌then◌else◌
fsk_taken = refl

pub c8psk_taken : profile_made c8psk_profile ≡ accepted c8psk_profile
unfolding when◌then◌else◌
c8psk_taken = refl
