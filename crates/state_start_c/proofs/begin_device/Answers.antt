use Rattle.std.proofs.Common.{rules}
use Rattle.state_start_c.proofs.Starts.{device_made, device_begun, device_taken, device_long}
use Rattle.state_start_c.proofs.begin_device.Goals as goal

pub returns-in_err-limit : goal.returns-in_err-limit
returns-in_err-limit c =
    device_made _ _ _ _ _ _ _ _ _ _ _ c.checked.ensures c.in_ok-checked.was c.start.ensures
    (device_begun _ _ _ _ _ _ c.in_ok-d.was (device_long _ _ _ _ _ _ c.data_limit.ensures c.in_err-limit.was (search rules)))

pub returns : goal.returns
returns c =
    device_made _ _ _ _ _ _ _ _ _ _ _ c.checked.ensures c.in_ok-checked.was c.start.ensures
    (device_begun _ _ _ _ _ _ c.in_ok-d.was (device_taken _ _ _ _ _ _ c.data_limit.ensures c.in_ok-limit.was c.device_fits.ensures c.pack.ensures))
