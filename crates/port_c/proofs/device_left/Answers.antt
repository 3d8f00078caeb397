use Rattle.port_c.proofs.Starts.{device_taken, device_long}
use Rattle.port_c.proofs.device_left.Goals as goal

pub returns-in-Ok : goal.returns-in-Ok
returns-in-Ok c = device_taken _ _ _ _ _ _ _ _ c.data_limit.ensures c.in-Ok.is c.port_device_fits.ensures c.pack.ensures c.device_words.ensures

pub returns-in-Err : goal.returns-in-Err
returns-in-Err c = device_long _ _ _ _ _ _ _ c.data_limit.ensures c.in-Err.is c.number.ensures
