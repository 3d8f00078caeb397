use Rattle.port_c.proofs.Starts.{master_taken, master_long}
use Rattle.port_c.proofs.master_left.Goals as goal

pub returns-in-Ok : goal.returns-in-Ok
returns-in-Ok c = master_taken _ _ _ _ _ _ _ _ c.data_limit.ensures c.in-Ok.is c.port_master_fits.ensures c.pack.ensures c.master_words.ensures

pub returns-in-Err : goal.returns-in-Err
returns-in-Err c = master_long _ _ _ _ _ _ _ c.data_limit.ensures c.in-Err.is c.number.ensures
