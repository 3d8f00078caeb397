use Rattle.std.proofs.Common.{rules}
use Rattle.state_start_c.proofs.Starts.{master_made, master_begun, master_taken, master_long}
use Rattle.state_start_c.proofs.begin_master.Goals as goal

pub returns-in_err-limit : goal.returns-in_err-limit
returns-in_err-limit c =
    master_made _ _ _ _ _ _ _ _ _ _ c.checked.ensures c.in_ok-checked.was c.start.ensures
    (master_begun _ _ _ _ _ _ c.in_ok-m.was (master_long _ _ _ _ _ _ c.data_limit.ensures c.in_err-limit.was (search rules)))

pub returns : goal.returns
returns c =
    master_made _ _ _ _ _ _ _ _ _ _ c.checked.ensures c.in_ok-checked.was c.start.ensures
    (master_begun _ _ _ _ _ _ c.in_ok-m.was (master_taken _ _ _ _ _ _ c.data_limit.ensures c.in_ok-limit.was c.master_fits.ensures c.pack.ensures))
