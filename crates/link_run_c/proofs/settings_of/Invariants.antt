use Rattle.link_run_c.proofs.Made.{Making}
use Rattle.link_run_c.proofs.settings_of.Given as goal

abbrev pub invariant-loop-i : goal.invariant-loop-i
invariant-loop-i l = Making l.preambles l.pollings l.uniques l.settings l.i
