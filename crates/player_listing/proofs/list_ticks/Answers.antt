use Rattle.std.proofs.Common.{rules, arith}
use Rattle.player_listing.specs.Lines.{quiet_monitor}
use Rattle.player_listing.proofs.Rows.{parties_none, party_sends, party_falls_silent, party_stays_silent, rows_more, rows_all}
use Rattle.player_listing.proofs.list_ticks.Goals as goal
use Rattle.player_listing.proofs.list_ticks.Goals.{then-c-ge256, else-c-ge256+then-list-i-gt0, else-c-ge256+else-list-i-gt0}

pub loop-i-init : goal.loop-i-init
loop-i-init c = parties_none _ _ _ _ _ _ c.loop-k.invariant.eight c.row_is_lone-lone.ensures

pub loop-i-preserved : goal.loop-i-preserved
loop-i-preserved c =
    elim c.if-c-ge256.branch [
      | then-c-ge256 w ↦ rw (w.list-is, w.out-is, w.place-is) (party_sends _ _ c.loop-i.invariant (omega arith) (search rules) w.heard_so_far-begun.ensures w.hear-heard.ensures)
      | else-c-ge256+then-list-i-gt0 w ↦ rw (w.list-is, w.out-is, w.place-is) (party_falls_silent quiet_monitor 0 c.loop-i.invariant (omega arith) (search rules) w.quiet_monitor.ensures)
      | else-c-ge256+else-list-i-gt0 w ↦ rw (w.list-is, w.out-is, w.place-is) (party_stays_silent _ 0 c.loop-i.invariant (omega arith) (search rules) w.if-list-i-gt0.false)
    ]

pub loop-k-preserved : goal.loop-k-preserved
loop-k-preserved c = rows_more _ c.loop-k.invariant (omega arith) c.row_is_lone-lone.ensures c.loop-i.invariant (omega arith)

pub returns : goal.returns
returns c = rows_all _ _ _ _ _ _ _ _ _ _ c.loop-k.k c.rows_listed-k-end.ensures c.loop-k.invariant (omega arith)
