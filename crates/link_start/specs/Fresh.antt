-- How the code stands for what is to be believed.
-- The lent rows of a link that has just started: zero bytes in each.
use Rattle.std.specs.Prelude.{replicate}
use Rattle.frame.specs.Limits.{most_data, longest_frame}
use Rattle.turns.specs.Link as L
use Rattle.link_parties.specs.Stands.{Rows, rows_of, link_of}
use Rattle.link_parties.specs.declared.Link.{Link}

abbrev pub rows_fresh : Rows
rows_fresh = rows_of (replicate 8 (replicate (longest_frame most_data) 0)) (replicate 8 (replicate most_data 0)) (replicate 6 (replicate most_data 0))

-- the link of crates/turns/specs/Link.antt that starts with them
abbrev pub lent_fresh : Link → L.Link
lent_fresh l = link_of l rows_fresh
