use Rattle.std.proofs.Common.{◌≡◌, drop}
use Rattle.server_main.specs.ServedParts.{full_of_links}
use Rattle.server_main.proofs.ending.full_in_links.Given as goal

abbrev pub invariant-loop-link : goal.invariant-loop-link
invariant-loop-link l = full_of_links (drop l.link-index l.links) ≡ full_of_links l.links
