use Rattle.std.proofs.Common.{◌-◌, ◌≤◌, pos}
use Rattle.jiff.specs.Words.{plain_zone}
use Rattle.zone_minutes.proofs.RunLemmas.{IsListed}
use Rattle.zone_minutes.proofs.listing.list_runs.Given as goal

abbrev pub invariant-steady : goal.invariant-steady
invariant-steady l = (l.minute ≤ l.until) × IsListed (plain_zone l.zone) (pos l.from) (pos l.until) (pos l.start) (pos l.minute) l.ahead l.runs.items

abbrev pub decreases-steady : goal.decreases-steady
decreases-steady l = l.until - l.minute
