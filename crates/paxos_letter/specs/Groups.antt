-- How packets follow one another in a letter. Source: docs/WIRE.md.
use Rattle.std.specs.Prelude.{◌+◌, ◌-◌, Bool, false, not, ◌&&◌, ◌||◌, ◌==◌, nat_lt, if◌then◌else◌, List, [], ◌∷◌}
use Rattle.paxos_letter.specs.declared.fields.Fields.{Fields}
use Rattle.paxos_letter.specs.declared.group.Group.{Group}
use Rattle.paxos_letter.specs.Kinds.{prepare, promise, old_vote_kind, accept, snap, snap_row}

-- before the first packet: nothing is owed, and nothing was asked
abbrev pub no_group : Group
no_group = record { votes = 0; rows = 0; job = 0; asked = false }

-- no OldVote and no SnapRow is owed
abbrev pub is_filled : Group → Bool
is_filled group = (group.votes == 0) && (group.rows == 0)

-- one of the kinds of which a letter has at most one packet
abbrev pub asks : Fields → Bool
asks fields = (fields.kind == prepare) || ((fields.kind == accept) || (fields.kind == snap))

-- The packet may follow: an OldVote or a row where one is owed, rows in the order of their jobs, any other packet where
-- none is owed.
abbrev pub keeps_group : Group → Fields → Bool
keeps_group group fields =
    if fields.kind == old_vote_kind then nat_lt 0 group.votes
    else if fields.kind == snap_row then nat_lt 0 group.rows && (fields.job == group.job)
    else is_filled group && not (group.asked && asks fields)

-- what is owed after the packet
abbrev pub after : Group → Fields → Group
after group fields =
    if fields.kind == old_vote_kind then record group { votes = group.votes - 1 }
    else if fields.kind == snap_row then record group { rows = group.rows - 1; job = group.job + 1 }
    else record {
      votes = if fields.kind == promise then fields.old else 0;
      rows = if fields.kind == snap then fields.old else 0;
      job = 0;
      asked = group.asked || asks fields;
    }

-- each packet may follow those before it, and nothing is owed at the end
abbrev pub keep_groups : Group → List Fields → Bool
keep_groups group [] = is_filled group
keep_groups group (first ∷ rest) = keeps_group group first && keep_groups (after group first) rest
