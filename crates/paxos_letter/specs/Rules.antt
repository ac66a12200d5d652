-- The rules that each packet keeps by itself, as tests of its fields. Source: docs/WIRE.md.
use Rattle.std.specs.Prelude.{ℕ, pos, ◌^◌, List, [], ◌∷◌, Bool, true, false, not, ◌&&◌, ◌||◌, ◌==◌, nat_lt, nat_le, IsTrue}
use Rattle.std.specs.Int.{bit_at}
use Rattle.std.specs.List.{list_all}
use Rattle.std.specs.Ordering.{int_eq}
use Rattle.paxos_base.specs.Ballot.{is_ballot_of}
use Rattle.paxos_base.specs.Packet.{Field, KindField, FromField, TagField, ZeroField, JobField, BallotField, SlotField, OldField, AtField, NowField, LastField, all_fields}
use Rattle.paxos_letter.specs.declared.fields.Fields.{Fields}
use Rattle.paxos_letter.specs.Kinds.{promise, old_vote_kind, accept, nack, known, ask_from, snap, snap_row}

-- a packet of its kind has an entry
abbrev pub has_entry : Fields → Bool
has_entry fields = (fields.kind == old_vote_kind) || ((fields.kind == accept) || (fields.kind == known))

-- a packet of its kind has a row
abbrev pub has_row : Fields → Bool
has_row fields = fields.kind == snap_row

-- the row has a cursor
abbrev pub has_cursor : Fields → Bool
has_cursor fields = bit_at fields.tag 0 == 1

-- the row's job is open
abbrev pub is_open : Fields → Bool
is_open fields = bit_at fields.tag 1 == 1

-- the row has a last
abbrev pub has_last : Fields → Bool
has_last fields = bit_at fields.tag 2 == 1

-- ---- the kind is known, and so are the tag and the counts

-- a row's tag has three bits, an open job has a cursor, and counts are below 2^32
abbrev pub keeps_row : Fields → Bool
keeps_row fields =
    nat_lt fields.tag 8 && ((not (is_open fields) || has_cursor fields) && (nat_lt fields.ballot (2 ^ 32) && nat_lt fields.old (2 ^ 32)))

-- there is such a kind, an entry's tag is at most 4, and a row keeps its rules
abbrev pub keeps_kind : Fields → Bool
keeps_kind fields =
    (nat_le 1 fields.kind && nat_le fields.kind 11) && ((not (has_entry fields) || nat_le fields.tag 4) && (not (has_row fields) || keeps_row fields))

-- ---- a field that isn't used is 0

-- an entry of this tag says when its launch is due: a Noop and a Table don't
abbrev pub says_at : Fields → Bool
says_at fields = not ((fields.tag == 0) || (fields.tag == 4))

-- an entry of this tag says when its leader decided so: a Start and a Table do
abbrev pub says_now : Fields → Bool
says_now fields = (fields.tag == 1) || (fields.tag == 4)

-- A packet of its kind, with its tag, uses the field. A Noop has no use for a job and minutes, an End for now, a Table for at.
abbrev pub uses : Fields → Field → Bool
uses fields KindField = true
uses fields FromField = true
uses fields TagField = has_entry fields || has_row fields
uses fields ZeroField = false
uses fields JobField = (has_entry fields && not (fields.tag == 0)) || has_row fields
uses fields BallotField = not ((fields.kind == known) || ((fields.kind == ask_from) || (fields.kind == snap)))
uses fields SlotField = not (fields.kind == nack)
uses fields OldField =
    (fields.kind == promise) || ((fields.kind == old_vote_kind) || ((fields.kind == nack) || ((fields.kind == snap) || (fields.kind == snap_row))))
uses fields AtField = (has_entry fields && says_at fields) || (has_row fields && has_cursor fields)
uses fields NowField = (has_entry fields && says_now fields) || (has_row fields && is_open fields)
uses fields LastField = has_row fields && has_last fields

-- the field is 0
abbrev pub is_zero : Fields → Field → Bool
is_zero fields KindField = fields.kind == 0
is_zero fields FromField = fields.from == 0
is_zero fields TagField = fields.tag == 0
is_zero fields ZeroField = fields.zero == 0
is_zero fields JobField = fields.job == 0
is_zero fields BallotField = fields.ballot == 0
is_zero fields SlotField = fields.slot == 0
is_zero fields OldField = fields.old == 0
is_zero fields AtField = int_eq fields.at (pos 0)
is_zero fields NowField = int_eq fields.moment (pos 0)
is_zero fields LastField = int_eq fields.last (pos 0)

-- the field is 0 where it isn't used
abbrev pub keeps_zero : Fields → Field → Bool
keeps_zero fields field = uses fields field || is_zero fields field

-- each field is
abbrev pub keeps_zeros : Fields → Bool
keeps_zeros fields = list_all (keeps_zero fields) all_fields

-- the fields of ballots, counts and slots
abbrev pub number_fields : List Field
number_fields = BallotField ∷ SlotField ∷ OldField ∷ []

-- the fields of an entry, and those that a row has beside its numbers
abbrev pub other_fields : List Field
other_fields = TagField ∷ JobField ∷ AtField ∷ NowField ∷ LastField ∷ []

-- ---- the sender and the ballots are of the members

-- the field ballot has a ballot
abbrev pub has_ballot : Fields → Bool
has_ballot fields = uses fields BallotField && not (has_row fields)

-- the field old has one
abbrev pub has_old_ballot : Fields → Bool
has_old_ballot fields = (fields.kind == old_vote_kind) || (fields.kind == nack)

-- the letter's sender is one of that many replicas, and the packet is of that sender
abbrev pub keeps_members : ℕ → ℕ → Fields → Bool
keeps_members members sender fields =
    (nat_lt fields.from members && (fields.from == sender))
    && ((not (has_ballot fields) || is_ballot_of members fields.ballot) && (not (has_old_ballot fields) || is_ballot_of members fields.old))

-- the fields break no rule that a packet of the sender keeps by itself
pub record KeepsRules (members sender : ℕ) (fields : Fields) : Type 0 where
  pub kind : IsTrue (keeps_kind fields)
  pub zeros : IsTrue (keeps_zeros fields)
  pub members_keep : IsTrue (keeps_members members sender fields)
