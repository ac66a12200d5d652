-- For callers: which lists of packets are letters.
use Rattle.std.proofs.Common.{◌≡◌, ◌≢◌, ℕ, ◌+◌, ◌-◌, ◌%◌, ◌<◌, ◌^◌, Bool, true, false, not, ◌&&◌, ◌||◌, eqb, ltb, ℤ, List, [], ◌∷◌, length, map, Option, Some, None, suc, refl, ap, subst, arith}
use Rattle.std.specs.Prelude.{⊤, IsTrue, IsSome, All, slice_get}
use Rattle.std.proofs.lemmas.List.Elements.{All-head, All-tail}
use Rattle.std.specs.List.{AllByRecursion}
use Rattle.std.proofs.lemmas.Bool.{and_from, and_parts, lt-ltb, eq-eqb, false≢true}
use Rattle.paxos_base.specs.Ballot.{IsBallot, member_of, is_ballot_of}
use Rattle.paxos_base.specs.Rows.{OpenHasCursor, OpenHaveCursors, AreNumbered}
use Rattle.paxos_base.specs.declared.rows.JobRow.{JobRow}
use Rattle.paxos_base.specs.declared.entry.Entry.TheVariants.{Noop, Start, End, Table}
use Rattle.paxos_base.specs.declared.entry.Kind.TheVariants.{Launch, Void}
use Rattle.paxos_letter.specs.declared.group.Group.{Group}
use Rattle.paxos_letter.specs.declared.packet.Packet.{Packet}
use Rattle.paxos_letter.specs.declared.packet.Packet.TheVariants.{Prepare, Promise, OldVote, Accept, Accepted, Nack, Known, AskFrom, Snap, SnapRow, Lead}
use Rattle.paxos_letter.specs.Copies.{copy_of, HasFewCounts}
use Rattle.paxos_letter.specs.Spelling.{fields_of}
use Rattle.paxos_letter.specs.Rules.{keeps_kind, keeps_members}
use Rattle.paxos_letter.specs.Groups.{no_group, keep_groups}
use Rattle.paxos_letter.specs.Letters.{IsLetter}

-- a ballot of one of that many replicas
pub is_ballot_of-from : (members number : ℕ) → IsBallot number → member_of number < members → is_ballot_of members number ≡ true
is_ballot_of-from members number ballot below =
    and_from _ _ (and_parts _ _ ballot.of_seven).0 (lt-ltb (number % 8) members below)

-- ---- kinds

-- a row's launch that is open has a cursor, and its counts have 32 bits
abbrev pub RowKeeps : Packet → Type 0
RowKeeps (SnapRow slot row) = OpenHasCursor row × (row.launched < 2 ^ 32) × (row.voided < 2 ^ 32)
RowKeeps packet = ⊤

keeps_kind-row : (from slot job launched voided : ℕ) (cursor started last : Option ℤ) → (IsSome started → IsSome cursor) → launched < 2 ^ 32 → voided < 2 ^ 32
    → keeps_kind (fields_of from (SnapRow slot (record { job = job; cursor = cursor; open_now = started; last = last; launched = launched; voided = voided }))) ≡ true
keeps_kind-row from slot job launched voided None None None h p q = rw (lt-ltb launched (2 ^ 32) p, lt-ltb voided (2 ^ 32) q) refl
keeps_kind-row from slot job launched voided None None (Some l) h p q = rw (lt-ltb launched (2 ^ 32) p, lt-ltb voided (2 ^ 32) q) refl
keeps_kind-row from slot job launched voided None (Some o) last h p q = absurd (false≢true (h refl))
keeps_kind-row from slot job launched voided (Some a) None None h p q = rw (lt-ltb launched (2 ^ 32) p, lt-ltb voided (2 ^ 32) q) refl
keeps_kind-row from slot job launched voided (Some a) None (Some l) h p q = rw (lt-ltb launched (2 ^ 32) p, lt-ltb voided (2 ^ 32) q) refl
keeps_kind-row from slot job launched voided (Some a) (Some o) None h p q = rw (lt-ltb launched (2 ^ 32) p, lt-ltb voided (2 ^ 32) q) refl
keeps_kind-row from slot job launched voided (Some a) (Some o) (Some l) h p q = rw (lt-ltb launched (2 ^ 32) p, lt-ltb voided (2 ^ 32) q) refl

pub keeps_kind-packet : (from : ℕ) (packet : Packet) → RowKeeps packet → IsTrue (keeps_kind (fields_of from packet))
keeps_kind-packet from (Prepare ballot slot) row = refl
keeps_kind-packet from (Promise ballot slot count) row = refl
keeps_kind-packet from (OldVote ballot slot cast Noop) row = refl
keeps_kind-packet from (OldVote ballot slot cast (Start job at now)) row = refl
keeps_kind-packet from (OldVote ballot slot cast (End job at Launch)) row = refl
keeps_kind-packet from (OldVote ballot slot cast (End job at Void)) row = refl
keeps_kind-packet from (OldVote ballot slot cast (Table version now)) row = refl
keeps_kind-packet from (Accept ballot slot Noop) row = refl
keeps_kind-packet from (Accept ballot slot (Start job at now)) row = refl
keeps_kind-packet from (Accept ballot slot (End job at Launch)) row = refl
keeps_kind-packet from (Accept ballot slot (End job at Void)) row = refl
keeps_kind-packet from (Accept ballot slot (Table version now)) row = refl
keeps_kind-packet from (Accepted ballot slot) row = refl
keeps_kind-packet from (Nack ballot promised) row = refl
keeps_kind-packet from (Known slot Noop) row = refl
keeps_kind-packet from (Known slot (Start job at now)) row = refl
keeps_kind-packet from (Known slot (End job at Launch)) row = refl
keeps_kind-packet from (Known slot (End job at Void)) row = refl
keeps_kind-packet from (Known slot (Table version now)) row = refl
keeps_kind-packet from (AskFrom slot) row = refl
keeps_kind-packet from (Snap slot count) row = refl
keeps_kind-packet from (SnapRow slot r) row = keeps_kind-row from slot r.job r.launched r.voided r.cursor r.open_now r.last row.0 row.1 row.2
keeps_kind-packet from (Lead ballot slot) row = refl

-- ---- members

-- the packet's ballots are of the members
abbrev pub BallotsKeep : ℕ → Packet → Type 0
BallotsKeep members (Prepare ballot slot) = IsTrue (is_ballot_of members ballot)
BallotsKeep members (Promise ballot slot count) = IsTrue (is_ballot_of members ballot)
BallotsKeep members (OldVote ballot slot cast entry) = IsTrue (is_ballot_of members ballot) × IsTrue (is_ballot_of members cast)
BallotsKeep members (Accept ballot slot entry) = IsTrue (is_ballot_of members ballot)
BallotsKeep members (Accepted ballot slot) = IsTrue (is_ballot_of members ballot)
BallotsKeep members (Nack ballot promised) = IsTrue (is_ballot_of members ballot) × IsTrue (is_ballot_of members promised)
BallotsKeep members (Lead ballot slot) = IsTrue (is_ballot_of members ballot)
BallotsKeep members packet = ⊤

sender_keeps : (members from : ℕ) (rest : Bool) → from < members → rest ≡ true → ((ltb from members && eqb from from) && rest) ≡ true
sender_keeps members from rest below keeps =
    and_from _ _ (and_from _ _ (lt-ltb from members below) (eq-eqb from from refl)) keeps

pub keeps_members-packet : (members from : ℕ) (packet : Packet) → from < members → BallotsKeep members packet → IsTrue (keeps_members members from (fields_of from packet))
keeps_members-packet members from (Prepare ballot slot) below keeps = sender_keeps members from _ below (and_from _ _ keeps refl)
keeps_members-packet members from (Promise ballot slot count) below keeps = sender_keeps members from _ below (and_from _ _ keeps refl)
keeps_members-packet members from (OldVote ballot slot cast entry) below keeps = sender_keeps members from _ below (and_from _ _ keeps.0 keeps.1)
keeps_members-packet members from (Accept ballot slot entry) below keeps = sender_keeps members from _ below (and_from _ _ keeps refl)
keeps_members-packet members from (Accepted ballot slot) below keeps = sender_keeps members from _ below (and_from _ _ keeps refl)
keeps_members-packet members from (Nack ballot promised) below keeps = sender_keeps members from _ below (and_from _ _ keeps.0 keeps.1)
keeps_members-packet members from (Known slot entry) below keeps = sender_keeps members from _ below refl
keeps_members-packet members from (AskFrom slot) below keeps = sender_keeps members from _ below refl
keeps_members-packet members from (Snap slot count) below keeps = sender_keeps members from _ below refl
keeps_members-packet members from (SnapRow slot row) below keeps = sender_keeps members from _ below refl
keeps_members-packet members from (Lead ballot slot) below keeps = sender_keeps members from _ below (and_from _ _ keeps refl)

-- ---- groups

abbrev pub IsOldVote : Packet → Type 0
IsOldVote (OldVote ballot slot cast entry) = ⊤
IsOldVote packet = ⊥

abbrev pub IsKnown : Packet → Type 0
IsKnown (Known slot entry) = ⊤
IsKnown packet = ⊥

-- as many votes as are owed
pub votes-filled : (from : ℕ) (votes : List Packet) (group : Group) → group.votes ≡ length votes → group.rows ≡ 0 → AllByRecursion IsOldVote votes → keep_groups group (map (fields_of from) votes) ≡ true
votes-filled from [] group owed rows all = and_from _ _ (eq-eqb group.votes 0 owed) (eq-eqb group.rows 0 rows)
votes-filled from (OldVote ballot slot cast entry ∷ votes) group owed rows all =
    and_from _ _ (lt-ltb 0 group.votes (omega arith)) (votes-filled from votes (record group { votes = group.votes - 1 }) (omega arith) rows all.1)
votes-filled from (Prepare ballot slot ∷ votes) group owed rows all = absurd all.0
votes-filled from (Promise ballot slot count ∷ votes) group owed rows all = absurd all.0
votes-filled from (Accept ballot slot entry ∷ votes) group owed rows all = absurd all.0
votes-filled from (Accepted ballot slot ∷ votes) group owed rows all = absurd all.0
votes-filled from (Nack ballot promised ∷ votes) group owed rows all = absurd all.0
votes-filled from (Known slot entry ∷ votes) group owed rows all = absurd all.0
votes-filled from (AskFrom slot ∷ votes) group owed rows all = absurd all.0
votes-filled from (Snap slot count ∷ votes) group owed rows all = absurd all.0
votes-filled from (SnapRow slot row ∷ votes) group owed rows all = absurd all.0
votes-filled from (Lead ballot slot ∷ votes) group owed rows all = absurd all.0

-- the rows from a job on
abbrev pub AreRowsFrom : ℕ → List Packet → Type 0
AreRowsFrom job [] = ⊤
AreRowsFrom job (SnapRow slot row ∷ rows) = (row.job ≡ job) × AreRowsFrom (job + 1) rows
AreRowsFrom job (packet ∷ rows) = ⊥

-- as many rows as are owed
pub rows-filled : (from : ℕ) (rows : List Packet) (group : Group) → group.rows ≡ length rows → group.votes ≡ 0 → AreRowsFrom group.job rows → keep_groups group (map (fields_of from) rows) ≡ true
rows-filled from [] group owed votes all = and_from _ _ (eq-eqb group.votes 0 votes) (eq-eqb group.rows 0 owed)
rows-filled from (SnapRow slot row ∷ rows) group owed votes all =
    and_from _ _ (and_from _ _ (lt-ltb 0 group.rows (omega arith)) (eq-eqb row.job group.job all.0)) (rows-filled from rows (record group { rows = group.rows - 1; job = group.job + 1 }) (omega arith) votes all.1)
rows-filled from (Prepare ballot slot ∷ rows) group owed votes all = absurd all
rows-filled from (Promise ballot slot count ∷ rows) group owed votes all = absurd all
rows-filled from (OldVote ballot slot cast entry ∷ rows) group owed votes all = absurd all
rows-filled from (Accept ballot slot entry ∷ rows) group owed votes all = absurd all
rows-filled from (Accepted ballot slot ∷ rows) group owed votes all = absurd all
rows-filled from (Nack ballot promised ∷ rows) group owed votes all = absurd all
rows-filled from (Known slot entry ∷ rows) group owed votes all = absurd all
rows-filled from (AskFrom slot ∷ rows) group owed votes all = absurd all
rows-filled from (Snap slot count ∷ rows) group owed votes all = absurd all
rows-filled from (Lead ballot slot ∷ rows) group owed votes all = absurd all

-- ---- letters

-- the packets' ballots are of the members, and their rows may be written
abbrev pub Keeps : ℕ → Packet → Type 0
Keeps members packet = RowKeeps packet × BallotsKeep members packet

kinds_keep : (members from : ℕ) (packets : List Packet) → AllByRecursion (Keeps members) packets → AllByRecursion (λ packet. IsTrue (keeps_kind (fields_of from packet))) packets
kinds_keep members from [] keep = tt
kinds_keep members from (p ∷ ps) keep = (keeps_kind-packet from p keep.0.0, kinds_keep members from ps keep.1)

members_keep : (members from : ℕ) (packets : List Packet) → from < members → AllByRecursion (Keeps members) packets → AllByRecursion (λ packet. IsTrue (keeps_members members from (fields_of from packet))) packets
members_keep members from [] below keep = tt
members_keep members from (p ∷ ps) below keep = (keeps_members-packet members from p below keep.0.1, members_keep members from ps below keep.1)

-- a list of packets is a letter where each keeps the rules, and their groups are whole
pub IsLetter-from : (members from : ℕ) (packets : List Packet) → packets ≢ [] → from < members → AllByRecursion (Keeps members) packets → IsTrue (keep_groups no_group (map (fields_of from) packets)) → IsLetter members from packets
IsLetter-from members from packets some below keep groups =
    record { some = some; kinds = kinds_keep members from packets keep; members_keep = members_keep members from packets below keep; groups = groups }

some_first : (first : Packet) (rest : List Packet) → first ∷ rest ≢ []
some_first first rest e = absurd cc

-- a promise and its votes
pub IsLetter-promise : (members from ballot slot : ℕ) (votes : List Packet) → from < members → IsTrue (is_ballot_of members ballot) → AllByRecursion (Keeps members) votes → AllByRecursion IsOldVote votes
    → IsLetter members from (Promise ballot slot (length votes) ∷ votes)
IsLetter-promise members from ballot slot votes below ballot_keeps keep all =
    IsLetter-from members from (Promise ballot slot (length votes) ∷ votes) (some_first _ _) below ((tt, ballot_keeps), keep)
    (votes-filled from votes (record { votes = length votes; rows = 0; job = 0; asked = false }) refl refl all)

-- a copy of rows
pub IsLetter-snap : (members from slot : ℕ) (rows : List Packet) → from < members → AllByRecursion (Keeps members) rows → AreRowsFrom 0 rows
    → IsLetter members from (Snap slot (length rows) ∷ rows)
IsLetter-snap members from slot rows below keep all =
    IsLetter-from members from (Snap slot (length rows) ∷ rows) (some_first _ _) below ((tt, tt), keep)
    (rows-filled from rows (record { votes = 0; rows = length rows; job = 0; asked = true }) refl refl all)

unasked : (asked : Bool) → not (asked && false) ≡ true
unasked true = refl
unasked false = refl

knowns-filled : (from : ℕ) (packets : List Packet) (group : Group) → group.votes ≡ 0 → group.rows ≡ 0 → AllByRecursion IsKnown packets → keep_groups group (map (fields_of from) packets) ≡ true
knowns-filled from [] group votes rows all = and_from _ _ (eq-eqb group.votes 0 votes) (eq-eqb group.rows 0 rows)
knowns-filled from (Known slot entry ∷ ps) group votes rows all =
    and_from _ _ (and_from _ _ (and_from _ _ (eq-eqb group.votes 0 votes) (eq-eqb group.rows 0 rows)) (unasked group.asked))
    (knowns-filled from ps (record { votes = 0; rows = 0; job = 0; asked = group.asked || false }) refl refl all.1)
knowns-filled from (Prepare ballot slot ∷ ps) group votes rows all = absurd all.0
knowns-filled from (Promise ballot slot count ∷ ps) group votes rows all = absurd all.0
knowns-filled from (OldVote ballot slot cast entry ∷ ps) group votes rows all = absurd all.0
knowns-filled from (Accept ballot slot entry ∷ ps) group votes rows all = absurd all.0
knowns-filled from (Accepted ballot slot ∷ ps) group votes rows all = absurd all.0
knowns-filled from (Nack ballot promised ∷ ps) group votes rows all = absurd all.0
knowns-filled from (AskFrom slot ∷ ps) group votes rows all = absurd all.0
knowns-filled from (Snap slot count ∷ ps) group votes rows all = absurd all.0
knowns-filled from (SnapRow slot row ∷ ps) group votes rows all = absurd all.0
knowns-filled from (Lead ballot slot ∷ ps) group votes rows all = absurd all.0

knowns_keep : (members : ℕ) (packets : List Packet) → AllByRecursion IsKnown packets → AllByRecursion (Keeps members) packets
knowns_keep members [] all = tt
knowns_keep members (Known slot entry ∷ ps) all = ((tt, tt), knowns_keep members ps all.1)
knowns_keep members (Prepare ballot slot ∷ ps) all = absurd all.0
knowns_keep members (Promise ballot slot count ∷ ps) all = absurd all.0
knowns_keep members (OldVote ballot slot cast entry ∷ ps) all = absurd all.0
knowns_keep members (Accept ballot slot entry ∷ ps) all = absurd all.0
knowns_keep members (Accepted ballot slot ∷ ps) all = absurd all.0
knowns_keep members (Nack ballot promised ∷ ps) all = absurd all.0
knowns_keep members (AskFrom slot ∷ ps) all = absurd all.0
knowns_keep members (Snap slot count ∷ ps) all = absurd all.0
knowns_keep members (SnapRow slot row ∷ ps) all = absurd all.0
knowns_keep members (Lead ballot slot ∷ ps) all = absurd all.0

-- entries that were chosen
pub IsLetter-knowns : (members from : ℕ) (packets : List Packet) → packets ≢ [] → from < members → AllByRecursion IsKnown packets → IsLetter members from packets
IsLetter-knowns members from packets some below all =
    IsLetter-from members from packets some below (knowns_keep members packets all) (knowns-filled from packets no_group refl refl all)

-- a packet that no other has to precede or follow
abbrev pub StandsAlone : Packet → Type 0
StandsAlone (Promise ballot slot count) = count ≡ 0
StandsAlone (OldVote ballot slot cast entry) = ⊥
StandsAlone (Snap slot count) = count ≡ 0
StandsAlone (SnapRow slot row) = ⊥
StandsAlone packet = ⊤

alone-filled : (from : ℕ) (packet : Packet) → StandsAlone packet → keep_groups no_group (fields_of from packet ∷ []) ≡ true
alone-filled from (Prepare ballot slot) alone = refl
alone-filled from (Promise ballot slot count) alone = rw alone refl
alone-filled from (OldVote ballot slot cast entry) alone = absurd alone
alone-filled from (Accept ballot slot entry) alone = refl
alone-filled from (Accepted ballot slot) alone = refl
alone-filled from (Nack ballot promised) alone = refl
alone-filled from (Known slot entry) alone = refl
alone-filled from (AskFrom slot) alone = refl
alone-filled from (Snap slot count) alone = rw alone refl
alone-filled from (SnapRow slot row) alone = absurd alone
alone-filled from (Lead ballot slot) alone = refl

-- one packet
pub IsLetter-one : (members from : ℕ) (packet : Packet) → from < members → Keeps members packet → StandsAlone packet → IsLetter members from (packet ∷ [])
IsLetter-one members from packet below keep alone =
    IsLetter-from members from (packet ∷ []) (some_first packet []) below (keep, tt) (alone-filled from packet alone)

-- ---- a copy of the rows of a table

-- the rows count from a job on
RowsCount : ℕ → List JobRow → Type 0
RowsCount job rows = (k : ℕ) (row : JobRow) → slice_get rows k ≡ Some row → row.job ≡ job + k

rows_from : (slot job : ℕ) (rows : List JobRow) → RowsCount job rows → AreRowsFrom job (map (λ row. SnapRow slot row) rows)
unfolding RowsCount
rows_from slot job [] count = tt
rows_from slot job (row ∷ rows) count = (
  (let first : row.job ≡ job + 0 = count 0 row refl in omega (arith, first)),
  rows_from slot (job + 1) rows (λ k later is. let e : later.job ≡ job + suc k = count (suc k) later is in omega (arith, e)),
)

rows_keep : (members slot : ℕ) (rows : List JobRow) → OpenHaveCursors rows → All HasFewCounts rows → AllByRecursion (Keeps members) (map (λ row. SnapRow slot row) rows)
rows_keep members slot [] cursors few = tt
rows_keep members slot (row ∷ rows) cursors few =
    let counts : HasFewCounts row = All-head HasFewCounts row rows few in (
      ((All-head OpenHasCursor row rows cursors, counts.0, counts.1), tt),
      rows_keep members slot rows (All-tail OpenHasCursor row rows cursors) (All-tail HasFewCounts row rows few),
    )

length-rows : (slot : ℕ) (rows : List JobRow) → length (map (λ row. SnapRow slot row) rows) ≡ length rows
length-rows slot [] = refl
length-rows slot (row ∷ rows) = ap suc (length-rows slot rows)

-- the rows of a table are a letter
pub IsLetter-copy : (members from slot count : ℕ) (rows : List JobRow) → from < members → AreNumbered rows count → OpenHaveCursors rows → All HasFewCounts rows
    → IsLetter members from (copy_of slot rows)
unfolding RowsCount
IsLetter-copy members from slot total rows below stand cursors few =
    let packets : List Packet = map (λ row. SnapRow slot row) rows in
    let count : RowsCount 0 rows = λ k row is. let e : row.job ≡ k = stand.in_order k row is in omega (arith, e) in
    subst (λ (n : ℕ). IsLetter members from (Snap slot n ∷ packets)) (length-rows slot rows)
    (IsLetter-snap members from slot packets below (rows_keep members slot rows cursors few) (rows_from slot 0 rows count))
