-- The letters of a legal book are within the bounds that a replica counts with, so that they are heard whole.
use Rattle.std.proofs.Common.{◌≡◌, ℕ, ◌*◌, ◌<◌, ◌≤◌, ◌^◌, true, ltb, List, [], ◌∷◌, ◌++◌, length, map, get_or, inl, inr, refl, sym, ap, ◌∙◌, arith}
use Rattle.std.specs.List.{Contains, flat_map}
use Rattle.std.proofs.lemmas.Bool.{and_from, and_parts, eq-eqb, lt-ltb}
use Rattle.std.proofs.lemmas.List.{length-set}
use Rattle.std.proofs.lemmas.List.Elements.{All-contains}
use Rattle.paxos_base.specs.declared.rows.TableSize.{TableSize}
use Rattle.paxos_base.specs.Ballot.{round_of}
use Rattle.paxos_base.specs.Rows.{RowsStand, fits_table, fresh_row, row_count}
use Rattle.paxos_base.specs.declared.entry.Entry.{Entry}
use Rattle.paxos_base.specs.declared.entry.Entry.TheVariants.{Noop, Start, End, Table as TableEntry}
use Rattle.paxos_base.specs.declared.entry.Vote.{Vote}
use Rattle.paxos_base.specs.declared.rows.JobRow.{JobRow}
use Rattle.paxos_letter.specs.Letters.{Spells}
use Rattle.paxos_letter.specs.declared.packet.Packet.{Packet}
use Rattle.paxos_letter.specs.declared.packet.Packet.TheVariants as packet
use Rattle.paxos_letter.proofs.LetterLemmas.{letter_again, letters_have_packets}
use Rattle.paxos_letter.proofs.PacketBack.{same_packets}
use Rattle.due_set.specs.Table.{IsSound, Table}
use Rattle.launch_machine.specs.Clerk.{Applies, AppliesAll, adopted_row, closed_row, first_rows, opened_row, table_size}
use Rattle.step_spec.specs.Heard.{heard_as, old_vote, packets_of}
use Rattle.step_spec.specs.Letters.{IsHeardAs, are_small, is_small, is_small_ballot, is_small_letter, is_small_slot}
use Rattle.step_spec.specs.May.{HasSaid}
use Rattle.step_spec.specs.Message.{Message, Prepare, Promise, Accept, Accepted, Nack, Known, AskFrom, Snap, Lead, Mention}
use Rattle.step_spec.proofs.HeardLemmas.{messages_heard}
use Rattle.agreement.specs.World.{World}
use Rattle.agreement.proofs.Transitions.{IsFollowed}
use Rattle.history.specs.Book.{PostedLetter, Row, standing_after}
use Rattle.history.specs.Legal.{IsLegal}
use Rattle.history.specs.Numbers.{AreRowsBelow, IsMessageWithin, IsVoteWithin}
use Rattle.history.proofs.BookLemmas.{stands}
use Rattle.history.proofs.Launched.{few_launched}
use Rattle.history.proofs.TableRows.{rows_fit}
use Rattle.launch_machine.proofs.VersionRows.{clerk_stands}
use Rattle.history.proofs.Within.{message_within}
use Rattle.due_set.proofs.Rising.{Contains-head as in_first, Contains-tail as in_rest}

-- ---- rows

pub Applies-length : (table : Table) (rows : List JobRow) (entry : Entry) (middle : List JobRow) → Applies table rows entry middle → length middle ≡ length rows
Applies-length table rows Noop middle (inl (takes, is)) = absurd takes
Applies-length table rows (TableEntry version now) middle (inl (takes, is)) =
    let own : ℕ = length table.jobs in ap length is ∙ length-set rows own (adopted_row version now (get_or rows own (fresh_row own)))
Applies-length table rows (Start job at now) middle (inl (takes, is)) = ap length is ∙ length-set rows job (opened_row at now (get_or rows job (fresh_row job)))
Applies-length table rows (End job at kind) middle (inl (takes, is)) = ap length is ∙ length-set rows job (closed_row at kind (get_or rows job (fresh_row job)))
Applies-length table rows entry middle (inr (none, is)) = ap length is

pub AppliesAll-length : (table : Table) (rows : List JobRow) (entries : List Entry) (last : List JobRow) → AppliesAll table rows entries last → length last ≡ length rows
AppliesAll-length table rows [] last is = ap length is
AppliesAll-length table rows (entry ∷ entries) last (middle, applies, rest) = AppliesAll-length table middle entries last rest ∙ Applies-length table rows entry middle applies

-- the rows that a message has are those of the table, and their counts are within the bounds
abbrev HasRows : Table → Message → Type 0
HasRows table (Snap slot rows) = RowsStand rows (table_size table) × AreRowsBelow (2 ^ 20) rows
HasRows table message = Unit {0}

has_rows : (n : ℕ) (table : Table) (w : World) (q : ℕ) (message : Message) → IsSound table → IsFollowed n table (first_rows table) w → HasSaid w.said q message → HasRows table message
has_rows n table w q (Snap slot rows) sound followed has =
    let at = followed.tables.snaps q slot rows has in
    (clerk_stands table at.entries rows at.applied, few_launched table at.entries rows sound at.applied)
has_rows n table w q message sound followed has = tt

-- ---- packets

small_ballot : (most ballot : ℕ) → most < 2 ^ 59 → round_of ballot ≤ most → is_small_ballot ballot ≡ true
small_ballot most ballot short low = lt-ltb (round_of ballot) (2 ^ 59) (omega (arith, short, low))

small_slot : (most slot : ℕ) → most < 2 ^ 59 → slot ≤ most → is_small_slot slot ≡ true
small_slot most slot short low = lt-ltb slot (2 ^ 62) (omega (arith, short, low))

small_append : (size : TableSize) (xs ys : List Packet) → are_small size xs ≡ true → are_small size ys ≡ true → are_small size (xs ++ ys) ≡ true
small_append size [] ys front back = back
small_append size (x ∷ xs) ys front back =
    let parts = and_parts (is_small size x) (are_small size xs) front in
    and_from (is_small size x) (are_small size (xs ++ ys)) parts.0 (small_append size xs ys parts.1 back)

small_votes : (size : TableSize) (most ballot : ℕ) (votes : List Vote) → most < 2 ^ 59 → round_of ballot ≤ most → ((vote : Vote) → Contains votes vote → IsVoteWithin most vote) → are_small size (map (old_vote ballot) votes) ≡ true
small_votes size most ballot [] short low each = refl
small_votes size most ballot (vote ∷ votes) short low each =
    let here = each vote (in_first vote votes) in
    let slot : vote.slot ≤ most = omega (arith, here.slot) in
    and_from _ _ (and_from _ _ (small_ballot most ballot short low) (and_from _ _ (small_slot most vote.slot short slot) (small_ballot most vote.ballot short here.round)))
    (small_votes size most ballot votes short low (λ other has. each other (in_rest vote votes other has)))

small_rows : (size : TableSize) (most slot : ℕ) (rows : List JobRow) → most < 2 ^ 59 → slot ≤ most → ((row : JobRow) → Contains rows row → (row.launched < 2 ^ 20) × (row.voided < 2 ^ 20))
    → ((row : JobRow) → Contains rows row → fits_table size row ≡ true) → are_small size (map (packet.SnapRow slot) rows) ≡ true
small_rows size most slot [] short low each fit = refl
small_rows size most slot (row ∷ rows) short low each fit =
    let here = each row (in_first row rows) in
    let counts = and_from _ _ (lt-ltb row.launched (2 ^ 31) (omega (arith, here.0))) (lt-ltb row.voided (2 ^ 31) (omega (arith, here.1))) in
    and_from _ _ (and_from _ _ (small_slot most slot short low) (and_from _ _ counts (fit row (in_first row rows))))
    (small_rows size most slot rows short low (λ other has. each other (in_rest row rows other has)) (λ other has. fit other (in_rest row rows other has)))

one_small : (size : TableSize) (one : Packet) → is_small size one ≡ true → are_small size (one ∷ []) ≡ true
one_small size one is = and_from (is_small size one) true is refl

message_small : (table : Table) (most : ℕ) (message : Message) → most < 2 ^ 59 → IsMessageWithin most message → HasRows table message → are_small (table_size table) (packets_of message) ≡ true
unfolding packets_of
message_small table most (Prepare ballot slot) short (round, low) has = one_small (table_size table) (packet.Prepare ballot slot) (and_from _ _ (small_ballot most ballot short round) (small_slot most slot short low))
message_small table most (Promise ballot slot votes) short (round, low, within) has =
    and_from _ _ (and_from _ _ (small_ballot most ballot short round) (small_slot most slot short low))
    (small_votes (table_size table) most ballot votes short round (λ vote inside. All-contains (IsVoteWithin most) votes vote within inside))
message_small table most (Accept vote) short within has =
    let slot : vote.slot ≤ most = omega (arith, within.slot) in
    one_small (table_size table) (packet.Accept vote.ballot vote.slot vote.entry) (and_from _ _ (small_ballot most vote.ballot short within.round) (small_slot most vote.slot short slot))
message_small table most (Accepted ballot slot) short (round, low) has = one_small (table_size table) (packet.Accepted ballot slot) (and_from _ _ (small_ballot most ballot short round) (small_slot most slot short low))
message_small table most (Nack ballot promised) short (round, low) has = one_small (table_size table) (packet.Nack ballot promised) (and_from _ _ (small_ballot most ballot short round) (small_ballot most promised short low))
message_small table most (Known slot entry) short low has = one_small (table_size table) (packet.Known slot entry) (small_slot most slot short low)
message_small table most (AskFrom slot) short low has = one_small (table_size table) (packet.AskFrom slot) (small_slot most slot short low)
message_small table most (Snap slot rows) short (low, within) (stand, below) =
    and_from _ _ (and_from _ _ (small_slot most slot short low) (eq-eqb (length rows) (row_count (table_size table)) stand.numbered.count))
    (small_rows (table_size table) most slot rows short low (λ row inside. All-contains (λ row. (row.launched < 2 ^ 20) × (row.voided < 2 ^ 20)) rows row below inside) (rows_fit table rows stand))
message_small table most (Lead ballot slot) short (round, low) has = one_small (table_size table) (packet.Lead ballot slot) (and_from _ _ (small_ballot most ballot short round) (small_slot most slot short low))
message_small table most (Mention ballot) short low has = refl

messages_small : (table : Table) (messages : List Message) → ((message : Message) → Contains messages message → are_small (table_size table) (packets_of message) ≡ true) → are_small (table_size table) (flat_map packets_of messages) ≡ true
messages_small table [] each = refl
messages_small table (message ∷ messages) each =
    small_append (table_size table) (packets_of message) (flat_map packets_of messages) (each message (in_first message messages))
    (messages_small table messages (λ other has. each other (in_rest message messages other has)))

-- ---- letters

pub letters_small : (n : ℕ) (table : Table) (book : List Row) (letter : PostedLetter) (packets : List Packet) → n ≤ 7 → IsSound table → IsLegal n table book → length book < 2 ^ 59 → Contains (standing_after n (first_rows table) book).posted letter
    → Spells n letter.from packets letter.bytes → are_small (table_size table) packets ≡ true
letters_small n table book letter packets few sound legal short posted spells =
    let there = stands n table book few legal in
    let spelled = there.matches.spelled letter posted in
    let one = letter_again n letter.from packets letter.bytes spells in
    let two = letter_again n letter.from (flat_map packets_of spelled.messages) letter.bytes spelled.spells in
    let same : packets ≡ flat_map packets_of spelled.messages = same_packets letter.from letter.from packets (flat_map packets_of spelled.messages) (sym one.fields ∙ two.fields) in
    rw same (messages_small table spelled.messages (λ message has.
    message_small table (length book) message short (message_within (length book) n table there.w letter.from message there.followed there.bounded (spelled.each message has))
    (has_rows n table there.w letter.from message sound there.followed (spelled.each message has))))

pub letters_whole : (n : ℕ) (table : Table) (book : List Row) (letter : PostedLetter) → n ≤ 7 → IsSound table → IsLegal n table book → length book < 2 ^ 59 → Contains (standing_after n (first_rows table) book).posted letter
    → length letter.bytes < 56 * 2 ^ 31
    → (sent : List Message) × Spells n letter.from (flat_map packets_of sent) letter.bytes × IsHeardAs n (table_size table) letter.bytes letter.from (flat_map heard_as sent)
letters_whole n table book letter few sound legal short posted small_bytes =
    let spelled = (stands n table book few legal).matches.spelled letter posted in
    let packets : List Packet = flat_map packets_of spelled.messages in
    let long = (letters_have_packets n letter.from packets letter.bytes spelled.spells).1 in
    let fewer : length packets < 2 ^ 31 = omega (arith, long, small_bytes) in
    let small : is_small_letter (table_size table) packets ≡ true =
    and_from (ltb (length packets) (2 ^ 31)) (are_small (table_size table) packets) (lt-ltb (length packets) (2 ^ 31) fewer) (letters_small n table book letter packets few sound legal short posted spelled.spells) in
    (spelled.messages, spelled.spells, record { packets = packets; spells = spelled.spells; heard = rw small (sym (messages_heard spelled.messages)) })
