-- The letters of a legal book: they are spelled for its replicas, by those who posted them.
use Rattle.std.proofs.Common.{◌≡◌, ℕ, ◌<◌, ◌≤◌, Some, None, List, [], ◌∷◌, ◌++◌, length, Option, refl, sym, ap, subst}
use Rattle.std.specs.List.{AllZip, Contains, flat_map}
use Rattle.paxos_base.specs.declared.rows.TableSize.{TableSize}
use Rattle.paxos_base.specs.Ballot.{member_of}
use Rattle.paxos_base.specs.declared.entry.Vote.{Vote}
use Rattle.paxos_letter.specs.Letters.{Spells, letter_fault_of, sender_of}
use Rattle.paxos_letter.proofs.LetterLemmas.{letter_again, letter_none}
use Rattle.due_set.specs.Table.{Table}
use Rattle.launch_machine.specs.Clerk.{first_rows}
use Rattle.step_spec.specs.Act.{Act}
use Rattle.step_spec.specs.Folds.{calls_of, deltas_of, learnt_of, letters_of}
use Rattle.step_spec.specs.Heard.{packets_of}
use Rattle.step_spec.specs.Letters.{AreLettersOf, IsHeardAs, IsSpelled, heard_in}
use Rattle.step_spec.specs.May.{HasSaid}
use Rattle.step_spec.specs.Message.{Message, Prepare, Promise, Accept, Accepted, Nack, Known, AskFrom, Snap, Lead, Mention}
use Rattle.step_spec.specs.Step.{Event, step}
use Rattle.step_spec.specs.declared.out.OutLetter.{OutLetter}
use Rattle.step_spec.proofs.OutLemmas.{letters_sent}
use Rattle.agreement.specs.Transition as taken
use Rattle.agreement.specs.Transition.{after_transition, identity_of}
use Rattle.agreement.specs.World.{World}
use Rattle.agreement.proofs.Transitions.{IsFollowed, transitions_followed}
use Rattle.history.specs.Book.{PostedLetter, Row, acts_at, learned_in, standing_after, votes_in}
use Rattle.history.specs.Legal.{IsLegal, IsMade, TakesTurn}
use Rattle.history.specs.declared.turn.CallRow.{CallRow}
use Rattle.history.specs.declared.turn.Cause.{Cause}
use Rattle.history.proofs.Acts.{Sends, all_said}
use Rattle.history.proofs.Reached.{may_take, reaches}
use Rattle.history.proofs.Turns.{legal_push}
use Rattle.history.specs.Steps.{step_row}
use Rattle.history.proofs.Keeping.{votes_changed}
use Rattle.history.proofs.BookLemmas.{stands}
use Rattle.history.proofs.Bounded.{Bounded}
use Rattle.history.proofs.Spelled.{IsMessageOf, messages_of_members, spells_of}
use Rattle.history.proofs.TurnBounds.{bounded_transition}
use Rattle.due_set.proofs.Rising.{Contains-head as in_first, Contains-tail as in_rest}

-- the ballots of what is said are of the replicas
said_of_members : (most n : ℕ) (table : Table) (w : World) (q : ℕ) (message : Message) → IsFollowed n table (first_rows table) w → Bounded most n w → HasSaid w.said q message → IsMessageOf n message
said_of_members most n table w q message followed bounded has = go message has
  where
    voted : (ballot slot : ℕ) (votes : List Vote) → HasSaid w.said q (Promise ballot slot votes) → (vote : Vote) → Contains votes vote → member_of vote.ballot < n
    voted ballot slot votes has vote inside =
        let cast = (followed.whole.told.promises q ballot slot votes has).backed vote inside in
        followed.whole.kept.members (member_of vote.ballot) vote (followed.whole.kept.proposed cast.0 vote cast.1)

    go : (message : Message) → HasSaid w.said q message → IsMessageOf n message
    go (Prepare ballot slot) has = (bounded.said q (Prepare ballot slot) has).member
    go (Promise ballot slot votes) has = ((bounded.said q (Promise ballot slot votes) has).member, voted ballot slot votes has)
    go (Accept vote) has = (bounded.said q (Accept vote) has).member
    go (Accepted ballot slot) has = (bounded.said q (Accepted ballot slot) has).member
    go (Nack ballot promised) has = let told = bounded.said q (Nack ballot promised) has in (told.refused_member, told.member)
    go (Known slot entry) has = tt
    go (AskFrom slot) has = tt
    go (Snap slot rows) has = tt
    go (Lead ballot slot) has = (bounded.said q (Lead ballot slot) has).member
    go (Mention ballot) has = tt

-- what holds of each pair of two lists, as of each that is in the first
zip_each : {A B : Type 0} (P Q : A → B → Type 0) (xs : List A) (ys : List B) → ((x : A) (y : B) → Contains xs x → P x y → Q x y) → AllZip P xs ys → AllZip Q xs ys
zip_each P Q [] [] each zips = zips
zip_each P Q [] (y ∷ ys) each zips = zips
zip_each P Q (x ∷ xs) [] each zips = zips
zip_each P Q (x ∷ xs) (y ∷ ys) each zips =
    (each x y (in_first x xs) zips.0, zip_each P Q xs ys (λ other beside has. each other beside (in_rest x xs other has)) zips.1)

-- the letters of a step, where they are spelled for seven replicas
pub letters_for_members : (n : ℕ) (table : Table) (book : List Row) (who : ℕ) (cause : Cause) (event : Event) (letters : List OutLetter) → n ≤ 7 → IsLegal n table book → TakesTurn n table (standing_after n (first_rows table) book) who cause event
    → AllZip (IsSpelled 7 who) (letters_of (identity_of n who) (acts_at n (standing_after n (first_rows table) book) who event)) letters
    → AreLettersOf (identity_of n who) (acts_at n (standing_after n (first_rows table) book) who event) letters
letters_for_members n table book who cause event letters few legal takes spelled =
    let there = stands n table book few legal in
    let may = may_take n table (standing_after n (first_rows table) book) (votes_in book) (learned_in book) there.w who cause event there.matches takes in
    let turn : taken.Transition = taken.Did who event None in
    let followed = transitions_followed n table (first_rows table) there.w (turn ∷ []) few there.followed (may, tt) in
    let bounded = bounded_transition (length book) n table (first_rows table) there.w turn few there.followed there.bounded may in
    let acts : List Act = acts_at n (standing_after n (first_rows table) book) who event in
    let same : acts ≡ step (identity_of n who) event (there.w.replicas who) = ap (step (identity_of n who) event) (sym (there.matches.replicas who)) in
    zip_each (IsSpelled 7 who) (IsSpelled n who) (letters_of (identity_of n who) acts) letters (λ addressed letter has is. record {
      to = is.to;
      spells = spells_of n who (flat_map packets_of addressed.messages) letter.bytes takes.member
          (messages_of_members n addressed.messages (λ message inside.
          let sent = letters_sent (identity_of n who) acts addressed message has inside in
          said_of_members _ n table (after_transition n turn there.w) who message followed bounded
          (all_said who (Some event) None (step (identity_of n who) event (there.w.replicas who)) there.w message (subst (λ some. Sends some message) same (sent.0, sent.1)))))
          is.spells;
    }) spelled

-- ---- letters that were posted

pub posted_breaks_none : (n : ℕ) (table : Table) (book : List Row) (letter : PostedLetter) → IsLegal n table book → Contains (standing_after n (first_rows table) book).posted letter → letter_fault_of n letter.bytes ≡ None
posted_breaks_none n table book letter legal posted =
    let spelled = (reaches n table book legal).matches.spelled letter posted in
    letter_none n letter.from (flat_map packets_of spelled.messages) letter.bytes spelled.spells

pub posted_by : (n : ℕ) (table : Table) (book : List Row) (letter : PostedLetter) → IsLegal n table book → Contains (standing_after n (first_rows table) book).posted letter → sender_of letter.bytes ≡ letter.from
posted_by n table book letter legal posted =
    let spelled = (reaches n table book legal).matches.spelled letter posted in
    (letter_again n letter.from (flat_map packets_of spelled.messages) letter.bytes spelled.spells).sender

pub posted_to : (n : ℕ) (table : Table) (book : List Row) (letter : PostedLetter) → IsLegal n table book → Contains (standing_after n (first_rows table) book).posted letter → letter.to < n
posted_to n table book letter legal posted = ((reaches n table book legal).matches.spelled letter posted).to

pub posted_of : (n : ℕ) (table : Table) (book : List Row) (letter : PostedLetter) → n ≤ 7 → IsLegal n table book → Contains (standing_after n (first_rows table) book).posted letter → letter.from < n
posted_of n table book letter few legal posted =
    let there = stands n table book few legal in
    let spelled = there.matches.spelled letter posted in
    go spelled.messages spelled.spells (λ message has. there.followed.whole.kept.speakers letter.from message (spelled.each message has))
  where
    go : (messages : List Message) → Spells n letter.from (flat_map packets_of messages) letter.bytes → ((message : Message) → Contains messages message → letter.from < n) → letter.from < n
    go [] spells each = absurd (spells.letter.some refl)
    go (message ∷ messages) spells each = each message (in_first message messages)

pub posted_heard : (n : ℕ) (size : TableSize) (table : Table) (book : List Row) (letter : PostedLetter) → IsLegal n table book → Contains (standing_after n (first_rows table) book).posted letter → (messages : List Message) × IsHeardAs n size letter.bytes letter.from messages
posted_heard n size table book letter legal posted =
    let spelled = (reaches n table book legal).matches.spelled letter posted in
    (heard_in size (flat_map packets_of spelled.messages), record { packets = flat_map packets_of spelled.messages; spells = spelled.spells; heard = refl })

-- ---- the turn of a step

pub step_follows : (n : ℕ) (table : Table) (book : List Row) (who : ℕ) (cause : Cause) (made : Option CallRow) (event : Event) (letters : List OutLetter) → n ≤ 7 → IsLegal n table book → TakesTurn n table (standing_after n (first_rows table) book) who cause event
    → AllZip (IsSpelled 7 who) (letters_of (identity_of n who) (acts_at n (standing_after n (first_rows table) book) who event)) letters
    → IsMade (standing_after n (first_rows table) book).held (calls_of (acts_at n (standing_after n (first_rows table) book) who event)) made
    → IsLegal n table (book ++ step_row who cause made event (deltas_of (acts_at n (standing_after n (first_rows table) book) who event)) letters (learnt_of (acts_at n (standing_after n (first_rows table) book) who event)) ∷ [])
step_follows n table book who cause made event letters few legal takes spelled call =
    let acts : List Act = acts_at n (standing_after n (first_rows table) book) who event in
    legal_push n table book (step_row who cause made event (deltas_of acts) letters (learnt_of acts)) legal (
      takes,
      record {
        letters = letters_for_members n table book who cause event letters few legal takes spelled;
        votes = sym (votes_changed acts);
        learnt = refl;
        call = call;
      },
    )
