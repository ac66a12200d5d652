-- A leader that is asked tells what it is asked for, whatever else it hears.
use Rattle.std.proofs.Common.{◌≡◌, ℕ, ◌+◌, ◌-◌, ◌≤◌, Bool, true, false, List, [], ◌∷◌, ◌++◌, length, drop, eqb, ltb, leb, ◌||◌, Option, None, ℤ, refl, sym, ap, ◌∙◌, inl, inr, ◌⊎◌, arith, subst, append_assoc, append-nil, length-append}
use Rattle.std.specs.List.{AllByRecursion, Contains, flat_map, range_with_len}
use Rattle.std.proofs.lemmas.Bool.{cases_Bool, eq-eqb, leb-false, ltb-false}
use Rattle.std.proofs.lemmas.List.{length-drop}
use Rattle.std.proofs.lemmas.List.Concat.{flat_map-append}
use Rattle.std.proofs.lemmas.List.Elements.{Contains-append_left, Contains-append_right}
use Rattle.paxos_base.specs.Vote.{vote_at}
use Rattle.paxos_base.specs.declared.entry.Entry.{Entry}
use Rattle.paxos_base.specs.declared.entry.Vote.{Vote}
use Rattle.paxos_base.specs.declared.rows.JobRow.{JobRow}
use Rattle.cluster_sched.specs.declared.row.SchedRow.{SchedRow}
use Rattle.term_core.specs.declared.term.Term.TheVariants.{Leader}
use Rattle.step_spec.specs.Act.{Act, Observe}
use Rattle.step_spec.specs.Folds.{after_acts, copies_by, copies_of, sent_by, sent_to}
use Rattle.step_spec.specs.Heard.{heard_as}
use Rattle.step_spec.specs.Hear.{Once, ask_below, hear, hear_all, is_vote_of, known_from, line, not_yet, on_accept, on_accepted, on_ask, on_known, on_lead, on_prepare, on_promise, on_snap, once_after, send_all, sends_copy, snapshot}
use Rattle.step_spec.specs.Message.{Message, Prepare, Promise, Accept, Accepted, Nack, Known, AskFrom, Snap, Lead, Mention, ballot_in}
use Rattle.step_spec.specs.State.{Identity, State, prefix_of, promised_in}
use Rattle.step_spec.specs.Step.{Tick, Plan, step}
use Rattle.step_spec.proofs.Lists.{nothing_in}
use Rattle.agreement.specs.Transition.{identity_of}
use Rattle.synchronous_rounds.specs.Cluster.{Advice, Cluster, HeardLetter, cluster_round, events_at, hear_events, letter_from, letters_to}
use Rattle.synchronous_rounds.specs.Rounds.{IsFreeNow}
use Rattle.synchronous_rounds.specs.LedAlone.{AreWithin, IsLeading, Occurs, Progress, StaysWithin}
use Rattle.synchronous_rounds.proofs.ActLemmas.{observed}
use Rattle.synchronous_rounds.proofs.LeaderLemmas.{free_all, free_hear, leading_observed}
use Rattle.synchronous_rounds.specs.CatchUp.{AreTold, HaveAsked, IsPieceOf, TellsWhatIsLacked, entries_from, table_and}
use Rattle.synchronous_rounds.proofs.KeepLemmas.{answer_after, keeps_mail, caught_up_mail}
use Rattle.due_set.proofs.Rising.{Contains-head as in_first, Contains-cases as cons_cases}
use Rattle.step_spec.proofs.OutLemmas.{flat_has as flat_in}
use Rattle.step_spec.proofs.ListLemmas.{in_range_from}

-- ---- pieces

whole_piece : (messages : List Message) → IsPieceOf messages messages
whole_piece messages = record { front = []; back = []; is = sym (append-nil messages) }

piece_between : (inner front back outer : List Message) → IsPieceOf inner outer → IsPieceOf inner (front ++ (outer ++ back))
piece_between inner front back outer piece = record {
  front = front ++ piece.front;
  back = piece.back ++ back;
  is =
      ap (λ zs. front ++ (zs ++ back)) piece.is
      ∙ (ap (λ zs. front ++ zs) (append_assoc piece.front (inner ++ piece.back) back ∙ ap (λ zs. piece.front ++ zs) (append_assoc inner piece.back back))
      ∙ sym (append_assoc front piece.front (inner ++ (piece.back ++ back))));
}

-- what some messages tell, they tell with others before and behind them
tells_between : (slot p : ℕ) (front back messages : List Message) → TellsWhatIsLacked slot p messages → TellsWhatIsLacked slot p (front ++ (messages ++ back))
tells_between slot p front back messages (entries_from entries all piece) = entries_from entries all (piece_between (known_from slot entries) front back messages piece)
tells_between slot p front back messages (table_and base rows entries all piece) =
    table_and base rows entries all (piece_between (Snap base rows ∷ known_from base entries) front back messages piece)

-- what tells something is heard as itself
heard_known : (slot : ℕ) (entries : List Entry) → flat_map heard_as (known_from slot entries) ≡ known_from slot entries
heard_known slot [] = refl
heard_known slot (entry ∷ entries) = ap (λ rest. Known slot entry ∷ rest) (heard_known (slot + 1) entries)

heard_piece : (inner outer : List Message) → flat_map heard_as inner ≡ inner → IsPieceOf inner outer → IsPieceOf inner (flat_map heard_as outer)
heard_piece inner outer itself piece = record {
  front = flat_map heard_as piece.front;
  back = flat_map heard_as piece.back;
  is =
      ap (λ ms. flat_map heard_as ms) piece.is
      ∙ (flat_map-append heard_as piece.front (inner ++ piece.back)
      ∙ ap (λ zs. flat_map heard_as piece.front ++ zs) (flat_map-append heard_as inner piece.back ∙ ap (λ zs. zs ++ flat_map heard_as piece.back) itself));
}

tells_heard : (slot p : ℕ) (messages : List Message) → TellsWhatIsLacked slot p messages → TellsWhatIsLacked slot p (flat_map heard_as messages)
tells_heard slot p messages (entries_from entries all piece) = entries_from entries all (heard_piece (known_from slot entries) messages (heard_known slot entries) piece)
tells_heard slot p messages (table_and base rows entries all piece) =
    table_and base rows entries all
    (heard_piece (Snap base rows ∷ known_from base entries) messages (ap (λ rest. Snap base rows ∷ rest) (heard_known base entries)) piece)

-- no message tells nothing
none_left : (slot p : ℕ) (messages : List Message) → messages ≡ [] → TellsWhatIsLacked slot p messages → slot ≡ p
none_left slot p messages none (entries_from [] all piece) = omega (arith, all)
none_left slot p messages none (entries_from (entry ∷ entries) all piece) =
    let long = ap (λ ms. length ms) (sym none ∙ piece.is) in
    absurd (omega (arith, long, length-append piece.front (known_from slot (entry ∷ entries) ++ piece.back)))
none_left slot p messages none (table_and base rows entries all piece) =
    let long = ap (λ ms. length ms) (sym none ∙ piece.is) in
    absurd (omega (arith, long, length-append piece.front ((Snap base rows ∷ known_from base entries) ++ piece.back)))

-- ---- acts

-- among the acts are those that send the replica what tells it all from the slot on
record Answers (from slot p : ℕ) (acts : List Act) : Type 0 where
  messages : List Message
  tells : TellsWhatIsLacked slot p messages
  front : List Act
  back : List Act
  is : acts ≡ front ++ (send_all from messages ++ back)

answers_left : (from slot p : ℕ) (acts others : List Act) → Answers from slot p acts → Answers from slot p (acts ++ others)
answers_left from slot p acts others answers = record {
  messages = answers.messages;
  tells = answers.tells;
  front = answers.front;
  back = answers.back ++ others;
  is =
      ap (λ zs. zs ++ others) answers.is
      ∙ (append_assoc answers.front (send_all from answers.messages ++ answers.back) others
      ∙ ap (λ zs. answers.front ++ zs) (append_assoc (send_all from answers.messages) answers.back others));
}

answers_right : (from slot p : ℕ) (others acts : List Act) → Answers from slot p acts → Answers from slot p (others ++ acts)
answers_right from slot p others acts answers = record {
  messages = answers.messages;
  tells = answers.tells;
  front = others ++ answers.front;
  back = answers.back;
  is = ap (λ zs. others ++ zs) answers.is ∙ sym (append_assoc others answers.front (send_all from answers.messages ++ answers.back));
}

answers_self : (from slot p : ℕ) (messages : List Message) → TellsWhatIsLacked slot p messages → Answers from slot p (send_all from messages)
answers_self from slot p messages tells =
    record { messages = messages; tells = tells; front = []; back = []; is = sym (append-nil (send_all from messages)) }

sent_whole : (me to : ℕ) (messages : List Message) → sent_to me to (send_all to messages) ≡ messages
unfolding sent_by
sent_whole me to [] = refl
sent_whole me to (message ∷ messages) = rw (eq-eqb to to refl) (ap (λ rest. message ∷ rest) (sent_whole me to messages))

-- what is sent to the replica tells it
answers_sent : (me to slot p : ℕ) (acts : List Act) → Answers to slot p acts → TellsWhatIsLacked slot p (sent_to me to acts)
answers_sent me to slot p acts answers =
    subst (λ some. TellsWhatIsLacked slot p some) (sym is)
    (tells_between slot p (sent_to me to answers.front) (sent_to me to answers.back) answers.messages answers.tells)
  where
    is : sent_to me to acts ≡ sent_to me to answers.front ++ (answers.messages ++ sent_to me to answers.back)
    is =
        ap (λ some. sent_to me to some) answers.is
        ∙ (flat_map-append (sent_by me to) answers.front (send_all to answers.messages ++ answers.back)
        ∙ ap (λ zs. sent_to me to answers.front ++ zs) (flat_map-append (sent_by me to) (send_all to answers.messages) answers.back ∙ ap (λ zs. zs ++ sent_to me to answers.back) (sent_whole me to answers.messages)))

-- ---- a launch table that is sent

-- with it goes all that the leader has learned behind it
snapshot_tells : (best : List Vote) (at : Progress) (from slot : ℕ) (state : State) → IsLeading best None at state → Answers from slot at.prefix (snapshot from false state)
snapshot_tells best at from slot state leading =
    answers_self from slot at.prefix (Snap state.kept.base state.kept.rows ∷ known_from state.kept.base state.learned)
    (table_and state.kept.base state.kept.rows state.learned leading.learned (whole_piece (Snap state.kept.base state.kept.rows ∷ known_from state.kept.base state.learned)))

snapshot_copied : (best : List Vote) (at : Progress) (from slot : ℕ) (copied : Bool) (state : State) → IsLeading best None at state → sends_copy (snapshot from copied state) ≡ true → Answers from slot at.prefix (snapshot from copied state)
unfolding copies_by
snapshot_copied best at from slot true state leading sends = absurd cc
snapshot_copied best at from slot false state leading sends = snapshot_tells best at from slot state leading

known_copies : (from slot : ℕ) (entries : List Entry) → copies_of (send_all from (known_from slot entries)) ≡ []
unfolding copies_by
known_copies from slot [] = refl
known_copies from slot (entry ∷ entries) = known_copies from (slot + 1) entries

ask_copies : (from slot : ℕ) (state : State) → copies_of (ask_below from slot state) ≡ []
unfolding copies_by
ask_copies from slot state = elim (cases_Bool (ltb (prefix_of state) slot)) [ inl missing ↦ rw missing refl | inr all ↦ rw all refl ]

-- acts that send no launch table
sends_none : (P : Type 0) (acts : List Act) → copies_of acts ≡ [] → sends_copy acts ≡ true → P
sends_none P acts none sends =
    let no : sends_copy acts ≡ false = ap (λ messages. ltb 0 (length messages)) none in
    absurd (let both : true ≡ false = sym sends ∙ no in cc)

copies_prepare : (best : List Vote) (at : Progress) (from slot ballot first : ℕ) (copied : Bool) (state : State) → ballot ≤ at.ballot → IsLeading best None at state → sends_copy (on_prepare from ballot first copied state) ≡ true → Answers from slot at.prefix (on_prepare from ballot first copied state)
unfolding on_prepare copies_by
copies_prepare best at from slot ballot first copied state low leading =
    elim (cases_Bool (leb ballot (promised_in state.kept))) [
      | inl refused ↦ rw refused (λ sends. absurd (let no : false ≡ true = sends in cc))
      | inr above ↦
          let high = leb-false ballot (promised_in state.kept) above in
          absurd (omega (arith, high, low, leading.promised))
    ]

copies_accept : (best : List Vote) (at : Progress) (from slot : ℕ) (vote : Vote) (copied : Bool) (state : State) → IsLeading best None at state → sends_copy (on_accept from vote copied state) ≡ true → Answers from slot at.prefix (on_accept from vote copied state)
unfolding on_accept copies_by
copies_accept best at from slot vote copied state leading =
    elim (cases_Bool (ltb vote.ballot (promised_in state.kept))) [
      | inl refused ↦ rw refused (λ sends. absurd (let no : false ≡ true = sends in cc))
      | inr least ↦ rw least (elim (cases_Bool (ltb vote.slot state.kept.base)) [
        | inl below ↦ rw below (snapshot_copied best at from slot copied state leading)
        | inr kept ↦ rw kept (elim (cases_Bool (is_vote_of vote.ballot (vote_at vote.slot state.kept.votes))) [
          | inl again ↦ rw again (sends_none _ (ask_below from vote.slot state) (ask_copies from vote.slot state))
          | inr new ↦ rw new (sends_none _ (ask_below from vote.slot state) (ask_copies from vote.slot state))
        ])
      ])
    ]

copies_known : (best : List Vote) (at : Progress) (from slot other : ℕ) (entry : Entry) (asked : Bool) (state : State) → sends_copy (on_known from other entry asked state) ≡ true → Answers from slot at.prefix (on_known from other entry asked state)
unfolding on_known copies_by
copies_known best at from slot other entry asked state =
    elim (cases_Bool (eqb other (prefix_of state))) [
      | inl next ↦ rw next (λ sends. absurd (let no : false ≡ true = sends in cc))
      | inr apart ↦ rw apart (elim (cases_Bool asked) [
        | inl before ↦ rw before (λ sends. absurd (let no : false ≡ true = sends in cc))
        | inr first ↦ rw first (sends_none _ (ask_below from other state) (ask_copies from other state))
      ])
    ]

copies_ask : (best : List Vote) (at : Progress) (from slot other : ℕ) (copied : Bool) (state : State) → IsLeading best None at state → sends_copy (on_ask from other copied state) ≡ true → Answers from slot at.prefix (on_ask from other copied state)
unfolding on_ask
copies_ask best at from slot other copied state leading =
    elim (cases_Bool (ltb other state.kept.base)) [
      | inl below ↦ rw below (snapshot_copied best at from slot copied state leading)
      | inr kept ↦ rw kept (sends_none _ (send_all from (known_from other (drop (other - state.kept.base) state.learned))) (known_copies from other (drop (other - state.kept.base) state.learned)))
    ]

copies_snap : (best : List Vote) (at : Progress) (from slot other : ℕ) (rows : List JobRow) (state : State) → sends_copy (on_snap other rows state) ≡ true → Answers from slot at.prefix (on_snap other rows state)
unfolding on_snap copies_by
copies_snap best at from slot other rows state =
    elim (cases_Bool (ltb (prefix_of state) other)) [
      | inl lacks ↦ rw lacks (λ sends. absurd (let no : false ≡ true = sends in cc))
      | inr has ↦ rw has (λ sends. absurd (let no : false ≡ true = sends in cc))
    ]

no_promised : (members from ballot slot own : ℕ) (votes best : List Vote) → on_promise members from ballot slot votes (Leader own best None) ≡ []
unfolding on_promise
no_promised members from ballot slot own votes best = refl

no_accepting : (members from ballot slot own : ℕ) (best : List Vote) → on_accepted members from ballot slot (Leader own best None) ≡ []
unfolding on_accepted
no_accepting members from ballot slot own best = refl

-- where a leader sends a launch table, it tells all that is asked for
copies_line : (self : Identity) (best : List Vote) (at : Progress) (from slot : ℕ) (message : Message) (once : Once) (state : State) → StaysWithin at.ballot at.prefix message → IsLeading best None at state → sends_copy (line self from message once state) ≡ true → Answers from slot at.prefix (line self from message once state)
unfolding line on_lead copies_by
copies_line self best at from slot (Prepare ballot first) once state within leading sends = copies_prepare best at from slot ballot first once.copied state within.low leading sends
copies_line self best at from slot (Promise ballot first votes) once state within leading sends =
    let none : on_promise self.members from ballot first votes state.term ≡ [] = ap (λ t. on_promise self.members from ballot first votes t) leading.is ∙ no_promised self.members from ballot first at.ballot votes best in
    sends_none _ (on_promise self.members from ballot first votes state.term) (ap copies_of none) sends
copies_line self best at from slot (Accept vote) once state within leading sends = copies_accept best at from slot vote once.copied state leading sends
copies_line self best at from slot (Accepted ballot other) once state within leading sends =
    let none : on_accepted self.members from ballot other state.term ≡ [] = ap (λ t. on_accepted self.members from ballot other t) leading.is ∙ no_accepting self.members from ballot other at.ballot best in
    sends_none _ (on_accepted self.members from ballot other state.term) (ap copies_of none) sends
copies_line self best at from slot (Nack ballot promised) once state within leading sends = absurd cc
copies_line self best at from slot (Known other entry) once state within leading sends = copies_known best at from slot other entry once.asked state sends
copies_line self best at from slot (AskFrom other) once state within leading sends = copies_ask best at from slot other once.copied state leading sends
copies_line self best at from slot (Snap other rows) once state within leading sends = copies_snap best at from slot other rows state sends
copies_line self best at from slot (Lead ballot other) once state within leading sends = sends_none _ (ask_below from other state) (ask_copies from other state) sends
copies_line self best at from slot (Mention ballot) once state within leading sends = absurd cc

copies_hear : (self : Identity) (best : List Vote) (at : Progress) (from slot : ℕ) (message : Message) (once : Once) (state : State) → StaysWithin at.ballot at.prefix message → IsLeading best None at state → sends_copy (hear self from message once state) ≡ true → Answers from slot at.prefix (hear self from message once state)
unfolding hear copies_by
copies_hear self best at from slot message once state within leading sends =
    answers_right from slot at.prefix (Observe (ballot_in message) ∷ []) (line self from message once (observed (ballot_in message) state))
    (copies_line self best at from slot message once (observed (ballot_in message) state) within (leading_observed best None at (ballot_in message) state within.low leading) sends)

-- ---- it is asked

answers_ask : (best : List Vote) (at : Progress) (from slot : ℕ) (copied : Bool) (state : State) → slot ≤ at.prefix → IsLeading best None at state → Answers from slot at.prefix (on_ask from slot copied state) ⊎ (copied ≡ true)
unfolding on_ask
answers_ask best at from slot true state short leading = inr refl
answers_ask best at from slot false state short leading =
    inl (elim (cases_Bool (ltb slot state.kept.base)) [
      | inl below ↦ rw below (snapshot_tells best at from slot state leading)
      | inr kept ↦
          let entries = drop (slot - state.kept.base) state.learned in
          let least = ltb-false slot state.kept.base kept in
          let all : slot + length entries ≡ at.prefix = omega (arith, length-drop (slot - state.kept.base) state.learned, leading.learned, least, short) in
          rw kept (answers_self from slot at.prefix (known_from slot entries) (entries_from entries all (whole_piece (known_from slot entries))))
    ])

answers_hear : (self : Identity) (best : List Vote) (at : Progress) (from slot : ℕ) (once : Once) (state : State) → slot ≤ at.prefix → IsLeading best None at state → Answers from slot at.prefix (hear self from (AskFrom slot) once state) ⊎ (once.copied ≡ true)
unfolding hear line
answers_hear self best at from slot once state short leading =
    elim (answers_ask best at from slot once.copied (observed 0 state) short (leading_observed best None at 0 state (omega arith) leading)) [
      | inl answers ↦ inl (answers_right from slot at.prefix (Observe 0 ∷ []) _ answers)
      | inr copied ↦ inr copied
    ]

-- of a letter, unless it has sent its launch table for an earlier message of the letter
answers_all : (self : Identity) (best : List Vote) (at : Progress) (from slot : ℕ) (messages : List Message) (once : Once) (state : State) → AllByRecursion (StaysWithin at.ballot at.prefix) messages → Contains messages (AskFrom slot) → slot ≤ at.prefix → IsLeading best None at state → Answers from slot at.prefix (hear_all self from messages once state) ⊎ (once.copied ≡ true)
unfolding hear_all
answers_all self best at from slot [] once state within has short leading = nothing_in has
answers_all self best at from slot (message ∷ messages) once state within has short leading =
    let acts = hear self from message once state in
    let now = after_acts acts state in
    let later = once_after message state acts once in
    let rest = hear_all self from messages later now in
    elim (cons_cases message messages (AskFrom slot) has) [
      | inl same ↦ elim (subst (λ m. Answers from slot at.prefix (hear self from m once state) ⊎ (once.copied ≡ true)) (sym same) (answers_hear self best at from slot once state short leading)) [
        | inl answers ↦ inl (answers_left from slot at.prefix acts rest answers)
        | inr copied ↦ inr copied
      ]
      | inr behind_it ↦ elim (answers_all self best at from slot messages later now within.1 behind_it short (free_hear self best at at.prefix from message once state (omega arith) within.0 leading)) [
        | inl answers ↦ inl (answers_right from slot at.prefix acts rest answers)
        | inr copied ↦ elim (cases_Bool once.copied) [
          | inl before ↦ inr before
          | inr first ↦
              let sends : sends_copy acts ≡ true = sym (ap (λ sent. sent || sends_copy acts) first) ∙ copied in
              inl (answers_left from slot at.prefix acts rest (copies_hear self best at from slot message once state within.0 leading sends))
        ]
      ]
    ]

-- ---- a round

-- a letter of the mail tells it
record TellsIn (from slot p : ℕ) (mail : List HeardLetter) : Type 0 where
  letter : HeardLetter
  there : Contains mail letter
  is_from : letter.from ≡ from
  tells : TellsWhatIsLacked slot p letter.messages

tells_letter : (me slot p : ℕ) (messages : List Message) → TellsWhatIsLacked slot p messages → TellsIn me slot p (letter_from me messages) ⊎ (slot ≡ p)
tells_letter me slot p [] tells = inr (none_left slot p [] refl tells)
tells_letter me slot p (message ∷ messages) tells = inl (record {
  letter = record { from = me; messages = flat_map heard_as (message ∷ messages) };
  there = in_first _ [];
  is_from = refl;
  tells = tells_heard slot p (message ∷ messages) tells;
})

tells_mail : (self : Identity) (best : List Vote) (at : Progress) (who slot : ℕ) (now : ℤ) (plan : Plan) (mail : List HeardLetter) (state : State) → AreWithin at.ballot at.prefix mail → Occurs mail who (AskFrom slot) → slot ≤ at.prefix → IsLeading best None at state → TellsIn self.me slot at.prefix (letters_to self who (hear_events mail ++ Tick now plan ∷ []) state) ⊎ (slot ≡ at.prefix)
unfolding step
tells_mail self best at who slot now plan [] state within occurs short leading = nothing_in occurs.there
tells_mail self best at who slot now plan (letter ∷ mail) state within occurs short leading =
    let acts = hear_all self letter.from letter.messages not_yet state in
    let first = letter_from self.me (sent_to self.me who acts) in
    elim (cons_cases letter mail occurs.letter occurs.there) [
      | inl same ↦
          let to : letter.from ≡ who = ap (λ l. l.from) same ∙ occurs.is_from in
          let here : Contains letter.messages (AskFrom slot) = subst (λ l. Contains l.messages (AskFrom slot)) (sym same) occurs.has in
          elim (answers_all self best at letter.from slot letter.messages not_yet state within.0 here short leading) [
            | inl answers ↦
                let told : TellsWhatIsLacked slot at.prefix (sent_to self.me who acts) = subst (λ q. TellsWhatIsLacked slot at.prefix (sent_to self.me q acts)) to (answers_sent self.me letter.from slot at.prefix acts answers) in
                elim (tells_letter self.me slot at.prefix (sent_to self.me who acts) told) [
                  | inl tells ↦ inl (record { letter = tells.letter; there = Contains-append_left first _ tells.letter tells.there; is_from = tells.is_from; tells = tells.tells })
                  | inr all ↦ inr all
                ]
            | inr copied ↦ absurd (let no : false ≡ true = copied in cc)
          ]
      | inr later ↦
          let next = free_all self best at at.prefix letter.from letter.messages not_yet state (omega arith) within.0 leading in
          elim (tells_mail self best at who slot now plan mail (after_acts acts state) within.1 (record { letter = occurs.letter; there = later; is_from = occurs.is_from; has = occurs.has }) short next) [
            | inl tells ↦ inl (record { letter = tells.letter; there = Contains-append_right first _ tells.letter tells.there; is_from = tells.is_from; tells = tells.tells })
            | inr all ↦ inr all
          ]
    ]

-- all that have asked are told
pub told_next : (members leader : ℕ) (best : List Vote) (at : Progress) (now : ℤ) (advice : ℕ → Advice) (answers : ℕ → Option SchedRow) (cluster : Cluster) → IsFreeNow members leader best at cluster → HaveAsked members leader at.prefix cluster → AreTold members leader at.prefix (cluster_round members now advice answers cluster)
told_next members leader best at now advice answers cluster free asked who below apart =
    let self = identity_of members who in
    let led_alone = free.free.led_alone in
    let behind = led_alone.behind who below apart in
    let mail = cluster.mails who in
    let rest = hear_events mail ++ Tick now (advice who).plan ∷ [] in
    let after = answer_after self (cluster.waits who) (advice who).rows rest (cluster.replicas who) behind.follows in
    let up = keeps_mail self at.ballot at.prefix now (advice who).plan mail (cluster.replicas who) (led_alone.within who below) behind in
    elim (asked who below apart) [
      | inl all ↦ inl (rw after (caught_up_mail self at.ballot at.prefix now (advice who).plan mail (cluster.replicas who) (led_alone.within who below) behind (omega (arith, all))))
      | inr lacks ↦
          let short = lacks.short in
          elim (tells_mail (identity_of members leader) best at who lacks.slot now (advice leader).plan (cluster.mails leader) (cluster.replicas leader) (led_alone.within leader led_alone.member) lacks.asks (omega (arith, short, behind.short)) free.free.leading) [
            | inl tells ↦ inr (record {
              slot = lacks.slot;
              short = rw after (omega (arith, short, up));
              letter = tells.letter;
              there = flat_in (λ q. letters_to (identity_of members q) who (events_at now advice cluster q) (cluster.replicas q)) (range_with_len 0 members) leader tells.letter (in_range_from 0 members leader (omega arith) (omega (arith, led_alone.member))) (rw free.alone tells.there);
              is_from = tells.is_from;
              tells = tells.tells;
            })
            | inr all ↦ inl (rw after (caught_up_mail self at.ballot at.prefix now (advice who).plan mail (cluster.replicas who) (led_alone.within who below) behind (omega (arith, all, short))))
          ]
    ]
