-- What occurs in the mails after a round.
use Rattle.std.proofs.Common.{◌≡◌, ℕ, ◌<◌, List, [], ◌∷◌, ◌++◌, Option, None, Some, ℤ, refl, sym, ap, ◌∙◌, inl, inr, arith, subst, append_assoc}
use Rattle.std.specs.List.{Contains, flat_map, range_with_len}
use Rattle.std.proofs.lemmas.List.Elements.{Contains-append_left, Contains-append_right}
use Rattle.paxos_base.specs.declared.entry.Vote.{Vote}
use Rattle.paxos_base.specs.declared.rows.JobRow.{JobRow}
use Rattle.cluster_sched.specs.declared.row.SchedRow.{SchedRow}
use Rattle.step_spec.specs.Folds.{after_acts, sent_to}
use Rattle.step_spec.specs.Heard.{heard_as}
use Rattle.step_spec.specs.Hear.{hear_all, not_yet}
use Rattle.step_spec.specs.Message.{Message, Accept, Accepted}
use Rattle.step_spec.specs.State.{Identity, State}
use Rattle.step_spec.specs.Step.{Event, Tick, Answer, Plan, step}
use Rattle.step_spec.proofs.Lists.{nothing_in}
use Rattle.agreement.specs.Transition.{identity_of}
use Rattle.synchronous_rounds.specs.Cluster.{Advice, Cluster, HeardLetter, after_events, answer_events, cluster_round, events_at, hear_events, letter_from, letters_to}
use Rattle.synchronous_rounds.specs.Flights.{IsAccepted, IsAsked}
use Rattle.synchronous_rounds.specs.LedAlone.{AreWithin, IsBehind, IsLedAlone, Occurs}
use Rattle.synchronous_rounds.proofs.FollowerLemmas.{behind_all, behind_answer, votes_all}
use Rattle.synchronous_rounds.proofs.Lists.{sent_in}
use Rattle.due_set.proofs.Rising.{Contains-head as in_first, Contains-cases as cons_cases}
use Rattle.step_spec.proofs.OutLemmas.{flat_has as flat_in}
use Rattle.step_spec.proofs.ListLemmas.{in_range_from}

-- ---- mails

pub occurs_left : (xs ys : List HeardLetter) (from : ℕ) (message : Message) → Occurs xs from message → Occurs (xs ++ ys) from message
occurs_left xs ys from message occurs =
    record { letter = occurs.letter; there = Contains-append_left xs ys occurs.letter occurs.there; is_from = occurs.is_from; has = occurs.has }

pub occurs_right : (xs ys : List HeardLetter) (from : ℕ) (message : Message) → Occurs ys from message → Occurs (xs ++ ys) from message
occurs_right xs ys from message occurs =
    record { letter = occurs.letter; there = Contains-append_right xs ys occurs.letter occurs.there; is_from = occurs.is_from; has = occurs.has }

-- a message that is heard as itself occurs in the letter that has it
pub occurs_letter : (me : ℕ) (message : Message) (messages : List Message) → Contains (heard_as message) message → Contains messages message → Occurs (letter_from me messages) me message
occurs_letter me message [] itself has = nothing_in has
occurs_letter me message (first ∷ messages) itself has = record {
  letter = record { from = me; messages = flat_map heard_as (first ∷ messages) };
  there = in_first _ [];
  is_from = refl;
  has = flat_in heard_as (first ∷ messages) message message has itself;
}

-- ---- letters of events, one part after another

pub letters_append : (self : Identity) (q : ℕ) (xs ys : List Event) (state : State) → letters_to self q (xs ++ ys) state ≡ letters_to self q xs state ++ letters_to self q ys (after_events self xs state)
letters_append self q [] ys state = refl
letters_append self q (x ∷ xs) ys state =
    ap (λ rest. letter_from self.me (sent_to self.me q (step self x state)) ++ rest) (letters_append self q xs ys (after_acts (step self x state) state))
    ∙ sym (append_assoc (letter_from self.me (sent_to self.me q (step self x state))) (letters_to self q xs (after_acts (step self x state) state)) (letters_to self q ys (after_events self xs (after_acts (step self x state) state))))

-- what occurs in the letters of later events occurs in those of all
pub occurs_after : (self : Identity) (q : ℕ) (xs ys : List Event) (state : State) (message : Message) → Occurs (letters_to self q ys (after_events self xs state)) self.me message → Occurs (letters_to self q (xs ++ ys) state) self.me message
occurs_after self q xs ys state message occurs =
    rw (letters_append self q xs ys state)
    (occurs_right (letters_to self q xs state) (letters_to self q ys (after_events self xs state)) self.me message occurs)

-- what one replica says is in the mails of the next round
pub occurs_next : (members : ℕ) (now : ℤ) (advice : ℕ → Advice) (answers : ℕ → Option SchedRow) (cluster : Cluster) (from to : ℕ) (message : Message) → from < members → Occurs (letters_to (identity_of members from) to (events_at now advice cluster from) (cluster.replicas from)) from message → Occurs ((cluster_round members now advice answers cluster).mails to) from message
occurs_next members now advice answers cluster from to message below occurs = record {
  letter = occurs.letter;
  there = flat_in (λ q. letters_to (identity_of members q) to (events_at now advice cluster q) (cluster.replicas q)) (range_with_len 0 members) from occurs.letter (in_range_from 0 members from (omega arith) (omega (arith, below))) occurs.there;
  is_from = occurs.is_from;
  has = occurs.has;
}

-- ---- a follower accepts

votes_mail : (self : Identity) (vote : Vote) (c : ℕ) (now : ℤ) (plan : Plan) (mail : List HeardLetter) (state : State) → AreWithin vote.ballot vote.slot mail → Occurs mail c (Accept vote) → IsBehind vote.ballot vote.slot state → Occurs (letters_to self c (hear_events mail ++ Tick now plan ∷ []) state) self.me (Accepted vote.ballot vote.slot)
unfolding step
votes_mail self vote c now plan [] state within occurs behind = nothing_in occurs.there
votes_mail self vote c now plan (letter ∷ mail) state within occurs behind =
    let acts = hear_all self letter.from letter.messages not_yet state in
    elim (cons_cases letter mail occurs.letter occurs.there) [
      | inl same ↦
          let to : letter.from ≡ c = ap (λ l. l.from) same ∙ occurs.is_from in
          let here : Contains letter.messages (Accept vote) = subst (λ l. Contains l.messages (Accept vote)) (sym same) occurs.has in
          let sent = sent_in self.me letter.from (Accepted vote.ballot vote.slot) acts (votes_all self letter.from vote letter.messages not_yet state within.0 here behind) in
          occurs_left (letter_from self.me (sent_to self.me c acts)) _ self.me _
          (occurs_letter self.me (Accepted vote.ballot vote.slot) (sent_to self.me c acts) (in_first (Accepted vote.ballot vote.slot) []) (subst (λ q. Contains (sent_to self.me q acts) (Accepted vote.ballot vote.slot)) to sent))
      | inr later ↦
          occurs_right (letter_from self.me (sent_to self.me c acts)) _ self.me _
          (votes_mail self vote c now plan mail (after_acts acts state) within.1 (record { letter = occurs.letter; there = later; is_from = occurs.is_from; has = occurs.has })
          (behind_all self vote.ballot vote.slot letter.from letter.messages not_yet state within.0 behind))
    ]

votes_round : (self : Identity) (vote : Vote) (c : ℕ) (now : ℤ) (plan : Plan) (waits : Option SchedRow) (rows : List JobRow) (mail : List HeardLetter) (state : State) → AreWithin vote.ballot vote.slot mail → Occurs mail c (Accept vote) → IsBehind vote.ballot vote.slot state → Occurs (letters_to self c (answer_events waits rows ++ (hear_events mail ++ Tick now plan ∷ [])) state) self.me (Accepted vote.ballot vote.slot)
votes_round self vote c now plan None rows mail state within occurs behind = votes_mail self vote c now plan mail state within occurs behind
votes_round self vote c now plan (Some row) rows mail state within occurs behind =
    occurs_right (letter_from self.me (sent_to self.me c (step self (Answer row.name.job row.name.at row.kind rows) state))) _ self.me _
    (votes_mail self vote c now plan mail _ within occurs (behind_answer self vote.ballot vote.slot row.name.job row.name.at row rows state behind))

-- once all were asked, all have accepted
pub accepted_next : (members c : ℕ) (now : ℤ) (advice : ℕ → Advice) (answers : ℕ → Option SchedRow) (vote : Vote) (cluster : Cluster) → IsLedAlone members c vote.ballot vote.slot cluster → IsAsked members c vote cluster → IsAccepted members c vote.ballot vote.slot (cluster_round members now advice answers cluster)
accepted_next members c now advice answers vote cluster led_alone asked who below other =
    occurs_next members now advice answers cluster who c (Accepted vote.ballot vote.slot) below
    (votes_round (identity_of members who) vote c now (advice who).plan (cluster.waits who) (advice who).rows (cluster.mails who) (cluster.replicas who) (led_alone.within who below) (asked who below other) (led_alone.behind who below other))
