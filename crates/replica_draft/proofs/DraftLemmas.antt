-- What a draft's verbs come to.
use Rattle.std.proofs.Common.{take, arith, ◌<◌, get_or, drop, ◌≤◌, ◌-◌, ◌≡◌, ℕ, ◌+◌, Option, None, Some, List, [], ◌∷◌, ◌++◌, map, refl, sym, ap, ◌∙◌, unwrap_or, max, length, Result, Ok, Err, OnOk, inl, inr, ltb}
use Rattle.std.specs.Prelude.{⊤}
use Rattle.std.specs.List.{AllByRecursion}
use Rattle.std.proofs.lemmas.List.{append-nil, append_assoc, drop_all, map-append, take_more, length-take-le}
use Rattle.std.proofs.lemmas.List.Concat.{flat_map-append}
use Rattle.std.proofs.lemmas.Bool.{cases_Bool}
use Rattle.paxos_base.specs.declared.durable.Durable.{Durable}
use Rattle.paxos_base.specs.declared.entry.Entry.{Entry}
use Rattle.paxos_base.specs.declared.entry.Vote.{Vote}
use Rattle.paxos_base.specs.declared.rows.JobRow.{JobRow}
use Rattle.launch_machine.specs.Machine.{Launches}
use Rattle.paxos_letter.specs.declared.packet.Packet.{Packet}
use Rattle.term_core.specs.Term.{after_ballot, after_advance}
use Rattle.term_core.specs.declared.term.Term.{Term}
use Rattle.term_core.specs.declared.term.Term.TheVariants.{Follower, Candidate, Leader}
use Rattle.step_spec.specs.Act.{Act, Observe, Pledge, Cast, Learn, Rebase, Send, after_act}
use Rattle.step_spec.specs.Folds.{after_acts, calls_by, calls_of, deltas_by, deltas_of, learnt_by, learnt_of}
use Rattle.paxos_letter.specs.declared.packet.Packet.TheVariants as packet
use Rattle.step_spec.specs.Heard.{old_vote, packets_of}
use Rattle.step_spec.specs.Hear.{known_from, send_all}
use Rattle.step_spec.proofs.VoteLemmas.{known-push}
use Rattle.step_spec.specs.Message.{Message, Whom, Only, Known, Promise, Snap}
use Rattle.step_spec.specs.State.{State, prefix_of}
use Rattle.step_spec.specs.declared.out.LearntRow.{LearntRow}
use Rattle.replica_draft.specs.Draft.{Desk, Goes, FixedParts, LearnsNext, HasSent, SendsOnly, TakesRows, calls_in, deltas_in, done, drafted, durable_of, entries_in, learned_with, said_by, said_in, said_of, with_best, with_learned}
use Rattle.replica_draft.specs.declared.draft.Sent.{Sent}
use Rattle.replica_draft.specs.declared.change.Change.{Change}
use Rattle.replica_draft.specs.declared.change.Change.TheVariants as change
use Rattle.replica_draft.specs.declared.draft.Draft.{Draft}
use Rattle.step_spec.proofs.Lists.{after_acts-append}

-- a term hears of a ballot, whatever its votes
pub with_best-after_ballot : (best : List Vote) (ballot : ℕ) (term : Term) → with_best best (after_ballot ballot term) ≡ after_ballot ballot (with_best best term)
with_best-after_ballot best ballot (Follower ended) = refl
with_best-after_ballot best ballot (Candidate own first heard votes) =
    elim (cases_Bool (ltb own ballot)) [ inl ended ↦ rw ended refl | inr goes_on ↦ rw goes_on refl ]
with_best-after_ballot best ballot (Leader own votes flight) =
    elim (cases_Bool (ltb own ballot)) [ inl ended ↦ rw ended refl | inr goes_on ↦ rw goes_on refl ]

-- a flight ends, whatever the votes
pub with_best-after_advance : (best : List Vote) (prefix : ℕ) (term : Term) → with_best best (after_advance prefix term) ≡ after_advance prefix (with_best best term)
with_best-after_advance best prefix (Follower ended) = refl
with_best-after_advance best prefix (Candidate own first heard votes) = refl
with_best-after_advance best prefix (Leader own votes None) = refl
with_best-after_advance best prefix (Leader own votes (Some flight)) = refl

-- nothing is stored, learned, sent or called
pub done-quiet : (desk : Desk) (state : State) → record { state = state; deltas = desk.deltas ++ []; learnt = desk.learnt ++ []; said = desk.said ++ []; calls = desk.calls ++ [] } ≡ record desk { state = state }
done-quiet desk state = rw (append-nil desk.deltas, append-nil desk.learnt, append-nil desk.said, append-nil desk.calls) refl

pub drafted-observe : (kept : FixedParts) (old : Draft) (term : Term) (seen ballot : ℕ) → seen ≡ max old.seen ballot → term ≡ after_ballot ballot old.term
    → drafted kept (record old { seen = seen; term = term }) ≡ done (Observe ballot ∷ []) (drafted kept old)
unfolding after_act deltas_by learnt_by said_by calls_by
drafted-observe kept old term seen ballot seen_is term_is =
    rw (
      seen_is,
      term_is,
      with_best-after_ballot (unwrap_or old.best kept.best) ballot old.term,
      append-nil (drafted kept old).deltas,
      append-nil (drafted kept old).learnt,
      append-nil (drafted kept old).said,
      append-nil (drafted kept old).calls,
    ) refl

pub drafted-pledge : (kept : FixedParts) (old : Draft) (ballot : ℕ) → old.change ≡ None
    → drafted kept (record old { change = Some (change.Promised ballot) }) ≡ done (Pledge ballot ∷ []) (drafted kept old)
unfolding after_act deltas_by learnt_by said_by calls_by
drafted-pledge kept old ballot none = rw (none, append-nil old.learnt.items, append-nil (drafted kept old).said, append-nil (drafted kept old).calls) refl

pub drafted-cast : (kept : FixedParts) (old : Draft) (vote : Vote) → old.change ≡ None
    → drafted kept (record old { change = Some (change.Voted vote) }) ≡ done (Cast vote ∷ []) (drafted kept old)
unfolding after_act deltas_by learnt_by said_by calls_by
drafted-cast kept old vote none = rw (none, append-nil old.learnt.items, append-nil (drafted kept old).said, append-nil (drafted kept old).calls) refl

-- with one more entry learned, the change of what is kept is the same
durable-learned : (entry : Entry) (made : Option Change) (kept : Durable) → durable_of (with_learned entry made) kept ≡ durable_of made kept
durable-learned entry None kept = refl
durable-learned entry (Some (change.Tried ballot)) kept = refl
durable-learned entry (Some (change.Promised ballot)) kept = refl
durable-learned entry (Some (change.Voted vote)) kept = refl
durable-learned entry (Some (change.Rebased rebased)) kept = refl

deltas-learned : (entry : Entry) (made : Option Change) → deltas_in (with_learned entry made) ≡ deltas_in made
deltas-learned entry None = refl
deltas-learned entry (Some (change.Tried ballot)) = refl
deltas-learned entry (Some (change.Promised ballot)) = refl
deltas-learned entry (Some (change.Voted vote)) = refl
deltas-learned entry (Some (change.Rebased rebased)) = refl

entries-push : (learned : List Entry) (rows : List LearntRow) (slot : ℕ) (entry : Entry) → learned ++ entries_in (rows ++ record { slot = slot; entry = entry } ∷ []) ≡ (learned ++ entries_in rows) ++ entry ∷ []
entries-push learned rows slot entry =
    ap (λ entries. learned ++ entries) (map-append (λ (row : LearntRow). row.entry) rows (record { slot = slot; entry = entry } ∷ []))
    ∙ sym (append_assoc learned (entries_in rows) (entry ∷ []))

-- and the entry is behind those that were learned
learned-learned : (entry : Entry) (slot : ℕ) (made : Option Change) (learned : List Entry) (rows : List LearntRow)
    → learned_with (with_learned entry made) learned (rows ++ record { slot = slot; entry = entry } ∷ []) ≡ learned_with made learned rows ++ entry ∷ []
learned-learned entry slot None learned rows = entries-push learned rows slot entry
learned-learned entry slot (Some (change.Tried ballot)) learned rows = entries-push learned rows slot entry
learned-learned entry slot (Some (change.Promised ballot)) learned rows = entries-push learned rows slot entry
learned-learned entry slot (Some (change.Voted vote)) learned rows = entries-push learned rows slot entry
learned-learned entry slot (Some (change.Rebased rebased)) learned rows = refl

-- an entry is learned, where its slot is the first that isn't
pub drafted-learn : (kept : FixedParts) (old new : Draft) (slot : ℕ) (entry : Entry) → LearnsNext old new slot entry → slot ≡ prefix_of (drafted kept old).state
    → drafted kept new ≡ done (Learn slot entry ∷ []) (drafted kept old)
unfolding after_act deltas_by learnt_by said_by calls_by
drafted-learn kept old new slot entry learns at =
    rw (
      learns.seen,
      learns.term,
      learns.sends,
      learns.best,
      learns.change,
      learns.learnt,
      learns.call,
      durable-learned entry old.change kept.durable,
      deltas-learned entry old.change,
      learned-learned entry slot old.change kept.learned old.learnt.items,
      with_best-after_advance (unwrap_or old.best kept.best) (slot + 1) old.term,
      append-nil (drafted kept old).deltas,
      append-nil (drafted kept old).said,
      append-nil (drafted kept old).calls,
    )
    (rw (sym at) refl)

-- a launch table is taken, where nothing is learned behind its slot
pub drafted-rebase : (kept : FixedParts) (old new : Draft) (slot : ℕ) (rows : List JobRow) (machine : Option Launches) → TakesRows old new slot rows machine → old.change ≡ None
    → prefix_of (drafted kept old).state ≤ slot → drafted kept new ≡ done (Rebase slot rows ∷ []) (drafted kept old)
unfolding after_act deltas_by learnt_by said_by calls_by
drafted-rebase kept old new slot rows machine takes none up =
    let past : kept.durable.base + length (kept.learned ++ entries_in old.learnt.items) ≤ slot = rw none at up in
    let gone : drop (slot - kept.durable.base) (kept.learned ++ entries_in old.learnt.items) ≡ [] =
    drop_all (slot - kept.durable.base) (kept.learned ++ entries_in old.learnt.items) (omega (arith, past)) in
    rw (
      takes.seen,
      takes.term,
      takes.sends,
      takes.best,
      takes.change,
      takes.learnt,
      takes.call,
      none,
      gone,
      with_best-after_advance (unwrap_or old.best kept.best) slot old.term,
      append-nil old.learnt.items,
      append-nil (map said_in old.sends.items),
      append-nil (calls_in old.call),
    ) refl

-- packets are sent that spell a message
pub drafted-send : (kept : FixedParts) (old new : Draft) (whom : Whom) (message : Message) → SendsOnly old new
    → map said_in new.sends.items ≡ map said_in old.sends.items ++ map (λ (packet : Packet). (whom, packet)) (packets_of message)
    → drafted kept new ≡ done (Send whom message ∷ []) (drafted kept old)
unfolding after_act deltas_by learnt_by said_by calls_by
drafted-send kept old new whom message only sends =
    rw (only.seen, only.term, only.best, only.change, only.learnt, only.call, sends)
    (rw (append-nil (drafted kept old).deltas, append-nil (drafted kept old).learnt, append-nil (drafted kept old).calls, append-nil (said_by (Send whom message))) refl)

-- a step goes on where some acts end
pub done-append : (before after : List Act) (desk : Desk) → done (before ++ after) desk ≡ done after (done before desk)
done-append before after desk =
    rw (after_acts-append before after desk.state, flat_map-append deltas_by before after, flat_map-append learnt_by before after, flat_map-append said_by before after, flat_map-append calls_by before after)
    (rw (append_assoc desk.deltas (deltas_of before) (deltas_of after), append_assoc desk.learnt (learnt_of before) (learnt_of after), append_assoc desk.said (said_of before) (said_of after), append_assoc desk.calls (calls_of before) (calls_of after)) refl)

pub done-nil : (desk : Desk) → done [] desk ≡ desk
done-nil desk = rw (append-nil desk.deltas, append-nil desk.learnt, append-nil desk.said, append-nil desk.calls) refl

-- two parts of a draft, one after the other
pub goes-on : (old middle new : Draft) (before after : List Act) → Goes old middle before → Goes middle new after → Goes old new (before ++ after)
goes-on old middle new before after first second kept = second kept ∙ ap (done after) (first kept) ∙ sym (done-append before after (drafted kept old))

-- of what holds where a call succeeded, what follows holds there too
pub on_ok : {X E : Type 0} (result : Result X E) (P Q R : Type 0) → (P → Q → R) → OnOk result P → OnOk result Q → OnOk result R
on_ok (Ok value) P Q R both first second = both first second
on_ok (Err fault) P Q R both first second = tt

-- one packet is sent, which spells a message
pub sent-message : (old new : Draft) (whom : Whom) (message : Message) (packet : Packet) → packets_of message ≡ packet ∷ [] → SendsOnly old new
    → map said_in new.sends.items ≡ map said_in old.sends.items ++ (whom, packet) ∷ [] → Goes old new (Send whom message ∷ [])
sent-message old new whom message packet spelled only said kept =
    drafted-send kept old new whom message only (rw spelled said)

-- nothing but sends, twice
pub sends-twice : (old middle new : Draft) → SendsOnly old middle → SendsOnly middle new → SendsOnly old new
sends-twice old middle new first second =
    record {
      seen = second.seen ∙ first.seen;
      term = second.term ∙ first.term;
      best = second.best ∙ first.best;
      change = second.change ∙ first.change;
      learnt = second.learnt ∙ first.learnt;
      call = second.call ∙ first.call;
    }

map_twice : {X Y Z : Type 0} (f : Y → Z) (g : X → Y) (xs : List X) → map f (map g xs) ≡ map (λ x. f (g x)) xs
map_twice f g [] = refl
map_twice f g (x ∷ xs) = ap (λ rest. f (g x) ∷ rest) (map_twice f g xs)

-- a promise is sent, and then its votes
pub promised : (kept : FixedParts) (old middle new : Draft) (to ballot slot : ℕ) (votes : List Vote) → SendsOnly old middle → SendsOnly middle new
    → map said_in middle.sends.items ≡ map said_in old.sends.items ++ (Only to, packet.Promise ballot slot (length votes)) ∷ []
    → map said_in new.sends.items ≡ map said_in middle.sends.items ++ map (λ vote. (Only to, old_vote ballot vote)) votes
    → drafted kept new ≡ done (Send (Only to) (Promise ballot slot votes) ∷ []) (drafted kept old)
unfolding packets_of
promised kept old middle new to ballot slot votes one two first rest =
    drafted-send kept old new (Only to) (Promise ballot slot votes) (sends-twice old middle new one two)
    (rest ∙ rw (first, map_twice {Z = Whom × Packet} (λ (packet : Packet). (Only to, packet)) (old_vote ballot) votes) (append_assoc (map said_in old.sends.items) ((Only to, packet.Promise ballot slot (length votes)) ∷ []) (map (λ vote. (Only to, old_vote ballot vote)) votes)))

-- ---- what is sent by several packets

-- the act sends something
abbrev pub IsSend : Act → Type 0
IsSend (Send whom message) = ⊤
IsSend act = ⊥

sends-state : (acts : List Act) → AllByRecursion IsSend acts → (state : State) → after_acts acts state ≡ state
unfolding after_act
sends-state [] sends state = refl
sends-state (Send whom message ∷ acts) sends state = sends-state acts sends.1 state
sends-state (act ∷ acts) sends state = absurd sends.0

sends-deltas : (acts : List Act) → AllByRecursion IsSend acts → deltas_of acts ≡ []
unfolding deltas_by
sends-deltas [] sends = refl
sends-deltas (Send whom message ∷ acts) sends = sends-deltas acts sends.1
sends-deltas (act ∷ acts) sends = absurd sends.0

sends-learnt : (acts : List Act) → AllByRecursion IsSend acts → learnt_of acts ≡ []
unfolding learnt_by
sends-learnt [] sends = refl
sends-learnt (Send whom message ∷ acts) sends = sends-learnt acts sends.1
sends-learnt (act ∷ acts) sends = absurd sends.0

sends-calls : (acts : List Act) → AllByRecursion IsSend acts → calls_of acts ≡ []
unfolding calls_by
sends-calls [] sends = refl
sends-calls (Send whom message ∷ acts) sends = sends-calls acts sends.1
sends-calls (act ∷ acts) sends = absurd sends.0

pub all-sends : (to : ℕ) (messages : List Message) → AllByRecursion IsSend (send_all to messages)
all-sends to [] = tt
all-sends to (message ∷ messages) = (tt, all-sends to messages)

-- a draft that only sends goes on by what it sends
pub goes-by : (old new : Draft) (acts : List Act) → SendsOnly old new → AllByRecursion IsSend acts → HasSent old.sends.items new.sends.items acts → Goes old new acts
goes-by old new acts only sends says kept =
    rw (
      only.seen,
      only.term,
      only.best,
      only.change,
      only.learnt,
      only.call,
      says,
      sends-state acts sends (drafted kept old).state,
      sends-deltas acts sends,
      sends-learnt acts sends,
      sends-calls acts sends,
      append-nil (drafted kept old).deltas,
      append-nil (drafted kept old).learnt,
      append-nil (drafted kept old).calls,
    ) refl

pub says-nothing : (sends : List Sent) → HasSent sends sends []
says-nothing sends = sym (append-nil (map said_in sends))

-- what is sent, and what is sent behind it
pub says-on : (one two three : List Sent) (xs ys : List Act) → HasSent one two xs → HasSent two three ys → HasSent one three (xs ++ ys)
says-on one two three xs ys first second =
    second ∙ rw (first, flat_map-append said_by xs ys) (append_assoc (map said_in one) (said_of xs) (said_of ys))

-- entries are told, and one more
says-more : (one two three : List Sent) (to first : ℕ) (entries : List Entry) (entry : Entry) → HasSent one two (send_all to (known_from first entries))
    → map said_in three ≡ map said_in two ++ (Only to, packet.Known (first + length entries) entry) ∷ [] → HasSent one three (send_all to (known_from first (entries ++ entry ∷ [])))
unfolding said_by packets_of
says-more one two three to first entries entry before now =
    rw (known-push first entries entry, map-append (Send (Only to)) (known_from first entries) (Known (first + length entries) entry ∷ []))
    (says-on one two three (send_all to (known_from first entries)) (Send (Only to) (Known (first + length entries) entry) ∷ []) before now)

-- entries are told, one after another, each at the place that it has among them
pub says-next : (one two three : List Sent) (to first place : ℕ) (entries : List Entry) (none entry : Entry) → place < length entries → get_or entries place none ≡ entry
    → HasSent one two (send_all to (known_from first (take place entries))) → map said_in three ≡ map said_in two ++ (Only to, packet.Known (first + place) entry) ∷ []
    → HasSent one three (send_all to (known_from first (take (place + 1) entries)))
says-next one two three to first place entries none entry in_range is before now =
    let count : length (take place entries) ≡ place = length-take-le place entries (omega (arith, in_range)) in
    rw (take_more entries place none in_range, is)
    (says-more one two three to first (take place entries) entry before (rw count now))

-- a launch table is sent, and then its rows
pub says-rows : (one two : List Sent) (to slot : ℕ) (rows : List JobRow)
    → map said_in two ≡ (map said_in one ++ (Only to, packet.Snap slot (length rows)) ∷ []) ++ map (λ (row : JobRow). (Only to, packet.SnapRow slot row)) rows
    → HasSent one two (Send (Only to) (Snap slot rows) ∷ [])
unfolding said_by packets_of
says-rows one two to slot rows is =
    is
    ∙ append_assoc (map said_in one) ((Only to, packet.Snap slot (length rows)) ∷ []) (map (λ (row : JobRow). (Only to, packet.SnapRow slot row)) rows)
    ∙ rw (map_twice {Z = Whom × Packet} (λ (packet : Packet). (Only to, packet)) (packet.SnapRow slot) rows, append-nil {A = Whom × Packet} (map (λ (row : JobRow). (Only to, packet.SnapRow slot row)) rows)) refl
