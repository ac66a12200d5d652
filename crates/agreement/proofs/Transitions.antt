-- The acts of a transition may be done one after another.
use Rattle.std.proofs.Common.{◌≡◌, ℕ, ◌<◌, ◌≤◌, Option, None, Some, List, [], ◌∷◌, ◌++◌, refl, inl, inr, arith, subst, ◌⊎◌}
use Rattle.std.specs.List.{Contains}
use Rattle.std.proofs.lemmas.List.Elements.{Contains-append_left}
use Rattle.std.proofs.lemmas.Bool.{eq-eqb}
use Rattle.paxos_base.specs.declared.entry.Entry.{Entry}
use Rattle.paxos_base.specs.declared.entry.Kind.{Kind}
use Rattle.due_set.specs.Table.{Table}
use Rattle.step_spec.specs.Act.{Act, Observe, Stand, Gather, TakeLead, Pledge, Cast, Propose, Count, Wait, Learn, Rebase, Call, Send, Restart, after_act}
use Rattle.step_spec.specs.May.{May, Ending, Setting}
use Rattle.step_spec.specs.Message.{Promise}
use Rattle.step_spec.specs.State.{State, prefix_of}
use Rattle.agreement.specs.World.{Doing, World, after_doing, after_done, answered_after}
use Rattle.std.specs.List.{filter}
use Rattle.step_spec.specs.May.{AllMay, IsCounted, IsNamed, none_named, by_saying, MayEnter, Saying}
use Rattle.paxos_base.specs.declared.entry.Entry.TheVariants.{Noop, Start, End, Table as TableEntry}
use Rattle.step_spec.specs.Message.{Accept, Accepted, Known, Snap}
use Rattle.step_spec.specs.Step.{IsLaunchTable}
use Rattle.step_spec.proofs.LineLemmas.{step_may}
use Rattle.agreement.specs.Transition.{Transition, Did, Stopped, Restarted, AreTransitions, MayCome, after_transition, after_transitions, doings_in, identity_of, is_silent}
use Rattle.agreement.specs.World.{AllMayDo, after_all, doings_of, said_after}
use Rattle.step_spec.specs.Step.{Event}
use Rattle.paxos_base.specs.declared.rows.JobRow.{JobRow}
use Rattle.agreement.specs.World.{first_world}
use Rattle.agreement.proofs.Answering.{tables_still, whole_still}
use Rattle.agreement.proofs.Tables.{Tables, tables_after}
use Rattle.agreement.proofs.Whole.{IsWhole, first_is_whole, whole_after}

-- what was said stays said
pub said_stays : (by : ℕ) (act : Act) (said : List Saying) (saying : Saying) → Contains said saying → Contains (said_after by act said) saying
said_stays by (Send whom mine) said saying has = Contains-append_left said (record { by = by; message = mine } ∷ []) saying has
said_stays by act said saying has = has

-- what was answered stays answered
pub answered_stays : (by : ℕ) (act : Act) (answer : Option Kind) (answered : List Ending) (ending : Ending) → Contains answered ending → Contains (answered_after by act answer answered) ending
answered_stays by (Call row) (Some kind) answered ending has = Contains-append_left answered (record { to = by; job = row.name.job; at = row.name.at; kind = kind } ∷ []) ending has
answered_stays by (Call row) None answered ending has = has
answered_stays by act answer answered ending has = has

-- a setting in which more was said and answered
abbrev with_more : List Saying → List Ending → Setting → Setting
with_more said answered setting = record setting { said = said; answered = answered }

-- what may be done may be done where more was said and answered
may_more : (setting : Setting) (more : List Saying) (answers : List Ending) (state : State) (act : Act) → ((saying : Saying) → Contains setting.said saying → Contains more saying) → ((ending : Ending) → Contains setting.answered ending → Contains answers ending) → May setting state act → May (with_more more answers setting) state act
unfolding May
may_more setting more answers state (Observe ballot) stays answers_stay may = named may
  where
    named : IsNamed setting.said ballot → IsNamed more ballot
    named (none_named is) = none_named is
    named (by_saying saying has is) = by_saying saying (stays saying has) is
may_more setting more answers state (Stand me ballot) stays answers_stay may = record { told = may.told; is_me = may.is_me; own = may.own; higher = may.higher; above = may.above }
may_more setting more answers state (Gather from votes) stays answers_stay may = record {
  ballot = may.ballot;
  first = may.first;
  heard = may.heard;
  best = may.best;
  candidate = may.candidate;
  promise = stays (record { by = from; message = Promise may.ballot may.first votes }) may.promise;
}
may_more setting more answers state TakeLead stays answers_stay may = may
may_more setting more answers state (Pledge ballot) stays answers_stay may = may
may_more setting more answers state (Cast vote) stays answers_stay may = record {
  from = may.from;
  asked = stays (record { by = may.from; message = Accept vote }) may.asked;
  from_base = may.from_base;
  promised = may.promised;
  seen = may.seen;
  alone = may.alone;
  first = may.first;
}
may_more setting more answers state (Propose me vote) stays answers_stay may = record {
  is_me = may.is_me;
  best = may.best;
  leader = may.leader;
  slot = may.slot;
  entry = may.entry;
  may = enter may.entry may.may;
  bound = may.bound;
}
  where
    enter : (entry : Entry) → MayEnter setting state entry → MayEnter (with_more more answers setting) state entry
    enter Noop it = it
    enter (Start job at now) it = record { rows = it.rows; rows_are = it.rows_are; asked = it.asked }
    enter (TableEntry version now) it = record { rows = it.rows; rows_are = it.rows_are; asked = it.asked }
    enter (End job at kind) it = record { rows = it.rows; rows_are = it.rows_are; open_there = it.open_there; answered = answers_stay _ it.answered }
may_more setting more answers state (Count from) stays answers_stay may = record {
  ballot = may.ballot;
  best = may.best;
  flight = may.flight;
  leader = may.leader;
  accepted = stays (record { by = from; message = Accepted may.ballot may.flight.slot }) may.accepted;
}
may_more setting more answers state Wait stays answers_stay may = may
may_more setting more answers state (Learn slot entry) stays answers_stay may = record { next = may.next; known = known may.known }
  where
    known : ((from : ℕ) × Contains setting.said (record { by = from; message = Known slot entry })) ⊎ IsCounted setting.self state slot entry
        → ((from : ℕ) × Contains more (record { by = from; message = Known slot entry })) ⊎ IsCounted setting.self state slot entry
    known (inl (from, has)) = inl (from, stays (record { by = from; message = Known slot entry }) has)
    known (inr counted) = inr counted
may_more setting more answers state (Rebase slot rows) stays answers_stay may = record { up = may.up; rows_of = told may.rows_of }
  where
    told : ((slot ≡ prefix_of state) × IsLaunchTable setting.table state rows) ⊎ ((from : ℕ) × Contains setting.said (record { by = from; message = Snap slot rows }))
        → ((slot ≡ prefix_of state) × IsLaunchTable setting.table state rows) ⊎ ((from : ℕ) × Contains more (record { by = from; message = Snap slot rows }))
    told (inl mine) = inl mine
    told (inr (from, has)) = inr (from, stays (record { by = from; message = Snap slot rows }) has)
may_more setting more answers state (Call row) stays answers_stay may = record { by = may.by; rows = may.rows; rows_are = may.rows_are; asked = may.asked }
may_more setting more answers state (Send whom message) stays answers_stay may = may
may_more setting more answers state (Restart me) stays answers_stay may = record { told = may.told; is_me = may.is_me }

-- what the replica knows that did an act
here : (by : ℕ) (act : Act) (w : World) → (after_doing by act w).replicas by ≡ after_act act (w.replicas by)
unfolding after_doing
here by act w = rw (eq-eqb by by refl) refl

said_is : (by : ℕ) (act : Act) (w : World) → (after_doing by act w).said ≡ said_after by act w.said
unfolding after_doing
said_is by act w = refl

answered_is : (by : ℕ) (act : Act) (w : World) → (after_doing by act w).answered ≡ w.answered
unfolding after_doing
answered_is by act w = refl

-- acts that a replica may do are done one after another, whatever it says and is answered meanwhile
acts_done : (n : ℕ) (table : Table) (by : ℕ) (event : Option Event) (answer : Option Kind) (answered : List Ending) (heard : List Saying) (acts : List Act) (w : World) → by < n → ((saying : Saying) → Contains heard saying → Contains w.said saying) → ((ending : Ending) → Contains answered ending → Contains w.answered ending)
    → AllMay (record { self = identity_of n by; table = table; event = event; said = heard; answered = answered }) (w.replicas by) acts → AllMayDo n table w (doings_of by event answer acts)
acts_done n table by event answer answered heard [] w member stays answers_stay may = tt
acts_done n table by event answer answered heard (act ∷ acts) w member stays answers_stay may = (
  record { member = member; may = may_more _ w.said w.answered (w.replicas by) act stays answers_stay may.0 },
  acts_done n table by event answer answered heard acts (after_done (record { by = by; event = event; act = act; answer = answer }) w) member
      (λ saying has. rw (said_is by act w) (said_stays by act w.said saying (stays saying has)))
      (λ ending has. rw (answered_is by act w) (answered_stays by act answer w.answered ending (answers_stay ending has)))
      (rw (here by act w) may.1),
)

-- acts that come first may be done without the rest
pub front_may : (setting : Setting) (state : State) (front back : List Act) → AllMay setting state (front ++ back) → AllMay setting state front
front_may setting state [] back may = tt
front_may setting state (act ∷ front) back may = (may.0, front_may setting (after_act act state) front back may.1)

-- a message that doesn't leave changes nothing for the acts behind it
pub silent_may : (setting : Setting) (state : State) (acts : List Act) → AllMay setting state acts → AllMay setting state (filter is_silent acts)
unfolding after_act
silent_may setting state [] may = tt
silent_may setting state (Send whom message ∷ acts) may = silent_may setting state acts may.1
silent_may setting state (act ∷ acts) may = (may.0, silent_may setting (after_act act state) acts may.1)

-- the acts of a transition that may come next may be done one after another
transition_done : (n : ℕ) (table : Table) (w : World) (transition : Transition) → n ≤ 7 → IsWhole n w → MayCome n table w transition → AllMayDo n table w (doings_in n transition w)
unfolding May
transition_done n table w (Did by event answer) few whole may =
    let acts = step_may (record { self = identity_of n by; table = table; event = Some event; said = w.said; answered = w.answered }) (w.replicas by) event refl (omega (arith, may.member, few)) (whole.kept.sound by may.member) may.planned may.heard in
    acts_done n table by (Some event) answer w.answered w.said _ w may.member (λ saying has. has) (λ ending has. has) acts
transition_done n table w (Stopped by event front back) few whole (may, parts) =
    let setting : Setting = record { self = identity_of n by; table = table; event = Some event; said = w.said; answered = w.answered } in
    let acts = step_may setting (w.replicas by) event refl (omega (arith, may.member, few)) (whole.kept.sound by may.member) may.planned may.heard in
    let first = front_may setting (w.replicas by) front back (subst (λ acts. AllMay setting (w.replicas by) acts) parts acts) in
    acts_done n table by (Some event) None w.answered w.said _ w may.member (λ saying has. has) (λ ending has. has) (silent_may setting (w.replicas by) front first)
transition_done n table w (Restarted by) few whole member = (record { member = member; may = record { told = refl; is_me = refl } }, tt)

-- a world that is whole, and whose launch tables are those of chosen entries
pub record IsFollowed (n : ℕ) (table : Table) (first : List JobRow) (w : World) : Type 0 where
  pub whole : IsWhole n w
  pub tables : Tables n table first w

pub first_followed : (n : ℕ) (table : Table) (rows : List JobRow) → IsFollowed n table rows (first_world rows)
first_followed n table rows = record {
  whole = first_is_whole n rows;
  tables = record {
    bases = λ q. record { entries = []; long = refl; chosen = tt; applied = refl };
    snaps = λ q slot rows (k, within, is). absurd (omega (arith, within));
  };
}

pub followed_after_all : (n : ℕ) (table : Table) (first : List JobRow) (w : World) (doings : List Doing) → n ≤ 7 → IsFollowed n table first w → AllMayDo n table w doings → IsFollowed n table first (after_all doings w)
followed_after_all n table first w [] few followed may = followed
followed_after_all n table first w (doing ∷ doings) few followed may =
    followed_after_all n table first (after_done doing w) doings few
    (record {
      whole = whole_still n doing _ (whole_after n table w doing few followed.whole may.0);
      tables = tables_still n table first doing _ (tables_after n table first w doing followed.whole.known followed.tables may.0);
    })
    may.1

pub transitions_followed : (n : ℕ) (table : Table) (first : List JobRow) (w : World) (transitions : List Transition) → n ≤ 7 → IsFollowed n table first w → AreTransitions n table w transitions → IsFollowed n table first (after_transitions n transitions w)
transitions_followed n table first w [] few followed may = followed
transitions_followed n table first w (transition ∷ transitions) few followed may =
    transitions_followed n table first (after_transition n transition w) transitions few
    (followed_after_all n table first w (doings_in n transition w) few followed (transition_done n table w transition few followed.whole may.0))
    may.1
