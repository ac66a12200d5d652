-- Two replicas over a table without jobs, of which one leads and is idle: the turns of a round, and that each may follow.
use Rattle.std.proofs.Common.{◌≡◌, ℕ, true, pos, Some, None, List, [], ◌∷◌, ℤ, refl, sym, ap, ◌∙◌, arith, subst, lit<}
use Rattle.std.specs.List.{slice_get}
use Rattle.launch_machine.specs.Clerk.{first_rows, table_size}
use Rattle.paxos_letter.specs.Letters.{Spells}
use Rattle.paxos_letter.specs.Spelling.{spelling}
use Rattle.paxos_letter.specs.declared.packet.Packet.TheVariants as packet
use Rattle.paxos_base.specs.Vote.{votes_from}
use Rattle.paxos_base.specs.declared.durable.Durable.{Durable}
use Rattle.cluster_sched.specs.declared.row.SchedRow.{SchedRow}
use Rattle.due_set.proofs.SoundLemmas.{no_later}
use Rattle.due_set.specs.Table.{IsSound, Table}
use Rattle.launch_machine.specs.Answers.{IsIntent}
use Rattle.launch_machine.specs.declared.machine.Intent.TheVariants.{Rest}
use Rattle.term_core.specs.declared.term.Term.TheVariants.{Follower, Leader}
use Rattle.step_spec.specs.Act.{Act, Observe, Send, after_act}
use Rattle.step_spec.specs.Folds.{after_acts, calls_by, calls_of, learnt_by, learnt_of, sent_by}
use Rattle.step_spec.specs.Hear.{hear, hear_all, line, on_lead}
use Rattle.step_spec.specs.Heard.{messages_of, packets_of}
use Rattle.step_spec.specs.Letters.{AreLettersOf, IsHeardAs}
use Rattle.step_spec.specs.Message.{Lead, Others}
use Rattle.step_spec.specs.Propose.{tick}
use Rattle.step_spec.specs.State.{State}
use Rattle.step_spec.specs.Step.{Event, Hear, IsPlanned, Tick, step}
use Rattle.agreement.specs.Transition.{identity_of}
use Rattle.history.specs.Book.{PostedLetter, Row, Standing, acts_at, votes_of}
use Rattle.history.specs.Legal.{BringsStep, IsMade, MayFollow}
use Rattle.history.specs.declared.turn.Cause.TheVariants as cause
use Rattle.history.specs.declared.turn.Turn.TheVariants.{Did}
use Rattle.history.proofs.TableRows.{rests_without_jobs}

-- ---- the table

abbrev pub bare : Table
bare = record { window = record { from = record { 0 = pos 525_600 }; until = record { 0 = pos 525_601 } }; grace = 0; zones = []; jobs = []; later = [] }

pub bare_sound : IsSound bare
bare_sound = record {
  limits = record { since = grind arith; until = grind arith; ordered = grind arith; short = grind arith };
  grace = grind arith;
  built = λ k d within. absurd (omega (arith, within));
  zone_numbers = λ k d within. absurd (omega (arith, within));
  few = grind arith;
  distinct = λ i j d before within. absurd (omega (arith, within));
  kinds = λ k d within. absurd (omega (arith, within));
  versions = no_later bare;
}

abbrev pub now : ℤ
now = pos 525_600

pub bare_rests : IsIntent bare (first_rows bare) now Rest
bare_rests = rests_without_jobs bare (first_rows bare) now refl refl

-- ---- the replicas

abbrev kept_with : ℕ → Durable
kept_with tried = record { tried = tried; promised = Some 8; votes = []; base = 0; rows = first_rows bare }

abbrev pub leader : State
leader = record { kept = kept_with 1; learned = []; term = Leader 8 [] None; seen = 8 }

abbrev pub follower : State
follower = record { kept = kept_with 0; learned = []; term = Follower None; seen = 8 }

-- ---- the turns of a round

abbrev tick_event : Event
tick_event = Tick now (record { rows = first_rows bare; intent = Rest })

abbrev lead_event : Event
lead_event = Hear 0 (Lead 8 0 ∷ [])

abbrev lead_bytes : List ℕ
lead_bytes = spelling 0 (packet.Lead 8 0 ∷ [])

abbrev pub lead_letter : PostedLetter
lead_letter = record { from = 0; to = 1; bytes = lead_bytes }

-- the leader's clock ticks, and it says that it leads
abbrev pub leads : Row
leads = record { turn = Did 0 (cause.Tick (record { 0 = now })) None; event = tick_event; letters = record { to = 1; bytes = lead_bytes } ∷ []; votes = []; learnt = [] }

-- the other hears that
abbrev pub hears : ℕ → Row
hears number = record { turn = Did 1 (cause.Hear number) None; event = lead_event; letters = []; votes = []; learnt = [] }

-- and its clock ticks
abbrev pub ticks : Row
ticks = record { turn = Did 1 (cause.Tick (record { 0 = now })) None; event = tick_event; letters = []; votes = []; learnt = [] }

lead_spells : Spells 2 0 (packet.Lead 8 0 ∷ []) lead_bytes
lead_spells = record {
  letter = record { some = λ is. cc; kinds = (refl, tt); members_keep = (refl, tt); groups = refl };
  fits = (record { kind = lit< tt; from = lit< tt; tag = lit< tt; zero = lit< tt; job = lit< tt; ballot = lit< tt; slot = lit< tt; old = lit< tt; at = grind arith; moment = grind arith; last = grind arith }, tt);
  spelled = refl;
}

pub lead_heard : IsHeardAs 2 (table_size bare) lead_bytes 0 (Lead 8 0 ∷ [])
unfolding messages_of
lead_heard = record { packets = packet.Lead 8 0 ∷ []; spells = lead_spells; heard = refl }

-- ---- what they do

lead_acts : step (identity_of 2 0) tick_event leader ≡ Send Others (Lead 8 0) ∷ []
unfolding step tick votes_from
lead_acts = refl

hear_acts : step (identity_of 2 1) lead_event follower ≡ Observe 8 ∷ []
unfolding step hear hear_all line on_lead after_act
hear_acts = refl

tick_acts : step (identity_of 2 1) tick_event follower ≡ []
unfolding step tick
tick_acts = refl

-- the acts leave the replica as it is
leaves : (who : ℕ) (event : Event) (acts : List Act) (old state : State) → step (identity_of 2 who) event old ≡ acts → after_acts acts old ≡ old → state ≡ old → after_acts (step (identity_of 2 who) event state) state ≡ old
leaves who event acts old state are same is =
    ap (λ (s : State). after_acts (step (identity_of 2 who) event s) s) is ∙ (ap (λ some. after_acts some old) are ∙ same)

pub leader_stays : (state : State) → state ≡ leader → after_acts (step (identity_of 2 0) leads.event state) state ≡ leader
unfolding after_act
leader_stays state is = leaves 0 tick_event (Send Others (Lead 8 0) ∷ []) leader state lead_acts refl is

pub hearer_stays : (number : ℕ) (state : State) → state ≡ follower → after_acts (step (identity_of 2 1) (hears number).event state) state ≡ follower
unfolding after_act
hearer_stays number state is = leaves 1 lead_event (Observe 8 ∷ []) follower state hear_acts refl is

pub follower_stays : (state : State) → state ≡ follower → after_acts (step (identity_of 2 1) ticks.event state) state ≡ follower
follower_stays state is = leaves 1 tick_event [] follower state tick_acts refl is

-- ---- each turn may follow

-- a row brings what some acts do, without a call
record BringsActs (who : ℕ) (row : Row) (held : List SchedRow) (acts : List Act) : Type 0 where
  letters : AreLettersOf (identity_of 2 who) acts row.letters
  votes : row.votes ≡ votes_of acts
  learnt : row.learnt ≡ learnt_of acts
  call : IsMade held (calls_of acts) None

brings : (s : Standing) (who : ℕ) (row : Row) (acts : List Act) → BringsActs who row s.held acts → acts_at 2 s who row.event ≡ acts → BringsStep 2 s who row None
brings s who row acts does are =
    let it = subst (λ some. BringsActs who row s.held some) (sym are) does in
    record { letters = it.letters; votes = it.votes; learnt = it.learnt; call = it.call }

pub may_lead : (s : Standing) → s.runs 0 ≡ true → s.replicas 0 ≡ leader → MayFollow 2 bare s leads.turn leads
unfolding packets_of learnt_by calls_by sent_by
may_lead s runs is = (
  record {
    member = lit< tt;
    runs = runs;
    event_of = (record { since = grind arith; before = grind arith }, record { rows = first_rows bare; intent = Rest }, refl);
    planned = subst (λ (state : State). IsPlanned bare state tick_event) (sym is) (refl, bare_rests);
  },
  brings s 0 leads (Send Others (Lead 8 0) ∷ []) (record { letters = (record { to = refl; spells = lead_spells }, tt); votes = refl; learnt = refl; call = refl })
      (ap (step (identity_of 2 0) tick_event) is ∙ lead_acts),
)

pub may_hear : (s : Standing) (number : ℕ) → s.runs 1 ≡ true → s.replicas 1 ≡ follower → slice_get s.posted number ≡ Some lead_letter → MayFollow 2 bare s (hears number).turn (hears number)
unfolding learnt_by calls_by sent_by
may_hear s number runs is there = (
  record {
    member = lit< tt;
    runs = runs;
    event_of = record { letter = lead_letter; there = there; to = refl; messages = Lead 8 0 ∷ []; heard = lead_heard; is = refl };
    planned = tt;
  },
  brings s 1 (hears number) (Observe 8 ∷ []) (record { letters = tt; votes = refl; learnt = refl; call = refl })
      (ap (step (identity_of 2 1) lead_event) is ∙ hear_acts),
)

pub may_tick : (s : Standing) → s.runs 1 ≡ true → s.replicas 1 ≡ follower → MayFollow 2 bare s ticks.turn ticks
unfolding learnt_by calls_by sent_by
may_tick s runs is = (
  record {
    member = lit< tt;
    runs = runs;
    event_of = (record { since = grind arith; before = grind arith }, record { rows = first_rows bare; intent = Rest }, refl);
    planned = subst (λ (state : State). IsPlanned bare state tick_event) (sym is) (refl, bare_rests);
  },
  brings s 1 ticks [] (record { letters = tt; votes = refl; learnt = refl; call = refl })
      (ap (step (identity_of 2 1) tick_event) is ∙ tick_acts),
)
