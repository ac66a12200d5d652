-- Two replicas over a table without jobs have two turns each, in two orders.
use Rattle.std.proofs.Common.{◌≡◌, ℕ, zero, suc, ◌<◌, pos, true, false, Some, None, List, [], ◌∷◌, ◌++◌, refl, subst, arith, lit<, inl}
use Rattle.std.specs.List.{slice_get}
use Rattle.paxos_base.specs.Durable.{after_delta}
use Rattle.paxos_base.specs.Members.{with_member}
use Rattle.paxos_base.specs.Vote.{votes_from}
use Rattle.paxos_letter.specs.Spelling.{spelling}
use Rattle.paxos_letter.specs.declared.packet.Packet.{Packet}
use Rattle.paxos_letter.specs.declared.packet.Packet.TheVariants as packet
use Rattle.launch_machine.specs.Answers.{IsIntent}
use Rattle.launch_machine.specs.Clerk.{first_rows}
use Rattle.launch_machine.specs.declared.machine.Intent.TheVariants as intent
use Rattle.step_spec.specs.Act.{after_act}
use Rattle.step_spec.specs.Folds.{calls_by, deltas_by, learnt_by, sent_by}
use Rattle.step_spec.specs.Hear.{hear, hear_all, line, on_prepare}
use Rattle.step_spec.specs.Heard.{messages_of, packets_of}
use Rattle.step_spec.specs.Message.{Prepare}
use Rattle.step_spec.specs.Propose.{campaign, tick}
use Rattle.step_spec.specs.Step.{Campaign, Event, Hear, IsLaunchTable, Tick, step}
use Rattle.step_spec.specs.declared.out.OutLetter.{OutLetter}
use Rattle.history.specs.Book.{Row, Standing, after_row, standing_after}
use Rattle.history.specs.Legal.{IsLegal, MayFollow, TakesTurn}
use Rattle.history.specs.Some.{no_jobs}
use Rattle.history.specs.declared.turn.Cause.{Cause}
use Rattle.history.specs.declared.turn.Cause.TheVariants as cause
use Rattle.history.specs.declared.turn.Turn.TheVariants.{Did}
use Rattle.history.proofs.SomeBook.{prepare_spells, promise_spells}
use Rattle.history.proofs.TableRows.{rests_without_jobs}
use Rattle.history.proofs.Turns.{legal_append}
use Rattle.script_semantics.specs.Arms.{IsEnough}
use Rattle.script_semantics.specs.Free.{Course, GoesFreely, IsFreePart, IsFreeTurn, TakesFreeTurns, after_all_posted, course_of, is_turn_of, next_cause}
use Rattle.script_semantics.specs.Situation.{Situation, changes_in, first_situation}
use Rattle.script_semantics.proofs.PartLemmas.{goes_none, goes_other, goes_own}

-- ---- the turns

abbrev pub did : ℕ → Cause → Event → List OutLetter → Row
did who cause event letters = record { turn = Did who cause None; event = event; letters = letters; votes = []; learnt = [] }

abbrev letter_to : ℕ → ℕ → Packet → OutLetter
letter_to to from packet = record { to = to; bytes = spelling from (packet ∷ []) }

abbrev pub minute : Cause
minute = cause.Tick (record { 0 = pos 0 })

abbrev pub told_minute : Event
told_minute = Tick (pos 0) (record { rows = first_rows no_jobs; intent = intent.Rest })

abbrev pub stands : Row
stands = did 0 cause.Campaign Campaign (letter_to 1 0 (packet.Prepare 8 0) ∷ [])

abbrev pub ticks : ℕ → Row
ticks who = did who minute told_minute []

abbrev promises : Row
promises = did 1 (cause.Hear 0) (Hear 0 (Prepare 8 0 ∷ [])) (letter_to 0 1 (packet.Promise 8 0 0) ∷ [])

-- replica 0 stands for leader first, and replica 1 hears of it in its second turn
abbrev pub heard : List Row
heard = stands ∷ ticks 1 ∷ promises ∷ ticks 0 ∷ []

-- replica 1 has its turns first
abbrev pub unheard : List Row
unheard = ticks 1 ∷ ticks 1 ∷ stands ∷ ticks 0 ∷ []

-- ---- both are legal

abbrev pub May : List Row → Row → Type 0
May book row = MayFollow 2 no_jobs (standing_after 2 (first_rows no_jobs) book) row.turn row

asks_nothing : IsIntent no_jobs (first_rows no_jobs) (pos 0) intent.Rest
asks_nothing = rests_without_jobs no_jobs (first_rows no_jobs) (pos 0) refl refl

pub takes_campaign : (standing : Standing) (who : ℕ) → who < 2 → standing.runs who ≡ true → TakesTurn 2 no_jobs standing who cause.Campaign Campaign
takes_campaign standing who member runs = record { member = member; runs = runs; event_of = refl; planned = tt }

pub takes_tick : (standing : Standing) (who : ℕ) → who < 2 → standing.runs who ≡ true → IsLaunchTable no_jobs (standing.replicas who) (first_rows no_jobs)
    → TakesTurn 2 no_jobs standing who minute told_minute
takes_tick standing who member runs launch = record {
  member = member;
  runs = runs;
  event_of = (record { since = grind arith; before = grind arith }, record { rows = first_rows no_jobs; intent = intent.Rest }, refl);
  planned = (launch, asks_nothing);
}

stands_first : May [] stands
unfolding step campaign after_row after_act after_delta deltas_by learnt_by calls_by sent_by with_member votes_from packets_of
stands_first =
    (takes_campaign _ 0 (lit< tt) refl, record { letters = (record { to = refl; spells = prepare_spells }, tt); votes = refl; learnt = refl; call = refl })

ticks_second : May (stands ∷ []) (ticks 1)
unfolding step campaign tick after_row after_act after_delta deltas_by learnt_by calls_by sent_by with_member votes_from packets_of
ticks_second = (takes_tick _ 1 (lit< tt) refl refl, record { letters = tt; votes = refl; learnt = refl; call = refl })

hears_third : May (stands ∷ ticks 1 ∷ []) promises
unfolding step campaign tick hear hear_all line on_prepare after_row after_act after_delta deltas_by learnt_by calls_by sent_by with_member votes_from packets_of messages_of
hears_third = (
  record {
    member = lit< tt;
    runs = refl;
    event_of = record {
      letter = record { from = 0; to = 1; bytes = spelling 0 (packet.Prepare 8 0 ∷ []) };
      there = refl;
      to = refl;
      messages = Prepare 8 0 ∷ [];
      heard = record { packets = packet.Prepare 8 0 ∷ []; spells = prepare_spells; heard = refl };
      is = refl;
    };
    planned = tt;
  },
  record { letters = (record { to = refl; spells = promise_spells }, tt); votes = refl; learnt = refl; call = refl },
)

ticks_fourth : May (stands ∷ ticks 1 ∷ promises ∷ []) (ticks 0)
unfolding step campaign tick hear hear_all line on_prepare after_row after_act after_delta deltas_by learnt_by calls_by sent_by with_member packets_of messages_of
ticks_fourth = (takes_tick _ 0 (lit< tt) refl refl, record { letters = tt; votes = refl; learnt = refl; call = refl })

ticks_first : May [] (ticks 1)
unfolding step tick after_row after_act after_delta deltas_by learnt_by calls_by sent_by votes_from packets_of
ticks_first = (takes_tick _ 1 (lit< tt) refl refl, record { letters = tt; votes = refl; learnt = refl; call = refl })

ticks_again : May (ticks 1 ∷ []) (ticks 1)
unfolding step tick after_row after_act after_delta deltas_by learnt_by calls_by sent_by votes_from packets_of
ticks_again = (takes_tick _ 1 (lit< tt) refl refl, record { letters = tt; votes = refl; learnt = refl; call = refl })

stands_third : May (ticks 1 ∷ ticks 1 ∷ []) stands
unfolding step campaign tick after_row after_act after_delta deltas_by learnt_by calls_by sent_by with_member votes_from packets_of
stands_third =
    (takes_campaign _ 0 (lit< tt) refl, record { letters = (record { to = refl; spells = prepare_spells }, tt); votes = refl; learnt = refl; call = refl })

ticks_last : May (ticks 1 ∷ ticks 1 ∷ stands ∷ []) (ticks 0)
unfolding step campaign tick after_row after_act after_delta deltas_by learnt_by calls_by sent_by with_member votes_from packets_of
ticks_last = (takes_tick _ 0 (lit< tt) refl refl, record { letters = tt; votes = refl; learnt = refl; call = refl })

pub none_is_legal : IsLegal 2 no_jobs []
none_is_legal number row is = absurd cc

pub heard_is_legal : IsLegal 2 no_jobs heard
heard_is_legal = legal_append 2 no_jobs [] heard none_is_legal (stands_first, (ticks_second, (hears_third, (ticks_fourth, tt))))

pub unheard_is_legal : IsLegal 2 no_jobs unheard
unheard_is_legal = legal_append 2 no_jobs [] unheard none_is_legal (ticks_first, (ticks_again, (stands_third, (ticks_last, tt))))

-- ---- both are parts

abbrev start : Situation
start = first_situation 2 no_jobs

-- the row is the replica's next turn behind these
abbrev Next : (who : ℕ) → List Row → Row → Type 0
Next who rows row = IsFreeTurn 2 no_jobs.window (pos 0) 2 who (course_of 2 who start rows) row

abbrev Goes : (who : ℕ) → List Row → Type 0
Goes who rows = GoesFreely 2 no_jobs.window (pos 0) 2 who start rows

none_goes : (who : ℕ) → Goes who []
none_goes who = goes_none 2 who no_jobs.window (pos 0) 2 start

own : (who : ℕ) (rows : List Row) (row : Row) → Goes who rows → Next who rows row → Goes who (rows ++ row ∷ [])
own who rows row = goes_own 2 who no_jobs.window (pos 0) 2 start rows row

pub in_turn : {who : ℕ} {course : Course} {row : Row} → course.seen.standing.runs who ≡ true → course.taken < 2
    → row.turn ≡ Did who (next_cause no_jobs.window (pos 0) who course.taken course.seen) None
    → IsEnough (course.seen.arms who) (changes_in 2 course.seen.standing row.turn row.event) → IsFreeTurn 2 no_jobs.window (pos 0) 2 who course row
in_turn runs left is saved = record { runs = runs; left = left; does = inl (record { does = record { made = None; is = is; fate = tt }; saved = saved }) }

other : (who : ℕ) (rows : List Row) (row : Row) → Goes who rows → is_turn_of who row.turn ≡ false → Goes who (rows ++ row ∷ [])
other who rows row = goes_other 2 who no_jobs.window (pos 0) 2 start rows row

heard_goes_first : Goes 0 heard
unfolding after_row
heard_goes_first =
    own 0 (stands ∷ ticks 1 ∷ promises ∷ []) (ticks 0)
    (other 0 (stands ∷ ticks 1 ∷ []) promises (other 0 (stands ∷ []) (ticks 1) (own 0 [] stands (none_goes 0) (in_turn refl (lit< tt) refl tt)) refl) refl)
    (in_turn refl (lit< tt) refl tt)

heard_goes_second : Goes 1 heard
unfolding after_row
heard_goes_second =
    other 1 (stands ∷ ticks 1 ∷ promises ∷ []) (ticks 0)
    (own 1 (stands ∷ ticks 1 ∷ []) promises
    (own 1 (stands ∷ []) (ticks 1) (other 1 [] stands (none_goes 1) refl) (in_turn refl (lit< tt) refl tt))
    (in_turn refl (lit< tt) refl tt))
    refl

unheard_goes_first : Goes 0 unheard
unfolding after_row
unheard_goes_first =
    own 0 (ticks 1 ∷ ticks 1 ∷ stands ∷ []) (ticks 0)
    (own 0 (ticks 1 ∷ ticks 1 ∷ []) stands (other 0 (ticks 1 ∷ []) (ticks 1) (other 0 [] (ticks 1) (none_goes 0) refl) refl) (in_turn refl (lit< tt) refl tt))
    (in_turn refl (lit< tt) refl tt)

unheard_goes_second : Goes 1 unheard
unfolding after_row
unheard_goes_second =
    other 1 (ticks 1 ∷ ticks 1 ∷ stands ∷ []) (ticks 0)
    (other 1 (ticks 1 ∷ ticks 1 ∷ []) stands
    (own 1 (ticks 1 ∷ []) (ticks 1) (own 1 [] (ticks 1) (none_goes 1) (in_turn refl (lit< tt) refl tt)) (in_turn refl (lit< tt) refl tt))
    refl)
    refl

-- ---- whose turns they are

abbrev pub IsOfMember : Row → Type 0
IsOfMember row = (who : ℕ) × (who < 2) × (is_turn_of who row.turn ≡ true)

pub named : (one row : Row) → Some one ≡ Some row → IsOfMember one → IsOfMember row
named one row is member = let same : one ≡ row = cc in subst (λ r. IsOfMember r) same member

heard_named : (place : ℕ) (row : Row) → slice_get heard place ≡ Some row → IsOfMember row
heard_named zero row is = named stands row is (0, lit< tt, refl)
heard_named (suc zero) row is = named (ticks 1) row is (1, lit< tt, refl)
heard_named (suc (suc zero)) row is = named promises row is (1, lit< tt, refl)
heard_named (suc (suc (suc zero))) row is = named (ticks 0) row is (0, lit< tt, refl)
heard_named (suc (suc (suc (suc place)))) row is = absurd cc

unheard_named : (place : ℕ) (row : Row) → slice_get unheard place ≡ Some row → IsOfMember row
unheard_named zero row is = named (ticks 1) row is (1, lit< tt, refl)
unheard_named (suc zero) row is = named (ticks 1) row is (1, lit< tt, refl)
unheard_named (suc (suc zero)) row is = named stands row is (0, lit< tt, refl)
unheard_named (suc (suc (suc zero))) row is = named (ticks 0) row is (0, lit< tt, refl)
unheard_named (suc (suc (suc (suc place)))) row is = absurd cc

heard_each : (who : ℕ) → who < 2 → TakesFreeTurns 2 no_jobs.window (pos 0) 2 who start heard
heard_each zero member = record { goes = heard_goes_first; all = λ runs. refl }
heard_each (suc zero) member = record { goes = heard_goes_second; all = λ runs. refl }
heard_each (suc (suc who)) member = absurd (omega arith)

unheard_each : (who : ℕ) → who < 2 → TakesFreeTurns 2 no_jobs.window (pos 0) 2 who start unheard
unheard_each zero member = record { goes = unheard_goes_first; all = λ runs. refl }
unheard_each (suc zero) member = record { goes = unheard_goes_second; all = λ runs. refl }
unheard_each (suc (suc who)) member = absurd (omega arith)

pub heard_is_part : IsFreePart 2 no_jobs.window (pos 0) 2 start heard (after_all_posted 2 start heard)
heard_is_part = record { named = heard_named; each = heard_each; is = refl }

pub unheard_is_part : IsFreePart 2 no_jobs.window (pos 0) 2 start unheard (after_all_posted 2 start unheard)
unheard_is_part = record { named = unheard_named; each = unheard_each; is = refl }
