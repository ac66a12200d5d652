-- A legal book of one replica, whose log adopts the second of two versions: the replica stands for leader, and its clock ticks.
use Rattle.std.proofs.Common.{◌≡◌, ℕ, zero, suc, ◌<◌, pos, None, Some, List, [], ◌∷◌, ℤ, refl, sym, ap, inl, inr, arith, subst, lit<}
use Rattle.std.specs.Prelude.{slice_get}
use Rattle.std.proofs.lemmas.List.Elements.{All-nil, All-cons}
use Rattle.zone_minutes.specs.declared.minute.Minute.{Minute}
use Rattle.paxos_base.specs.Durable.{after_delta}
use Rattle.paxos_base.specs.Members.{only_member, with_member}
use Rattle.paxos_base.specs.Rows.{fresh_row}
use Rattle.paxos_base.specs.Vote.{vote_at, votes_from}
use Rattle.paxos_base.specs.declared.entry.Entry.{Entry}
use Rattle.paxos_base.specs.declared.entry.Entry.TheVariants.{Table as TableEntry}
use Rattle.paxos_base.specs.declared.entry.Vote.{Vote}
use Rattle.paxos_base.specs.declared.rows.JobRow.{JobRow}
use Rattle.due_set.specs.Table.{IsKindOfName, IsSound, IsVersionOf, Table}
use Rattle.due_set.proofs.Rising.{Contains-head as in_first, Contains-cases as cons_cases}
use Rattle.launch_machine.specs.Answers.{IsIntent}
use Rattle.launch_machine.specs.Clerk.{IsEndedRow, TakesTable, first_rows, rows_after}
use Rattle.launch_machine.specs.Starts.{AdoptionsOf}
use Rattle.launch_machine.specs.declared.machine.Intent.TheVariants as intent
use Rattle.launch_machine.proofs.MachineLemmas.{same_row}
use Rattle.step_spec.specs.Act.{after_act}
use Rattle.step_spec.specs.Folds.{calls_by, deltas_by, learnt_by, sent_by}
use Rattle.step_spec.specs.Propose.{campaign, propose, tick}
use Rattle.step_spec.specs.Step.{Campaign, Plan, Tick, step}
use Rattle.step_spec.proofs.Lists.{nothing_in}
use Rattle.agreement.specs.Agree.{HasCast, IsChosen, vote_for}
use Rattle.agreement.specs.Log.{IsLog}
use Rattle.agreement.specs.World.{CastVote}
use Rattle.agreement.proofs.OneValue.{voter_of}
use Rattle.agreement.proofs.ToldLemmas.{only_cases}
use Rattle.history.specs.Book.{Row, after_row, first_standing, standing_after, votes_in}
use Rattle.history.specs.Legal.{IsLegal, MayFollow}
use Rattle.history.specs.declared.turn.Cause.TheVariants as cause
use Rattle.history.specs.declared.turn.Turn.TheVariants.{Did}
use Rattle.history.proofs.Keeping.{empty_is_legal}
use Rattle.history.proofs.Turns.{legal_append}

-- two versions of a table without jobs, both in force from the first minute on
abbrev two_versions : Table
two_versions = record {
  window = record { from = record { 0 = pos 525_600 }; until = record { 0 = pos 525_601 } };
  grace = 0;
  zones = [];
  jobs = [];
  later = record { from = pos 525_600; jobs = [] } ∷ [];
}

is_sound : IsSound two_versions
is_sound = record {
  limits = record { since = grind arith; until = grind arith; ordered = grind arith; short = grind arith };
  grace = grind arith;
  built = λ k d within. absurd (omega (arith, within));
  zone_numbers = λ k d within. absurd (omega (arith, within));
  few = grind arith;
  distinct = λ i j d before within. absurd (omega (arith, within));
  kinds = λ k d within. absurd (omega (arith, within));
  versions = record {
    few = grind arith;
    each = All-cons (IsVersionOf two_versions) (record { from = pos 525_600; jobs = [] }) [] (record {
      inside = record { since = grind arith; before = grind arith };
      names = refl;
      zone_numbers = All-nil (λ job. job.zone < 0);
      kinds = All-nil (λ job. IsKindOfName job.name job.kind);
    }) (All-nil (IsVersionOf two_versions));
    in_order = λ i j d before within. absurd (omega (arith, before, within));
  };
}

is_ended : (job : ℕ) (row : JobRow) → slice_get (first_rows two_versions) job ≡ Some row → IsEndedRow two_versions (pos 525_600) job row
is_ended zero row is = record { closed = ap (λ (r : JobRow). r.open_now) (sym (same_row (first_rows two_versions) 0 (fresh_row 0) row refl is)); passed = λ below. absurd (omega (arith, below)) }
is_ended (suc job) row is = cc

adopts : TakesTable two_versions (first_rows two_versions) 1 (pos 525_600)
adopts = record {
  own = omega arith;
  next = refl;
  known = omega arith;
  come = omega arith;
  since = tt;
  ended = is_ended;
  no_start = λ job at takes. absurd (omega (arith, takes.known));
}

-- the minute at which the second version is adopted
abbrev now : ℤ
now = pos 525_600

abbrev minute : Minute
minute = record { 0 = now }

abbrev second : Entry
second = TableEntry 1 now

abbrev vote : Vote
vote = record { slot = 0; ballot = 8; entry = second }

abbrev plan : Plan
plan = record { rows = first_rows two_versions; intent = intent.Adopt 1 }

abbrev stands_for : Row
stands_for = record { turn = Did 0 cause.Campaign None; event = Campaign; letters = []; votes = []; learnt = [] }

abbrev ticks : Row
ticks = record { turn = Did 0 (cause.Tick minute) None; event = Tick now plan; letters = []; votes = vote ∷ []; learnt = record { slot = 0; entry = second } ∷ [] }

abbrev book : List Row
book = stands_for ∷ ticks ∷ []

asked : IsIntent two_versions (first_rows two_versions) now (intent.Adopt 1)
asked = ((λ job at may. absurd (omega (arith, may.known))), adopts)

may_stand : MayFollow 1 two_versions (first_standing 1 (first_rows two_versions)) stands_for.turn stands_for
unfolding step campaign after_row after_act after_delta deltas_by learnt_by calls_by sent_by with_member
may_stand = (
  record { member = lit< tt; runs = refl; event_of = refl; planned = tt },
  record { letters = tt; votes = refl; learnt = refl; call = refl },
)

may_tick : MayFollow 1 two_versions (standing_after 1 (first_rows two_versions) (stands_for ∷ [])) ticks.turn ticks
unfolding step campaign tick propose after_row after_act after_delta deltas_by learnt_by calls_by sent_by with_member vote_at votes_from
may_tick = (
  record { member = lit< tt; runs = refl; event_of = (record { since = grind arith; before = grind arith }, plan, refl); planned = (refl, asked) },
  record { letters = tt; votes = refl; learnt = refl; call = refl },
)

is_legal : IsLegal 1 two_versions book
is_legal = legal_append 1 two_versions [] book (empty_is_legal 1 two_versions) (may_stand, (may_tick, tt))

-- ---- its log

abbrev cast : CastVote
cast = record { by = 0; vote = vote }

is_chosen : IsChosen 1 (cast ∷ []) 0 second
unfolding with_member
is_chosen = record {
  ballot = 8;
  voters = only_member 0;
  below = λ member has. omega (arith, only_cases 0 member (lit< tt) has);
  majority = refl;
  each = λ by has. subst (λ (who : ℕ). HasCast (cast ∷ []) who vote) (sym (only_cases 0 by (lit< tt) has)) (in_first cast []);
}

-- nothing is voted for at the next slot
none_chosen : (entry : Entry) → IsChosen 1 (cast ∷ []) 1 entry → ⊥
none_chosen entry chosen =
    let voter = voter_of 1 (cast ∷ []) 1 entry chosen in
    let other : CastVote = record { by = voter.0; vote = vote_for 1 chosen.ballot entry } in
    elim (cons_cases cast [] other voter.1) [
      | inl same ↦ absurd (let slot : 0 ≡ 1 = ap (λ (c : CastVote). c.vote.slot) same in cc)
      | inr none ↦ nothing_in none
    ]

is_log : IsLog 1 (votes_in book) (second ∷ [])
is_log = record { chosen = (is_chosen, tt); ends = none_chosen }

adopted : AdoptionsOf two_versions (second ∷ []) (now ∷ [])
adopted = (rows_after two_versions (first_rows two_versions) second, [], inl (adopts, refl), inl (now, record { version = 1; is = refl; takes = adopts }, refl), refl)

pub log_adopts : (table : Table) × (book : List Row) × (log : List Entry) × (now : ℤ)
    × IsSound table × IsLegal 1 table book × IsLog 1 (votes_in book) log × AdoptionsOf table log (now ∷ [])
log_adopts = (two_versions, book, second ∷ [], now, is_sound, is_legal, is_log, adopted)
