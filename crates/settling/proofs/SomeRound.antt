-- A legal book that begins with a round: two replicas over a table without jobs tick, and nothing else happens.
use Rattle.std.proofs.Common.{◌≡◌, ℕ, ◌<◌, zero, suc, pos, true, None, List, [], ◌∷◌, ℤ, refl, arith, lit<}
use Rattle.launch_machine.specs.Clerk.{first_rows, table_size}
use Rattle.due_set.proofs.SoundLemmas.{no_later}
use Rattle.due_set.specs.Table.{IsSound, Table}
use Rattle.launch_machine.specs.declared.machine.Intent.TheVariants as intent
use Rattle.step_spec.specs.Act.{after_act}
use Rattle.step_spec.specs.Folds.{calls_by, deltas_by, learnt_by, sent_by}
use Rattle.step_spec.specs.Propose.{tick}
use Rattle.step_spec.specs.Step.{Tick, step}
use Rattle.step_spec.proofs.Lists.{nothing_in}
use Rattle.history.specs.Book.{Row, after_row, first_standing, standing_after}
use Rattle.history.specs.Legal.{IsLegal, MayFollow}
use Rattle.history.specs.declared.turn.Cause.TheVariants as cause
use Rattle.history.specs.declared.turn.Turn.TheVariants.{Did}
use Rattle.history.proofs.Turns.{legal_append}
use Rattle.history.proofs.Keeping.{empty_is_legal}
use Rattle.synchronous_rounds.specs.Cluster.{Cluster}
use Rattle.script_semantics.specs.Situation.{Situation, after_turns, delivered, first_situation}
use Rattle.settling.specs.Rounds.{GoesRound}
use Rattle.settling.specs.Stands.{StandsForCluster}
use Rattle.history.proofs.TableRows.{rests_without_jobs}

abbrev quiet_table : Table
quiet_table = record { window = record { from = record { 0 = pos 525_600 }; until = record { 0 = pos 525_601 } }; grace = 0; zones = []; jobs = []; later = [] }

quiet_is_sound : IsSound quiet_table
quiet_is_sound = record {
  limits = record { since = grind arith; until = grind arith; ordered = grind arith; short = grind arith };
  grace = grind arith;
  built = λ k d within. absurd (omega (arith, within));
  zone_numbers = λ k d within. absurd (omega (arith, within));
  few = grind arith;
  distinct = λ i j d before within. absurd (omega (arith, within));
  kinds = λ k d within. absurd (omega (arith, within));
  versions = no_later quiet_table;
}

abbrev tick_of : ℕ → Row
tick_of who = record {
  turn = Did who (cause.Tick (record { 0 = pos 525_600 })) None;
  event = Tick (pos 525_600) (record { rows = first_rows quiet_table; intent = intent.Rest });
  letters = [];
  votes = [];
  learnt = [];
}

abbrev two_ticks : List Row
two_ticks = tick_of 0 ∷ tick_of 1 ∷ []

abbrev start : Situation
start = first_situation 2 quiet_table

may_tick : MayFollow 2 quiet_table (first_standing 2 (first_rows quiet_table)) (tick_of 0).turn (tick_of 0)
unfolding step tick after_row after_act deltas_by learnt_by calls_by sent_by
may_tick = (
  record {
    member = lit< tt;
    runs = refl;
    event_of = (record { since = grind arith; before = grind arith }, record { rows = first_rows quiet_table; intent = intent.Rest }, refl);
    planned = (refl, rests_without_jobs quiet_table (first_rows quiet_table) (pos 525_600) refl refl);
  },
  record { letters = tt; votes = refl; learnt = refl; call = refl },
)

may_tick_too : MayFollow 2 quiet_table (standing_after 2 (first_rows quiet_table) (tick_of 0 ∷ [])) (tick_of 1).turn (tick_of 1)
unfolding step tick after_row after_act deltas_by learnt_by calls_by sent_by
may_tick_too = (
  record {
    member = lit< tt;
    runs = refl;
    event_of = (record { since = grind arith; before = grind arith }, record { rows = first_rows quiet_table; intent = intent.Rest }, refl);
    planned = (refl, rests_without_jobs quiet_table (first_rows quiet_table) (pos 525_600) refl refl);
  },
  record { letters = tt; votes = refl; learnt = refl; call = refl },
)

two_ticks_are_legal : IsLegal 2 quiet_table two_ticks
two_ticks_are_legal = legal_append 2 quiet_table [] two_ticks (empty_is_legal 2 quiet_table) (may_tick, (may_tick_too, tt))

runs_all : (who : ℕ) → who < 2 → start.standing.runs who ≡ true
runs_all zero below = refl
runs_all (suc zero) below = refl
runs_all (suc (suc more)) below = absurd (omega (arith, below))

goes : GoesRound 2 quiet_table (pos 525_600) [] two_ticks start (delivered 0 (after_turns 2 start two_ticks))
unfolding after_row
goes = record {
  few = omega arith;
  sound = quiet_is_sound;
  within = record { since = grind arith; before = grind arith };
  legal = two_ticks_are_legal;
  standing = refl;
  faultless = record { runs = runs_all; uncut = refl; right = λ who below. refl; done = λ who below. refl };
  round = record {
    turns = (record { made = None; is = refl; fate = tt }, (record { made = None; is = refl; fate = tt }, refl));
    is = refl;
  };
  limits = record { turns = omega arith; letters = λ letter has. nothing_in has };
}

pub some_round : (members : ℕ) × (table : Table) × (at : ℤ) × (book : List Row) × (rows : List Row) × (situation : Situation) × (after : Situation) × (cluster : Cluster)
    × GoesRound members table at book rows situation after × StandsForCluster members (table_size table) situation cluster
some_round = (
  2,
  quiet_table,
  pos 525_600,
  [],
  two_ticks,
  start,
  delivered 0 (after_turns 2 start two_ticks),
  record { replicas = start.standing.replicas; waits = start.standing.waits; mails = λ who. [] },
  goes,
  record { replicas = λ who member. refl; waits = λ who member. refl; mails = λ who member. tt },
)
