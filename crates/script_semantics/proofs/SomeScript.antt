-- One replica without jobs settles by one turn.
use Rattle.std.proofs.Common.{◌≡◌, zero, suc, pos, Some, None, List, [], ◌∷◌, refl, subst, arith, lit<}
use Rattle.std.proofs.lemmas.Int.{ints}
use Rattle.launch_machine.specs.Clerk.{first_rows}
use Rattle.paxos_base.specs.Durable.{after_delta}
use Rattle.paxos_base.specs.Members.{with_member}
use Rattle.paxos_base.specs.Vote.{votes_from}
use Rattle.step_spec.specs.Act.{after_act}
use Rattle.step_spec.specs.Folds.{calls_by, deltas_by, learnt_by, sent_by}
use Rattle.step_spec.specs.Propose.{campaign}
use Rattle.step_spec.specs.Step.{Campaign, step}
use Rattle.history.specs.Book.{Row, after_row, first_standing}
use Rattle.history.specs.Legal.{IsLegal, MayFollow}
use Rattle.history.specs.Some.{no_jobs}
use Rattle.history.specs.declared.turn.Cause.TheVariants as cause
use Rattle.history.specs.declared.turn.Turn.TheVariants.{Did}
use Rattle.script_semantics.specs.Script.{Obeys}
use Rattle.script_semantics.specs.Settling.{IsQuiet, cleared}
use Rattle.script_semantics.specs.Situation.{Situation, after_turns, delivered, first_situation}
use Rattle.history.proofs.TableRows.{rests_without_jobs}

abbrev stands_for : Row
stands_for = record { turn = Did 0 cause.Campaign None; event = Campaign; letters = []; votes = []; learnt = [] }

abbrev pub some_rows : List Row
some_rows = stands_for ∷ []

may_stand : MayFollow 1 no_jobs (first_standing 1 (first_rows no_jobs)) stands_for.turn stands_for
unfolding step campaign after_row after_act after_delta deltas_by learnt_by calls_by sent_by with_member votes_from
may_stand = (
  record { member = lit< tt; runs = refl; event_of = refl; planned = tt },
  record { letters = search; votes = refl; learnt = refl; call = refl },
)

found_row : (one row : Row) → Some one ≡ Some row → MayFollow 1 no_jobs (first_standing 1 (first_rows no_jobs)) one.turn one
    → MayFollow 1 no_jobs (first_standing 1 (first_rows no_jobs)) row.turn row
found_row one row is may = let same : one ≡ row = cc in subst (λ r. MayFollow 1 no_jobs (first_standing 1 (first_rows no_jobs)) r.turn r) same may

pub is_legal : IsLegal 1 no_jobs some_rows
is_legal zero row is = found_row stands_for row is may_stand
is_legal (suc number) row is = absurd cc

-- before the turn, and after it
abbrev settled_first : Situation
settled_first = cleared (delivered 0 (first_situation 1 no_jobs))

abbrev led : Situation
led = delivered 0 (after_turns 1 settled_first some_rows)

is_quiet : IsQuiet 1 no_jobs 0 (pos 0) led
unfolding step campaign after_row after_act after_delta deltas_by learnt_by calls_by sent_by with_member votes_from
is_quiet = record {
  free = refl;
  answered = refl;
  rests = record {
    rows = first_rows no_jobs;
    rows_are = refl;
    rests = rests_without_jobs no_jobs (first_rows no_jobs) (pos 0) refl refl;
  };
  caught_up = λ other member. let first : other ≡ 0 = omega arith in rw first refl;
}

pub obeys : Obeys 1 no_jobs [] some_rows
obeys = record {
  after = led;
  obeys = record {
    front = [];
    middle = first_situation 1 no_jobs;
    back = some_rows;
    parts = refl;
    one = record { none = refl; is = refl };
    two = record {
      front = some_rows;
      middle = led;
      back = [];
      parts = refl;
      one = record {
        front = [];
        middle = settled_first;
        back = some_rows;
        parts = refl;
        one = record {
          front = [];
          middle = delivered 0 (first_situation 1 no_jobs);
          back = [];
          parts = refl;
          one = record { turns = refl; is = refl };
          two = record { none = refl; is = refl };
        };
        two = record {
          front = some_rows;
          middle = led;
          back = [];
          parts = refl;
          one = record { turns = (record { made = None; is = refl; fate = search }, refl); is = refl };
          two = (0, record { is_quiet = is_quiet; stays = record { none = refl; is = refl } });
        };
      };
      two = (0, record { is_quiet = λ minute later within. absurd (omega (arith, ints)); stays = record { none = refl; is = refl } });
    };
  };
}
