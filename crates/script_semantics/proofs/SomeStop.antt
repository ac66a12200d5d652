-- One replica without jobs stops within its campaign, keeps the ballot that it tried, and settles by another campaign.
use Rattle.std.proofs.Common.{◌≡◌, pos, true, Some, None, List, [], ◌∷◌, inr, refl, arith, lit<}
use Rattle.std.proofs.lemmas.Int.{ints}
use Rattle.launch_machine.specs.Clerk.{first_rows}
use Rattle.paxos_base.specs.Durable.{after_delta}
use Rattle.paxos_base.specs.Members.{with_member}
use Rattle.paxos_base.specs.Vote.{votes_from}
use Rattle.paxos_base.specs.declared.durable.Delta.TheVariants.{Tried}
use Rattle.step_spec.specs.Act.{after_act}
use Rattle.step_spec.specs.Folds.{calls_by, deltas_by, learnt_by, sent_by}
use Rattle.step_spec.specs.Propose.{campaign}
use Rattle.step_spec.specs.Step.{Campaign, step}
use Rattle.script_text.specs.declared.command.Command.{Command}
use Rattle.script_text.specs.declared.command.Command.TheVariants as command
use Rattle.history.specs.Book.{Row, after_row, first_standing}
use Rattle.history.specs.Legal.{IsLegal}
use Rattle.history.specs.Some.{no_jobs}
use Rattle.history.specs.declared.turn.Cause.TheVariants as cause
use Rattle.history.specs.declared.turn.Turn.{Turn}
use Rattle.history.specs.declared.turn.Turn.TheVariants.{Did, Stopped, Restarted}
use Rattle.history.proofs.Turns.{AllFollow, legal_append}
use Rattle.script_semantics.specs.Arms.{StopsInStep, armed_by}
use Rattle.script_semantics.specs.Script.{ArePartsOf, Obeys}
use Rattle.script_semantics.specs.Settling.{IsQuiet, Walks, cleared}
use Rattle.script_semantics.specs.Situation.{Situation, after_turns, delivered, first_situation}
use Rattle.history.proofs.TableRows.{rests_without_jobs}

abbrev row_of : Turn → Row
row_of turn = record { turn = turn; event = Campaign; letters = []; votes = []; learnt = [] }

abbrev stops : Row
stops = row_of (Stopped 0 (Some cause.Campaign) true)

abbrev starts : Row
starts = row_of (Restarted 0)

abbrev stands : Row
stands = row_of (Did 0 cause.Campaign None)

abbrev pub some_rows : List Row
some_rows = stops ∷ starts ∷ stands ∷ []

-- ---- the turns are legal

nothing_legal : IsLegal 1 no_jobs []
nothing_legal number row is = absurd cc

all_follow : AllFollow 1 no_jobs (first_standing 1 (first_rows no_jobs)) some_rows
unfolding step campaign after_row after_act after_delta deltas_by learnt_by calls_by sent_by with_member votes_from
all_follow = (
  (
    record { member = lit< tt; runs = refl; event_of = refl; planned = tt },
    record { delta = Tried 8; changes = refl; letters = refl; votes = refl; learnt = refl },
  ),
  (
    (lit< tt, refl, record { letters = refl; votes = refl; learnt = refl }),
    ((record { member = lit< tt; runs = refl; event_of = refl; planned = tt }, record { letters = search; votes = refl; learnt = refl; call = refl }), tt),
  ),
)

pub is_legal : IsLegal 1 no_jobs some_rows
is_legal = legal_append 1 no_jobs [] some_rows nothing_legal all_follow

-- ---- the script

abbrev pub some_script : List Command
some_script = command.Break 0 2 1 ∷ command.Campaign 0 ∷ []

abbrev armed : Situation
armed = armed_by 0 2 1 (first_situation 1 no_jobs)

abbrev stopped : Situation
stopped = delivered 0 (after_turns 1 armed (stops ∷ []))

abbrev started : Situation
started = delivered 0 (after_turns 1 stopped (starts ∷ []))

abbrev led : Situation
led = delivered 0 (after_turns 1 (cleared started) (stands ∷ []))

stops_there : StopsInStep 1 armed 0 cause.Campaign stops
unfolding step campaign deltas_by with_member
stops_there = record { armed = record { left = 2; image = 1 }; is_armed = refl; change = Tried 8; is = refl; changes = refl; few = lit< tt }

scripted : ArePartsOf 1 no_jobs some_script (first_situation 1 no_jobs) (stops ∷ []) stopped
scripted = record {
  front = [];
  middle = armed;
  back = stops ∷ [];
  parts = refl;
  one = record { none = refl; is = refl };
  two = record {
    front = stops ∷ [];
    middle = stopped;
    back = [];
    parts = refl;
    one = record { turns = (inr stops_there, refl); is = refl };
    two = record { none = refl; is = refl };
  };
}

is_quiet : IsQuiet 1 no_jobs 0 (pos 0) led
unfolding step campaign after_row after_act after_delta deltas_by learnt_by calls_by sent_by with_member votes_from
is_quiet = record {
  free = refl;
  answered = refl;
  rests = record {
    rows = first_rows no_jobs;
    rows_are = refl;
    rests = rests_without_jobs no_jobs (first_rows no_jobs) (pos 0) refl refl;
  };
  caught_up = λ other member. let first : other ≡ 0 = omega arith in rw first refl;
}

walked : Walks 1 no_jobs (pos 0) stopped (starts ∷ stands ∷ []) led
unfolding after_row
walked = record {
  front = starts ∷ stands ∷ [];
  middle = led;
  back = [];
  parts = refl;
  one = record {
    front = starts ∷ [];
    middle = cleared started;
    back = stands ∷ [];
    parts = refl;
    one = record {
      front = starts ∷ [];
      middle = started;
      back = [];
      parts = refl;
      one = record { turns = (refl, refl); is = refl };
      two = record { none = refl; is = refl };
    };
    two = record {
      front = stands ∷ [];
      middle = led;
      back = [];
      parts = refl;
      one = record { turns = (record { made = None; is = refl; fate = search }, refl); is = refl };
      two = (0, record { is_quiet = is_quiet; stays = record { none = refl; is = refl } });
    };
  };
  two = (0, record { is_quiet = λ minute later within. absurd (omega (arith, ints)); stays = record { none = refl; is = refl } });
}

pub obeys : Obeys 1 no_jobs some_script some_rows
obeys = record {
  after = led;
  obeys = record { front = stops ∷ []; middle = stopped; back = starts ∷ stands ∷ []; parts = refl; one = scripted; two = walked };
}
