-- What is set for a replica after its turn.
use Rattle.std.specs.Prelude.{◌≡◌, ℕ, Bool, not, List, [], drop, Option, None, Some, slice_get, set}
use Rattle.std.specs.Option.{option_to_list}
use Rattle.cluster_sched.specs.declared.fate.Fate.{Fate}
use Rattle.cluster_sched.specs.declared.fate.Fate.TheVariants.{Done}
use Rattle.due_set.specs.Table.{Table}
use Rattle.history.specs.Book.{Row, answer_to}
use Rattle.history.specs.declared.turn.CallRow.{CallRow}
use Rattle.history.specs.declared.turn.Cause.{Cause}
use Rattle.history.specs.declared.turn.Cause.TheVariants.{Hear}
use Rattle.history.specs.declared.turn.Turn.{Turn}
use Rattle.history.specs.declared.turn.Turn.TheVariants.{Did, Stopped}
use Rattle.journal_line.specs.Told.{ToldLine}
use Rattle.paxos_base.specs.declared.durable.Delta.{Delta}
use Rattle.paxos_base.specs.declared.durable.Delta.TheVariants.{Tried, Promised, Voted, Base}
use Rattle.script_semantics.specs.Situation.{Situation, armed_after, latest_after}
use Rattle.run_replay.specs.Judged.{IsJudged}
use Rattle.run_replay.specs.Replay.{IsReplayAt, armed_of}
use Rattle.run_replay.specs.declared.judge.Judged.{Judged}
use Rattle.run_replay.specs.declared.replay.Replay.{Replay}
use Rattle.run_replay.specs.declared.replay.Setting.{Setting}

-- a letter that is heard leaves the mail
abbrev pub mail_with : Cause → List ℕ → List ℕ
mail_with (Hear number) mail = drop 1 mail
mail_with cause mail = mail

-- the fate of the next call after a step, which may have made one
abbrev pub fate_with : Option CallRow → Fate → Fate
fate_with None set = set
fate_with (Some made) set = Done

-- which area of a disk is in use: each base goes to the other one
abbrev pub area_with : Option Delta → (second : Bool) → Bool
area_with None second = second
area_with (Some (Tried ballot)) second = second
area_with (Some (Promised ballot)) second = second
area_with (Some (Voted vote)) second = second
area_with (Some (Base slot rows)) second = not second

-- what is set for a replica after its step, with this call and this change
pub record HasNoted (cause : Cause) (call : Option CallRow) (change : Option Delta) (old new : Setting) : Type 0 where
  pub mail : new.mail.items ≡ mail_with cause old.mail.items
  pub skew : new.skew ≡ old.skew
  pub fate : new.fate ≡ fate_with call old.fate
  pub waits : new.waits ≡ answer_to call
  pub arm : armed_of new.arm ≡ armed_after (option_to_list change) (armed_of old.arm)
  pub area : new.second_area ≡ area_with change old.second_area

-- what is set for a replica that has stopped, with this change kept
pub record HasNotedStop (change : Option Delta) (old new : Setting) : Type 0 where
  pub mail : new.mail.items ≡ []
  pub skew : new.skew ≡ old.skew
  pub fate : new.fate ≡ old.fate
  pub waits : new.waits ≡ None
  pub arm : new.arm ≡ None
  pub area : new.second_area ≡ area_with change old.second_area

-- one of the settings is another, and the rest are as they were
pub record IsSetFor (who : ℕ) (holds : Setting → Setting → Type 0) (old new : List Setting) : Type 0 where
  pub was : Setting
  pub there : slice_get old who ≡ Some was
  pub now : Setting
  pub is : new ≡ set old who now
  pub noted : holds was now

-- what is set for the replicas after a turn with this change
abbrev pub AreSetAfter : Turn → Option Delta → (old new : List Setting) → Type 0
AreSetAfter (Did who cause made) change old new = IsSetFor who (HasNoted cause made change) old new
AreSetAfter (Stopped who cause kept) change old new = IsSetFor who (HasNotedStop change) old new
AreSetAfter turn change old new = new ≡ old

-- a turn with this change is noted in a replay, whose book and replicas stay
pub record Notes (turn : Turn) (change : Option Delta) (old new : Replay) : Type 0 where
  pub settings : AreSetAfter turn change old.settings.items new.settings.items
  pub latest : new.latest.0 ≡ latest_after turn old.latest.0
  pub book : new.book ≡ old.book
  pub seats : new.seats ≡ old.seats
  pub cuts : new.cuts ≡ old.cuts

-- the turn is one that was judged, in a replay that was before in some situation
pub record WasJudged (table : Table) (replay : Replay) (judged : Judged) : Type 0 where
  pub rows : List Row
  pub situation : Situation
  pub told : ToldLine
  pub old : Replay
  pub here : IsReplayAt table rows old situation
  pub is : IsJudged table rows told old replay judged
