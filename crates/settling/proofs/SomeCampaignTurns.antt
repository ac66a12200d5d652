-- Turns of two replicas over a table without jobs, of which legal books are made.
use Rattle.std.proofs.Common.{◌≡◌, ℕ, zero, suc, ◌*◌, ◌^◌, ◌<◌, pos, true, Some, None, List, [], ◌∷◌, ◌++◌, length, refl, ap, inl, inr, arith, subst, lit<}
use Rattle.std.specs.List.{Contains, slice_get}
use Rattle.std.proofs.lemmas.List.Elements.{Contains-append_left}
use Rattle.paxos_letter.specs.Letters.{Spells}
use Rattle.paxos_letter.specs.Spelling.{spelling}
use Rattle.paxos_letter.specs.declared.packet.Packet.{Packet}
use Rattle.paxos_letter.specs.declared.packet.Packet.TheVariants as packet
use Rattle.paxos_letter.proofs.LetterLemmas.{letters_have_packets}
use Rattle.due_set.proofs.SoundLemmas.{no_later}
use Rattle.due_set.specs.Table.{IsSound, Table}
use Rattle.launch_machine.specs.Clerk.{first_rows, table_size}
use Rattle.launch_machine.specs.Answers.{IsIntent}
use Rattle.launch_machine.specs.declared.machine.Intent.TheVariants as intent
use Rattle.step_spec.specs.Letters.{heard_in}
use Rattle.step_spec.specs.Message.{Message}
use Rattle.step_spec.specs.Step.{Campaign, Event, Hear, IsLaunchTable, Tick}
use Rattle.step_spec.specs.declared.out.OutLetter.{OutLetter}
use Rattle.step_spec.proofs.Lists.{nothing_in}
use Rattle.history.specs.Book.{PostedLetter, Row, Standing, standing_after}
use Rattle.history.specs.Legal.{MayFollow, TakesTurn}
use Rattle.history.specs.declared.turn.Cause.{Cause}
use Rattle.history.specs.declared.turn.Cause.TheVariants as cause
use Rattle.history.specs.declared.turn.Turn.TheVariants.{Did}
use Rattle.zone_minutes.specs.Window.{IsInWindow}
use Rattle.script_semantics.specs.Situation.{Situation, first_situation}
use Rattle.settling.specs.Rounds.{IsFaultless}
use Rattle.due_set.proofs.Rising.{Contains-cases as cons_cases}
use Rattle.history.proofs.TableRows.{rests_without_jobs}

-- ---- the table

abbrev pub no_job : Table
no_job = record { window = record { from = record { 0 = pos 525_600 }; until = record { 0 = pos 525_601 } }; grace = 0; zones = []; jobs = []; later = [] }

pub no_job_is_sound : IsSound no_job
no_job_is_sound = record {
  limits = record { since = grind arith; until = grind arith; ordered = grind arith; short = grind arith };
  grace = grind arith;
  built = λ k d within. absurd (omega (arith, within));
  zone_numbers = λ k d within. absurd (omega (arith, within));
  few = grind arith;
  distinct = λ i j d before within. absurd (omega (arith, within));
  kinds = λ k d within. absurd (omega (arith, within));
  versions = no_later no_job;
}

pub in_window : IsInWindow no_job.window (pos 525_600)
in_window = record { since = grind arith; before = grind arith }

-- its launch table asks for nothing
pub asks_nothing : IsIntent no_job (first_rows no_job) (pos 525_600) intent.Rest
asks_nothing = rests_without_jobs no_job (first_rows no_job) (pos 525_600) refl refl

-- ---- the turns

abbrev pub did : ℕ → Cause → Event → List OutLetter → Row
did who cause event letters = record { turn = Did who cause None; event = event; letters = letters; votes = []; learnt = [] }

abbrev pub campaigns : ℕ → List OutLetter → Row
campaigns who letters = did who cause.Campaign Campaign letters

abbrev pub hears : ℕ → (number from : ℕ) → Message → List OutLetter → Row
hears who number from message letters = did who (cause.Hear number) (Hear from (message ∷ [])) letters

abbrev pub ticks : ℕ → List OutLetter → Row
ticks who letters = did who (cause.Tick (record { 0 = pos 525_600 })) (Tick (pos 525_600) (record { rows = first_rows no_job; intent = intent.Rest })) letters

-- the row may follow the turns so far
abbrev pub May : List Row → Row → Type 0
May book row = MayFollow 2 no_job (standing_after 2 (first_rows no_job) book) row.turn row

pub takes_campaign : (standing : Standing) (who : ℕ) → who < 2 → standing.runs who ≡ true → TakesTurn 2 no_job standing who cause.Campaign Campaign
takes_campaign standing who member runs = record { member = member; runs = runs; event_of = refl; planned = tt }

pub takes_tick : (standing : Standing) (who : ℕ) → who < 2 → standing.runs who ≡ true → IsLaunchTable no_job (standing.replicas who) (first_rows no_job)
    → TakesTurn 2 no_job standing who (cause.Tick (record { 0 = pos 525_600 })) (Tick (pos 525_600) (record { rows = first_rows no_job; intent = intent.Rest }))
takes_tick standing who member runs launch = record {
  member = member;
  runs = runs;
  event_of = (in_window, record { rows = first_rows no_job; intent = intent.Rest }, refl);
  planned = (launch, asks_nothing);
}

pub hears_letter : (standing : Standing) (who number from : ℕ) (packet : Packet) (message : Message) → who < 2 → standing.runs who ≡ true
    → slice_get standing.posted number ≡ Some (record { from = from; to = who; bytes = spelling from (packet ∷ []) }) → Spells 2 from (packet ∷ []) (spelling from (packet ∷ []))
    → message ∷ [] ≡ heard_in (table_size no_job) (packet ∷ []) → TakesTurn 2 no_job standing who (cause.Hear number) (Hear from (message ∷ []))
hears_letter standing who number from packet message member runs there spells heard = record {
  member = member;
  runs = runs;
  event_of = record {
    letter = record { from = from; to = who; bytes = spelling from (packet ∷ []) };
    there = there;
    to = refl;
    messages = message ∷ [];
    heard = record { packets = packet ∷ []; spells = spells; heard = heard };
    is = refl;
  };
  planned = tt;
}

-- ---- the letters

abbrev pub letter_to : ℕ → ℕ → Packet → OutLetter
letter_to to from packet = record { to = to; bytes = spelling from (packet ∷ []) }

abbrev pub posted_of : ℕ → ℕ → Packet → PostedLetter
posted_of from to packet = record { from = from; to = to; bytes = spelling from (packet ∷ []) }

-- letters of fewer bytes than the limit
abbrev pub AreShort : List PostedLetter → Type 0
AreShort letters = (letter : PostedLetter) → Contains letters letter → length letter.bytes < 56 * 2 ^ 31

pub none_long : AreShort []
none_long letter has = nothing_in has

pub one_more : (from to : ℕ) (packet : Packet) (letters : List PostedLetter) → Spells 2 from (packet ∷ []) (spelling from (packet ∷ [])) → AreShort letters → AreShort (posted_of from to packet ∷ letters)
one_more from to packet letters spells others letter has = elim (cons_cases (posted_of from to packet) letters letter has) [
  | inl same ↦
      let short : length (spelling from (packet ∷ [])) ≡ 56 * 1 = (letters_have_packets 2 from (packet ∷ []) (spelling from (packet ∷ [])) spells).1 in
      subst (λ (l : PostedLetter). length l.bytes < 56 * 2 ^ 31) same (omega (arith, short))
  | inr later ↦ others letter later
]

pub front_short : (front back : List PostedLetter) → AreShort (front ++ back) → AreShort front
front_short front back short letter has = short letter (Contains-append_left front back letter has)

pub lead_spells : Spells 2 0 (packet.Lead 8 0 ∷ []) (spelling 0 (packet.Lead 8 0 ∷ []))
lead_spells = record {
  letter = record { some = λ is. cc; kinds = (refl, tt); members_keep = (refl, tt); groups = refl };
  fits = (record { kind = lit< tt; from = lit< tt; tag = lit< tt; zero = lit< tt; job = lit< tt; ballot = lit< tt; slot = lit< tt; old = lit< tt; at = grind arith; moment = grind arith; last = grind arith }, tt);
  spelled = refl;
}

pub rival_spells : Spells 2 1 (packet.Prepare 9 0 ∷ []) (spelling 1 (packet.Prepare 9 0 ∷ []))
rival_spells = record {
  letter = record { some = λ is. cc; kinds = (refl, tt); members_keep = (refl, tt); groups = refl };
  fits = (record { kind = lit< tt; from = lit< tt; tag = lit< tt; zero = lit< tt; job = lit< tt; ballot = lit< tt; slot = lit< tt; old = lit< tt; at = grind arith; moment = grind arith; last = grind arith }, tt);
  spelled = refl;
}

pub nack_spells : Spells 2 1 (packet.Nack 8 9 ∷ []) (spelling 1 (packet.Nack 8 9 ∷ []))
nack_spells = record {
  letter = record { some = λ is. cc; kinds = (refl, tt); members_keep = (refl, tt); groups = refl };
  fits = (record { kind = lit< tt; from = lit< tt; tag = lit< tt; zero = lit< tt; job = lit< tt; ballot = lit< tt; slot = lit< tt; old = lit< tt; at = grind arith; moment = grind arith; last = grind arith }, tt);
  spelled = refl;
}

pub prepare_again_spells : Spells 2 0 (packet.Prepare 16 0 ∷ []) (spelling 0 (packet.Prepare 16 0 ∷ []))
prepare_again_spells = record {
  letter = record { some = λ is. cc; kinds = (refl, tt); members_keep = (refl, tt); groups = refl };
  fits = (record { kind = lit< tt; from = lit< tt; tag = lit< tt; zero = lit< tt; job = lit< tt; ballot = lit< tt; slot = lit< tt; old = lit< tt; at = grind arith; moment = grind arith; last = grind arith }, tt);
  spelled = refl;
}

pub promise_again_spells : Spells 2 1 (packet.Promise 16 0 0 ∷ []) (spelling 1 (packet.Promise 16 0 0 ∷ []))
promise_again_spells = record {
  letter = record { some = λ is. cc; kinds = (refl, tt); members_keep = (refl, tt); groups = refl };
  fits = (record { kind = lit< tt; from = lit< tt; tag = lit< tt; zero = lit< tt; job = lit< tt; ballot = lit< tt; slot = lit< tt; old = lit< tt; at = grind arith; moment = grind arith; last = grind arith }, tt);
  spelled = refl;
}

-- ---- the situations

abbrev pub start : Situation
start = first_situation 2 no_job

pub faultless_by : (situation : Situation) → situation.standing.runs 0 ≡ true → situation.standing.runs 1 ≡ true → situation.cuts ≡ [] → situation.skews ≡ start.skews → situation.fates ≡ start.fates → IsFaultless 2 situation
faultless_by situation first second uncut right done = record {
  runs = runs;
  uncut = uncut;
  right = λ who below. ap (λ skews. skews who) right;
  done = λ who below. ap (λ fates. fates who) done;
}
  where
    runs : (who : ℕ) → who < 2 → situation.standing.runs who ≡ true
    runs zero below = first
    runs (suc zero) below = second
    runs (suc (suc more)) below = absurd (omega (arith, below))
