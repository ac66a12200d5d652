-- Settling ends quietly, and so do drains in which one leads or is about to.
use Rattle.std.proofs.Common.{◌≡◌, ℕ, zero, suc, ◌≤◌, List, [], ◌∷◌, ◌++◌, append-nil, ℤ, sym, ap, ◌∙◌, inl, subst}
use Rattle.zone_minutes.specs.Window.{IsInWindow}
use Rattle.due_set.specs.Table.{Table}
use Rattle.history.specs.Book.{Row}
use Rattle.history.specs.declared.turn.Cause.TheVariants.{Campaign}
use Rattle.script_semantics.specs.Commands.{Plain}
use Rattle.script_semantics.specs.Parts.{Plays}
use Rattle.script_semantics.specs.Settling.{Drains, DrainsIn, IsDrainRound, IsQuiet, Settles, cleared, coordinator, restart_tasks}
use Rattle.script_semantics.specs.Situation.{Situation, Do}
use Rattle.script_semantics.proofs.StartLemmas.{all_run, same_coordinator}
use Rattle.settling.specs.Leads.{GoesDrainRound}
use Rattle.settling.specs.Rounds.{IsFaultless}
use Rattle.settling.specs.Settles.{LeadsNow, LeadsSoon}
use Rattle.settling.proofs.SettleLeadLemmas.{campaign_faultless, first_leads, leads_on, soon_faultless, soon_last, soon_nearer, soon_quiet}
use Rattle.run_outcome.proofs.SpanLemmas.{IsAfter, Spans, back_of, front_of, goes_by, performed, round_stands}

-- One leads, no fault is left, and it is quiet.
pub record IsLed (members : ℕ) (table : Table) (who : ℕ) (at : ℤ) (situation : Situation) : Type 0 where
  pub leads : LeadsNow members table who situation
  pub faultless : IsFaultless members situation
  pub quiet : IsQuiet members table who at situation

-- ---- draining

-- fewer rounds are left after a round, or it leads
nearer : (left members : ℕ) (table : Table) (who : ℕ) (at : ℤ) (book rows : List Row) (situation after : Situation) → LeadsSoon left members table who situation → GoesDrainRound members table who at book rows situation after
    → (less : ℕ) × LeadsSoon less members table who after
nearer zero members table who at book rows situation after soon goes =
    (0, inl (leads_on members table who at book rows situation after (soon_last members table who situation soon) goes))
nearer (suc less) members table who at book rows situation after soon goes =
    (less, soon_nearer less members table who at book rows situation after soon goes)

led_in : (rounds left members : ℕ) (table : Table) (who : ℕ) (at : ℤ) (book rows : List Row) (situation after : Situation) → IsInWindow table.window at → LeadsSoon left members table who situation → IsFaultless members situation
    → Spans members table book rows situation after → DrainsIn rounds members table who at situation rows after → IsLed members table who at after
led_in zero left members table who at book rows situation after within soon faultless spans drains =
    subst (IsLed members table who at) (sym drains.stays.is)
    (record { leads = soon_quiet left members table who at situation soon drains.is_quiet; faultless = faultless; quiet = drains.is_quiet })
led_in (suc more) left members table who at book rows situation after within soon faultless spans drains =
    let parts = drains.goes_on in
    let middle = round_stands members table who at book parts.front situation parts.middle spans.begins parts.one in
    let goes = goes_by (IsDrainRound members table who at) members table at book parts.front situation parts.middle within faultless
    (front_of members table book parts.front parts.back rows situation parts.middle after parts.parts middle spans) parts.one in
    let (less, then_soon) = nearer left members table who at book parts.front situation parts.middle soon goes in
    led_in more less members table who at (book ++ parts.front) parts.back parts.middle after within then_soon
    (soon_faultless left members table who at book parts.front situation parts.middle soon goes)
    (back_of members table book parts.front parts.back rows situation parts.middle after parts.parts middle spans) parts.two

pub drained_leads : (left members : ℕ) (table : Table) (who : ℕ) (at : ℤ) (book rows : List Row) (situation after : Situation) → IsInWindow table.window at → LeadsSoon left members table who situation → IsFaultless members situation
    → Spans members table book rows situation after → Drains members table who at situation rows after → IsLed members table who at after
drained_leads left members table who at book rows situation after within soon faultless spans (rounds, drains) =
    led_in rounds left members table who at book rows situation after within soon faultless spans drains

-- ---- settling

-- what settling begins with leaves what stands after its turns
start_stands : (members : ℕ) (table : Table) (book rows : List Row) (situation after : Situation) → IsAfter members table book situation → Plain members (restart_tasks members) cleared situation rows after → IsAfter members table (book ++ rows) after
start_stands members table book rows situation after is start =
    let same : start.front ≡ rows = sym (start.parts ∙ ap (λ list. start.front ++ list) start.two.none ∙ append-nil start.front) in
    subst (λ list. IsAfter members table (book ++ list) after) same
    (ap (λ (s : Situation). s.standing) start.two.is ∙ performed members table book start.front (restart_tasks members situation) situation start.middle is start.one)

-- and no fault
start_faultless : (members : ℕ) (situation after : Situation) (rows : List Row) → Plain members (restart_tasks members) cleared situation rows after → IsFaultless members after
start_faultless members situation after rows start = record {
  runs = λ who member. ap (λ (s : Situation). s.standing.runs who) start.two.is ∙ (ap (λ (s : Situation). s.standing.runs who) start.one.is ∙ all_run members situation start.front who start.one.turns member);
  uncut = ap (λ (s : Situation). s.cuts) start.two.is;
  right = λ who member. ap (λ (s : Situation). s.skews who) start.two.is;
  done = λ who member. ap (λ (s : Situation). s.fates who) start.two.is;
}

pub settled_leads : (members : ℕ) (table : Table) (at : ℤ) (book rows : List Row) (situation after : Situation) → 1 ≤ members → IsInWindow table.window at → Spans members table book rows situation after
    → Settles members table at situation rows after → IsLed members table (coordinator members situation) at after
settled_leads members table at book rows situation after some within spans settles =
    let start = settles.one in
    let led = settles.two in
    let begun = settles.middle in
    let who = coordinator members begun in
    let begun_is = start_stands members table book settles.front situation begun spans.begins start in
    let rest = back_of members table book settles.front settles.back rows situation begun after settles.parts begun_is spans in
    let longer = book ++ settles.front in
    let stood_is = performed members table longer led.front (Do who Campaign ∷ []) begun led.middle begun_is led.one in
    let goes = goes_by (Plays members (λ here. Do who Campaign ∷ [])) members table at longer led.front begun led.middle within (start_faultless members situation begun settles.front start)
    (front_of members table longer led.front led.back settles.back begun led.middle after led.parts stood_is rest) led.one in
    let soon = first_leads members table at longer led.front begun led.middle some goes (λ other member. ap (λ (s : Situation). s.mails other) start.two.is) in
    subst (λ lead. IsLed members table lead at after) (same_coordinator members situation settles.front begun start)
    (drained_leads 4 members table who at (longer ++ led.front) led.back led.middle after within soon
    (campaign_faultless members table at longer led.front begun led.middle some goes)
    (back_of members table longer led.front led.back settles.back begun led.middle after led.parts stood_is rest) led.two)
