-- A leader's tick: its base rises where that is due; else its flight waits one tick more, or it begins something.
use Rattle.std.proofs.Common.{◌≡◌, ℕ, ◌+◌, ◌-◌, ◌<◌, ◌≤◌, nat_le, Bool, true, false, List, [], ◌∷◌, Option, Some, ℤ, refl, sym, ap, ◌∙◌, inl, inr, arith, subst, if◌then◌else◌}
use Rattle.std.proofs.lemmas.Bool.{cases_Bool, leb-true, le-ltb}
use Rattle.paxos_base.specs.Durable.{after_delta}
use Rattle.paxos_base.specs.declared.entry.Vote.{Vote}
use Rattle.paxos_base.specs.declared.rows.JobRow.{JobRow}
use Rattle.launch_machine.specs.declared.machine.Intent.{Intent}
use Rattle.launch_machine.proofs.ClerkLemmas.{AppliesAll-same}
use Rattle.term_core.specs.Term.{after_advance, after_tick, is_fourth, ticked}
use Rattle.term_core.specs.declared.flight.Flight.{Flight}
use Rattle.term_core.specs.declared.term.Term.{Term}
use Rattle.term_core.specs.declared.term.Term.TheVariants.{Leader}
use Rattle.step_spec.specs.Act.{Rebase, Wait, after_act}
use Rattle.step_spec.specs.Folds.{after_acts}
use Rattle.step_spec.specs.Propose.{is_long, proposal, tick, tick_of, wait}
use Rattle.step_spec.specs.State.{Identity, State, prefix_of}
use Rattle.step_spec.specs.Step.{IsLaunchTable}
use Rattle.synchronous_rounds.specs.Flights.{IsFlight, Proposal, Proposes, waiting, with_base}
use Rattle.synchronous_rounds.specs.Measure.{due_one}
use Rattle.synchronous_rounds.specs.LedAlone.{IsHolding, IsLeading, Progress}
use Rattle.synchronous_rounds.proofs.ActLemmas.{rebased_learned, rebased_prefix}

-- ---- the base

-- one, where a replica that is so far is due to rebase
abbrev pub due_by : Progress → ℕ
due_by at = if nat_le (at.base + 64) at.prefix then 1 else 0

pub long_is : (held : Term) (at : Progress) (state : State) → IsHolding held at state → is_long state ≡ nat_le (at.base + 64) at.prefix
long_is held at state holding =
    ap (λ k. nat_le (k + 64) (prefix_of state)) holding.from_base ∙ ap (λ k. nat_le (at.base + 64) k) holding.learned

pub due_is : (held : Term) (at : Progress) (state : State) → IsHolding held at state → due_one state ≡ due_by at
due_is held at state holding = ap (λ long. if long then 1 else 0) (long_is held at state holding)

pub none_due : (at : Progress) → due_by (with_base at.prefix at) ≡ 0
none_due at = elim (cases_Bool (nat_le (at.prefix + 64) at.prefix)) [
  | inl long ↦ let least = leb-true (at.prefix + 64) at.prefix long in absurd (omega (arith, least))
  | inr short ↦ rw short refl
]

pub due_then : (held : Term) (at : Progress) (state : State) → IsHolding held at state → is_long state ≡ true → due_by at ≡ 1
due_then held at state holding long = ap (λ is. if is then 1 else 0) (sym (long_is held at state holding) ∙ long)

-- its launch table takes the place of the entries below its prefix, and is the same
pub holds_rebased : (held : Term) (at : Progress) (rows : List JobRow) (state : State) → IsHolding held at state → IsLaunchTable at.table state rows → after_advance at.prefix held ≡ held → IsHolding held (with_base at.prefix at) (after_acts (Rebase (prefix_of state) rows ∷ []) state)
unfolding after_act after_delta
holds_rebased held at rows state holding planned stays = record {
  is = ap (after_advance (prefix_of state)) holding.is ∙ (ap (λ k. after_advance k held) holding.learned ∙ stays);
  promised = holding.promised;
  launch = rw (rebased_learned (prefix_of state) rows state (omega arith)) (AppliesAll-same at.table state.kept.rows state.learned at.rows rows holding.launch planned);
  learned = rebased_prefix (prefix_of state) rows state (omega arith) ∙ holding.learned;
  from_base = holding.learned;
}

flight_stays : (ballot : ℕ) (best : List Vote) (prefix : ℕ) (flight : Flight) → flight.slot ≡ prefix → after_advance prefix (Leader ballot best (Some flight)) ≡ Leader ballot best (Some flight)
flight_stays ballot best prefix flight at = rw (le-ltb flight.slot prefix (omega (arith, at))) refl

-- ---- a flight

pub silent_wait : (ballot : ℕ) (flight : Flight) (state : State) → after_acts (wait ballot flight) state ≡ after_act Wait state
unfolding after_act
silent_wait ballot flight state = elim (cases_Bool (is_fourth flight)) [ inl again ↦ rw again refl | inr not_yet ↦ rw not_yet refl ]

-- a proposal after a tick: it has waited one tick more, or its leader's base is no longer due to rise
pub record Waited (proposal : Proposal) (after : State) : Type 0 where
  pub base : ℕ
  pub waited : ℕ
  pub later : waited ≤ proposal.waited + 1
  pub flight : Flight
  pub proposes : Proposes (waiting base waited proposal) flight after
  pub sooner : (3 - waited) + due_one after < (3 - proposal.waited) + due_by proposal.at

waits_more : (proposal : Proposal) (flight : Flight) (self : Identity) (now : ℤ) (wanted : Intent) (state : State) → proposal.waited < 3 → Proposes proposal flight state → Proposes (waiting proposal.at.base (proposal.waited + 1) proposal) (ticked flight) (after_acts (tick_of self now wanted state state.term) state)
unfolding after_act
waits_more proposal flight self now wanted state early proposes =
    subst (λ s. Proposes (waiting proposal.at.base (proposal.waited + 1) proposal) (ticked flight) s)
    (sym (ap (λ t. after_acts (tick_of self now wanted state t) state) leading.is ∙ silent_wait proposal.at.ballot flight state)) (record {
      leading = record { is = ap after_tick leading.is; promised = leading.promised; launch = leading.launch; learned = leading.learned; from_base = leading.from_base };
      flies = record {
        slot = proposes.flies.slot;
        entry = proposes.flies.entry;
        few = proposes.flies.few;
        own = proposes.flies.own;
        waited = waits (is_fourth flight) refl;
      };
    })
  where
    leading : IsLeading proposal.best (Some flight) proposal.at state
    leading = proposes.leading

    waits : (fourth : Bool) → is_fourth flight ≡ fourth → (if is_fourth flight then 0 else flight.waited + 1) ≡ proposal.waited + 1
    waits true is = let late = leb-true 4 (flight.waited + 1) is in absurd (omega (arith, late, proposes.flies.waited, early))
    waits false is = rw is (omega (arith, proposes.flies.waited))

flies_still : (proposal : Proposal) (flight : Flight) (base : ℕ) → IsFlight proposal flight → IsFlight (waiting base proposal.waited proposal) flight
flies_still proposal flight base flies =
    record { slot = flies.slot; entry = flies.entry; few = flies.few; own = flies.own; waited = flies.waited }

pub flight_tick : (proposal : Proposal) (flight : Flight) (self : Identity) (now : ℤ) (rows : List JobRow) (wanted : Intent) (state : State) → proposal.waited < 3 → Proposes proposal flight state → IsLaunchTable proposal.at.table state rows → Waited proposal (after_acts (tick self now rows wanted state) state)
unfolding tick
flight_tick proposal flight self now rows wanted state early proposes planned =
    elim (cases_Bool (is_long state)) [
      | inl long ↦
          let held : Term = Leader proposal.at.ballot proposal.best (Some flight) in
          let there = holds_rebased held proposal.at rows state proposes.leading planned (flight_stays proposal.at.ballot proposal.best proposal.at.prefix flight proposes.flies.slot) in
          let one = due_then held proposal.at state proposes.leading long in
          let none = due_is held (with_base proposal.at.prefix proposal.at) (after_acts (Rebase (prefix_of state) rows ∷ []) state) there ∙ none_due proposal.at in
          rw long (record {
            base = proposal.at.prefix;
            waited = proposal.waited;
            later = omega arith;
            flight = flight;
            proposes = record { leading = there; flies = flies_still proposal flight proposal.at.prefix proposes.flies };
            sooner = omega (arith, one, none);
          })
      | inr short ↦
          let more = waits_more proposal flight self now wanted state early proposes in
          let same = due_is (Leader proposal.at.ballot proposal.best (Some (ticked flight))) proposal.at (after_acts (tick_of self now wanted state state.term) state) more.leading in
          rw short (record {
            base = proposal.at.base;
            waited = proposal.waited + 1;
            later = omega arith;
            flight = ticked flight;
            proposes = more;
            sooner = omega (arith, same, early);
          })
    ]

-- ---- no flight

-- it leads on, with some flight or none, and some base
pub record LeadsOn (best : List Vote) (at : Progress) (after : State) : Type 0 where
  pub flight : Option Flight
  pub base : ℕ
  pub leading : IsLeading best flight (with_base base at) after
