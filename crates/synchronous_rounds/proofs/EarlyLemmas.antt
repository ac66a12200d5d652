-- Before a replica hears a campaign above all ballots so far, it learns one entry at most that the candidate has not learned.
use Rattle.std.proofs.Common.{◌≡◌, ℕ, ◌+◌, ◌-◌, ◌<◌, ◌≤◌, Bool, List, [], ◌∷◌, ◌++◌, length, drop, eqb, ltb, leb, ◌&&◌, None, Some, refl, sym, ap, ◌∙◌, inl, inr, ◌⊎◌, arith, subst, length-append}
use Rattle.std.specs.Prelude.{⊤}
use Rattle.std.specs.List.{AllByRecursion, Contains}
use Rattle.std.proofs.lemmas.Bool.{cases_Bool, cases_lt, eqb-true, lt-ltb, ltb-true, ne_eqb}
use Rattle.std.proofs.lemmas.List.Elements.{Contains-append_left, Contains-append_right}
use Rattle.paxos_base.specs.Durable.{after_delta}
use Rattle.paxos_base.specs.Members.{has_majority, with_member}
use Rattle.paxos_base.specs.Vote.{vote_at}
use Rattle.paxos_base.specs.declared.entry.Entry.{Entry}
use Rattle.paxos_base.specs.declared.entry.Vote.{Vote}
use Rattle.paxos_base.specs.declared.rows.JobRow.{JobRow}
use Rattle.due_set.specs.Table.{Table}
use Rattle.term_core.specs.Term.{after_advance, after_ballot}
use Rattle.term_core.specs.declared.term.Term.{Term}
use Rattle.term_core.specs.declared.term.Term.TheVariants.{Follower, Candidate, Leader}
use Rattle.step_spec.specs.Act.{Act, Count, Gather, Learn, Observe, Send, TakeLead, after_act, after_counting, after_gathering, as_leader}
use Rattle.step_spec.specs.Coherent.{FitsTerm, IsCoherent}
use Rattle.step_spec.specs.Folds.{after_acts, sent_by, sent_to}
use Rattle.step_spec.specs.Hear.{Once, hear, hear_all, is_vote_of, known_from, line, not_yet, on_accept, on_accepted, on_ask, on_known, on_lead, on_prepare, on_promise, on_snap, once_after, snapshot}
use Rattle.step_spec.specs.May.{AllMay, Setting}
use Rattle.step_spec.specs.Message.{Message, Prepare, Promise, Accept, Accepted, Nack, Known, AskFrom, Snap, Lead, Mention, Others, ballot_in}
use Rattle.step_spec.specs.State.{Identity, State, prefix_of, promised_in}
use Rattle.step_spec.specs.Step.{Event, Hear, step}
use Rattle.step_spec.proofs.LineLemmas.{acts_sound}
use Rattle.step_spec.proofs.Said.{setting_of, stays_coherent, step_may_be_done}
use Rattle.synchronous_rounds.specs.Cluster.{HeardLetter, after_events, hear_events, letter_from, letters_to}
use Rattle.synchronous_rounds.specs.LedAlone.{AreWithin, Occurs, StaysWithin}
use Rattle.synchronous_rounds.proofs.ActLemmas.{rebased_prefix, silent_ask, silent_sends, silent_snapshot}
use Rattle.synchronous_rounds.proofs.MailLemmas.{occurs_left, occurs_letter, occurs_right}
use Rattle.due_set.proofs.Rising.{Contains-head as in_first, Contains-tail as in_rest}
use Rattle.step_spec.proofs.OutLemmas.{flat_has as flat_in}
use Rattle.step_spec.proofs.Lists.{after_acts-append}

-- acts that may be done one after another, taken apart
may_split : (setting : Setting) (state : State) (xs ys : List Act) → AllMay setting state (xs ++ ys) → AllMay setting state xs × AllMay setting (after_acts xs state) ys
may_split setting state [] ys may = (tt, may)
may_split setting state (x ∷ xs) ys may = let rest = may_split setting (after_act x state) xs ys may.1 in ((may.0, rest.0), rest.1)

-- ---- what stays so

abbrev pub IsFlightless : Term → Type 0
IsFlightless (Follower ended) = ⊤
IsFlightless (Candidate ballot first heard best) = ⊤
IsFlightless (Leader ballot best None) = ⊤
IsFlightless (Leader ballot best (Some flight)) = ⊥

-- all others are told the entry of the slot
abbrev pub Tells : ℕ → List Act → Type 0
Tells p acts = (entry : Entry) × Contains acts (Send Others (Known p entry))

-- It has promised no ballot above one, has its base at a slot or below it, and has learned entries below that slot alone, or that of
-- the slot too, and has no flight.
pub record IsEarly (top p : ℕ) (state : State) : Type 0 where
  pub low : promised_in state.kept ≤ top
  pub based : state.kept.base ≤ p
  pub reach : (prefix_of state ≤ p) ⊎ ((prefix_of state ≡ p + 1) × IsFlightless state.term)

-- after acts it is so still; and it has learned that slot before, or has told it
pub record StaysEarly (top p : ℕ) (state : State) (acts : List Act) : Type 0 where
  pub early : IsEarly top p (after_acts acts state)
  pub tells : (prefix_of (after_acts acts state) ≤ p) ⊎ ((prefix_of state ≡ p + 1) ⊎ Tells p acts)

-- acts after which promise, base, prefix and flight are as good as before
same_early : (top p : ℕ) (state : State) (acts : List Act) → IsEarly top p state → promised_in (after_acts acts state).kept ≤ top → (after_acts acts state).kept.base ≡ state.kept.base → prefix_of (after_acts acts state) ≡ prefix_of state → (IsFlightless state.term → IsFlightless (after_acts acts state).term) → StaysEarly top p state acts
same_early top p state acts early low base prefix none = record {
  early = record {
    low = low;
    based = omega (arith, base, early.based);
    reach = elim early.reach [ inl short ↦ inl (omega (arith, prefix, short)) | inr one ↦ inr (prefix ∙ one.0, none one.1) ];
  };
  tells = elim early.reach [ inl short ↦ inl (omega (arith, prefix, short)) | inr one ↦ inr (inl one.0) ];
}

silent_early : (top p : ℕ) (state : State) (acts : List Act) → IsEarly top p state → after_acts acts state ≡ state → StaysEarly top p state acts
silent_early top p state acts early same = record {
  early = subst (λ s. IsEarly top p s) (sym same) early;
  tells = elim early.reach [ inl short ↦ inl (subst (λ s. prefix_of s ≤ p) (sym same) short) | inr one ↦ inr (inl one.0) ];
}

-- ---- a message

early_prepare : (top p from ballot slot : ℕ) (copied : Bool) (state : State) → ballot ≤ top → IsEarly top p state → StaysEarly top p state (on_prepare from ballot slot copied state)
unfolding on_prepare after_act after_delta
early_prepare top p from ballot slot copied state low early =
    elim (cases_Bool (leb ballot (promised_in state.kept))) [
      | inl refused ↦ rw refused (same_early top p state _ early early.low refl refl (λ none. none))
      | inr above ↦ rw above (elim (cases_Bool (ltb slot state.kept.base)) [
        | inl below ↦ rw below (silent_early top p state (snapshot from copied state) early (silent_snapshot from copied state state))
        | inr kept ↦ rw kept (same_early top p state _ early low refl refl (λ none. none))
      ])
    ]

early_accept : (top p from : ℕ) (vote : Vote) (copied : Bool) (state : State) → vote.ballot ≤ top → IsEarly top p state → StaysEarly top p state (on_accept from vote copied state)
unfolding on_accept after_act after_delta
early_accept top p from vote copied state low early =
    elim (cases_Bool (ltb vote.ballot (promised_in state.kept))) [
      | inl refused ↦ rw refused (same_early top p state _ early early.low refl refl (λ none. none))
      | inr least ↦ rw least (elim (cases_Bool (ltb vote.slot state.kept.base)) [
        | inl below ↦ rw below (silent_early top p state (snapshot from copied state) early (silent_snapshot from copied state state))
        | inr kept ↦ rw kept (elim (cases_Bool (is_vote_of vote.ballot (vote_at vote.slot state.kept.votes))) [
          | inl again ↦ rw again (elim (cases_Bool (ltb (prefix_of state) vote.slot)) [
            | inl missing ↦ rw missing (same_early top p state _ early early.low refl refl (λ none. none))
            | inr all ↦ rw all (same_early top p state _ early early.low refl refl (λ none. none))
          ])
          | inr new ↦ rw new (elim (cases_Bool (ltb (prefix_of state) vote.slot)) [
            | inl missing ↦ rw missing (same_early top p state _ early low refl refl (λ none. none))
            | inr all ↦ rw all (same_early top p state _ early low refl refl (λ none. none))
          ])
        ])
      ])
    ]

early_promise : (top p members from ballot slot : ℕ) (votes : List Vote) (state : State) (term : Term) → state.term ≡ term → IsEarly top p state → StaysEarly top p state (on_promise members from ballot slot votes term)
unfolding on_promise after_act
early_promise top p members from ballot slot votes state (Follower ended) is early = same_early top p state [] early early.low refl refl (λ none. none)
early_promise top p members from ballot slot votes state (Leader own best flight) is early = same_early top p state [] early early.low refl refl (λ none. none)
early_promise top p members from ballot slot votes state (Candidate own first heard best) is early =
    elim (cases_Bool (eqb own ballot && eqb first slot)) [
      | inl asked ↦ rw asked (elim (cases_Bool (has_majority members (with_member from heard))) [
        | inl enough ↦ rw enough (same_early top p state (Gather from votes ∷ TakeLead ∷ []) early early.low refl refl (λ none. subst (λ t. IsFlightless (as_leader (after_gathering from votes t))) (sym is) tt))
        | inr few ↦ rw few (same_early top p state (Gather from votes ∷ []) early early.low refl refl (λ none. subst (λ t. IsFlightless (after_gathering from votes t)) (sym is) tt))
      ])
      | inr other ↦ rw other (same_early top p state [] early early.low refl refl (λ none. none))
    ]

early_accepted : (self : Identity) (top p from ballot slot : ℕ) (state : State) (term : Term) → state.term ≡ term → FitsTerm self state.kept (prefix_of state) term → IsEarly top p state → StaysEarly top p state (on_accepted self.members from ballot slot term)
unfolding on_accepted after_act
early_accepted self top p from ballot slot state (Follower ended) is fits early = same_early top p state [] early early.low refl refl (λ none. none)
early_accepted self top p from ballot slot state (Candidate own first heard best) is fits early = same_early top p state [] early early.low refl refl (λ none. none)
early_accepted self top p from ballot slot state (Leader own best None) is fits early = same_early top p state [] early early.low refl refl (λ none. none)
early_accepted self top p from ballot slot state (Leader own best (Some flight)) is fits early =
    elim (cases_Bool (eqb own ballot && eqb flight.slot slot)) [
      | inr other ↦ rw other (same_early top p state [] early early.low refl refl (λ none. none))
      | inl counts ↦ rw counts (elim (cases_Bool (has_majority self.members (with_member from flight.accepted))) [
        | inr few ↦ rw few (same_early top p state (Count from ∷ []) early early.low refl refl (λ none. absurd (subst (λ t. IsFlightless t) is none)))
        | inl enough ↦ rw enough (learns early.reach)
      ])
    ]
  where
    acts : List Act
    acts = Count from ∷ Learn flight.slot flight.entry ∷ Send Others (Known flight.slot flight.entry) ∷ []

    longer : length (state.learned ++ flight.entry ∷ []) ≡ length state.learned + 1
    longer = length-append state.learned (flight.entry ∷ [])

    over : (after_acts acts state).term ≡ Leader own best None
    over = ap (λ t. after_advance (prefix_of state + 1) (after_counting from t)) is ∙ rw (lt-ltb flight.slot (prefix_of state + 1) (omega (arith, fits.1.slot))) refl

    told : flight.slot ≡ p → Contains acts (Send Others (Known p flight.entry))
    told at =
        in_rest (Count from) (Learn flight.slot flight.entry ∷ Send Others (Known flight.slot flight.entry) ∷ []) (Send Others (Known p flight.entry))
        (in_rest (Learn flight.slot flight.entry) (Send Others (Known flight.slot flight.entry) ∷ []) (Send Others (Known p flight.entry))
        (subst (λ s. Contains (Send Others (Known s flight.entry) ∷ []) (Send Others (Known p flight.entry))) (sym at) (in_first (Send Others (Known p flight.entry)) [])))

    learns : (prefix_of state ≤ p) ⊎ ((prefix_of state ≡ p + 1) × IsFlightless state.term) → StaysEarly top p state acts
    learns (inr one) = absurd (subst (λ t. IsFlightless t) is one.1)
    learns (inl short) = elim (cases_lt (prefix_of state) p) [
      | inl less ↦ record { early = record { low = early.low; based = early.based; reach = inl (omega (arith, less, longer)) }; tells = inl (omega (arith, less, longer)) }
      | inr least ↦ record {
        early = record { low = early.low; based = early.based; reach = inr (omega (arith, short, least, longer), subst (λ t. IsFlightless t) (sym over) tt) };
        tells = inr (inr (flight.entry, told (omega (arith, fits.1.slot, short, least))));
      }
    ]

early_known : (top p from slot : ℕ) (entry : Entry) (asked : Bool) (state : State) → slot < p → IsEarly top p state → StaysEarly top p state (on_known from slot entry asked state)
unfolding on_known after_act
early_known top p from slot entry asked state below early =
    elim (cases_Bool (eqb slot (prefix_of state))) [
      | inl next ↦
          let at = eqb-true slot (prefix_of state) next in
          let longer = length-append state.learned (entry ∷ []) in
          rw next (record { early = record { low = early.low; based = early.based; reach = inl (omega (arith, at, below, longer)) }; tells = inl (omega (arith, at, below, longer)) })
      | inr other ↦ rw other (elim (cases_Bool asked) [
        | inl once ↦ rw once (same_early top p state [] early early.low refl refl (λ none. none))
        | inr first ↦ rw first (silent_early top p state _ early (silent_ask from slot state state))
      ])
    ]

early_ask : (top p from slot : ℕ) (copied : Bool) (state : State) → IsEarly top p state → StaysEarly top p state (on_ask from slot copied state)
unfolding on_ask
early_ask top p from slot copied state early =
    elim (cases_Bool (ltb slot state.kept.base)) [
      | inl below ↦ rw below (silent_early top p state (snapshot from copied state) early (silent_snapshot from copied state state))
      | inr kept ↦ rw kept (silent_early top p state _ early (silent_sends from (known_from slot (drop (slot - state.kept.base) state.learned)) state))
    ]

-- a launch table that it takes is of a slot up to the candidate's prefix
early_snap : (top p slot : ℕ) (rows : List JobRow) (state : State) → slot ≤ p → IsEarly top p state → StaysEarly top p state (on_snap slot rows state)
unfolding on_snap after_act after_delta
early_snap top p slot rows state below early =
    elim (cases_Bool (ltb (prefix_of state) slot)) [
      | inl lacks ↦
          let high = ltb-true (prefix_of state) slot lacks in
          let at = rebased_prefix slot rows state (omega (arith, high)) in
          rw lacks (record { early = record { low = early.low; based = below; reach = inl (omega (arith, at, below)) }; tells = inl (omega (arith, at, below)) })
      | inr has ↦ rw has (silent_early top p state [] early refl)
    ]

early_line : (self : Identity) (top p from : ℕ) (message : Message) (once : Once) (state : State) → StaysWithin top p message → FitsTerm self state.kept (prefix_of state) state.term → IsEarly top p state → StaysEarly top p state (line self from message once state)
unfolding line on_lead
early_line self top p from (Prepare ballot slot) once state within fits early = early_prepare top p from ballot slot once.copied state within.low early
early_line self top p from (Promise ballot slot votes) once state within fits early = early_promise top p self.members from ballot slot votes state state.term refl early
early_line self top p from (Accept vote) once state within fits early = early_accept top p from vote once.copied state within.low early
early_line self top p from (Accepted ballot slot) once state within fits early = early_accepted self top p from ballot slot state state.term refl fits early
early_line self top p from (Nack ballot promised) once state within fits early = silent_early top p state [] early refl
early_line self top p from (Known slot entry) once state within fits early = early_known top p from slot entry once.asked state within.below early
early_line self top p from (AskFrom slot) once state within fits early = early_ask top p from slot once.copied state early
early_line self top p from (Snap slot rows) once state within fits early = early_snap top p slot rows state within.below early
early_line self top p from (Lead ballot slot) once state within fits early = silent_early top p state _ early (silent_ask from slot state state)
early_line self top p from (Mention ballot) once state within fits early = silent_early top p state [] early refl

-- ---- a ballot is observed first

flightless_ballot : (ballot : ℕ) (term : Term) → IsFlightless term → IsFlightless (after_ballot ballot term)
flightless_ballot ballot (Follower ended) none = tt
flightless_ballot ballot (Candidate own first heard best) none = elim (cases_Bool (ltb own ballot)) [ inl ends ↦ rw ends tt | inr stays ↦ rw stays tt ]
flightless_ballot ballot (Leader own best None) none = elim (cases_Bool (ltb own ballot)) [ inl ends ↦ rw ends tt | inr stays ↦ rw stays tt ]
flightless_ballot ballot (Leader own best (Some flight)) none = absurd none

early_observed : (top p ballot : ℕ) (state : State) → IsEarly top p state → StaysEarly top p state (Observe ballot ∷ [])
unfolding after_act
early_observed top p ballot state early = same_early top p state (Observe ballot ∷ []) early early.low refl refl (flightless_ballot ballot state.term)

-- parts of acts, one after another
early_join : (top p : ℕ) (state : State) (xs ys : List Act) → StaysEarly top p state xs → StaysEarly top p (after_acts xs state) ys → StaysEarly top p state (xs ++ ys)
early_join top p state xs ys first second = record {
  early = rw (after_acts-append xs ys state) second.early;
  tells = elim second.tells [
    | inl short ↦ inl (rw (after_acts-append xs ys state) short)
    | inr late ↦ elim late [
      | inr told ↦ inr (inr (told.0, Contains-append_right xs ys (Send Others (Known p told.0)) told.1))
      | inl before ↦ elim first.tells [
        | inl short ↦ absurd (omega (arith, short, before))
        | inr early ↦ elim early [ inl past ↦ inr (inl past) | inr told ↦ inr (inr (told.0, Contains-append_left xs ys (Send Others (Known p told.0)) told.1)) ]
      ]
    ]
  ];
}

early_hear : (setting : Setting) (top p from : ℕ) (message : Message) (once : Once) (state : State) → IsCoherent setting.self state → AllMay setting state (hear setting.self from message once state) → StaysWithin top p message → IsEarly top p state → StaysEarly top p state (hear setting.self from message once state)
unfolding hear
early_hear setting top p from message once state sound may within early =
    let now = after_act (Observe (ballot_in message)) state in
    let fine = acts_sound setting state (Observe (ballot_in message) ∷ []) sound (may.0, tt) in
    let first = early_observed top p (ballot_in message) state early in
    early_join top p state (Observe (ballot_in message) ∷ []) (line setting.self from message once now) first
    (early_line setting.self top p from message once now within fine.term first.early)

early_all : (setting : Setting) (top p from : ℕ) (messages : List Message) (once : Once) (state : State) → IsCoherent setting.self state → AllMay setting state (hear_all setting.self from messages once state) → AllByRecursion (StaysWithin top p) messages → IsEarly top p state → StaysEarly top p state (hear_all setting.self from messages once state)
unfolding hear_all
early_all setting top p from [] once state sound may within early = silent_early top p state [] early refl
early_all setting top p from (message ∷ messages) once state sound may within early =
    let acts = hear setting.self from message once state in
    let now = after_acts acts state in
    let later = once_after message state acts once in
    let rest = hear_all setting.self from messages later now in
    let parts = may_split setting state acts rest may in
    let first = early_hear setting top p from message once state sound parts.0 within.0 early in
    early_join top p state acts rest first
    (early_all setting top p from messages later now (acts_sound setting state acts sound parts.0) parts.1 within.1 first.early)

-- ---- a mail

-- after it, it is so still; and it has learned that slot before, or has told it to the candidate
pub record EndsEarly (top p c : ℕ) (self : Identity) (state : State) (events : List Event) : Type 0 where
  pub early : IsEarly top p (after_events self events state)
  pub tells : (prefix_of (after_events self events state) ≤ p) ⊎ ((prefix_of state ≡ p + 1) ⊎ ((entry : Entry) × Occurs (letters_to self c events state) self.me (Known p entry)))

told_to_all : (self : Identity) (c p : ℕ) (entry : Entry) (acts : List Act) → (c ≡ self.me → ⊥) → Contains acts (Send Others (Known p entry)) → Occurs (letter_from self.me (sent_to self.me c acts)) self.me (Known p entry)
unfolding sent_by
told_to_all self c p entry acts apart has =
    occurs_letter self.me (Known p entry) (sent_to self.me c acts) (in_first (Known p entry) [])
    (flat_in (sent_by self.me c) acts (Send Others (Known p entry)) (Known p entry) has (rw (ne_eqb c self.me apart) (in_first (Known p entry) [])))

pub early_mail : (top p c : ℕ) (self : Identity) (table : Table) (mail : List HeardLetter) (state : State) → (c ≡ self.me → ⊥) → self.me < 8 → IsCoherent self state → AreWithin top p mail → IsEarly top p state → EndsEarly top p c self state (hear_events mail)
unfolding step
early_mail top p c self table [] state apart small sound within early = record { early = early; tells = elim early.reach [ inl short ↦ inl short | inr one ↦ inr (inl one.0) ] }
early_mail top p c self table (letter ∷ mail) state apart small sound within early =
    let event : Event = Hear letter.from letter.messages in
    let acts = hear_all self letter.from letter.messages not_yet state in
    let now = after_acts acts state in
    let own = early_all (setting_of self table event) top p letter.from letter.messages not_yet state sound (step_may_be_done self table event state small sound tt) within.0 early in
    let rest = early_mail top p c self table mail now apart small (stays_coherent self table event state small sound tt) within.1 own.early in
    record {
      early = rest.early;
      tells = elim rest.tells [
        | inl short ↦ inl short
        | inr late ↦ elim late [
          | inr told ↦ inr (inr (told.0, occurs_right (letter_from self.me (sent_to self.me c acts)) (letters_to self c (hear_events mail) now) self.me (Known p told.0) told.1))
          | inl before ↦ elim own.tells [
            | inl short ↦ absurd (omega (arith, short, before))
            | inr first ↦ elim first [
              | inl past ↦ inr (inl past)
              | inr told ↦ inr (inr (told.0, occurs_left (letter_from self.me (sent_to self.me c acts)) (letters_to self c (hear_events mail) now) self.me (Known p told.0) (told_to_all self c p told.0 acts apart told.1)))
            ]
          ]
        ]
      ];
    }
