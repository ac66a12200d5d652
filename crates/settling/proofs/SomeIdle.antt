-- A legal book of two replicas, of which one leads alone and is idle, and rounds of a drain after it.
use Rattle.std.proofs.Common.{◌≡◌, ℕ, zero, suc, ◌+◌, ◌-◌, ◌*◌, ◌^◌, ◌<◌, Bool, true, pos, Some, None, List, [], ◌∷◌, ◌++◌, append-nil, length, take, drop, ◌==◌, if◌then◌else◌, ℤ, refl, sym, ap, ◌∙◌, inl, inr, arith, subst, lit<}
use Rattle.std.specs.List.{AllByRecursion, AllZip, Contains, filter, range_with_len, slice_get}
use Rattle.std.proofs.lemmas.List.{length-append, length_push}
use Rattle.std.proofs.lemmas.List.Elements.{Contains-push_cases}
use Rattle.paxos_base.specs.Durable.{after_delta}
use Rattle.paxos_base.specs.Members.{with_member}
use Rattle.paxos_base.specs.Vote.{votes_from}
use Rattle.cluster_sched.specs.declared.fate.Fate.TheVariants as fate
use Rattle.due_set.specs.Table.{Table}
use Rattle.launch_machine.specs.Clerk.{first_rows, table_size}
use Rattle.step_spec.specs.Act.{after_act}
use Rattle.step_spec.specs.Hear.{hear, hear_all, line, on_prepare, on_promise}
use Rattle.step_spec.specs.Message.{Lead}
use Rattle.step_spec.specs.Propose.{campaign, tick}
use Rattle.step_spec.specs.State.{State, prefix_of}
use Rattle.step_spec.specs.Step.{step}
use Rattle.step_spec.proofs.Lists.{nothing_in}
use Rattle.history.specs.Book.{PostedLetter, Row, after_row, first_standing, standing_after}
use Rattle.history.specs.Legal.{IsLegal}
use Rattle.history.specs.declared.turn.Cause.TheVariants as cause
use Rattle.history.proofs.SomeBook.{some_book, some_book_is_legal}
use Rattle.history.proofs.Turns.{AllFollow, legal_append}
use Rattle.history.proofs.Keeping.{empty_is_legal}
use Rattle.synchronous_rounds.specs.Cluster.{Cluster}
use Rattle.synchronous_rounds.specs.Rounds.{free}
use Rattle.synchronous_rounds.specs.LedAlone.{AreFrom, AreWithin, IsBehind, IsLeading, Progress}
use Rattle.script_semantics.specs.Round.{hear_tasks, round_tasks, tasks_of}
use Rattle.script_semantics.specs.Settling.{IsFreeTerm, AsksNothing, campaign_tasks}
use Rattle.script_semantics.specs.Situation.{Do, Situation, AreTurnsFor, after_turns, delivered, letters_for, reaches}
use Rattle.settling.specs.Leads.{GoesDrainRound, LeadsAlone}
use Rattle.settling.specs.Rounds.{IsFaultless}
use Rattle.settling.specs.Stands.{IsLetterAt, StandsForCluster}
use Rattle.settling.proofs.BookLemmas.{stand_after}
use Rattle.settling.specs.Drain.{IsIdleFor}
use Rattle.settling.specs.Idle.{IsIdleAt}
use Rattle.settling.proofs.DrainLeadLemmas.{delivers_none}
use Rattle.settling.proofs.SomeDrainTurns.{bare, bare_rests, bare_sound, follower, follower_stays, hearer_stays, hears, lead_heard, lead_letter, leader, leader_stays, leads, may_hear, may_lead, may_tick, now, ticks}
use Rattle.due_set.proofs.Rising.{Contains-cases as cons_cases}
use Rattle.history.proofs.Rounds.{last_there as found_last}
use Rattle.step_spec.proofs.ListLemmas.{found_still}

-- ---- lists

-- ---- letters

abbrev IsShort : PostedLetter → Type 0
IsShort letter = length letter.bytes < 56 * 2 ^ 31

abbrev AreShort : List PostedLetter → Type 0
AreShort posted = (letter : PostedLetter) → Contains posted letter → IsShort letter

short_each : (posted : List PostedLetter) → AllByRecursion IsShort posted → AreShort posted
short_each [] all letter has = nothing_in has
short_each (first ∷ rest) (short, others) letter has = elim (cons_cases first rest letter has) [ inl same ↦ subst IsShort same short | inr there ↦ short_each rest others letter there ]

-- ---- between two rounds

-- after so many rounds
record Resting (rounds : ℕ) (book : List Row) (situation : Situation) : Type 0 where
  legal : IsLegal 2 bare book
  standing : situation.standing ≡ standing_after 2 (first_rows bare) book
  long : length book ≡ 4 + 3 * rounds
  leads_on : situation.standing.replicas 0 ≡ leader
  follows : situation.standing.replicas 1 ≡ follower
  waits : (who : ℕ) → who < 2 → situation.standing.waits who ≡ None
  faultless : IsFaultless 2 situation
  number : ℕ
  there : slice_get situation.standing.posted number ≡ Some lead_letter
  none : situation.mails 0 ≡ []
  mail : situation.mails 1 ≡ number ∷ []
  short : AreShort situation.standing.posted

abbrev turns : ℕ → List Row
turns number = leads ∷ hears number ∷ ticks ∷ []

abbrev next_of : ℕ → Situation → Situation
next_of number situation = delivered (length situation.standing.posted) (after_turns 2 situation (turns number))

-- ---- a round

-- what a replica does in it
tasks_at : (situation : Situation) (who : ℕ) (mail : List ℕ) → situation.standing.runs who ≡ true → situation.standing.waits who ≡ None → situation.mails who ≡ mail → situation.skews who ≡ pos 0
    → tasks_of bare.window now situation who ≡ hear_tasks who mail ++ Do who (cause.Tick (record { 0 = now })) ∷ []
tasks_at situation who mail runs waits mailed right = rw (runs, waits, mailed, right) refl

all_tasks : (rounds : ℕ) (book : List Row) (situation : Situation) → (rests : Resting rounds book situation)
    → round_tasks 2 bare.window now situation
    ≡ Do 0 (cause.Tick (record { 0 = now })) ∷ Do 1 (cause.Hear rests.number) ∷ Do 1 (cause.Tick (record { 0 = now })) ∷ []
all_tasks rounds book situation rests =
    let first = tasks_at situation 0 [] (rests.faultless.runs 0 (lit< tt)) (rests.waits 0 (lit< tt)) rests.none (rests.faultless.right 0 (lit< tt)) in
    let second = tasks_at situation 1 (rests.number ∷ []) (rests.faultless.runs 1 (lit< tt)) (rests.waits 1 (lit< tt)) rests.mail (rests.faultless.right 1 (lit< tt)) in
    ap (λ list. list ++ (tasks_of bare.window now situation 1 ++ [])) first
    ∙ ap (λ list. Do 0 (cause.Tick (record { 0 = now })) ∷ (list ++ [])) second

-- the turns may follow
turns_follow : (rounds : ℕ) (book : List Row) (situation : Situation) → (rests : Resting rounds book situation) → AllFollow 2 bare situation.standing (turns rests.number)
unfolding after_row
turns_follow rounds book situation rests =
    let s = situation.standing in (
      may_lead s (rests.faultless.runs 0 (lit< tt)) rests.leads_on,
      (
        may_hear _ rests.number (rests.faultless.runs 1 (lit< tt)) rests.follows (found_still s.posted (lead_letter ∷ []) rests.number lead_letter rests.there),
        (may_tick _ (rests.faultless.runs 1 (lit< tt)) (hearer_stays rests.number (s.replicas 1) rests.follows), tt),
      ),
    )

-- the letters of the round
posted_next : (number : ℕ) (situation : Situation) → (next_of number situation).standing.posted ≡ situation.standing.posted ++ lead_letter ∷ []
unfolding after_row
posted_next number situation =
    append-nil ((situation.standing.posted ++ lead_letter ∷ []) ++ []) ∙ append-nil (situation.standing.posted ++ lead_letter ∷ [])

-- of one letter that was posted, those that reach a replica
one_for : (situation : Situation) (front : List PostedLetter) (letter : PostedLetter) (who : ℕ) → situation.standing.posted ≡ front ++ letter ∷ []
    → letters_for situation (length front) who ≡ filter (λ number. reaches situation who (Some letter)) (length front ∷ [])
one_for situation front letter who posted =
    let one : length (front ++ letter ∷ []) - length front ≡ 1 = let long = length_push front letter in omega (arith, long) in
    ap (λ list. filter (λ number. reaches situation who (slice_get list number)) (range_with_len (length front) (length list - length front))) posted
    ∙ (ap (λ count. filter (λ number. reaches situation who (slice_get (front ++ letter ∷ []) number)) (range_with_len (length front) count)) one
    ∙ filter_one (λ number. reaches situation who (slice_get (front ++ letter ∷ []) number)) (λ number. reaches situation who (Some letter)) (length front)
    (ap (reaches situation who) (found_last front letter)))
  where
    filter_one : (test other : ℕ → Bool) (k : ℕ) → test k ≡ other k → filter test (k ∷ []) ≡ filter other (k ∷ [])
    filter_one test other k same = rw same refl

-- the mails after it
none_next : (rounds : ℕ) (book : List Row) (situation : Situation) → (rests : Resting rounds book situation) → (next_of rests.number situation).mails 0 ≡ []
unfolding after_row
none_next rounds book situation rests =
    let later = after_turns 2 situation (turns rests.number) in
    ap (λ list. list ++ letters_for later (length situation.standing.posted) 0) rests.none
    ∙ one_for later situation.standing.posted lead_letter 0 (posted_next rests.number situation)

mail_next : (rounds : ℕ) (book : List Row) (situation : Situation) → (rests : Resting rounds book situation) → (next_of rests.number situation).mails 1 ≡ length situation.standing.posted ∷ []
unfolding after_row
mail_next rounds book situation rests =
    let later = after_turns 2 situation (turns rests.number) in
    let first = length situation.standing.posted in
    let runs = rests.faultless.runs 1 (lit< tt) in
    let uncut = rests.faultless.uncut in
    ap (λ list. drop 1 list ++ letters_for later first 1) rests.mail
    ∙ (one_for later situation.standing.posted lead_letter 1 (posted_next rests.number situation) ∙ rw (runs, uncut) refl)

still : (number : ℕ) (situation : Situation) → IsFaultless 2 situation → IsFaultless 2 (next_of number situation)
unfolding after_row
still number situation faultless = record { runs = faultless.runs; uncut = faultless.uncut; right = faultless.right; done = faultless.done }

waits_next : (number : ℕ) (situation : Situation) (who : ℕ) → who < 2 → (next_of number situation).standing.waits who ≡ None
unfolding after_row
waits_next number situation zero below = refl
waits_next number situation (suc zero) below = refl
waits_next number situation (suc (suc more)) below = absurd (omega (arith, below))

leads_next : (number : ℕ) (situation : Situation) → situation.standing.replicas 0 ≡ leader → (next_of number situation).standing.replicas 0 ≡ leader
unfolding after_row
leads_next number situation is = leader_stays (situation.standing.replicas 0) is

follows_next : (number : ℕ) (situation : Situation) → situation.standing.replicas 1 ≡ follower → (next_of number situation).standing.replicas 1 ≡ follower
unfolding after_row
follows_next number situation is = follower_stays _ (hearer_stays number (situation.standing.replicas 1) is)

lead_is_short : IsShort lead_letter
lead_is_short = lit< tt

next_rests : (rounds : ℕ) (book : List Row) (situation : Situation) → (rests : Resting rounds book situation) → Resting (suc rounds) (book ++ turns rests.number) (next_of rests.number situation)
next_rests rounds book situation rests = record {
  legal = legal_append 2 bare book (turns rests.number) rests.legal
      (subst (λ s. AllFollow 2 bare s (turns rests.number)) rests.standing (turns_follow rounds book situation rests));
  standing = stand_after 2 bare book (turns rests.number) situation rests.standing;
  long = let all = length-append book (turns rests.number) in let was = rests.long in omega (arith, all, was);
  leads_on = leads_next rests.number situation rests.leads_on;
  follows = follows_next rests.number situation rests.follows;
  waits = waits_next rests.number situation;
  faultless = still rests.number situation rests.faultless;
  number = length situation.standing.posted;
  there = subst (λ list. slice_get list (length situation.standing.posted) ≡ Some lead_letter) (sym (posted_next rests.number situation))
      (found_last situation.standing.posted lead_letter);
  none = none_next rounds book situation rests;
  mail = mail_next rounds book situation rests;
  short = λ letter has.
      elim (Contains-push_cases situation.standing.posted lead_letter letter
      (subst (λ list. Contains list letter) (posted_next rests.number situation) has)) [
        | inl there ↦ rests.short letter there
        | inr same ↦ subst IsShort same lead_is_short
      ];
}

goes_next : (rounds : ℕ) (book : List Row) (situation : Situation) → rounds < 100 → (rests : Resting rounds book situation)
    → GoesDrainRound 2 bare 0 now book (turns rests.number) situation (next_of rests.number situation)
goes_next rounds book situation few rests =
    let later = next_rests rounds book situation rests in
    record {
      few = omega arith;
      sound = bare_sound;
      within = record { since = grind arith; before = grind arith };
      legal = later.legal;
      standing = rests.standing;
      faultless = rests.faultless;
      round = record {
        front = [];
        middle = situation;
        back = turns rests.number;
        parts = refl;
        one = record {
          turns = subst (λ (state : State). AreTurnsFor 2 situation (campaign_tasks 0 state.term) []) (sym rests.leads_on) refl;
          is = sym (delivers_none situation);
        };
        two = record {
          turns = subst (λ tasks. AreTurnsFor 2 situation tasks (turns rests.number)) (sym (all_tasks rounds book situation rests))
              (record { made = None; is = refl; fate = tt }, (record { made = None; is = refl; fate = tt }, (record { made = None; is = refl; fate = tt }, refl)));
          is = refl;
        };
      };
      limits = record { turns = let long = later.long in omega (arith, long, few); letters = later.short };
    }

-- ---- idle

one_cluster : Situation → Cluster
one_cluster situation = record {
  replicas = situation.standing.replicas;
  waits = situation.standing.waits;
  mails = λ who. if who == 1 then record { from = 0; messages = Lead 8 0 ∷ [] } ∷ [] else [];
}

far : Progress
far = record { ballot = 8; table = bare; rows = first_rows bare; prefix = 0; base = 0 }

stands_for : (rounds : ℕ) (book : List Row) (situation : Situation) → Resting rounds book situation → StandsForCluster 2 (table_size bare) situation (one_cluster situation)
unfolding one_cluster
stands_for rounds book situation rests = record { replicas = λ who below. refl; waits = λ who below. refl; mails = mails }
  where
    mails : (who : ℕ) → who < 2 → AllZip (IsLetterAt 2 (table_size bare) situation.standing.posted who) (situation.mails who) ((one_cluster situation).mails who)
    mails zero below = subst (λ list. AllZip (IsLetterAt 2 (table_size bare) situation.standing.posted 0) list []) (sym rests.none) tt
    mails (suc zero) below =
        subst (λ list. AllZip (IsLetterAt 2 (table_size bare) situation.standing.posted 1) list (record { from = 0; messages = Lead 8 0 ∷ [] } ∷ [])) (sym rests.mail)
        (record { sent = lead_letter; there = rests.there; to = refl; heard = record { from = refl; heard = lead_heard } }, tt)
    mails (suc (suc more)) below = absurd (omega (arith, below))

leads_alone : (rounds : ℕ) (book : List Row) (situation : Situation) → Resting rounds book situation → LeadsAlone 2 bare 0 situation
unfolding one_cluster far votes_from
leads_alone rounds book situation rests = record {
  cluster = one_cluster situation;
  best = [];
  at = far;
  over = refl;
  stands = stands_for rounds book situation rests;
  stage = free (record {
    free = record {
      led_alone = record { member = lit< tt; few = omega arith; more = omega arith; behind = behind; within = within; from = from };
      leading = subst (λ state. IsLeading [] None far state) (sym rests.leads_on) (record { is = refl; promised = refl; launch = refl; learned = refl; from_base = refl });
      sound = bare_sound;
    };
    alone = rests.waits 0 (lit< tt);
  });
}
  where
    behind : (who : ℕ) → who < 2 → (who ≡ 0 → ⊥) → IsBehind 8 0 ((one_cluster situation).replicas who)
    behind zero below apart = absurd (apart refl)
    behind (suc zero) below apart = subst (λ state. IsBehind 8 0 state) (sym rests.follows) (record { promised = omega arith; follows = tt; short = omega arith })
    behind (suc (suc more)) below apart = absurd (omega (arith, below))

    within : (who : ℕ) → who < 2 → AreWithin 8 0 ((one_cluster situation).mails who)
    within zero below = tt
    within (suc zero) below = ((record { low = omega arith; below = tt }, tt), tt)
    within (suc (suc more)) below = absurd (omega (arith, below))

    from : (who : ℕ) → who < 2 → AreFrom 2 ((one_cluster situation).mails who)
    from zero below = tt
    from (suc zero) below = (lit< tt, tt)
    from (suc (suc more)) below = absurd (omega (arith, below))

is_at_rest : (rounds : ℕ) (book : List Row) (situation : Situation) → Resting rounds book situation → IsIdleAt bare 0 now situation
unfolding votes_from
is_at_rest rounds book situation rests = record {
  free = subst (λ (state : State). IsFreeTerm (prefix_of state) state.term) (sym rests.leads_on) refl;
  answered = rests.waits 0 (lit< tt);
  rests = subst (λ state. AsksNothing bare now state) (sym rests.leads_on) (record { rows = first_rows bare; rows_are = refl; rests = bare_rests });
}

-- ---- the book

abbrev elected : List Row
elected = take 3 some_book ++ leads ∷ []

abbrev after_it : Situation
after_it =
    record {
      standing = standing_after 2 (first_rows bare) elected;
      mails = λ who. if who == 1 then 2 ∷ [] else [];
      cuts = [];
      skews = λ who. pos 0;
      fates = λ who. fate.Done;
      latest = now;
      arms = λ who. None;
      bases = λ who. 0;
    }

-- the turns of the election may follow over this table too
elected_follow : AllFollow 2 bare (first_standing 2 (first_rows bare)) elected
unfolding step campaign tick hear hear_all line on_prepare on_promise after_row after_act after_delta with_member votes_from
elected_follow =
    let one = some_book_is_legal 0 _ refl in
    let two = some_book_is_legal 1 _ refl in
    let three = some_book_is_legal 2 _ refl in (
      (record { member = one.0.member; runs = one.0.runs; event_of = one.0.event_of; planned = tt }, one.1),
      (
        (record { member = two.0.member; runs = two.0.runs; event_of = two.0.event_of; planned = tt }, two.1),
        (
          (record { member = three.0.member; runs = three.0.runs; event_of = three.0.event_of; planned = tt }, three.1),
          (may_lead _ refl refl, tt),
        ),
      ),
    )

elected_rests : Resting 0 elected after_it
unfolding step campaign tick hear hear_all line on_prepare on_promise after_row after_act after_delta with_member votes_from
elected_rests = record {
  legal = legal_append 2 bare [] elected (empty_is_legal 2 bare) elected_follow;
  standing = refl;
  long = refl;
  leads_on = refl;
  follows = refl;
  waits = waits;
  faultless = record { runs = runs; uncut = refl; right = λ who below. refl; done = λ who below. refl };
  number = 2;
  there = refl;
  none = refl;
  mail = refl;
  short = short_each after_it.standing.posted (lit< tt, (lit< tt, (lit< tt, tt)));
}
  where
    waits : (who : ℕ) → who < 2 → after_it.standing.waits who ≡ None
    waits zero below = refl
    waits (suc zero) below = refl
    waits (suc (suc more)) below = absurd (omega (arith, below))

    runs : (who : ℕ) → who < 2 → after_it.standing.runs who ≡ true
    runs zero below = refl
    runs (suc zero) below = refl
    runs (suc (suc more)) below = absurd (omega (arith, below))

-- ---- rounds

-- a book after so many rounds
record HasCome (rounds : ℕ) : Type 0 where
  book : List Row
  situation : Situation
  resting : Resting rounds book situation
  rests : IsIdleFor rounds 2 bare 0 now situation

first_come : HasCome 0
first_come = record { book = elected; situation = after_it; resting = elected_rests; rests = (leads_alone 0 elected after_it elected_rests, is_at_rest 0 elected after_it elected_rests) }

next_come : (rounds : ℕ) → rounds < 100 → HasCome rounds → HasCome (suc rounds)
next_come rounds few come = record {
  book = come.book ++ turns come.resting.number;
  situation = next_of come.resting.number come.situation;
  resting = next_rests rounds come.book come.situation come.resting;
  rests = (come.book, turns come.resting.number, come.situation, come.rests, goes_next rounds come.book come.situation few come.resting);
}

pub some_rest : (members : ℕ) × (table : Table) × (who : ℕ) × (at : ℤ) × (book : List Row) × (rows : List Row) × (situation : Situation) × (after : Situation)
    × IsIdleFor 5 members table who at situation × GoesDrainRound members table who at book rows situation after
some_rest =
    let five = next_come 4 (omega arith) (next_come 3 (omega arith) (next_come 2 (omega arith) (next_come 1 (omega arith) (next_come 0 (omega arith) first_come)))) in
    (2, bare, 0, now, five.book, turns five.resting.number, five.situation, next_of five.resting.number five.situation, five.rests, goes_next 5 five.book five.situation (omega arith) five.resting)
