-- The two parts of a round of a drain: a campaign or none, and the round.
use Rattle.std.proofs.Common.{◌≡◌, ℕ, ◌-◌, ◌≤◌, List, [], ◌∷◌, ◌++◌, append_assoc, append-nil, length, ℤ, refl, sym, ap, ◌∙◌, arith, subst}
use Rattle.std.specs.List.{AllZip, filter, range_with_len, slice_get}
use Rattle.paxos_base.specs.declared.rows.TableSize.{TableSize}
use Rattle.due_set.specs.Table.{Table}
use Rattle.launch_machine.specs.Clerk.{first_rows, table_size}
use Rattle.term_core.specs.declared.term.Term.{Term}
use Rattle.term_core.specs.declared.term.Term.TheVariants.{Follower, Candidate, Leader}
use Rattle.history.specs.Book.{Row, Standing, standing_after}
use Rattle.history.specs.Legal.{IsLegal}
use Rattle.history.specs.declared.turn.Cause.TheVariants.{Campaign}
use Rattle.synchronous_rounds.specs.Cluster.{Cluster}
use Rattle.synchronous_rounds.specs.Made.{after_campaign}
use Rattle.script_semantics.specs.Parts.{Plays, Then}
use Rattle.script_semantics.specs.Round.{IsRound, round_tasks}
use Rattle.script_semantics.specs.Settling.{campaign_tasks}
use Rattle.script_semantics.specs.Situation.{Performs, Situation, Task, Do, after_turns, delivered, letters_for, reaches}
use Rattle.settling.specs.Leads.{GoesDrainRound}
use Rattle.settling.specs.Rounds.{GoesOnWithin, GoesRound, IsFaultless, IsWithinBounds}
use Rattle.settling.specs.Stands.{IsLetterAt, StandsForCluster}
use Rattle.history.proofs.FrontLemmas.{front_legal}
use Rattle.settling.proofs.BookLemmas.{stand_after}
use Rattle.settling.proofs.ClusterLemmas.{round_leaves_no_fault}
use Rattle.settling.proofs.RoundsLemmas.{front_bounds}
use Rattle.settling.specs.Campaigns.{GoesCampaign, unanswered}
use Rattle.settling.proofs.TurnLemmas.{campaign_leaves_no_fault, campaign_stands}

-- ---- no turn

-- no letter joins a mail where none was posted
none_join : (situation : Situation) (who : ℕ) → letters_for situation (length situation.standing.posted) who ≡ []
none_join situation who =
    let posted = situation.standing.posted in
    let none : length posted - length posted ≡ 0 = omega arith in
    ap (λ count. filter (λ number. reaches situation who (slice_get posted number)) (range_with_len (length posted) count)) none

nothing_performed : (members : ℕ) (situation after : Situation) (rows : List Row) → Performs members [] situation rows after → after ≡ delivered (length situation.standing.posted) situation
nothing_performed members situation after rows performs =
    performs.is ∙ ap (λ list. delivered (length situation.standing.posted) (after_turns members situation list)) performs.turns

-- what stood stands where no turn was taken
nothing_stands : (members : ℕ) (size : TableSize) (situation after : Situation) (rows : List Row) (cluster : Cluster) → Performs members [] situation rows after → StandsForCluster members size situation cluster → StandsForCluster members size after cluster
nothing_stands members size situation after rows cluster performs there =
    subst (λ (s : Situation). StandsForCluster members size s cluster) (sym (nothing_performed members situation after rows performs)) (record {
      replicas = there.replicas;
      waits = there.waits;
      mails = λ who below.
          subst (λ list. AllZip (IsLetterAt members size situation.standing.posted who) list (cluster.mails who))
          (sym (ap (λ more. situation.mails who ++ more) (none_join situation who) ∙ append-nil (situation.mails who))) (there.mails who below);
    })

nothing_fails : (members : ℕ) (situation after : Situation) (rows : List Row) → Performs members [] situation rows after → IsFaultless members situation → IsFaultless members after
nothing_fails members situation after rows performs faultless =
    subst (λ (s : Situation). IsFaultless members s) (sym (nothing_performed members situation after rows performs))
    (record { runs = faultless.runs; uncut = faultless.uncut; right = faultless.right; done = faultless.done })

-- ---- two parts

abbrev pub Tasks : Type 0
Tasks = Situation → List Task

abbrev pub Part : Type 1
Part = Situation → List Row → Situation → Type 0

-- what stands after some tasks of a book
pub performed_stands : (members : ℕ) (table : Table) (tasks : List Task) (book rows : List Row) (situation after : Situation) → Performs members tasks situation rows after
    → situation.standing ≡ standing_after members (first_rows table) book → after.standing ≡ standing_after members (first_rows table) (book ++ rows)
performed_stands members table tasks book rows situation after performs is =
    ap (λ (s : Situation). s.standing) performs.is ∙ stand_after members table book rows situation is

-- A book goes on with some turns and a part behind them: with the turns, and then with the part, where the turns leave no fault.
pub record InTwo (one : Tasks) (two : Part) (members : ℕ) (table : Table) (at : ℤ) (book rows : List Row) (situation after : Situation) : Type 0 where
  pub front : List Row
  pub middle : Situation
  pub back : List Row
  pub first : GoesOnWithin (Plays members one) members table at book front situation middle
  pub second : IsFaultless members middle → GoesOnWithin two members table at (book ++ front) back middle after

pub in_two : (one : Tasks) (two : Part) (members : ℕ) (table : Table) (at : ℤ) (book rows : List Row) (situation after : Situation) → GoesOnWithin (Then (Plays members one) two) members table at book rows situation after
    → after.standing ≡ standing_after members (first_rows table) (book ++ rows) → InTwo one two members table at book rows situation after
in_two one two members table at book rows situation after goes stands =
    let parts = goes.round in
    let whole : book ++ rows ≡ (book ++ parts.front) ++ parts.back = ap (λ list. book ++ list) parts.parts ∙ sym (append_assoc book parts.front parts.back) in
    let legal = subst (λ list. IsLegal members table list) whole goes.legal in
    let midway : parts.middle.standing ≡ standing_after members (first_rows table) (book ++ parts.front) =
    performed_stands members table (one situation) book parts.front situation parts.middle parts.one goes.standing in
    let all = subst (λ list. IsWithinBounds list (standing_after members (first_rows table) list).posted) whole
    (subst (λ (s : Standing). IsWithinBounds (book ++ rows) s.posted) stands goes.limits) in
    record {
      front = parts.front;
      middle = parts.middle;
      back = parts.back;
      first = record {
        few = goes.few;
        sound = goes.sound;
        within = goes.within;
        legal = front_legal members table (book ++ parts.front) parts.back legal;
        standing = goes.standing;
        faultless = goes.faultless;
        round = parts.one;
        limits = subst (λ (s : Standing). IsWithinBounds (book ++ parts.front) s.posted) (sym midway)
            (front_bounds members table (book ++ parts.front) parts.back all);
      };
      second = λ faultless. record {
        few = goes.few;
        sound = goes.sound;
        within = goes.within;
        legal = legal;
        standing = midway;
        faultless = faultless;
        round = parts.two;
        limits = subst (λ list. IsWithinBounds list after.standing.posted) whole goes.limits;
      };
    }

-- what stands after some turns and others
pub both_stand : (one two : Tasks) (members : ℕ) (table : Table) (book rows : List Row) (situation after : Situation) → Then (Plays members one) (Plays members two) situation rows after
    → situation.standing ≡ standing_after members (first_rows table) book → after.standing ≡ standing_after members (first_rows table) (book ++ rows)
both_stand one two members table book rows situation after parts is =
    performed_stands members table (two parts.middle) (book ++ parts.front) parts.back parts.middle after parts.two
    (performed_stands members table (one situation) book parts.front situation parts.middle parts.one is)
    ∙ ap (standing_after members (first_rows table)) (append_assoc book parts.front parts.back ∙ ap (λ list. book ++ list) (sym parts.parts))

-- ---- a round of a drain

-- After its first part the book goes on with the round, and what stands then stands for this.
pub record AtRound (members : ℕ) (table : Table) (at : ℤ) (cluster : Cluster) (after : Situation) : Type 0 where
  pub book : List Row
  pub rows : List Row
  pub situation : Situation
  pub goes : GoesRound members table at book rows situation after
  pub stands : StandsForCluster members (table_size table) situation cluster

abbrev asked_of : ℕ → Tasks
asked_of who situation = campaign_tasks who (situation.standing.replicas who).term

drain_parts : (members : ℕ) (table : Table) (who : ℕ) (at : ℤ) (book rows : List Row) (situation after : Situation) → GoesDrainRound members table who at book rows situation after
    → InTwo (asked_of who) (IsRound members table.window at) members table at book rows situation after
drain_parts members table who at book rows situation after goes =
    in_two (asked_of who) (IsRound members table.window at) members table at book rows situation after goes
    (both_stand (asked_of who) (round_tasks members table.window at) members table book rows situation after goes.round goes.standing)

-- where the replica asks for no campaign, the round comes at once
pub waits_round : (members : ℕ) (table : Table) (who : ℕ) (at : ℤ) (book rows : List Row) (situation after : Situation) (cluster : Cluster) → GoesDrainRound members table who at book rows situation after
    → StandsForCluster members (table_size table) situation cluster → campaign_tasks who (situation.standing.replicas who).term ≡ [] → AtRound members table at cluster after
waits_round members table who at book rows situation after cluster goes there none =
    let parts = drain_parts members table who at book rows situation after goes in
    let performs : Performs members [] situation parts.front parts.middle =
    subst (λ tasks. Performs members tasks situation parts.front parts.middle) none parts.first.round in
    record {
      book = book ++ parts.front;
      rows = parts.back;
      situation = parts.middle;
      goes = parts.second (nothing_fails members situation parts.middle parts.front performs goes.faultless);
      stands = nothing_stands members (table_size table) situation parts.middle parts.front cluster performs there;
    }

-- where it asks for one, the round comes after the campaign
pub campaigns_round : (members : ℕ) (table : Table) (who : ℕ) (at : ℤ) (book rows : List Row) (situation after : Situation) (cluster : Cluster) → 2 ≤ members → GoesDrainRound members table who at book rows situation after
    → StandsForCluster members (table_size table) situation cluster → campaign_tasks who (situation.standing.replicas who).term ≡ Do who Campaign ∷ []
    → AtRound members table at (after_campaign members who (unanswered who cluster)) after
campaigns_round members table who at book rows situation after cluster more goes there one =
    let parts = drain_parts members table who at book rows situation after goes in
    let first = parts.first in
    let campaign : GoesCampaign members table who at book parts.front situation parts.middle = record {
      few = first.few;
      sound = first.sound;
      within = first.within;
      legal = first.legal;
      standing = first.standing;
      faultless = first.faultless;
      round = subst (λ tasks. Performs members tasks situation parts.front parts.middle) one first.round;
      limits = first.limits;
    } in
    record {
      book = book ++ parts.front;
      rows = parts.back;
      situation = parts.middle;
      goes = parts.second (campaign_leaves_no_fault members table who at book parts.front situation parts.middle more campaign);
      stands = campaign_stands members table who at book parts.front situation parts.middle cluster more campaign there;
    }

-- whatever it is, no fault comes of the round
pub drain_leaves_no_fault : (members : ℕ) (table : Table) (who : ℕ) (at : ℤ) (book rows : List Row) (situation after : Situation) (cluster : Cluster) → 2 ≤ members → GoesDrainRound members table who at book rows situation after
    → StandsForCluster members (table_size table) situation cluster → IsFaultless members after
drain_leaves_no_fault members table who at book rows situation after cluster more goes there = go (situation.standing.replicas who).term refl
  where
    by_round : (cluster : Cluster) → AtRound members table at cluster after → IsFaultless members after
    by_round cluster here = round_leaves_no_fault members table at here.book here.rows here.situation after cluster here.goes here.stands

    go : (term : Term) → (situation.standing.replicas who).term ≡ term → IsFaultless members after
    go (Follower ended) is = by_round _ (campaigns_round members table who at book rows situation after cluster more goes there (ap (campaign_tasks who) is))
    go (Candidate ballot first heard best) is = by_round cluster (waits_round members table who at book rows situation after cluster goes there (ap (campaign_tasks who) is))
    go (Leader ballot best flight) is = by_round cluster (waits_round members table who at book rows situation after cluster goes there (ap (campaign_tasks who) is))
