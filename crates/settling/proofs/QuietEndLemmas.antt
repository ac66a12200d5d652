-- Nothing is chosen that a leader hasn't learned, where no vote binds it and nobody has promised a higher ballot.
use Rattle.std.proofs.Common.{◌≡◌, ℕ, ◌+◌, ◌<◌, ◌≤◌, List, [], ◌∷◌, length, take, leb, None, Some, ℤ, refl, sym, ap, ◌∙◌, inl, inr, arith, subst}
use Rattle.std.proofs.lemmas.Bool.{cases_Bool, cases_eq, cases_lt, leb-false, ne_eqb}
use Rattle.std.proofs.lemmas.List.{take_all}
use Rattle.paxos_base.specs.Ballot.{member_of}
use Rattle.paxos_base.specs.Members.{Meet}
use Rattle.paxos_base.specs.Vote.{vote_at, votes_from}
use Rattle.paxos_base.specs.declared.entry.Entry.{Entry}
use Rattle.paxos_base.specs.declared.entry.Vote.{Vote}
use Rattle.paxos_base.specs.declared.rows.JobRow.{JobRow}
use Rattle.due_set.specs.Table.{Table}
use Rattle.launch_machine.specs.Answers.{IsIntent}
use Rattle.launch_machine.specs.Clerk.{IsClerkOf, first_rows, table_size, NoStart, NoTable}
use Rattle.launch_machine.specs.Intent.{NoCall}
use Rattle.launch_machine.specs.declared.machine.Intent.TheVariants.{Rest}
use Rattle.launch_machine.proofs.ClerkLemmas.{AppliesAll-same}
use Rattle.term_core.specs.declared.term.Term.{Term}
use Rattle.term_core.specs.declared.term.Term.TheVariants.{Follower, Candidate, Leader}
use Rattle.step_spec.specs.Coherent.{IsOwn}
use Rattle.step_spec.specs.State.{prefix_of, promised_in}
use Rattle.step_spec.specs.Step.{IsLaunchTable}
use Rattle.agreement.specs.Agree.{HasCast, IsChosen, vote_for}
use Rattle.agreement.specs.Log.{IsLog}
use Rattle.agreement.specs.Transition.{after_transitions, identity_of}
use Rattle.agreement.specs.World.{World, first_world}
use Rattle.agreement.proofs.Kept.{Owns, own_ballot}
use Rattle.agreement.proofs.LogLemmas.{chosen_at}
use Rattle.agreement.proofs.OneValue.{majorities_share}
use Rattle.agreement.proofs.Tables.{follows, short_of}
use Rattle.agreement.proofs.Told.{HasHeard, IsLed}
use Rattle.agreement.proofs.Transitions.{IsFollowed, first_followed, transitions_followed}
use Rattle.agreement.proofs.Whole.{IsWhole}
use Rattle.history.specs.Book.{Row, learned_in, standing_after, votes_in}
use Rattle.history.specs.Legal.{IsLegal}
use Rattle.history.proofs.Reached.{Matches, reaches}
use Rattle.synchronous_rounds.specs.Cluster.{Cluster}
use Rattle.synchronous_rounds.specs.LedAlone.{IsLeading, Progress}
use Rattle.script_semantics.specs.Settling.{IsFreeTerm, IsQuiet}
use Rattle.script_semantics.specs.Situation.{Situation}
use Rattle.synchronous_rounds.specs.CatchUp.{HaveCaughtUp, IsIdle}
use Rattle.settling.specs.Quiet.{EndsQuietly, HasPromisedMost, IsSituationOf}

-- ---- a world

-- no vote from a slot on, so none at any behind it
none_behind : (prefix slot : ℕ) (votes : List Vote) → prefix ≤ slot → votes_from prefix votes ≡ [] → vote_at slot votes ≡ None
unfolding votes_from vote_at
none_behind prefix slot [] least none = refl
none_behind prefix slot (first ∷ votes) least none =
    elim (cases_Bool (leb prefix first.slot)) [
      | inl here ↦ absurd (let no : first ∷ votes_from prefix votes ≡ [] = rw here at none in cc)
      | inr below ↦
          let so : votes_from prefix votes ≡ [] = rw below at none in
          let apart : first.slot ≡ slot → ⊥ = λ same. let more = leb-false prefix first.slot below in omega (arith, more, same, least) in
          rw (ne_eqb first.slot slot apart) (none_behind prefix slot votes least so)
    ]

-- an older ballot's vote would bind the leader, a vote in its own is for what it has learned, and there is no vote in a higher one
none_chosen : (n : ℕ) (w : World) (q ballot : ℕ) (best : List Vote) (slot : ℕ) (entry : Entry) → IsWhole n w → q < n → (w.replicas q).term ≡ Leader ballot best None → votes_from (prefix_of (w.replicas q)) best ≡ [] → ((m : ℕ) → m < n → promised_in (w.replicas m).kept ≤ promised_in (w.replicas q).kept) → prefix_of (w.replicas q) ≤ slot → IsChosen n w.cast slot entry → ⊥
none_chosen n w q ballot best slot entry whole member term unbound most least chosen =
    elim (cases_lt chosen.ballot ballot) [
      | inl older ↦
          let later = (led.rallied.each shared.member shared.in_other).tells vote cast (omega (arith, led.rallied.up, least)) older in
          let none = none_behind (prefix_of (w.replicas q)) slot best least unbound in
          absurd (let no : Some later.vote ≡ None = sym later.is ∙ none in cc)
      | inr not_older ↦
          let promised = whole.kept.below shared.member vote cast in
          let low = most shared.member (whole.kept.members shared.member vote cast) in
          let same : chosen.ballot ≡ ballot = omega (arith, not_older, promised, low, own.promised) in
          let proposed = whole.kept.proposed shared.member vote cast in
          let mine : HasCast w.cast q vote = subst (λ by. HasCast w.cast by vote) (ap member_of same ∙ own.member) proposed in
          let below = owns vote mine same in
          omega (arith, below, least)
    ]
  where
    vote : Vote
    vote = vote_for slot chosen.ballot entry

    led : IsLed n w (prefix_of (w.replicas q)) ballot best
    led = subst (λ t. HasHeard n w (prefix_of (w.replicas q)) t) term (whole.told.terms q member)

    own : IsOwn (identity_of n q) (w.replicas q).kept ballot
    own = own_ballot (identity_of n q) (w.replicas q) ballot best None (whole.kept.sound q member) term

    owns : (vote : Vote) → HasCast w.cast q vote → vote.ballot ≡ ballot → vote.slot < prefix_of (w.replicas q)
    owns = subst (λ t. Owns w.cast q (prefix_of (w.replicas q)) t) term (whole.kept.owns q member)

    shared : Meet chosen.voters led.heard
    shared = majorities_share n chosen.voters led.heard chosen.below led.rallied.below chosen.majority led.majority

    cast : HasCast w.cast shared.member vote
    cast = chosen.each shared.member shared.in_one

-- so the log is what it has learned
all_learned : (n : ℕ) (w : World) (q ballot : ℕ) (best : List Vote) (log : List Entry) → IsWhole n w → q < n → (w.replicas q).term ≡ Leader ballot best None → votes_from (prefix_of (w.replicas q)) best ≡ [] → ((m : ℕ) → m < n → promised_in (w.replicas m).kept ≤ promised_in (w.replicas q).kept) → prefix_of (w.replicas q) ≤ length log → IsLog n w.cast log → length log ≡ prefix_of (w.replicas q)
all_learned n w q ballot best log whole member term unbound most short is_log =
    elim (cases_lt (prefix_of (w.replicas q)) (length log)) [
      | inl longer ↦
          let more = chosen_at n w.cast 0 (prefix_of (w.replicas q)) log is_log.chosen longer in
          absurd (none_chosen n w q ballot best (0 + prefix_of (w.replicas q)) more.0 whole member term unbound most (omega arith) more.1)
      | inr all ↦ omega (arith, short, all)
    ]

-- ---- a book

-- a free term is a leader's
record IsLeader (prefix : ℕ) (term : Term) : Type 0 where
  ballot : ℕ
  best : List Vote
  is : term ≡ Leader ballot best None
  unbound : votes_from prefix best ≡ []

leads : (prefix : ℕ) (term : Term) → IsFreeTerm prefix term → IsLeader prefix term
leads prefix (Follower ended) free = absurd free
leads prefix (Candidate own first heard best) free = absurd free
leads prefix (Leader own best None) free = record { ballot = own; best = best; is = refl; unbound = free }
leads prefix (Leader own best (Some flight)) free = absurd free

-- what holds of the log of such a book
pub record IsLearnedWhole (table : Table) (who : ℕ) (now : ℤ) (situation : Situation) (log : List Entry) : Type 0 where
  pub long : length log ≡ prefix_of (situation.standing.replicas who)
  pub rests : (rows : List JobRow) → IsClerkOf table log rows → IsIntent table rows now Rest

learned_whole : (members : ℕ) (table : Table) (book : List Row) (who : ℕ) (now : ℤ) (situation : Situation) (log : List Entry) → EndsQuietly members table book who now situation log → IsLearnedWhole table who now situation log
learned_whole members table book who now situation log ends = record { long = long ∙ ap prefix_of (sym (same who)); rests = rests }
  where
    w : World
    w = after_transitions members (reaches members table book ends.legal).turns (first_world (first_rows table))

    followed : IsFollowed members table (first_rows table) w
    followed =
        let to = reaches members table book ends.legal in
        transitions_followed members table (first_rows table) (first_world (first_rows table)) to.turns ends.few (first_followed members table (first_rows table)) to.are

    matches : Matches members (table_size table) (standing_after members (first_rows table) book) (votes_in book) (learned_in book) w
    matches = (reaches members table book ends.legal).matches

    same : (m : ℕ) → situation.standing.replicas m ≡ w.replicas m
    same m = ap (λ standing. standing.replicas m) ends.standing ∙ sym (matches.replicas m)

    leader : IsLeader (prefix_of (w.replicas who)) (w.replicas who).term
    leader = leads (prefix_of (w.replicas who)) (w.replicas who).term (subst (λ s. IsFreeTerm (prefix_of s) s.term) (same who) ends.quiet.free)

    most : (m : ℕ) → m < members → promised_in (w.replicas m).kept ≤ promised_in (w.replicas who).kept
    most m below =
        subst (λ s. promised_in (w.replicas m).kept ≤ promised_in s.kept) (same who)
        (subst (λ s. promised_in s.kept ≤ promised_in (situation.standing.replicas who).kept) (same m) (ends.most m below))

    is_log : IsLog members w.cast log
    is_log = subst (λ cast. IsLog members cast log) (sym matches.cast) ends.is_log

    long : length log ≡ prefix_of (w.replicas who)
    long =
        all_learned members w who leader.ballot leader.best log followed.whole ends.member leader.is leader.unbound most
        (short_of members table (first_rows table) w log who followed.whole followed.tables is_log) is_log

    rests : (rows : List JobRow) → IsClerkOf table log rows → IsIntent table rows now Rest
    rests rows clerk =
        let quiet = ends.quiet.rests in
        let there : IsLaunchTable table (w.replicas who) quiet.rows = subst (λ s. IsLaunchTable table s quiet.rows) (same who) quiet.rows_are in
        let front = (follows members table (first_rows table) w log who quiet.rows followed.whole followed.tables is_log there).1 in
        let whole : IsClerkOf table log quiet.rows =
        subst (λ entries. IsClerkOf table entries quiet.rows) (take_all (length log) log (omega arith)) (subst (λ k. IsClerkOf table (take k log) quiet.rows) (sym long) front) in
        subst (λ some. IsIntent table some now Rest) (AppliesAll-same table (first_rows table) log quiet.rows rows whole clerk) quiet.rests

pub quiet_learned : (members : ℕ) (table : Table) (book : List Row) (who : ℕ) (now : ℤ) (situation : Situation) (log : List Entry) (other : ℕ) → EndsQuietly members table book who now situation log → other < members → prefix_of (situation.standing.replicas other) ≡ length log
quiet_learned members table book who now situation log other ends below =
    ends.quiet.caught_up other below ∙ sym (learned_whole members table book who now situation log ends).long

pub quiet_calls : (members : ℕ) (table : Table) (book : List Row) (who : ℕ) (now : ℤ) (situation : Situation) (log : List Entry) (rows : List JobRow) → EndsQuietly members table book who now situation log → IsClerkOf table log rows → NoCall table rows now
quiet_calls members table book who now situation log rows ends clerk = ((learned_whole members table book who now situation log ends).rests rows clerk).0

pub quiet_starts : (members : ℕ) (table : Table) (book : List Row) (who : ℕ) (now : ℤ) (situation : Situation) (log : List Entry) (rows : List JobRow) → EndsQuietly members table book who now situation log → IsClerkOf table log rows → NoStart table rows now
quiet_starts members table book who now situation log rows ends clerk = ((learned_whole members table book who now situation log ends).rests rows clerk).1

pub quiet_tables : (members : ℕ) (table : Table) (book : List Row) (who : ℕ) (now : ℤ) (situation : Situation) (log : List Entry) (rows : List JobRow) → EndsQuietly members table book who now situation log → IsClerkOf table log rows → NoTable table rows now
quiet_tables members table book who now situation log rows ends clerk = ((learned_whole members table book who now situation log ends).rests rows clerk).2

-- ---- synchronous rounds

-- a leader that is idle, where all have learned as much, is the coordinator of a quiet situation
pub idle_quiet : (members leader : ℕ) (best : List Vote) (at : Progress) (now : ℤ) (cluster : Cluster) (situation : Situation) → IsIdle members leader best at now cluster → HaveCaughtUp members at.prefix cluster → IsSituationOf cluster situation → IsQuiet members at.table leader now situation
idle_quiet members leader best at now cluster situation idle caught_up is = record {
  free = subst (λ s. IsFreeTerm (prefix_of s) s.term) (sym (is.replicas leader)) free;
  answered = is.waits leader ∙ idle.free.alone;
  rests = record { rows = at.rows; rows_are = subst (λ s. IsLaunchTable at.table s at.rows) (sym (is.replicas leader)) leading.launch; rests = idle.rests };
  caught_up = λ other below.
      ap prefix_of (is.replicas other) ∙ (caught_up other below ∙ (sym leading.learned ∙ ap prefix_of (sym (is.replicas leader))));
}
  where
    leading : IsLeading best None at (cluster.replicas leader)
    leading = idle.free.free.leading

    free : IsFreeTerm (prefix_of (cluster.replicas leader)) (cluster.replicas leader).term
    free = subst (λ t. IsFreeTerm (prefix_of (cluster.replicas leader)) t) (sym leading.is) (ap (λ k. votes_from k best) leading.learned ∙ idle.unbound)

-- one that leads alone has promised the highest ballot
pub leads_highest : (members leader : ℕ) (best : List Vote) (at : Progress) (now : ℤ) (cluster : Cluster) (situation : Situation) → IsIdle members leader best at now cluster → IsSituationOf cluster situation → HasPromisedMost members leader situation
leads_highest members leader best at now cluster situation idle is other below =
    subst (λ s. promised_in s.kept ≤ promised_in (situation.standing.replicas leader).kept) (sym (is.replicas other))
    (subst (λ s. promised_in (cluster.replicas other).kept ≤ promised_in s.kept) (sym (is.replicas leader)) (elim (cases_eq other leader) [
      | inl same ↦ subst (λ q. promised_in (cluster.replicas q).kept ≤ promised_in (cluster.replicas leader).kept) (sym same) (omega arith)
      | inr apart ↦ omega (arith, (idle.free.free.led_alone.behind other below apart).promised, idle.free.free.leading.promised)
    ]))

pub idle_ends : (members leader : ℕ) (best : List Vote) (at : Progress) (now : ℤ) (cluster : Cluster) (situation : Situation) (book : List Row) (log : List Entry) → IsIdle members leader best at now cluster → HaveCaughtUp members at.prefix cluster → IsSituationOf cluster situation → IsLegal members at.table book → situation.standing ≡ standing_after members (first_rows at.table) book → IsLog members (votes_in book) log → EndsQuietly members at.table book leader now situation log
idle_ends members leader best at now cluster situation book log idle caught_up is legal standing is_log = record {
  few = idle.free.free.led_alone.few;
  legal = legal;
  standing = standing;
  member = idle.free.free.led_alone.member;
  quiet = idle_quiet members leader best at now cluster situation idle caught_up is;
  most = leads_highest members leader best at now cluster situation idle is;
  is_log = is_log;
}
