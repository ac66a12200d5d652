-- When a leader is nearer to being idle.
use Rattle.std.proofs.Common.{◌≡◌, ℕ, ◌+◌, ◌-◌, ◌<◌, ◌≤◌, List, Option, None, Some, ℤ, refl, sym, ap, inl, inr, ◌⊎◌, arith, subst}
use Rattle.std.proofs.lemmas.Bool.{le-leb}
use Rattle.paxos_base.specs.declared.entry.Vote.{Vote}
use Rattle.cluster_sched.specs.declared.row.SchedRow.{SchedRow}
use Rattle.due_set.specs.Table.{IsSound}
use Rattle.term_core.specs.declared.flight.Flight.{Flight}
use Rattle.term_core.specs.declared.term.Term.TheVariants.{Leader}
use Rattle.step_spec.specs.State.{State, prefix_of}
use Rattle.synchronous_rounds.specs.Begins.{Begins, calls, proposes, rebases, rests, HasIdled}
use Rattle.synchronous_rounds.specs.Cluster.{Advice, Cluster, calls_at}
use Rattle.synchronous_rounds.specs.Flights.{IsNeeded, Proposal, learned_by, with_base}
use Rattle.synchronous_rounds.specs.Measure.{IsNearer, wait_of, work}
use Rattle.synchronous_rounds.specs.Rounds.{IsAnswerTo, IsFreeNow, reckoned}
use Rattle.synchronous_rounds.specs.LedAlone.{IsLeading, Progress}
use Rattle.synchronous_rounds.proofs.TickLemmas.{LeadsOn, Waited, due_by, due_is, none_due}
use Rattle.synchronous_rounds.proofs.WorkLemmas.{learned_work, one_due, short_wait}

-- with the same rows and the same prefix, it is the next wait that counts
sooner : (best : List Vote) (at : Progress) (base : ℕ) (held flight : Option Flight) (waits next_waits : Option SchedRow) (state next : State) → IsLeading best held at state → IsLeading best flight (with_base base at) next → wait_of next_waits (Leader at.ballot best flight) + due_by (with_base base at) < wait_of waits (Leader at.ballot best held) + due_by at → IsNearer at.table best (record { rows = at.rows; waits = waits; state = state }) (record { rows = at.rows; waits = next_waits; state = next })
sooner best at base held flight waits next_waits state next old new less =
    let a = ap (work at.table at.rows best) old.learned in
    let b = ap (work at.table at.rows best) new.learned in
    let c = ap (wait_of waits) old.is in
    let d = ap (wait_of next_waits) new.is in
    let e = due_is (Leader at.ballot best held) at state old in
    let f = due_is (Leader at.ballot best flight) (with_base base at) next new in
    record { launch = new.launch; nearer = omega (arith, a, b, c, d, e, f, less) }

-- ---- a flight waits on, or is learned

pub waits_nearer : (proposal : Proposal) (held : Option Flight) (waits next_waits : Option SchedRow) (state next : State) → IsLeading proposal.best held proposal.at state → (3 - proposal.waited) ≤ wait_of waits (Leader proposal.at.ballot proposal.best held) → (waited : Waited proposal next) → IsNearer proposal.at.table proposal.best (record { rows = proposal.at.rows; waits = waits; state = state }) (record { rows = proposal.at.rows; waits = next_waits; state = next })
waits_nearer proposal held waits next_waits state next old least waited =
    let a = ap (work proposal.at.table proposal.at.rows proposal.best) old.learned in
    let b = ap (work proposal.at.table proposal.at.rows proposal.best) waited.proposes.leading.learned in
    let c = ap (wait_of waits) old.is in
    let d = ap (wait_of next_waits) waited.proposes.leading.is in
    let e = due_is (Leader proposal.at.ballot proposal.best held) proposal.at state old in
    record { launch = waited.proposes.leading.launch; nearer = omega (arith, a, b, c, d, e, least, waited.proposes.flies.waited, waited.sooner) }

-- after what it begins it leads on
pub begun_leads : (members leader : ℕ) (best : List Vote) (at : Progress) (now : ℤ) (advice : ℕ → Advice) (cluster next : Cluster) → Begins members leader best at now advice cluster next → LeadsOn best at (next.replicas leader)
begun_leads members leader best at now advice cluster next (proposes it) = record { flight = Some it.flight; base = at.base; leading = it.proposes.leading }
begun_leads members leader best at now advice cluster next (rebases it) = record { flight = None; base = at.prefix; leading = it.leading }
begun_leads members leader best at now advice cluster next (calls it) = record { flight = None; base = at.base; leading = it.leading }
begun_leads members leader best at now advice cluster next (rests it) = record { flight = None; base = at.base; leading = it.leading }

pub learned_nearer : (proposal : Proposal) (waits next_waits : Option SchedRow) (state next : State) → IsSound proposal.at.table → IsNeeded proposal → prefix_of state ≡ proposal.at.prefix → LeadsOn proposal.best (learned_by proposal) next → IsNearer proposal.at.table proposal.best (record { rows = proposal.at.rows; waits = waits; state = state }) (record { rows = proposal.later; waits = next_waits; state = next })
learned_nearer proposal waits next_waits state next sound needed here on =
    let less = learned_work proposal sound needed in
    let a = ap (work proposal.at.table proposal.at.rows proposal.best) here in
    let b = ap (work proposal.at.table proposal.later proposal.best) on.leading.learned in
    let d = ap (wait_of next_waits) on.leading.is in
    let short = short_wait next_waits proposal.at.ballot proposal.best on.flight in
    let one = one_due next in
    record { launch = on.leading.launch; nearer = omega (arith, a, b, d, short, one, less) }

-- ---- what a free leader begins

due_is_one : (at : Progress) → at.base + 64 ≤ at.prefix → due_by at ≡ 1
due_is_one at due = rw (le-leb (at.base + 64) at.prefix due) refl

pub begun_nearer : (members leader : ℕ) (best : List Vote) (at : Progress) (now : ℤ) (advice : ℕ → Advice) (cluster next : Cluster) → IsFreeNow members leader best at cluster → IsAnswerTo (calls_at members now advice cluster leader) (next.waits leader) → Begins members leader best at now advice cluster next → IsNearer at.table best (reckoned leader at.rows cluster) (reckoned leader at.rows next) ⊎ HasIdled members leader best at now advice cluster next
begun_nearer members leader best at now advice cluster next free answered begins = go begins
  where
    before : (more : ℕ) → more < 5 + due_by at → more < wait_of (cluster.waits leader) (Leader at.ballot best None) + due_by at
    before more less = subst (λ waits. more < wait_of waits (Leader at.ballot best None) + due_by at) (sym free.alone) less

    near : (base : ℕ) (flight : Option Flight) → IsLeading best flight (with_base base at) (next.replicas leader) → wait_of (next.waits leader) (Leader at.ballot best flight) + due_by (with_base base at) < 5 + due_by at → IsNearer at.table best (reckoned leader at.rows cluster) (reckoned leader at.rows next)
    near base flight leading less =
        sooner best at base None flight (cluster.waits leader) (next.waits leader) (cluster.replicas leader) (next.replicas leader) free.free.leading leading
        (before (wait_of (next.waits leader) (Leader at.ballot best flight) + due_by (with_base base at)) less)

    go : Begins members leader best at now advice cluster next → IsNearer at.table best (reckoned leader at.rows cluster) (reckoned leader at.rows next) ⊎ HasIdled members leader best at now advice cluster next
    go (proposes it) = inl (near at.base (Some it.flight) it.proposes.leading (omega (arith, it.proposes.flies.waited)))
    go (rebases it) =
        let one = due_is_one at it.due in
        let none = none_due at in
        let short = short_wait (next.waits leader) at.ballot best None in
        inl (near at.prefix None it.leading (omega (arith, one, none, short)))
    go (calls it) =
        let answer = subst (λ rows. IsAnswerTo rows (next.waits leader)) it.called answered in
        let four : wait_of (next.waits leader) (Leader at.ballot best None) ≡ 4 = ap (λ waits. wait_of waits (Leader at.ballot best None)) answer.1 in
        inl (near at.base None it.leading (omega (arith, four)))
    go (rests it) = inr it
