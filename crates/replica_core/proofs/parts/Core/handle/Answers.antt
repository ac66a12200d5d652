use Rattle.std.proofs.Common.{arith, take}
use Rattle.std.specs.List.{flat_map}
use Rattle.step_spec.specs.Heard.{row_in, vote_in}
use Rattle.step_spec.specs.Hear.{ask_below, line, on_accept, on_accepted, on_ask, on_known, on_lead, on_prepare, on_promise, on_snap}
use Rattle.replica_draft.specs.Draft.{has_copied}
use Rattle.replica_core.proofs.HearLemmas.{of_state, of_term}
use Rattle.replica_core.proofs.SteadyLemmas.{on_ok_so, steady-sends}
use Rattle.replica_core.proofs.parts.Core.handle.Goals as goal

pub returns-in-Prepare-clause-does : goal.returns-in-Prepare-clause-does
unfolding line
returns-in-Prepare-clause-does c =
    rw c.in-Prepare.is (of_state c.on_prepare.result c.args.self.now c.args.draft.now c.on_prepare.new.draft (on_prepare c.args.from c.in-Prepare.ballot c.in-Prepare.slot (has_copied c.args.draft.now)) c.requires.whole.base c.on_prepare.ensures.does)

pub returns-in-Prepare-clause-steady : goal.returns-in-Prepare-clause-steady
returns-in-Prepare-clause-steady c = on_ok_so c.on_prepare.result _ _ (λ stays. stays c.args.table.now c.requires.steady) c.on_prepare.ensures.steady

pub returns-in-Promise-clause-does : goal.returns-in-Promise-clause-does
unfolding line
returns-in-Promise-clause-does c =
    rw c.in-Promise.is (of_term c.on_promise.result c.args.self.now c.args.draft.now c.on_promise.new.draft (on_promise c.args.self.now.members c.args.from c.in-Promise.ballot c.in-Promise.slot (flat_map vote_in (take c.in-Promise.count c.args.rest.now))) c.requires.whole.base c.on_promise.ensures.does)

pub returns-in-Promise-clause-steady : goal.returns-in-Promise-clause-steady
returns-in-Promise-clause-steady c = on_ok_so c.on_promise.result _ _ (λ keeps. keeps.steady c.args.table.now c.requires.steady) c.on_promise.ensures.keeps

pub returns-in-Promise-clause-once : goal.returns-in-Promise-clause-once
returns-in-Promise-clause-once c = on_ok_so c.on_promise.result _ _ (λ keeps. omega (arith, keeps.once)) c.on_promise.ensures.keeps

pub returns-in-Accept-clause-does : goal.returns-in-Accept-clause-does
unfolding line
returns-in-Accept-clause-does c =
    rw c.in-Accept.is (of_state c.on_accept.result c.args.self.now c.args.draft.now c.on_accept.new.draft (on_accept c.args.from (record { slot = c.in-Accept.slot; ballot = c.in-Accept.ballot; entry = c.in-Accept.entry }) (has_copied c.args.draft.now)) c.requires.whole.base c.on_accept.ensures.does)

pub returns-in-Accept-clause-steady : goal.returns-in-Accept-clause-steady
returns-in-Accept-clause-steady c = on_ok_so c.on_accept.result _ _ (λ stays. stays c.args.table.now c.requires.steady) c.on_accept.ensures.steady

pub returns-in-Accepted-clause-does : goal.returns-in-Accepted-clause-does
unfolding line
returns-in-Accepted-clause-does c =
    rw c.in-Accepted.is (of_term c.on_accepted.result c.args.self.now c.args.draft.now c.on_accepted.new.draft (on_accepted c.args.self.now.members c.args.from c.in-Accepted.ballot c.in-Accepted.slot) c.requires.whole.base c.on_accepted.ensures.does)

pub returns-in-Accepted-clause-steady : goal.returns-in-Accepted-clause-steady
returns-in-Accepted-clause-steady c = on_ok_so c.on_accepted.result _ _ (λ keeps. keeps.steady c.args.table.now c.requires.steady) c.on_accepted.ensures.keeps

pub returns-in-Accepted-clause-once : goal.returns-in-Accepted-clause-once
returns-in-Accepted-clause-once c = on_ok_so c.on_accepted.result _ _ (λ keeps. omega (arith, keeps.once)) c.on_accepted.ensures.keeps

pub returns-in-Known-clause-does : goal.returns-in-Known-clause-does
unfolding line
returns-in-Known-clause-does c =
    rw c.in-Known.is (of_state c.on_known.result c.args.self.now c.args.draft.now c.on_known.new.draft (on_known c.args.from c.in-Known.slot c.in-Known.entry c.args.asked) c.requires.whole.base c.on_known.ensures.does)

pub returns-in-Known-clause-steady : goal.returns-in-Known-clause-steady
returns-in-Known-clause-steady c = on_ok_so c.on_known.result _ _ (λ keeps. keeps.steady c.args.table.now c.requires.steady) c.on_known.ensures.keeps

pub returns-in-Known-clause-once : goal.returns-in-Known-clause-once
returns-in-Known-clause-once c = on_ok_so c.on_known.result _ _ (λ keeps. omega (arith, keeps.once)) c.on_known.ensures.keeps

pub returns-in-AskFrom-clause-does : goal.returns-in-AskFrom-clause-does
unfolding line
returns-in-AskFrom-clause-does c =
    rw c.in-AskFrom.is (of_state c.on_ask.result c.args.self.now c.args.draft.now c.on_ask.new.draft (on_ask c.args.from c.in-AskFrom.slot (has_copied c.args.draft.now)) c.requires.whole.base c.on_ask.ensures.does)

pub returns-in-AskFrom-clause-steady : goal.returns-in-AskFrom-clause-steady
returns-in-AskFrom-clause-steady c = on_ok_so c.on_ask.result _ _ (λ sends. steady-sends c.args.self.now c.args.draft.now c.on_ask.new.draft sends c.args.table.now c.requires.steady) c.on_ask.ensures.sends

pub returns-in-Snap-clause-does : goal.returns-in-Snap-clause-does
unfolding line
returns-in-Snap-clause-does c =
    rw c.in-Snap.is (of_state c.on_snap.result c.args.self.now c.args.draft.now c.on_snap.new.draft (on_snap c.in-Snap.slot (flat_map row_in (take c.in-Snap.count c.args.rest.now))) c.requires.whole.base c.on_snap.ensures.does)

pub returns-in-Snap-clause-steady : goal.returns-in-Snap-clause-steady
returns-in-Snap-clause-steady c = on_ok_so c.on_snap.result _ _ (λ stays. stays c.requires.steady) c.on_snap.ensures.steady

pub returns-in-Lead-clause-does : goal.returns-in-Lead-clause-does
unfolding line on_lead
returns-in-Lead-clause-does c =
    rw c.in-Lead.is (of_state c.ask_below.result c.args.self.now c.args.draft.now c.ask_below.new.draft (ask_below c.args.from c.in-Lead.slot) c.requires.whole.base c.ask_below.ensures.does)

pub returns-in-Lead-clause-steady : goal.returns-in-Lead-clause-steady
returns-in-Lead-clause-steady c = on_ok_so c.ask_below.result _ _ (λ sends. steady-sends c.args.self.now c.args.draft.now c.ask_below.new.draft sends c.args.table.now c.requires.steady) c.ask_below.ensures.sends
