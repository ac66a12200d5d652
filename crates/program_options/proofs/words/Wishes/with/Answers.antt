use Rattle.std.proofs.Common.{refl}
use Rattle.program_options.specs.declared.words.Choice.TheVariants as choice
use Rattle.program_options.specs.declared.words.Output.TheVariants.{DueList, Check, Summary}
use Rattle.program_options.specs.declared.words.Request.TheVariants.{Text, Audit}
use Rattle.program_options.proofs.WishLemmas.{clashes, goes_on, journal_clashes, lanes_clash, request_clashes, watch_clashes, with_journal, with_lanes, with_request, with_watch}
use Rattle.program_options.proofs.words.Wishes.with.Goals as goal

pub returns-in-List-clause-some : goal.returns-in-List-clause-some
returns-in-List-clause-some c =
    goes_on choice.List c.args.choice c.args.self c.with_request.result _ c.in-List.is
    (λ new is. with_request choice.List (Text DueList) c.args.self new (record { asked = refl; no_lanes = refl; no_watch = refl; no_journal = refl }) is) c.with_request.ensures.some

pub returns-in-List-clause-none : goal.returns-in-List-clause-none
returns-in-List-clause-none c =
    clashes choice.List c.args.choice c.args.self c.with_request.result _ c.in-List.is (request_clashes choice.List c.args.self refl) c.with_request.ensures.none

pub returns-in-Check-clause-some : goal.returns-in-Check-clause-some
returns-in-Check-clause-some c =
    goes_on choice.Check c.args.choice c.args.self c.with_request-in-Check.result _ c.in-Check.is
    (λ new is. with_request choice.Check (Text Check) c.args.self new (record { asked = refl; no_lanes = refl; no_watch = refl; no_journal = refl }) is) c.with_request-in-Check.ensures.some

pub returns-in-Check-clause-none : goal.returns-in-Check-clause-none
returns-in-Check-clause-none c =
    clashes choice.Check c.args.choice c.args.self c.with_request-in-Check.result _ c.in-Check.is (request_clashes choice.Check c.args.self refl) c.with_request-in-Check.ensures.none

pub returns-in-Audit-clause-some : goal.returns-in-Audit-clause-some
returns-in-Audit-clause-some c =
    goes_on choice.Audit c.args.choice c.args.self c.with_request-in-Audit.result _ c.in-Audit.is
    (λ new is. with_request choice.Audit Audit c.args.self new (record { asked = refl; no_lanes = refl; no_watch = refl; no_journal = refl }) is) c.with_request-in-Audit.ensures.some

pub returns-in-Audit-clause-none : goal.returns-in-Audit-clause-none
returns-in-Audit-clause-none c =
    clashes choice.Audit c.args.choice c.args.self c.with_request-in-Audit.result _ c.in-Audit.is (request_clashes choice.Audit c.args.self refl) c.with_request-in-Audit.ensures.none

pub returns-in-Make-clause-some : goal.returns-in-Make-clause-some
returns-in-Make-clause-some c =
    let seed = c.in-Make.seed in
    goes_on (choice.Make seed) c.args.choice c.args.self c.with_request-in-Make.result _ c.in-Make.is
    (λ new is. with_request (choice.Make seed) (Text (Summary seed)) c.args.self new (record { asked = refl; no_lanes = refl; no_watch = refl; no_journal = refl }) is)
    c.with_request-in-Make.ensures.some

pub returns-in-Make-clause-none : goal.returns-in-Make-clause-none
returns-in-Make-clause-none c =
    let seed = c.in-Make.seed in
    clashes (choice.Make seed) c.args.choice c.args.self c.with_request-in-Make.result _ c.in-Make.is (request_clashes (choice.Make seed) c.args.self refl)
    c.with_request-in-Make.ensures.none

pub returns-in-Journal-clause-some : goal.returns-in-Journal-clause-some
returns-in-Journal-clause-some c =
    goes_on choice.Journal c.args.choice c.args.self c.with_journal.result _ c.in-Journal.is (with_journal c.args.self) c.with_journal.ensures.some

pub returns-in-Journal-clause-none : goal.returns-in-Journal-clause-none
returns-in-Journal-clause-none c =
    clashes choice.Journal c.args.choice c.args.self c.with_journal.result _ c.in-Journal.is (journal_clashes c.args.self) c.with_journal.ensures.none

pub returns-in-Watch-clause-some : goal.returns-in-Watch-clause-some
returns-in-Watch-clause-some c =
    goes_on choice.Watch c.args.choice c.args.self c.with_watch.result _ c.in-Watch.is (with_watch c.args.self) c.with_watch.ensures.some

pub returns-in-Watch-clause-none : goal.returns-in-Watch-clause-none
returns-in-Watch-clause-none c =
    clashes choice.Watch c.args.choice c.args.self c.with_watch.result _ c.in-Watch.is (watch_clashes c.args.self) c.with_watch.ensures.none

pub returns-in-Lanes-clause-some : goal.returns-in-Lanes-clause-some
returns-in-Lanes-clause-some c =
    let lanes = c.in-Lanes.lanes in
    goes_on (choice.Lanes lanes) c.args.choice c.args.self c.with_lanes.result _ c.in-Lanes.is (with_lanes lanes c.args.self) c.with_lanes.ensures.some

pub returns-in-Lanes-clause-none : goal.returns-in-Lanes-clause-none
returns-in-Lanes-clause-none c =
    let lanes = c.in-Lanes.lanes in
    clashes (choice.Lanes lanes) c.args.choice c.args.self c.with_lanes.result _ c.in-Lanes.is (lanes_clash lanes c.args.self) c.with_lanes.ensures.none
