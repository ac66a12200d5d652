use Rattle.std.proofs.Common.{◌≡◌, ◌↔◌, ◌==◌, IsTrue, true, false, [], None, Some, length, ap, sym, ◌∙◌, subst}
use Rattle.paxos_base.specs.Vote.{votes_from}
use Rattle.term_core.specs.declared.term.Term.TheVariants.{Leader}
use Rattle.script_semantics.specs.Settling.{IsFreeTerm}
use Rattle.run_replay.proofs.QuietLemmas.{none_from}
use Rattle.run_replay.proofs.quiet.is_free.Goals as goal

pub returns-in-None : goal.returns-in-None
returns-in-None c =
    let votes = c.deref.result.now in
    let held : c.deref.result.now ≡ c.in-Leader.best = c.deref.ensures.value ∙ c.best.view_is in
    let count : length c.deref.result.now ≡ c.len.result = sym (c.len.ensures ∙ sym c.deref.ensures.len) in
    let leads : Leader c.in-Leader.ballot c.in-Leader.best None ≡ c.args.term.now = sym (c.in-Leader.is ∙ ap (λ flight. Leader c.in-Leader.ballot c.in-Leader.best flight) c.in-None.is) in
    subst (λ term. IsTrue (c.place_of.result == c.len.result) ↔ IsFreeTerm c.args.prefix term) leads
    (subst (λ votes. IsTrue (c.place_of.result == c.len.result) ↔ (votes_from c.args.prefix votes ≡ [])) held
    (subst (λ n. IsTrue (c.place_of.result == n) ↔ (votes_from c.args.prefix votes ≡ [])) count
    (none_from votes (votes_from c.args.prefix votes) c.place_of.result c.place_of.ensures.within c.place_of.ensures.from)))

pub returns-in-Some : goal.returns-in-Some
returns-in-Some c =
    let leads : c.args.term.now ≡ Leader c.in-Leader.ballot c.in-Leader.best (Some c.in-Some.field-0) =
    c.in-Leader.is ∙ ap (λ flight. Leader c.in-Leader.ballot c.in-Leader.best flight) c.in-Some.is in
    (λ no. absurd (let e : false ≡ true = no in cc), λ free. absurd (subst (IsFreeTerm c.args.prefix) leads free))
