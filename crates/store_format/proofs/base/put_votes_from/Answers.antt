use Rattle.std.proofs.Common.{◌≡◌, ◌-◌, List, map, take, drop, length, sym, ap, subst, ◌∙◌}
use Rattle.std.specs.Prelude.{OnOk}
use Rattle.std.proofs.lemmas.List.{take_rest}
use Rattle.paxos_base.specs.declared.entry.Vote.{Vote}
use Rattle.paxos_base.specs.Vote.{votes_from}
use Rattle.store_format.specs.declared.body.Record.TheVariants.{Voted}
use Rattle.store_format.specs.Written.{AddsRecords}
use Rattle.store_format.proofs.base.put_votes_from.Goals as goal

pub returns : goal.returns
returns c =
    let lent : List Vote = c.deref.result.now in
    let again : List Vote = c.deref-2.result.now in
    let same : lent ≡ again = c.deref.ensures.value ∙ sym c.deref-2.ensures.value in
    let shown : again ≡ c.args.votes.now = c.deref-2.ensures.value ∙ c.votes.view_is in
    let votes : take (length lent - c.place_of.result) (drop c.place_of.result lent) ≡ votes_from c.args.slot c.args.votes.now =
    take_rest lent c.place_of.result ∙ ap (drop c.place_of.result) same ∙ c.place_of.ensures.from ∙ ap (votes_from c.args.slot) shown in
    subst (λ (vs : List Vote). OnOk c.put_votes.result (AddsRecords (map (λ (vote : Vote). Voted vote) vs) c.args.bodies.now.items c.put_votes.new.bodies.items)) votes c.put_votes.ensures
