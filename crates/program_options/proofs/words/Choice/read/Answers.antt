use Rattle.std.proofs.Common.{ap, sym, ◌∙◌}
use Rattle.program_options.specs.Words.{texts_of}
use Rattle.program_options.proofs.WordLemmas.{lanes_apart, seed_apart, spelled_begins}
use Rattle.program_options.proofs.words.Choice.read.Goals as goal

pub returns-in_ok-read_lanes-in-text-6-clause-found : goal.returns-in_ok-read_lanes-in-text-6-clause-found
returns-in_ok-read_lanes-in-text-6-clause-found c =
    let number = c.in_ok-read_lanes-in-text-6.ensures.read in
    lanes_apart c.args.word.now _ c.in_ok-read_lanes-in-text-6.field-0 _ _ c.in-text-6.is (number.0, number.1, sym c.deref.ensures ∙ number.2)
    (ap texts_of c.in_ok-value-in-text-6.ensures.cases.0)

pub returns-in_ok-read_seed-in-text-7-clause-found : goal.returns-in_ok-read_seed-in-text-7-clause-found
returns-in_ok-read_seed-in-text-7-clause-found c =
    let number = c.in_ok-read_seed-in-text-7.ensures.read in
    seed_apart c.args.word.now _ c.in_ok-read_seed-in-text-7.field-0 _ _ c.in-text-7.is (number.0, sym c.deref-in-text-7.ensures ∙ number.1)
    (ap texts_of c.in_ok-value-in-text-7.ensures.cases.0)

pub returns-in_default-clause-found : goal.returns-in_default-clause-found
returns-in_default-clause-found c = spelled_begins c.joined.result c.args.word.now _ c.joined.ensures.found
