use Rattle.std.proofs.Common.{◌∙◌, sym, map, arith, rules}
use Rattle.paxos_letter.specs.declared.fault.LetterFault.TheVariants.{BadLength}
use Rattle.paxos_letter.specs.Fields.{fields_in}
use Rattle.paxos_letter.specs.Groups.{no_group}
use Rattle.paxos_letter.specs.Letters.{sender_of}
use Rattle.paxos_letter.proofs.LetterLemmas.{IsCut, no_fault_of_letter, pieces_found, pieces_only, same_contents}
use Rattle.paxos_letter.proofs.ReadLemmas.{all_keep}
use Rattle.paxos_letter.proofs.letter.Letter.read.Goals as goal

-- the bytes are cut into whole packets
is_cut : (c : goal.In-None) → IsCut c.args.bytes.now c.as_chunks.result.0.now
is_cut c = record {
  fits = λ i. omega (arith, c.type_inv.bytes i);
  some = search rules;
  long = omega arith;
  pieces_are = c.as_chunks.ensures.front;
}

pub returns-then-is_empty-clause-only : goal.returns-then-is_empty-clause-only
returns-then-is_empty-clause-only c from packets spells =
    no_fault_of_letter c.args.members from packets c.args.bytes.now (BadLength 0) spells (search rules)

pub invariant_of-result : goal.invariant_of-result
invariant_of-result c =
    all_keep c.args.members (sender_of c.args.bytes.now) no_group 0 (map fields_in c.as_chunks.result.0.now) c.requires.few (sym c.first_fault.ensures ∙ c.in-None.is)

pub returns-in-Some-clause-only : goal.returns-in-Some-clause-only
returns-in-Some-clause-only c from packets spells =
    no_fault_of_letter c.args.members from packets c.args.bytes.now c.in-Some.fault spells (search rules)

pub returns-in-None-clause-found : goal.returns-in-None-clause-found
returns-in-None-clause-found c =
    pieces_found c.args.members c.args.bytes.now c.as_chunks.result.0.now (is_cut c) (sym c.first_fault.ensures ∙ c.in-None.is)

pub returns-in-None-clause-only : goal.returns-in-None-clause-only
returns-in-None-clause-only c from packets spells =
    let same = pieces_only c.args.members from packets c.args.bytes.now c.as_chunks.result.0.now (is_cut c) (sym c.first_fault.ensures ∙ c.in-None.is) spells in
    same_contents same.0 same.1
