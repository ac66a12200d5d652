use Rattle.std.proofs.Common.{◌≡◌, ap, ◌∙◌, rules, w64, FitsSigned}
use Rattle.std.proofs.lemmas.Int.{to_z-of_z}
use Rattle.zone_minutes.specs.Stamp.{basic_text, basic_stamp_text}
use Rattle.zone_minutes.proofs.StampLemmas.{IsAscii-basic_text}
use Rattle.zone_minutes.proofs.stamp.write_basic_stamp.Goals as goal

pub push_ascii-requires : goal.push_ascii-requires
push_ascii-requires c = rw c.basic.ensures (IsAscii-basic_text c.civil_of.result (search rules))

pub returns-clause-ok : goal.returns-clause-ok
unfolding basic_stamp_text
returns-clause-ok c =
    let fits : FitsSigned w64 c.args.at.0 = search rules in
    let stamp : c.basic.result ≡ basic_stamp_text c.args.at.0 = c.basic.ensures ∙ ap basic_text (simp to_z-of_z at c.civil_of.ensures.civil) in
    rw stamp at c.push_ascii.ensures.ok
