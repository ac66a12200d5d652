use Rattle.script_text.proofs.CutLemmas.{cut_at_space, none_so}
use Rattle.script_text.proofs.CommandLemmas.{from_parts, none_of}
use Rattle.script_text.proofs.read.read_command.Goals as goal

pub returns-in-Some-clause-read : goal.returns-in-Some-clause-read
returns-in-Some-clause-read c =
    let cut = cut_at_space c.args.line.now (c.in_ok-word.word, c.in_ok-word.operands) c.in_ok-word.ensures.cases in
    from_parts _ _ _ _ _ _ cut (c.in-Some.ensures.read c.args.window.now)

pub returns-in-Some-of_two_members-clause-read : goal.returns-in-Some-of_two_members-clause-read
returns-in-Some-of_two_members-clause-read c =
    let cut = cut_at_space c.args.line.now (c.in_ok-word.word, c.in_ok-word.operands) c.in_ok-word.ensures.cases in
    from_parts _ _ _ _ _ _ cut (c.in-Some-of_two_members.ensures.read c.args.window.now)

pub returns-in-Some-of_member_and_more-clause-read : goal.returns-in-Some-of_member_and_more-clause-read
returns-in-Some-of_member_and_more-clause-read c =
    let cut = cut_at_space c.args.line.now (c.in_ok-word.word, c.in_ok-word.operands) c.in_ok-word.ensures.cases in
    from_parts _ _ _ _ _ _ cut (c.in-Some-of_member_and_more.ensures.read c.args.window.now)

pub returns-in-Some-of_number-clause-read : goal.returns-in-Some-of_number-clause-read
returns-in-Some-of_number-clause-read c =
    let cut = cut_at_space c.args.line.now (c.in_ok-word.word, c.in_ok-word.operands) c.in_ok-word.ensures.cases in
    from_parts _ _ _ _ _ _ cut (c.in-Some-of_number.ensures.read c.args.members c.args.window.now)

pub returns-in-Some-of_instant-clause-read : goal.returns-in-Some-of_instant-clause-read
returns-in-Some-of_instant-clause-read c =
    let cut = cut_at_space c.args.line.now (c.in_ok-word.word, c.in_ok-word.operands) c.in_ok-word.ensures.cases in
    from_parts _ _ _ _ _ _ cut (c.in-Some-of_instant.ensures.read c.args.members)

pub returns-clause-none : goal.returns-clause-none
returns-clause-none c =
    let cut = cut_at_space c.args.line.now (c.in_ok-word.word, c.in_ok-word.operands) c.in_ok-word.ensures.cases in
    none_so c.of_instant_and_count.result c.of_instant_and_count.ensures.no_round c.of_instant_and_count.ensures.no_free
    (λ no_round no_free. none_of _ _ _ cut c.args.members c.args.window.now (record {
      member = c.in_default.ensures.none;
      two = c.in_default-of_two_members.ensures.none;
      no_break = c.in_default-of_member_and_more.ensures.no_break;
      no_skew = c.in_default-of_member_and_more.ensures.no_skew;
      no_fate = c.in_default-of_member_and_more.ensures.no_fate;
      number = c.in_default-of_number.ensures.none;
      instant = c.in_default-of_instant.ensures.none;
      no_round = no_round;
      no_free = no_free;
    }))
