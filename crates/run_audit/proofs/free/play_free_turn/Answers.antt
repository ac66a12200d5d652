use Rattle.std.proofs.Common.{◌≡◌, length, refl, sym, ap, ◌∙◌, subst, arith}
use Rattle.std.specs.List.{slice_get}
use Rattle.std.proofs.lemmas.Option.{slice_get_within}
use Rattle.zone_minutes.specs.Window.{IsInWindow}
use Rattle.run_replay.proofs.SettingLemmas.{some_same}
use Rattle.run_replay.proofs.TakeLemmas.{judged_member}
use Rattle.run_replay.specs.Taken.{WasJudged}
use Rattle.run_audit.proofs.FreelyLemmas.{freely_taken, freely_unwanted}
use Rattle.run_audit.specs.Coming.{Comes}
use Rattle.run_audit.specs.Freely.{GoesNext, GoesNone}
use Rattle.run_audit.specs.declared.free.Progress.{Progress}
use Rattle.run_audit.proofs.free.play_free_turn.Goals as goal

pub returns-in-Refused-clause-stops : goal.returns-in-Refused-clause-stops
returns-in-Refused-clause-stops c = λ rows situation part is are.
    let none =
    subst (Comes c.args.table.now c.args.replay.now c.judge_next.new.replay c.args.rest.now c.read-next.new.self) c.in-Refused.is (c.in_ok-why.ensures c.args.rest.now c.read-next.new.self c.read-next.ensures.reads)
    _ _ is in
    record { line_is = refl; reason = none.reason; none = λ row goes wanted. none.none row goes }

pub free_member-requires-clause-limits : goal.free_member-requires-clause-limits
free_member-requires-clause-limits c = c.window.ensures.limits

pub free_member-requires-clause-inside : goal.free_member-requires-clause-inside
free_member-requires-clause-inside c = subst (λ window. IsInWindow window c.args.at.0) (sym c.window.ensures.window) c.requires.inside

pub free_member-requires-clause-member : goal.free_member-requires-clause-member
free_member-requires-clause-member c =
    let ready = c.requires.ready in
    let comes =
    subst (Comes c.args.table.now c.args.replay.now c.judge_next.new.replay c.args.rest.now c.read-next.new.self) c.in-Turn.is (c.in_ok-why.ensures c.args.rest.now c.read-next.new.self c.read-next.ensures.reads)
    ready.rows ready.situation ready.is in
    let was : WasJudged c.args.table.now c.judge_next.new.replay c.in-Turn.judged =
    record { rows = ready.rows; situation = ready.situation; told = comes.told; old = c.args.replay.now; here = ready.is; is = comes.is } in
    judged_member c.args.table.now c.judge_next.new.replay c.in-Turn.judged was

pub free_member-requires-clause-count : goal.free_member-requires-clause-count
free_member-requires-clause-count c =
    let ready = c.requires.ready in
    let comes =
    subst (Comes c.args.table.now c.args.replay.now c.judge_next.new.replay c.args.rest.now c.read-next.new.self) c.in-Turn.is (c.in_ok-why.ensures c.args.rest.now c.read-next.new.self c.read-next.ensures.reads)
    ready.rows ready.situation ready.is in
    let was : WasJudged c.args.table.now c.judge_next.new.replay c.in-Turn.judged =
    record { rows = ready.rows; situation = ready.situation; told = comes.told; old = c.args.replay.now; here = ready.is; is = comes.is } in
    let set = ready.is.seated.set in
    ap length c.deref.ensures.value ∙ c.requires.count ∙ sym set ∙ ap (λ settings. length settings.items) (sym comes.is.settings)

pub returns-in-None-clause-stops : goal.returns-in-None-clause-stops
returns-in-None-clause-stops c = λ rows situation part is are.
    let comes =
    subst (Comes c.args.table.now c.args.replay.now c.judge_next.new.replay c.args.rest.now c.read-next.new.self) c.in-Turn.is (c.in_ok-why.ensures c.args.rest.now c.read-next.new.self c.read-next.ensures.reads)
    _ _ is in
    freely_unwanted c.args.table.now c.args.at.0 c.args.turns rows situation part c.args.replay.now c.judge_next.new.replay c.args.list.now.items c.args.rest.now c.read-next.new.self c.in-Turn.judged is are comes
    (subst (λ window. GoesNone window c.args.at.0 c.args.turns c.judge_next.new.replay c.args.list.now.items c.in-Turn.judged) c.window.ensures.window
    (subst (λ list. GoesNone c.window.result c.args.at.0 c.args.turns c.judge_next.new.replay list c.in-Turn.judged) c.deref.ensures.value c.in-None.ensures.none))

pub take_freely-requires-clause-judged : goal.take_freely-requires-clause-judged
take_freely-requires-clause-judged c =
    let ready = c.requires.ready in
    let comes =
    subst (Comes c.args.table.now c.args.replay.now c.judge_next.new.replay c.args.rest.now c.read-next.new.self) c.in-Turn.is (c.in_ok-why.ensures c.args.rest.now c.read-next.new.self c.read-next.ensures.reads)
    ready.rows ready.situation ready.is in
    let was : WasJudged c.args.table.now c.judge_next.new.replay c.in-Turn.judged =
    record { rows = ready.rows; situation = ready.situation; told = comes.told; old = c.args.replay.now; here = ready.is; is = comes.is } in
    was

pub take_freely-requires-clause-listed : goal.take_freely-requires-clause-listed
take_freely-requires-clause-listed c =
    let goes : GoesNext c.args.table.now.window c.args.at.0 c.args.turns c.judge_next.new.replay c.args.list.now.items c.in-Turn.judged c.in-Some.who =
    subst (λ window. GoesNext window c.args.at.0 c.args.turns c.judge_next.new.replay c.args.list.now.items c.in-Turn.judged c.in-Some.who) c.window.ensures.window
    (subst (λ list. GoesNext c.window.result c.args.at.0 c.args.turns c.judge_next.new.replay list c.in-Turn.judged c.in-Some.who) c.deref.ensures.value c.in-Some.ensures.some) in
    slice_get_within c.args.list.now.items c.in-Some.who goes.progress goes.is

pub take_freely-requires-clause-seat : goal.take_freely-requires-clause-seat
take_freely-requires-clause-seat c =
    let ready = c.requires.ready in
    let comes =
    subst (Comes c.args.table.now c.args.replay.now c.judge_next.new.replay c.args.rest.now c.read-next.new.self) c.in-Turn.is (c.in_ok-why.ensures c.args.rest.now c.read-next.new.self c.read-next.ensures.reads)
    ready.rows ready.situation ready.is in
    let was : WasJudged c.args.table.now c.judge_next.new.replay c.in-Turn.judged =
    record { rows = ready.rows; situation = ready.situation; told = comes.told; old = c.args.replay.now; here = ready.is; is = comes.is } in
    let goes : GoesNext c.args.table.now.window c.args.at.0 c.args.turns c.judge_next.new.replay c.args.list.now.items c.in-Turn.judged c.in-Some.who =
    subst (λ window. GoesNext window c.args.at.0 c.args.turns c.judge_next.new.replay c.args.list.now.items c.in-Turn.judged c.in-Some.who) c.window.ensures.window
    (subst (λ list. GoesNext c.window.result c.args.at.0 c.args.turns c.judge_next.new.replay list c.in-Turn.judged c.in-Some.who) c.deref.ensures.value c.in-Some.ensures.some) in
    let below = slice_get_within c.args.list.now.items c.in-Some.who goes.progress goes.is in
    let members = comes.is.members in
    omega (arith, below, members, c.requires.count)

pub take_freely-requires-clause-few : goal.take_freely-requires-clause-few
take_freely-requires-clause-few c = λ progress there.
    let goes : GoesNext c.args.table.now.window c.args.at.0 c.args.turns c.judge_next.new.replay c.args.list.now.items c.in-Turn.judged c.in-Some.who =
    subst (λ window. GoesNext window c.args.at.0 c.args.turns c.judge_next.new.replay c.args.list.now.items c.in-Turn.judged c.in-Some.who) c.window.ensures.window
    (subst (λ list. GoesNext c.window.result c.args.at.0 c.args.turns c.judge_next.new.replay list c.in-Turn.judged c.in-Some.who) c.deref.ensures.value c.in-Some.ensures.some) in
    let same : progress.taken ≡ goes.progress.taken = ap (λ (p : Progress). p.taken) (some_same (slice_get c.args.list.now.items c.in-Some.who) progress goes.progress there goes.is) in
    let left = goes.left in
    omega (arith, same, left, c.ranges.turns)

pub returns-in_ok-take_freely-in-Some-clause-takes : goal.returns-in_ok-take_freely-in-Some-clause-takes
returns-in_ok-take_freely-in-Some-clause-takes c = λ rows situation part is are.
    let comes =
    subst (Comes c.args.table.now c.args.replay.now c.judge_next.new.replay c.args.rest.now c.read-next.new.self) c.in-Turn.is (c.in_ok-why.ensures c.args.rest.now c.read-next.new.self c.read-next.ensures.reads)
    _ _ is in
    let goes : GoesNext c.args.table.now.window c.args.at.0 c.args.turns c.judge_next.new.replay c.args.list.now.items c.in-Turn.judged c.in-Some.who =
    subst (λ window. GoesNext window c.args.at.0 c.args.turns c.judge_next.new.replay c.args.list.now.items c.in-Turn.judged c.in-Some.who) c.window.ensures.window
    (subst (λ list. GoesNext c.window.result c.args.at.0 c.args.turns c.judge_next.new.replay list c.in-Turn.judged c.in-Some.who) c.deref.ensures.value c.in-Some.ensures.some) in
    freely_taken c.args.table.now c.args.at.0 c.args.turns rows situation part c.args.replay.now c.judge_next.new.replay c.args.list.now.items c.args.rest.now c.read-next.new.self c.in-Turn.judged is are comes
    c.in-Some.who c.take_freely.new.replay c.take_freely.new.list.items goes c.in_ok-take_freely-in-Some.ensures.takes
    (let below = slice_get_within c.args.list.now.items c.in-Some.who goes.progress goes.is in omega (arith, below, c.requires.count))

pub returns-in_ok-take_freely-in-Some-clause-members : goal.returns-in_ok-take_freely-in-Some-clause-members
returns-in_ok-take_freely-in-Some-clause-members c =
    let ready = c.requires.ready in
    let comes =
    subst (Comes c.args.table.now c.args.replay.now c.judge_next.new.replay c.args.rest.now c.read-next.new.self) c.in-Turn.is (c.in_ok-why.ensures c.args.rest.now c.read-next.new.self c.read-next.ensures.reads)
    ready.rows ready.situation ready.is in
    let was : WasJudged c.args.table.now c.judge_next.new.replay c.in-Turn.judged =
    record { rows = ready.rows; situation = ready.situation; told = comes.told; old = c.args.replay.now; here = ready.is; is = comes.is } in
    c.in_ok-take_freely-in-Some.ensures.members ∙ comes.is.members
