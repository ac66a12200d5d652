use Rattle.std.proofs.Common.{ap, sym, subst, ◌∙◌, ◌∷◌, List, ℕ}
use Rattle.std.specs.Vec.Iter.{into_iter_items}
use Rattle.program_options.specs.Words.{BeginsWith, texts_of}
use Rattle.program_options.proofs.WordLemmas.{all_read, if_none, no_option, no_word_left, option_clashes, option_read}
use Rattle.program_options.proofs.words.read_words.Goals as goal

pub returns-in_err-choice-clause-none : goal.returns-in_err-choice-clause-none
returns-in_err-choice-clause-none c =
    let words = ap texts_of c.in-Some.ensures.cases.0 ∙ ap (λ (word : List ℕ). word ∷ texts_of (into_iter_items c.next.new.self)) (sym c.deref.ensures) in
    if_none c.from_residual.result (no_option _ _ _ c.deref.result.now c.words.wishes c.words.invariant words c.in_err-choice.ensures.none)

pub returns-in_err-wishes-clause-none : goal.returns-in_err-wishes-clause-none
returns-in_err-wishes-clause-none c =
    let words = ap texts_of c.in-Some.ensures.cases.0 ∙ ap (λ (word : List ℕ). word ∷ texts_of (into_iter_items c.next.new.self)) (sym c.deref.ensures) in
    let begins = subst (λ (words : List (List ℕ)). BeginsWith c.in_ok-choice.choice words (texts_of (into_iter_items c.read.new.words))) (sym words) c.in_ok-choice.ensures.found in
    if_none c.from_residual-in_err-wishes.result (option_clashes _ _ _ c.words.wishes c.in_ok-choice.choice c.words.invariant begins c.in_err-wishes.ensures.none)

pub words-preserved : goal.words-preserved
words-preserved c =
    let words = ap texts_of c.in-Some.ensures.cases.0 ∙ ap (λ (word : List ℕ). word ∷ texts_of (into_iter_items c.next.new.self)) (sym c.deref.ensures) in
    let begins = subst (λ (words : List (List ℕ)). BeginsWith c.in_ok-choice.choice words (texts_of (into_iter_items c.read.new.words))) (sym words) c.in_ok-choice.ensures.found in
    option_read _ _ _ c.words.wishes c.in_ok-wishes.wishes c.in_ok-choice.choice c.words.invariant begins c.in_ok-wishes.ensures.some

pub returns-clause-asks : goal.returns-clause-asks
returns-clause-asks c =
    all_read _ _ c.words.wishes c.asked.result c.words.invariant (no_word_left c.words.words c.in_default.ensures.cases.0) c.asked.ensures.request c.asked.ensures.lanes
