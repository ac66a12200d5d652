use Rattle.std.proofs.Common.{length, ◌<◌, ◌^◌, ap, arith, sym, subst, ◌∙◌, ◌++◌, ◌∷◌, []}
use Rattle.std.proofs.lemmas.List.{map-append}
use Rattle.world_steps.specs.Steps.{IsBeside, causes_of}
use Rattle.world_steps.specs.declared.steps.Taken.{Taken}
use Rattle.world_rounds.proofs.steps.keep_step.Goals as goal

pub take_step-requires : goal.take_step-requires
take_step-requires g c =
    let steps : length c.args.steps.now.items < 2 ^ 31 = omega (arith, c.args.steps.now.ok.0, c.len.ensures, c.if-len-ge-MOST_STEPS.false) in
    record {
      may = record {
        rows = c.requires.told.0;
        book = c.args.book.now;
        who = c.requires.told.1;
        steps = c.args.steps.now.items;
        beside = c.requires.told.2;
        told = c.requires.told.3;
        counted = omega (arith, ap length c.turns.ensures);
        few = steps;
      };
    }

pub returns-clause-causes : goal.returns-clause-causes
returns-clause-causes g c =
    ap causes_of c.in_ok-push.ensures.items ∙ map-append (λ (taken : Taken). taken.cause) c.args.steps.now.items (c.in_ok-taken.taken ∷ [])
    ∙ ap (λ cause. causes_of c.args.steps.now.items ++ cause ∷ []) c.in_ok-taken.ensures.cause

pub returns-clause-beside : goal.returns-clause-beside
returns-clause-beside g c =
    λ rows who beside told.
    subst (λ steps. IsBeside g.D.Disk.view c.args.table.now rows c.args.book.now who steps c.take_step.new.node) (sym c.in_ok-push.ensures.items)
    (c.in_ok-taken.ensures.beside rows c.args.book.now who c.args.steps.now.items beside told)
