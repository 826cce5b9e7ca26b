-- What the calls say is what is said of a run of the plan.
use Rattle.std.proofs.Common.{IfSome, ap, is_some, subst, sym, true≢false, ◌∙◌}
use Rattle.std.specs.List.{AllZip}
use Rattle.relative_path_moves.specs.Moves.{moves_of}
use Rattle.relmove_work.specs.Pages.{page_texts}
use Rattle.relmove_work.specs.Works.{IsAtStagingName, IsWorkOf, plan_texts}
use Rattle.relmove_planned.proofs.ForCallers.{lacks-none}
use Rattle.relmove_planned.proofs.WorkLemmas as plan
use Rattle.relmove_planned.proofs.work.planned_work.Goals as goal

pub returns-clause-planned : goal.returns-clause-planned
returns-clause-planned g c = λ whole.
    let entries = c.args.tree.entries.now in
    let pages = c.args.tree.pages.now in
    let moves = moves_of c.args.moves.now in
    let made = c.in_ok-plan.plan in
    let texts = page_texts c.in_ok-old_texts.old_texts in
    let p = c.in_ok-plan.ensures in
    record {
      actions = plan.actions_of entries pages moves c.args.rule made;
      made = plan.made_of entries pages moves c.args.rule made;
      emptied = plan.emptied_of entries pages moves c.args.rule made;
      page_texts = texts;
      planned = record {
        of_plan = record {
          of = plan.is_plan entries pages moves c.args.rule made whole p.accepted p.names p.files p.texts p.replaced p.run p.spelled p.made
              p.only;
          plain = c.in_default.ensures.none;
          page_texts = c.in_ok-old_texts.ensures.texts;
          is_work = subst (λ o. IfSome o (λ of. IsWorkOf (plan_texts made.actions) texts of.1)) c.in-Some-2.is
              c.in_ok-texts.ensures.work;
        };
        of_run = c.in_ok-is_of_run.ensures.of_run.0 c.if-not-branch.false;
        texts_are = plan.texts-staged made.actions.texts.items c.in-Some-2.texts.items
            (subst (λ o. IfSome o (λ of. AllZip IsAtStagingName made.actions.texts.items of.0.items)) c.in-Some-2.is
            c.in_ok-texts.ensures.texts);
      };
    }

pub returns-in_default-2-clause-refused : goal.returns-in_default-2-clause-refused
returns-in_default-2-clause-refused g c = λ whole.
    let entries = c.args.tree.entries.now in
    let pages = c.args.tree.pages.now in
    let moves = moves_of c.args.moves.now in
    let made = c.in_ok-plan.plan in
    let p = c.in_ok-plan.ensures in
    lacks-none (plan.run_of entries pages moves c.args.rule made (page_texts c.in_ok-old_texts.old_texts))
    (plan.is_plan entries pages moves c.args.rule made whole p.accepted p.names p.files p.texts p.replaced p.run p.spelled p.made p.only)
    c.in_default.ensures.none p.moved c.in_ok-old_texts.ensures.all
    (c.in_ok-texts.ensures.lacks (ap is_some c.in_default-2.is))

pub returns-then-not-branch-clause-refused : goal.returns-then-not-branch-clause-refused
returns-then-not-branch-clause-refused g c = λ whole.
    let entries = c.args.tree.entries.now in
    let pages = c.args.tree.pages.now in
    let moves = moves_of c.args.moves.now in
    let made = c.in_ok-plan.plan in
    let texts = page_texts c.in_ok-old_texts.old_texts in
    let p = c.in_ok-plan.ensures in
    record {
      news = made.pages.items;
      actions = plan.actions_of entries pages moves c.args.rule made;
      made = plan.made_of entries pages moves c.args.rule made;
      emptied = plan.emptied_of entries pages moves c.args.rule made;
      page_texts = texts;
      work = c.in-Some-2.work;
      of_plan = record {
        of = plan.is_plan entries pages moves c.args.rule made whole p.accepted p.names p.files p.texts p.replaced p.run p.spelled p.made
            p.only;
        plain = c.in_default.ensures.none;
        page_texts = c.in_ok-old_texts.ensures.texts;
        is_work = subst (λ o. IfSome o (λ of. IsWorkOf (plan_texts made.actions) texts of.1)) c.in-Some-2.is
            c.in_ok-texts.ensures.work;
      };
      no_run = λ is. true≢false (sym (c.in_ok-is_of_run.ensures.of_run.1 is) ∙ c.if-not-branch.true);
    }
