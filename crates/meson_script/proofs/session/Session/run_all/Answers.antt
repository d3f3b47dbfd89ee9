use Rattle.std.proofs.Common.{refl, sym, ap, ◌∙◌, subst, rules}
use Rattle.meson_calls.specs.Loading.{IsProject}
use Rattle.meson_script.specs.Running.{RunsShowing}
use Rattle.meson_script.proofs.RunFacts.{change-names, names, reaches-none, runs-of, runs-patch}
use Rattle.meson_script.proofs.session.Session.run_all.Goals as goal

pub count_differing-requires : goal.count_differing-requires
count_differing-requires c =
    let new = c.perform_all.new.project in
    let ran = runs-of c.in-Ok-perform_all.ensures.done.runs in
    ap names c.files.ensures
    ∙ ap (λ p. names p.files) (sym c.in-Ok.ensures.copied)
    ∙ change-names c.in-Ok.project.files c.in-Ok-perform_all.performed.splices.items new.files (runs-patch c.in-Ok.project new c.args.commands.now c.in-Ok-perform_all.performed.splices.items c.in-Ok-perform_all.performed.relexed ran.0 ran.1)
    ∙ ap names (sym c.files-2.ensures)

pub returns-clause-project : goal.returns-clause-project
returns-clause-project c = subst IsProject c.project-2.view_is c.project-2.invariant.0

pub returns-in-Err-clause-index : goal.returns-in-Err-clause-index
returns-in-Err-clause-index c = reaches-none c.args.self.now.project c.args.commands.now 0 refl

pub returns-in-Err-titles-clause-index : goal.returns-in-Err-titles-clause-index
returns-in-Err-titles-clause-index c = reaches-none c.args.self.now.project c.args.commands.now c.unmade.result.index (ap (λ f. f.index) c.unmade.ensures)

pub returns-clause-done : goal.returns-clause-done
returns-clause-done c =
    let ran = c.in-Ok-perform_all.performed in
    let to = c.in-Ok-perform_all.ensures.done in
    record {
      splices = ran.splices.items;
      shown = to.shown;
      runs = subst (λ old. RunsShowing c.args.form old c.args.commands.now ran.splices.items ran.relexed to.shown c.perform_all.new.project) c.in-Ok.ensures.copied to.runs;
      kept = search rules;
      files = search rules;
      count = search rules;
      is_title = search rules;
      info = to.is_text;
    }

pub returns-in-Err-past_with_room-clause-index : goal.returns-in-Err-past_with_room-clause-index
returns-in-Err-past_with_room-clause-index c = reaches-none c.args.self.now.project c.args.commands.now c.unmade-in-Err-past_with_room.result.index (ap (λ f. f.index) c.unmade-in-Err-past_with_room.ensures)
