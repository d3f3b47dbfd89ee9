use Rattle.std.proofs.Common.{rules, ◌≡◌, ap, ◌∙◌}
use Rattle.std.specs.Prelude.{codes, false, true}
use Rattle.std.proofs.lemmas.Result.{IfOk-weaker}
use Rattle.meson_syntax.specs.View.{list_view, text_at}
use Rattle.meson_calls.specs.Calls.{calls_function}
use Rattle.meson_calls.specs.ChosenNotes.{call_with}
use Rattle.meson_calls.specs.Project.{child, place}
use Rattle.meson_following.specs.declared.effects.Effect.TheVariants.{Sets, Unsets}
use Rattle.meson_following.specs.Effects.{by_fit}
use Rattle.meson_following.specs.Walks.{project_of, walked_file}
use Rattle.meson_following.proofs.Entering.{enters_chosen, sets_chosen, unsets_chosen}
use Rattle.meson_following.proofs.walk.Walk.effect.Goals as goal

pub returns-then-eq : goal.returns-then-eq
returns-then-eq c =
    let function = text_at c.args.self.now.source.now c.args.function in
    let call = call_with function (list_view c.args.self.now.source.now c.args.arguments.now) in
    let set : calls_function (codes "set_variable") call ≡ true = search rules in
    c.by_fit.ensures ∙ ap (by_fit Sets) (c.in_ok-found.ensures function) ∙ sets_chosen (project_of c.args.self.now.question) c.args.self.now.question.variable.now (walked_file c.args.self.now) (child (place c.args.self.now.file c.args.path.now) 0) call set

pub returns-then-eq-2 : goal.returns-then-eq-2
returns-then-eq-2 c =
    let function = text_at c.args.self.now.source.now c.args.function in
    let call = call_with function (list_view c.args.self.now.source.now c.args.arguments.now) in
    let set : calls_function (codes "set_variable") call ≡ false = search rules in
    let unset : calls_function (codes "unset_variable") call ≡ true = search rules in
    c.by_fit-then-eq-2.ensures ∙ ap (by_fit Unsets) (c.in_ok-found-2.ensures function) ∙ unsets_chosen (project_of c.args.self.now.question) c.args.self.now.question.variable.now (walked_file c.args.self.now) (child (place c.args.self.now.file c.args.path.now) 0) call set unset

pub returns-then-eq-5 : goal.returns-then-eq-5
returns-then-eq-5 c =
    let function = text_at c.args.self.now.source.now c.args.function in
    let call = call_with function (list_view c.args.self.now.source.now c.args.arguments.now) in
    let set : calls_function (codes "set_variable") call ≡ false = search rules in
    let unset : calls_function (codes "unset_variable") call ≡ false = search rules in
    let stops : calls_function (codes "error") call ≡ false = search rules in
    let leaves : calls_function (codes "subdir_done") call ≡ false = search rules in
    let enters : calls_function (codes "subdir") call ≡ true = search rules in
    IfOk-weaker c.entering.result _ _ (λ e is. is ∙ enters_chosen (project_of c.args.self.now.question) c.args.self.now.question.variable.now (walked_file c.args.self.now) (child (place c.args.self.now.file c.args.path.now) 0) call set unset stops leaves enters) (c.entering.ensures function)
