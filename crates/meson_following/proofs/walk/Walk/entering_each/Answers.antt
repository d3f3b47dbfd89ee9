use Rattle.std.proofs.Common.{◌++◌, ◌∷◌, [], map, ap, ◌∙◌}
use Rattle.std.specs.Prelude.{string_bytes}
use Rattle.meson_syntax.specs.View.{list_view}
use Rattle.meson_calls.specs.ChosenNotes.{call_with}
use Rattle.meson_calls.specs.declared.call.Reading.TheVariants.{Followed}
use Rattle.meson_entering.specs.Entering.{files_meant}
use Rattle.meson_following.specs.declared.effects.Effect.TheVariants.{MayEnter}
use Rattle.meson_following.specs.Effects.{numbers_of}
use Rattle.meson_following.specs.Walks.{project_of, walked_file}
use Rattle.meson_following.proofs.walk.Walk.entering_each.Goals as goal

pub returns : goal.returns
returns c = λ f.
    let w = c.args.self.now in
    let p = project_of w.question in
    let call = call_with f (list_view w.source.now c.args.arguments.now) in
    let path = c.as_slice.ensures.value ∙ c.in_ok-push.ensures.items ∙ ap (λ steps. steps ++ 0 ∷ []) c.in_ok-steps.ensures.items in
    let names = c.in_ok-names.ensures f ∙ ap (λ steps. files_meant Followed (walked_file w) steps call) path in
    ap MayEnter
    (c.of.ensures ∙ c.in_ok-numbers.ensures ∙ ap (λ ns. numbers_of p (map string_bytes ns)) c.as_slice-2.ensures.value ∙ ap (numbers_of p) names)
