use Rattle.std.proofs.Common.{◌≡◌, Some, sym, ◌∙◌, ap, subst}
use Rattle.std.proofs.lemmas.Result.{IfOk-weaker}
use Rattle.meson_syntax.specs.View.{list_view, name_at, text_at}
use Rattle.meson_calls.specs.Loading.{Loaded, named_trees, views}
use Rattle.meson_calls.specs.ChosenNotes.{call_with}
use Rattle.meson_calls.specs.Project.{expression_at}
use Rattle.meson_details.specs.Called.{called_view}
use Rattle.meson_details.specs.Details.{keywords, keywords_of_call}
use Rattle.meson_plan.proofs.DetailsThere.{keywords_there, refused_there}
use Rattle.meson_plan.proofs.project.Project.keywords.Goals as goal

pub returns-clause-told : goal.returns-clause-told
returns-clause-told c =
    let files = c.self.inside.files in
    let role = c.args.role in
    let call = c.args.call.now in
    let called = c.call_at-called.result in
    let text = text_at called.source.now called.name in
    let list = list_view called.source.now called.arguments.now in
    let old : Loaded = record { files = files; parsed = c.self.inside.trees.items } in
    let at = subst (λ ts. expression_at (named_trees files (views files ts)) call ≡ Some (called_view called)) c.as_slice.ensures.value c.call_at-called.ensures.at in
    let is =
    ap (λ l. keywords l role call) (sym c.self.view_is) ∙ keywords_there call called.span (name_at called.source.now called.name) list old role at
    ∙ ap (λ source. Some (keywords_of_call source role (call_with text list))) (sym c.call_at-called.ensures.source) in
    IfOk-weaker c.keywords_of.result _ _ (λ pairs h. is ∙ ap Some h) (c.keywords_of.ensures.shown text)

pub returns-clause-refused : goal.returns-clause-refused
returns-clause-refused c =
    let files = c.self.inside.files in
    let role = c.args.role in
    let call = c.args.call.now in
    let called = c.call_at-called.result in
    let text = text_at called.source.now called.name in
    let list = list_view called.source.now called.arguments.now in
    let old : Loaded = record { files = files; parsed = c.self.inside.trees.items } in
    let at = subst (λ ts. expression_at (named_trees files (views files ts)) call ≡ Some (called_view called)) c.as_slice.ensures.value c.call_at-called.ensures.at in
    let is =
    ap (λ l. keywords l role call) (sym c.self.view_is) ∙ keywords_there call called.span (name_at called.source.now called.name) list old role at
    ∙ ap (λ source. Some (keywords_of_call source role (call_with text list))) (sym c.call_at-called.ensures.source) in
    refused_there (keywords c.args.self.now role call) (keywords_of_call called.source.now role (call_with text list)) is c.keywords_of.result (c.keywords_of.ensures.refused text)
