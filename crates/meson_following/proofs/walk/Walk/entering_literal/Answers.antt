use Rattle.std.proofs.Common.{rules, ◌≡◌, ap, sym, ◌∙◌}
use Rattle.std.specs.Prelude.{None, Some, option_map, string_bytes, nat_lt, length, codes}
use Rattle.meson_splice.specs.Files.{position_of_file}
use Rattle.meson_syntax.specs.View.{list_view}
use Rattle.meson_calls.specs.ChosenNotes.{call_with}
use Rattle.meson_calls.specs.declared.call.Reading.TheVariants.{Followed}
use Rattle.meson_calls.specs.Entering.{folder_file}
use Rattle.meson_calls.specs.Calls.{value_with_name}
use Rattle.meson_calls.specs.NamedArguments.{kept_args}
use Rattle.meson_calls.proofs.KeywordArguments.{keyword_is}
use Rattle.meson_following.specs.declared.effects.Effect.TheVariants.{Enters}
use Rattle.meson_following.specs.Effects.{entering}
use Rattle.meson_following.specs.Walks.{project_of}
use Rattle.meson_following.proofs.Entering.{no_literal, number_is, of_file}
use Rattle.meson_following.proofs.walk.Walk.entering_literal.Goals as goal

pub returns-in_default : goal.returns-in_default
returns-in_default c = λ f.
    let call = call_with f (list_view c.args.self.now.source.now c.args.arguments.now) in
    let none : c.in_ok-folder.field-0 ≡ None = search rules in
    no_literal (project_of c.args.self.now.question) c.args.self.now.name.now call (sym (c.in_ok-folder.ensures f) ∙ ap (option_map string_bytes) none)

pub returns-in_default-2 : goal.returns-in_default-2
returns-in_default-2 c = λ f.
    let name = c.args.self.now.name.now in
    let call = call_with f (list_view c.args.self.now.source.now c.args.arguments.now) in
    let none : c.in_ok-name.field-0 ≡ None = search rules in
    of_file (project_of c.args.self.now.question) name call (string_bytes c.in-Some.folder) None
    (sym (c.in_ok-folder.ensures f) ∙ ap (option_map string_bytes) c.in-Some.is) (ap (folder_file Followed name) (sym c.as_str.ensures.value) ∙ sym c.in_ok-name.ensures ∙ ap (option_map string_bytes) none)

pub returns-in-Some-find : goal.returns-in-Some-find
returns-in-Some-find c = λ f.
    let p = project_of c.args.self.now.question in
    let name = c.args.self.now.name.now in
    let source = c.args.self.now.source.now in
    let files = c.args.self.now.question.files.now in
    let trees = c.args.self.now.question.trees.now in
    let call = call_with f (list_view source c.args.arguments.now) in
    let file = string_bytes c.in-Some-2.name in
    let number = number_is files trees file c.requires.walks.whole.parsed ∙ ap (λ n. position_of_file n files) (sym c.as_str-2.ensures.value) ∙ sym c.find.ensures ∙ c.in-Some-find.is in
    let count = c.count_named.ensures ∙ ap (λ args. length (kept_args source (value_with_name (codes "if_found")) 0 args)) c.get.ensures ∙ sym (ap length (keyword_is source c.args.arguments.now f (codes "if_found"))) in
    ap (λ n. Enters c.in-Some-find.file (nat_lt 0 n)) count ∙ sym (ap (entering call) number)
    ∙ of_file p name call (string_bytes c.in-Some.folder) (Some file)
    (sym (c.in_ok-folder.ensures f) ∙ ap (option_map string_bytes) c.in-Some.is) (ap (folder_file Followed name) (sym c.as_str.ensures.value) ∙ sym c.in_ok-name.ensures ∙ ap (option_map string_bytes) c.in-Some-2.is)

pub returns : goal.returns
returns c = λ f.
    let p = project_of c.args.self.now.question in
    let name = c.args.self.now.name.now in
    let files = c.args.self.now.question.files.now in
    let trees = c.args.self.now.question.trees.now in
    let call = call_with f (list_view c.args.self.now.source.now c.args.arguments.now) in
    let file = string_bytes c.in-Some-2.name in
    let number = number_is files trees file c.requires.walks.whole.parsed ∙ ap (λ n. position_of_file n files) (sym c.as_str-2.ensures.value) ∙ sym c.find.ensures ∙ c.in-None.is in
    sym (ap (entering call) number)
    ∙ of_file p name call (string_bytes c.in-Some.folder) (Some file)
    (sym (c.in_ok-folder.ensures f) ∙ ap (option_map string_bytes) c.in-Some.is) (ap (folder_file Followed name) (sym c.as_str.ensures.value) ∙ sym c.in_ok-name.ensures ∙ ap (option_map string_bytes) c.in-Some-2.is)
