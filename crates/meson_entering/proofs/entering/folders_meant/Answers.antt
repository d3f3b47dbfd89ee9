use Rattle.std.proofs.Common.{rules, ◌≡◌, [], Some, ap, sym, ◌∙◌, map, string_bytes}
use Rattle.std.specs.List.{cons_option}
use Rattle.std.proofs.lemmas.Result.{IfOk-weaker}
use Rattle.meson_syntax.specs.declared.tree.Arg.TheFolds.{the_lemmas}
use Rattle.meson_syntax.specs.View.{expr_view, view}
use Rattle.meson_calls.specs.Calls.{literal_of}
use Rattle.meson_calls.specs.declared.call.Reading.TheVariants.{Followed}
use Rattle.meson_calls.proofs.GoodLiterals.{first_argument_good}
use Rattle.meson_calls.proofs.Nested.{name_view}
use Rattle.meson_entering.specs.Entering.{folders_of}
use Rattle.meson_entering.specs.Loops.{loop_texts}
use Rattle.meson_entering.proofs.Folders.{by_name, by_reading, no_argument}
use Rattle.meson_entering.proofs.entering.folders_meant.Goals as goal
use Rattle.meson_entering.proofs.entering.folders_meant.Goals.{in_default-2-via-in-Followed+in_default, in_default-2-via-in_default}

pub returns-in_default : goal.returns-in_default
returns-in_default c = λ function.
    ap (map string_bytes) c.new.ensures.items
    ∙ no_argument c.args.reading (view c.args.file.source.now c.args.file.tree.now) c.args.call.path.now _ (c.in_default.ensures c.args.call.source.now function)

pub literal_folder-requires : goal.literal_folder-requires
literal_folder-requires c = first_argument_good [] _ _ (c.in-Some.ensures c.args.call.source.now []) c.requires.good

pub returns-in-Followed-Identifier : goal.returns-in-Followed-Identifier
returns-in-Followed-Identifier c = λ function.
    let source = c.args.call.source.now in
    let tree = view c.args.file.source.now c.args.file.tree.now in
    let path = c.args.call.path.now in
    let argument = c.in-Some.ensures source function ∙ ap (λ e. Some (expr_view source e)) c.in-Followed-Identifier.is-1 ∙ ap Some (name_view source c.in-Followed-Identifier.name) in
    IfOk-weaker c.loop_texts.result _ _ (λ texts is.
    is ∙ ap (λ x. loop_texts tree x path) c.text_of-name.ensures ∙ by_name c.args.reading tree path _ _ _ c.in-Followed-Identifier.is-0 argument) c.loop_texts.ensures

pub returns-in_default-2 : goal.returns-in_default-2
returns-in_default-2 c = λ function.
    let source = c.args.call.source.now in
    let tree = view c.args.file.source.now c.args.file.tree.now in
    let path = c.args.call.path.now in
    let argument = expr_view source c.in-Some.argument.now in
    let is_argument = c.in-Some.ensures source function in
    elim c.in_default-2.branch [
      | in_default-2-via-in-Followed+in_default w ↦
          let other : folders_of Followed tree path (Some argument) ≡ cons_option (literal_of argument) [] = search (rules, the_lemmas) in
          IfOk-weaker c.literal_folder.result _ _ (λ folders is. is ∙ sym (by_reading tree path _ w.in_default-2.is-0 is_argument ∙ other)) c.literal_folder.ensures
      | in_default-2-via-in_default w ↦
          IfOk-weaker c.literal_folder.result _ _ (λ folders is. is ∙ sym (by_reading tree path _ w.in_default-2.is-0 is_argument)) c.literal_folder.ensures
    ]
