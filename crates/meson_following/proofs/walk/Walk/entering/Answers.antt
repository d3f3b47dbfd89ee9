use Rattle.std.proofs.Common.{◌≡◌, sym, ap, ◌∙◌}
use Rattle.std.specs.Prelude.{None, Some, if◌then◌else◌}
use Rattle.std.proofs.lemmas.Result.{IfOk-weaker}
use Rattle.meson_syntax.specs.View.{expr_view, list_view}
use Rattle.meson_calls.specs.Calls.{first_argument}
use Rattle.meson_calls.specs.ChosenNotes.{call_with}
use Rattle.meson_calls.specs.Project.{child, place, placed}
use Rattle.meson_following.specs.Effects.{entering_by, entering_each, entering_literal}
use Rattle.meson_following.specs.Walks.{project_of, walked_file}
use Rattle.meson_following.proofs.walk.Walk.entering.Goals as goal

pub returns-in_default : goal.returns-in_default
returns-in_default c = λ f.
    let w = c.args.self.now in
    let source = w.source.now in
    let call = call_with f (list_view source c.args.arguments.now) in
    let q = child (place w.file c.args.path.now) 0 in
    let none : first_argument call ≡ None = c.in_default.ensures source f in
    IfOk-weaker c.entering_literal.result _ _ (λ e is. is ∙ sym (ap (entering_by (project_of w.question) (walked_file w) (placed q call)) none)) (c.entering_literal.ensures f)

pub returns-then-is_name : goal.returns-then-is_name
returns-then-is_name c = λ f.
    let w = c.args.self.now in
    let source = w.source.now in
    let p = project_of w.question in
    let call = call_with f (list_view source c.args.arguments.now) in
    let q = child (place w.file c.args.path.now) 0 in
    let first : first_argument call ≡ Some (expr_view source c.in-Some.argument.now) = c.in-Some.ensures source f in
    let name = sym (c.is_name.ensures source) ∙ c.if-is_name.true in
    let meant = ap (entering_by p (walked_file w) (placed q call)) first ∙ ap (λ b. if b then entering_each p (walked_file w) (placed q call) else entering_literal p (walked_file w) call) name in
    IfOk-weaker c.entering_each.result _ _ (λ e is. is ∙ sym meant) (c.entering_each.ensures f)

pub returns-else-is_name : goal.returns-else-is_name
returns-else-is_name c = λ f.
    let w = c.args.self.now in
    let source = w.source.now in
    let p = project_of w.question in
    let call = call_with f (list_view source c.args.arguments.now) in
    let q = child (place w.file c.args.path.now) 0 in
    let first : first_argument call ≡ Some (expr_view source c.in-Some.argument.now) = c.in-Some.ensures source f in
    let name = sym (c.is_name.ensures source) ∙ c.if-is_name.false in
    let meant = ap (entering_by p (walked_file w) (placed q call)) first ∙ ap (λ b. if b then entering_each p (walked_file w) (placed q call) else entering_literal p (walked_file w) call) name in
    IfOk-weaker c.entering_literal-else-is_name.result _ _ (λ e is. is ∙ sym meant) (c.entering_literal-else-is_name.ensures f)
