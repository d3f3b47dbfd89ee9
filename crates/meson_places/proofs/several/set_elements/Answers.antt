use Rattle.std.proofs.Common.{◌≡◌, true, false, List, length, Ok, Err, sym, ap, ◌∙◌, subst}
use Rattle.std.specs.Prelude.{Bool, ◌&&◌, not, if◌then◌else◌}
use Rattle.std.specs.List.{list_all}
use Rattle.std.proofs.lemmas.List.{length-map}
use Rattle.std.proofs.lemmas.Result.{IfOk-weaker}
use Rattle.meson_syntax.specs.Tree.{Expression, Nowhere}
use Rattle.meson_syntax.specs.View.{arg_view, expr_view}
use Rattle.meson_edit.specs.Edits.{Written}
use Rattle.meson_calls.specs.declared.call.CallRef.{CallRef}
use Rattle.meson_calls.specs.declared.refusal.Refusal.TheVariants.{OtherKind, TooDeep}
use Rattle.meson_calls.specs.Project.{child}
use Rattle.meson_steps.specs.ListSteps.{AreBare}
use Rattle.meson_steps.specs.ResultLimits.{plain_trees}
use Rattle.meson_steps.specs.Steps.{Step}
use Rattle.meson_places.specs.Names.{loaded_in}
use Rattle.meson_places.specs.Room.{has_room, list_in_trees}
use Rattle.meson_places.specs.Several.{all_written, if_room_for, is_text_given, put_all}
use Rattle.meson_places.specs.Slots.{elements_in}
use Rattle.meson_places.specs.Values.{are_texts}
use Rattle.meson_places.proofs.several.set_elements.Goals as goal

pub returns-clause-meant : goal.returns-clause-meant
returns-clause-meant c = λ may.
    let l = loaded_in c.args.sources in
    let gs = c.args.values.now in
    let h = c.args.held in
    let source = h.source.now in
    let e = expr_view source h.child.value.now in
    let ws = all_written gs may in
    let inner = child h.list.now h.child.number in
    let is_inner : c.in_ok-inner.inner ≡ inner = c.in_ok-inner.ensures ∙ ap (λ q. child q h.child.number) c.as_place.ensures in
    let test : CallRef → Written (Expression Nowhere) → Bool = λ q w. has_room w.node (list_in_trees (plain_trees l) q) in
    let all : List Step = put_all inner (length (elements_in e)) ws in
    let kind : (list_all is_text_given gs && not (are_texts e)) ≡ false = sym c.in_ok-changes_kind.ensures ∙ c.if-branch.false in
    let room : list_all (test inner) ws ≡ true = ap (λ q. list_all (test q) ws) (sym is_inner) ∙ sym (c.in_ok-has_room_for_all.ensures may) ∙ c.if-not-branch.false in
    let many = sym (length-map c.elements_in.result.now (arg_view source)) ∙ ap length (c.elements_in.ensures.elements source) in
    let is = ap (λ b. if b then Err (OtherKind h.key.now) else if_room_for l inner ws all) kind ∙ ap (λ b. if b then Ok all else Err TooDeep) room in
    IfOk-weaker c.put_all.result _ _
    (λ steps made. record { steps = all; is = is; bare = subst (λ q. AreBare (put_all q (length (elements_in e)) ws) steps.items) is_inner (subst (λ m. AreBare (put_all c.in_ok-inner.inner m ws) steps.items) many made) })
    (c.put_all.ensures.done may)
