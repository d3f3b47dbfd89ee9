use Rattle.std.proofs.Common.{◌≡◌, true, false, List, [], ◌∷◌, ◌++◌, map, sym, ap, ◌∙◌}
use Rattle.std.specs.Prelude.{Some, Err, if◌then◌else◌}
use Rattle.meson_syntax.specs.View.{expr_view}
use Rattle.meson_edit.specs.Edits.{Replace}
use Rattle.meson_calls.specs.declared.refusal.Refusal.TheVariants.{OtherKind}
use Rattle.meson_steps.specs.declared.step.ListEdit.TheVariants as code
use Rattle.meson_steps.specs.ResultLimits.{plain_trees}
use Rattle.meson_steps.specs.Steps.{Step, step_in}
use Rattle.meson_places.specs.Names.{loaded_in}
use Rattle.meson_places.specs.Room.{has_room, if_room, list_in_trees}
use Rattle.meson_places.specs.Several.{becomes_array, written_array}
use Rattle.meson_places.proofs.ArrayWritten.{array_text}
use Rattle.meson_places.proofs.Meant.{room_deep, room_fits}
use Rattle.meson_places.proofs.several.set_array.Goals as goal

pub returns-then-not-branch-2-clause-refused : goal.returns-then-not-branch-2-clause-refused
returns-then-not-branch-2-clause-refused c = λ may other.
    let l = loaded_in c.args.sources in
    let gs = c.args.values.now in
    let h = c.args.held in
    let list = h.list.now in
    let new = written_array gs may in
    let all : List Step = step_in list (Replace list.path.steps h.number new) ∷ [] in
    let is_so : becomes_array gs (expr_view h.source.now h.child.value.now) ≡ true = sym c.in_ok-becomes_array.ensures ∙ c.if-not-branch.false in
    let x = array_text gs may c.get.result.now (c.get.ensures ∙ c.in_ok-new.ensures.done) in
    let room : has_room new.node (list_in_trees (plain_trees l) list) ≡ false =
    ap (λ e. has_room e (list_in_trees (plain_trees l) list)) (sym x.1) ∙ sym (c.in_ok-has_room_for.ensures x.0) ∙ c.if-not-branch-2.true in
    ap (λ b. if b then if_room l list new.node all else Err (OtherKind h.key.now)) is_so ∙ room_deep l list new.node room all

pub returns-clause-meant : goal.returns-clause-meant
returns-clause-meant c = λ may.
    let l = loaded_in c.args.sources in
    let gs = c.args.values.now in
    let h = c.args.held in
    let list = h.list.now in
    let new = written_array gs may in
    let all : List Step = step_in list (Replace list.path.steps h.number new) ∷ [] in
    let is_so : becomes_array gs (expr_view h.source.now h.child.value.now) ≡ true = sym c.in_ok-becomes_array.ensures ∙ c.if-not-branch.false in
    let x = array_text gs may c.get.result.now (c.get.ensures ∙ c.in_ok-new.ensures.done) in
    let room : has_room new.node (list_in_trees (plain_trees l) list) ≡ true =
    ap (λ e. has_room e (list_in_trees (plain_trees l) list)) (sym x.1) ∙ sym (c.in_ok-has_room_for.ensures x.0) ∙ c.if-not-branch-2.false in
    record {
      steps = all;
      is = ap (λ b. if b then if_room l list new.node all else Err (OtherKind h.key.now)) is_so ∙ room_fits l list new.node room all;
      bare = ap (λ b. Some (record { list = list; edit = code.Replace h.number b }) ∷ []) (sym c.in_ok-new.ensures.done)
          ∙ sym (ap (map Some) (c.in_ok-push_edit.ensures ∙ ap (λ t. t ++ record { list = list; edit = code.Replace h.number c.in_ok-new.new } ∷ []) c.new-steps.ensures.items));
    }
