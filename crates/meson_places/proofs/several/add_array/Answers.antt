use Rattle.std.proofs.Common.{◌≡◌, true, false, sym, ap, ◌∙◌}
use Rattle.meson_splice.specs.Files.{bytes_at}
use Rattle.meson_splice.specs.Patch.{then_ok}
use Rattle.meson_calls.specs.Loading.{project}
use Rattle.meson_calls.specs.Project.{expression_at}
use Rattle.meson_steps.specs.ResultLimits.{plain_trees}
use Rattle.meson_places.specs.Changes.{added_to}
use Rattle.meson_places.specs.Colons.{ends_in_file}
use Rattle.meson_places.specs.Names.{loaded_in}
use Rattle.meson_places.specs.Room.{has_room, if_room, list_in_trees}
use Rattle.meson_places.specs.Several.{written_array}
use Rattle.meson_places.proofs.ArrayWritten.{array_text}
use Rattle.meson_places.proofs.Meant.{meant_deep, meant_fits, room_deep, room_fits}
use Rattle.meson_places.proofs.Refused.{passed}
use Rattle.meson_places.proofs.several.add_array.Goals as goal

pub returns-in_err-steps-clause-refused : goal.returns-in_err-steps-clause-refused
returns-in_err-steps-clause-refused c = λ may.
    let l = loaded_in c.args.sources in
    let list = c.args.list.now in
    let new = written_array c.args.values.now may in
    let all = added_to (bytes_at list.file l.files) (ends_in_file l list.file) new c.args.key.now list (expression_at (project l) list) in
    passed c.from_residual-in_err-steps.result c.in_err-steps.field-0.0 (then_ok all (if_room l list new.node)) c.from_residual-in_err-steps.ensures.1
    (λ other. ap (λ r. then_ok r (if_room l list new.node)) (c.in_err-steps.ensures.refused new other))

pub returns-then-not-branch-clause-refused : goal.returns-then-not-branch-clause-refused
returns-then-not-branch-clause-refused c = λ may other.
    let l = loaded_in c.args.sources in
    let gs = c.args.values.now in
    let list = c.args.list.now in
    let new = written_array gs may in
    let x = array_text gs may c.get.result.now (c.get.ensures ∙ c.in_ok-new.ensures.done) in
    let room : has_room new.node (list_in_trees (plain_trees l) list) ≡ false =
    ap (λ e. has_room e (list_in_trees (plain_trees l) list)) (sym x.1) ∙ sym (c.in_ok-has_room_for.ensures x.0) ∙ c.if-not-branch.true in
    meant_deep (added_to (bytes_at list.file l.files) (ends_in_file l list.file) new c.args.key.now list (expression_at (project l) list)) c.in_ok-steps.steps.items (c.in_ok-steps.ensures.meant new (sym c.in_ok-new.ensures.done)) (if_room l list new.node)
    (room_deep l list new.node room)

pub returns-clause-meant : goal.returns-clause-meant
returns-clause-meant c = λ may.
    let l = loaded_in c.args.sources in
    let gs = c.args.values.now in
    let list = c.args.list.now in
    let new = written_array gs may in
    let x = array_text gs may c.get.result.now (c.get.ensures ∙ c.in_ok-new.ensures.done) in
    let room : has_room new.node (list_in_trees (plain_trees l) list) ≡ true =
    ap (λ e. has_room e (list_in_trees (plain_trees l) list)) (sym x.1) ∙ sym (c.in_ok-has_room_for.ensures x.0) ∙ c.if-not-branch.false in
    meant_fits (added_to (bytes_at list.file l.files) (ends_in_file l list.file) new c.args.key.now list (expression_at (project l) list)) c.in_ok-steps.steps.items (c.in_ok-steps.ensures.meant new (sym c.in_ok-new.ensures.done)) (if_room l list new.node)
    (room_fits l list new.node room)
