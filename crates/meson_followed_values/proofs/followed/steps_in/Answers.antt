use Rattle.std.proofs.Common.{sym, ap, ◌∙◌, subst}
use Rattle.std.proofs.lemmas.Result.{IfOk-weaker}
use Rattle.meson_steps.specs.Meanings.{AreMeant}
use Rattle.meson_places.specs.Arguments.{changed_steps}
use Rattle.meson_places.specs.AssignedArrays.{added_steps}
use Rattle.meson_places.specs.SortedAdditions.{sorted_steps}
use Rattle.meson_places.proofs.Meant.{made_fine, made_refused}
use Rattle.meson_places.proofs.Refused.{refused_as}
use Rattle.meson_followed_values.specs.CodeFollower.{loaded_in}
use Rattle.meson_followed_values.specs.Followed.{inserted_for, removed_for, replaced_for, steps_in}
use Rattle.meson_followed_values.proofs.FollowedSteps.{IsPlain, add_is, insert_is, plain_is, remove_is, replace_is, sort_is}
use Rattle.meson_followed_values.proofs.followed.steps_in.Goals as goal

pub returns-in_ok-slot-in-Add-clause-meant : goal.returns-in_ok-slot-in-Add-clause-meant
returns-in_ok-slot-in-Add-clause-meant c = λ may.
    let l = loaded_in c.args.follower.now in
    let key = c.args.key.now in
    let n = c.args.name.now in
    let ch = c.args.change.now in
    let s = c.args.slot in
    let hs = c.get-values.result.now in
    let x = add_is l key s n ch may c.in-Add.values hs c.in-Add.is c.get-values.ensures in
    IfOk-weaker c.added_steps.result _ _ (λ steps m. subst (λ r. AreMeant r steps.items) (sym (x.1 ∙ ap (added_steps l hs x.0 key) (sym c.in_ok-slot-in-Add.ensures))) m)
    (made_fine _ _ c.added_steps.result (c.added_steps.ensures.made x.0))

pub returns-in_ok-slot-in-Add-clause-refused : goal.returns-in_ok-slot-in-Add-clause-refused
returns-in_ok-slot-in-Add-clause-refused c = λ may.
    let l = loaded_in c.args.follower.now in
    let key = c.args.key.now in
    let n = c.args.name.now in
    let ch = c.args.change.now in
    let s = c.args.slot in
    let hs = c.get-values.result.now in
    let x = add_is l key s n ch may c.in-Add.values hs c.in-Add.is c.get-values.ensures in
    refused_as c.added_steps.result (steps_in l key n ch may s) (added_steps l hs x.0 key c.in_ok-slot-in-Add.slot) (x.1 ∙ ap (added_steps l hs x.0 key) (sym c.in_ok-slot-in-Add.ensures))
    (made_refused _ _ c.added_steps.result (c.added_steps.ensures.made x.0))

pub returns-in_ok-slot-in-AddSorted-clause-meant : goal.returns-in_ok-slot-in-AddSorted-clause-meant
returns-in_ok-slot-in-AddSorted-clause-meant c = λ may.
    let l = loaded_in c.args.follower.now in
    let key = c.args.key.now in
    let n = c.args.name.now in
    let ch = c.args.change.now in
    let s = c.args.slot in
    let hs = c.get-values-in-AddSorted.result.now in
    let x = sort_is l key s n ch may c.in-AddSorted.values hs c.in-AddSorted.is c.get-values-in-AddSorted.ensures in
    IfOk-weaker c.sorted_steps.result _ _ (λ steps m. subst (λ r. AreMeant r steps.items) (sym (x.1 ∙ ap (sorted_steps l hs x.0 key) (sym c.in_ok-slot-in-AddSorted.ensures))) m)
    (made_fine _ _ c.sorted_steps.result (c.sorted_steps.ensures.made x.0))

pub returns-in_ok-slot-in-AddSorted-clause-refused : goal.returns-in_ok-slot-in-AddSorted-clause-refused
returns-in_ok-slot-in-AddSorted-clause-refused c = λ may.
    let l = loaded_in c.args.follower.now in
    let key = c.args.key.now in
    let n = c.args.name.now in
    let ch = c.args.change.now in
    let s = c.args.slot in
    let hs = c.get-values-in-AddSorted.result.now in
    let x = sort_is l key s n ch may c.in-AddSorted.values hs c.in-AddSorted.is c.get-values-in-AddSorted.ensures in
    refused_as c.sorted_steps.result (steps_in l key n ch may s) (sorted_steps l hs x.0 key c.in_ok-slot-in-AddSorted.slot) (x.1 ∙ ap (sorted_steps l hs x.0 key) (sym c.in_ok-slot-in-AddSorted.ensures))
    (made_refused _ _ c.sorted_steps.result (c.sorted_steps.ensures.made x.0))

pub returns-in-AddAfter-clause-meant : goal.returns-in-AddAfter-clause-meant
returns-in-AddAfter-clause-meant c = λ may.
    let l = loaded_in c.args.follower.now in
    let key = c.args.key.now in
    let n = c.args.name.now in
    let ch = c.args.change.now in
    let s = c.args.slot in
    let hs = c.get-values-in-AddAfter.result.now in
    let x = insert_is l key s n ch may c.in-AddAfter.after c.in-AddAfter.values hs c.in-AddAfter.is c.get-values-in-AddAfter.ensures in
    IfOk-weaker c.insert_followed.result _ _ (λ steps m. subst (λ r. AreMeant r steps.items) (sym (x.1)) m)
    (c.insert_followed.ensures.meant x.0)

pub returns-in-AddAfter-clause-refused : goal.returns-in-AddAfter-clause-refused
returns-in-AddAfter-clause-refused c = λ may.
    let l = loaded_in c.args.follower.now in
    let key = c.args.key.now in
    let n = c.args.name.now in
    let ch = c.args.change.now in
    let s = c.args.slot in
    let hs = c.get-values-in-AddAfter.result.now in
    let x = insert_is l key s n ch may c.in-AddAfter.after c.in-AddAfter.values hs c.in-AddAfter.is c.get-values-in-AddAfter.ensures in
    refused_as c.insert_followed.result (steps_in l key n ch may s) (inserted_for l key c.in-AddAfter.after hs x.0 s) (x.1)
    (c.insert_followed.ensures.refused x.0)

pub returns-in-Remove-clause-refused : goal.returns-in-Remove-clause-refused
returns-in-Remove-clause-refused c = λ may.
    let l = loaded_in c.args.follower.now in
    let key = c.args.key.now in
    let n = c.args.name.now in
    let ch = c.args.change.now in
    let s = c.args.slot in
    let hs = c.get.result.now in
    refused_as c.remove_followed.result (steps_in l key n ch may s) (removed_for l key hs s) (remove_is l key s n ch may c.in-Remove.values hs c.in-Remove.is c.get.ensures)
    c.remove_followed.ensures.refused

pub returns-in-Replace-clause-meant : goal.returns-in-Replace-clause-meant
returns-in-Replace-clause-meant c = λ may.
    let l = loaded_in c.args.follower.now in
    let key = c.args.key.now in
    let n = c.args.name.now in
    let ch = c.args.change.now in
    let s = c.args.slot in
    let x = replace_is l key s n ch may c.in-Replace.old c.in-Replace.new c.in-Replace.is in
    IfOk-weaker c.replace_followed.result _ _ (λ steps m. subst (λ r. AreMeant r steps.items) (sym (x.1)) m)
    (c.replace_followed.ensures.meant x.0)

pub returns-in-Replace-clause-refused : goal.returns-in-Replace-clause-refused
returns-in-Replace-clause-refused c = λ may.
    let l = loaded_in c.args.follower.now in
    let key = c.args.key.now in
    let n = c.args.name.now in
    let ch = c.args.change.now in
    let s = c.args.slot in
    let x = replace_is l key s n ch may c.in-Replace.old c.in-Replace.new c.in-Replace.is in
    refused_as c.replace_followed.result (steps_in l key n ch may s) (replaced_for l key c.in-Replace.old c.in-Replace.new x.0 s) (x.1)
    (c.replace_followed.ensures.refused x.0)

pub returns-in-Set-clause-meant : goal.returns-in-Set-clause-meant
returns-in-Set-clause-meant c = λ may.
    let l = loaded_in c.args.follower.now in
    let key = c.args.key.now in
    let n = c.args.name.now in
    let ch = c.args.change.now in
    let s = c.args.slot in
    let plain = plain_is l key s n ch may (subst IsPlain (sym c.in-Set.is) tt) in
    IfOk-weaker c.changed_steps.result _ _ (λ steps m. subst (λ r. AreMeant r steps.items) (sym (plain)) m)
    (c.changed_steps.ensures.meant may)

pub returns-in-Set-clause-refused : goal.returns-in-Set-clause-refused
returns-in-Set-clause-refused c = λ may.
    let l = loaded_in c.args.follower.now in
    let key = c.args.key.now in
    let n = c.args.name.now in
    let ch = c.args.change.now in
    let s = c.args.slot in
    let plain = plain_is l key s n ch may (subst IsPlain (sym c.in-Set.is) tt) in
    refused_as c.changed_steps.result (steps_in l key n ch may s) (changed_steps l n key ch may s) (plain)
    (c.changed_steps.ensures.refused may)

pub returns-in-SetAll-clause-meant : goal.returns-in-SetAll-clause-meant
returns-in-SetAll-clause-meant c = λ may.
    let l = loaded_in c.args.follower.now in
    let key = c.args.key.now in
    let n = c.args.name.now in
    let ch = c.args.change.now in
    let s = c.args.slot in
    let plain = plain_is l key s n ch may (subst IsPlain (sym c.in-SetAll.is) tt) in
    IfOk-weaker c.changed_steps-in-SetAll.result _ _ (λ steps m. subst (λ r. AreMeant r steps.items) (sym (plain)) m)
    (c.changed_steps-in-SetAll.ensures.meant may)

pub returns-in-SetAll-clause-refused : goal.returns-in-SetAll-clause-refused
returns-in-SetAll-clause-refused c = λ may.
    let l = loaded_in c.args.follower.now in
    let key = c.args.key.now in
    let n = c.args.name.now in
    let ch = c.args.change.now in
    let s = c.args.slot in
    let plain = plain_is l key s n ch may (subst IsPlain (sym c.in-SetAll.is) tt) in
    refused_as c.changed_steps-in-SetAll.result (steps_in l key n ch may s) (changed_steps l n key ch may s) (plain)
    (c.changed_steps-in-SetAll.ensures.refused may)

pub returns-in-Delete-clause-meant : goal.returns-in-Delete-clause-meant
returns-in-Delete-clause-meant c = λ may.
    let l = loaded_in c.args.follower.now in
    let key = c.args.key.now in
    let n = c.args.name.now in
    let ch = c.args.change.now in
    let s = c.args.slot in
    let plain = plain_is l key s n ch may (subst IsPlain (sym c.in-Delete.is) tt) in
    IfOk-weaker c.changed_steps-in-Delete.result _ _ (λ steps m. subst (λ r. AreMeant r steps.items) (sym (plain)) m)
    (c.changed_steps-in-Delete.ensures.meant may)

pub returns-in-Delete-clause-refused : goal.returns-in-Delete-clause-refused
returns-in-Delete-clause-refused c = λ may.
    let l = loaded_in c.args.follower.now in
    let key = c.args.key.now in
    let n = c.args.name.now in
    let ch = c.args.change.now in
    let s = c.args.slot in
    let plain = plain_is l key s n ch may (subst IsPlain (sym c.in-Delete.is) tt) in
    refused_as c.changed_steps-in-Delete.result (steps_in l key n ch may s) (changed_steps l n key ch may s) (plain)
    (c.changed_steps-in-Delete.ensures.refused may)
