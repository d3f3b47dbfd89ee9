-- What a command orders is what it means: its steps are planned and done, its call is changed, or its value.
use Rattle.std.proofs.Common.{◌≡◌, List, refl, sym, subst}
use Rattle.std.specs.Prelude.{Bool, Err, Option, ℕ}
use Rattle.std.proofs.lemmas.Result.{IfErr-weaker, err_from_is_err_and, on_ok_weaker}
use Rattle.meson_splice.specs.declared.file_set.File.{File}
use Rattle.meson_syntax.specs.declared.tree.Parsed.{Parsed}
use Rattle.meson_calls.specs.Loading.{IsProject, Loaded, project}
use Rattle.meson_calls.specs.Setters.{AreKept}
use Rattle.meson_places.specs.Arguments.{MayBeMade, argument_steps}
use Rattle.meson_code.specs.Insertion.{code_steps}
use Rattle.meson_code.specs.Removing.{code_removed}
use Rattle.meson_keywords.specs.Changing.{request_steps}
use Rattle.meson_keywords.specs.Tasking.{request_view}
use Rattle.meson_steps.specs.Done.{unmeant}
use Rattle.meson_steps.specs.declared.argument.ValueChange.{ValueChange}
use Rattle.meson_steps.specs.declared.argument.ValueName.{ValueName}
use Rattle.meson_steps.specs.declared.argument.Search.{Search}
use Rattle.meson_steps.specs.declared.command.CodePlace.{CodePlace}
use Rattle.meson_steps.specs.declared.command.Command.{Command}
use Rattle.meson_steps.specs.declared.command.Command.TheVariants as command
use Rattle.meson_steps.specs.declared.step.ListStep.{ListStep}
use Rattle.meson_steps.specs.Plans.{ArePlanned}
use Rattle.meson_steps.specs.Working.{so_far}
use Rattle.meson_plan.specs.declared.order.Plan.{Plan}
use Rattle.meson_plan.specs.inside.Orders.{plan_steps}
use Rattle.meson_plan.specs.Planning.{Means}
use Rattle.meson_plan.proofs.planning.performed.Goals as goal

pub planned-requires : goal.planned-requires
planned-requires c =
    let files = c.args.work.now.files in
    let here = sym c.as_slice.ensures.value in
    record {
      project = subst (λ ts. IsProject (record { files = files; parsed = ts })) here c.requires.fresh.project;
      kept = subst (AreKept c.args.kept.now.items files) here c.requires.kept;
    }

-- the steps of a plan, of the trees that are read in another place
planned_there : (files : List File) (here there : List Parsed) → here ≡ there → (p : Plan) (steps : List ListStep)
    → ArePlanned (record { files = files; parsed = here }) (plan_steps (record { files = files; parsed = here }) p) steps
    → ArePlanned (record { files = files; parsed = there }) (plan_steps (record { files = files; parsed = there }) p) steps
planned_there files here there same p steps are = let of : List Parsed → Loaded = λ ts. record { files = files; parsed = ts } in subst (λ ts. ArePlanned (of ts) (plan_steps (of ts) p) steps) same are

pub done-requires-clause-planned : goal.done-requires-clause-planned
done-requires-clause-planned c =
    let w = c.args.work.now in
    (plan_steps (so_far w) c.in-Planned.plan, planned_there w.files c.as_slice.result.now w.trees.items c.as_slice.ensures.value c.in-Planned.plan c.in_ok-steps-in-Planned.steps.items c.in_ok-steps-in-Planned.ensures.plan)

pub returns-in_ok-steps-in-Planned-clause-done : goal.returns-in_ok-steps-in-Planned-clause-done
returns-in_ok-steps-in-Planned-clause-done c =
    let w = c.args.work.now in
    let p = c.in-Planned.plan in
    let meant = plan_steps (so_far w) p in
    on_ok_weaker c.done.result (λ out. (meant, c.in-Planned.ensures (so_far w), out))
    (c.done.ensures.done meant (planned_there w.files c.as_slice.result.now w.trees.items c.as_slice.ensures.value p c.in_ok-steps-in-Planned.steps.items c.in_ok-steps-in-Planned.ensures.plan))

pub returns-in_ok-steps-in-Planned-clause-refused : goal.returns-in_ok-steps-in-Planned-clause-refused
returns-in_ok-steps-in-Planned-clause-refused c =
    let w = c.args.work.now in
    let p = c.in-Planned.plan in
    let meant = plan_steps (so_far w) p in
    IfErr-weaker c.done.result _ _ (λ e why other. (meant, c.in-Planned.ensures (so_far w), why other))
    (c.done.ensures.refused meant (planned_there w.files c.as_slice.result.now w.trees.items c.as_slice.ensures.value p c.in_ok-steps-in-Planned.steps.items c.in_ok-steps-in-Planned.ensures.plan))

pub returns-in_err-steps-in-Planned-clause-refused : goal.returns-in_err-steps-in-Planned-clause-refused
returns-in_err-steps-in-Planned-clause-refused c =
    let error = err_from_is_err_and c.from_residual.result c.from_residual.ensures.1 in
    rw (error.1, error.2) (λ other.
    let old = so_far c.args.work.now in
    let of : _ → Loaded = λ ts. record { files = c.args.work.now.files; parsed = ts } in
    let e = c.in_err-steps-in-Planned.field-0.0 in
    let why = subst (λ ts. plan_steps (of ts) c.in-Planned.plan ≡ Err e) c.as_slice.ensures.value (c.in_err-steps-in-Planned.ensures.refused other) in
    (plan_steps old c.in-Planned.plan, c.in-Planned.ensures old, unmeant e why))

pub returns-in-Changed-clause-done : goal.returns-in-Changed-clause-done
returns-in-Changed-clause-done c =
    let old = so_far c.args.work.now in
    on_ok_weaker c.changed.result (λ out. (request_steps (project old) (request_view c.in-Changed.request), c.in-Changed.ensures old, out)) c.changed.ensures.done

pub returns-in-Changed-clause-refused : goal.returns-in-Changed-clause-refused
returns-in-Changed-clause-refused c =
    let old = so_far c.args.work.now in
    IfErr-weaker c.changed.result _ _ (λ e why other. (request_steps (project old) (request_view c.in-Changed.request), c.in-Changed.ensures old, why other)) c.changed.ensures.refused

-- ---- a value is changed

-- the steps of its change, of the trees that are read in another place
valued_there : (files : List File) (here there : List Parsed) → here ≡ there → (n : ValueName) (ch : ValueChange) (may : MayBeMade ch) (steps : List ListStep)
    → ArePlanned (record { files = files; parsed = here }) (argument_steps (record { files = files; parsed = here }) n ch may) steps
    → ArePlanned (record { files = files; parsed = there }) (argument_steps (record { files = files; parsed = there }) n ch may) steps
valued_there files here there same n ch may steps are = let of : List Parsed → Loaded = λ ts. record { files = files; parsed = ts } in subst (λ ts. ArePlanned (of ts) (argument_steps (of ts) n ch may) steps) same are

value_means : (l : Loaded) (c : Command) (n : ValueName) (ch : ValueChange) → c ≡ command.Argument n ch → (may : MayBeMade ch) → Means l c (argument_steps l n ch may)
value_means l c n ch is may = subst (λ k. Means l k (argument_steps l n ch may)) (sym is) (may, refl)

pub done-requires-in-OnValue-clause-planned : goal.done-requires-in-OnValue-clause-planned
done-requires-in-OnValue-clause-planned c =
    let w = c.args.work.now in
    let n = c.in-OnValue.name.now in
    let ch = c.in-OnValue.change.now in
    let may = c.argument_steps.ensures.may in
    (argument_steps (so_far w) n ch may, valued_there w.files c.as_slice-in-OnValue.result.now w.trees.items c.as_slice-in-OnValue.ensures.value n ch may c.in_ok-steps-in-OnValue.steps.items (c.in_ok-steps-in-OnValue.ensures.plan may))

pub returns-in_ok-steps-in-OnValue-clause-done : goal.returns-in_ok-steps-in-OnValue-clause-done
returns-in_ok-steps-in-OnValue-clause-done c =
    let w = c.args.work.now in
    let n = c.in-OnValue.name.now in
    let ch = c.in-OnValue.change.now in
    let may = c.argument_steps.ensures.may in
    let meant = argument_steps (so_far w) n ch may in
    on_ok_weaker c.done-in-OnValue.result (λ out. (meant, value_means (so_far w) c.args.command.now n ch c.in-OnValue.ensures may, out))
    (c.done-in-OnValue.ensures.done meant (valued_there w.files c.as_slice-in-OnValue.result.now w.trees.items c.as_slice-in-OnValue.ensures.value n ch may c.in_ok-steps-in-OnValue.steps.items (c.in_ok-steps-in-OnValue.ensures.plan may)))

pub returns-in_ok-steps-in-OnValue-clause-refused : goal.returns-in_ok-steps-in-OnValue-clause-refused
returns-in_ok-steps-in-OnValue-clause-refused c =
    let w = c.args.work.now in
    let n = c.in-OnValue.name.now in
    let ch = c.in-OnValue.change.now in
    let may = c.argument_steps.ensures.may in
    let meant = argument_steps (so_far w) n ch may in
    IfErr-weaker c.done-in-OnValue.result _ _ (λ e why other. (meant, value_means (so_far w) c.args.command.now n ch c.in-OnValue.ensures may, why other))
    (c.done-in-OnValue.ensures.refused meant (valued_there w.files c.as_slice-in-OnValue.result.now w.trees.items c.as_slice-in-OnValue.ensures.value n ch may c.in_ok-steps-in-OnValue.steps.items (c.in_ok-steps-in-OnValue.ensures.plan may)))

pub returns-in_err-steps-in-OnValue-clause-refused : goal.returns-in_err-steps-in-OnValue-clause-refused
returns-in_err-steps-in-OnValue-clause-refused c =
    let error = err_from_is_err_and c.from_residual-in_err-steps-in-OnValue.result c.from_residual-in_err-steps-in-OnValue.ensures.1 in
    rw (error.1, error.2) (λ other.
    let old = so_far c.args.work.now in
    let n = c.in-OnValue.name.now in
    let ch = c.in-OnValue.change.now in
    let may = c.argument_steps.ensures.may in
    let of : _ → Loaded = λ ts. record { files = c.args.work.now.files; parsed = ts } in
    let e = c.in_err-steps-in-OnValue.field-0.0 in
    let why = subst (λ ts. argument_steps (of ts) n ch may ≡ Err e) c.as_slice-in-OnValue.ensures.value (c.in_err-steps-in-OnValue.ensures.refused may other) in
    (argument_steps old n ch may, value_means old c.args.command.now n ch c.in-OnValue.ensures may, unmeant e why))

-- ---- code is inserted

-- the step that inserts it, of the trees that are read in another place
inserted_there : (files : List File) (here there : List Parsed) → here ≡ there → (p : CodePlace) (code : List ℕ) (blank : Option ℕ) (steps : List ListStep)
    → ArePlanned (record { files = files; parsed = here }) (code_steps (record { files = files; parsed = here }) p code blank) steps
    → ArePlanned (record { files = files; parsed = there }) (code_steps (record { files = files; parsed = there }) p code blank) steps
inserted_there files here there same p code blank steps are = let of : List Parsed → Loaded = λ ts. record { files = files; parsed = ts } in subst (λ ts. ArePlanned (of ts) (code_steps (of ts) p code blank) steps) same are

code_means : (l : Loaded) (c : Command) (p : CodePlace) (code : List ℕ) (blank : Option ℕ) → c ≡ command.CodeInsert p code blank → Means l c (code_steps l p code blank)
code_means l c p code blank is = subst (λ k. Means l k (code_steps l p code blank)) (sym is) refl

pub done-requires-in-InsertCode-clause-planned : goal.done-requires-in-InsertCode-clause-planned
done-requires-in-InsertCode-clause-planned c =
    let w = c.args.work.now in
    let i = c.in-InsertCode.insertion in
    (code_steps (so_far w) i.place.now i.code.now i.blank, inserted_there w.files c.as_slice-in-InsertCode.result.now w.trees.items c.as_slice-in-InsertCode.ensures.value i.place.now i.code.now i.blank c.in_ok-steps-in-InsertCode.steps.items c.in_ok-steps-in-InsertCode.ensures.plan)

pub returns-in_ok-steps-in-InsertCode-clause-done : goal.returns-in_ok-steps-in-InsertCode-clause-done
returns-in_ok-steps-in-InsertCode-clause-done c =
    let w = c.args.work.now in
    let i = c.in-InsertCode.insertion in
    let meant = code_steps (so_far w) i.place.now i.code.now i.blank in
    on_ok_weaker c.done-in-InsertCode.result (λ out. (meant, code_means (so_far w) c.args.command.now i.place.now i.code.now i.blank c.in-InsertCode.ensures, out))
    (c.done-in-InsertCode.ensures.done meant (inserted_there w.files c.as_slice-in-InsertCode.result.now w.trees.items c.as_slice-in-InsertCode.ensures.value i.place.now i.code.now i.blank c.in_ok-steps-in-InsertCode.steps.items c.in_ok-steps-in-InsertCode.ensures.plan))

pub returns-in_ok-steps-in-InsertCode-clause-refused : goal.returns-in_ok-steps-in-InsertCode-clause-refused
returns-in_ok-steps-in-InsertCode-clause-refused c =
    let w = c.args.work.now in
    let i = c.in-InsertCode.insertion in
    let meant = code_steps (so_far w) i.place.now i.code.now i.blank in
    IfErr-weaker c.done-in-InsertCode.result _ _ (λ e why other. (meant, code_means (so_far w) c.args.command.now i.place.now i.code.now i.blank c.in-InsertCode.ensures, why other))
    (c.done-in-InsertCode.ensures.refused meant (inserted_there w.files c.as_slice-in-InsertCode.result.now w.trees.items c.as_slice-in-InsertCode.ensures.value i.place.now i.code.now i.blank c.in_ok-steps-in-InsertCode.steps.items c.in_ok-steps-in-InsertCode.ensures.plan))

pub returns-in_err-steps-in-InsertCode-clause-refused : goal.returns-in_err-steps-in-InsertCode-clause-refused
returns-in_err-steps-in-InsertCode-clause-refused c =
    let error = err_from_is_err_and c.from_residual-in_err-steps-in-InsertCode.result c.from_residual-in_err-steps-in-InsertCode.ensures.1 in
    rw (error.1, error.2) (λ other.
    let old = so_far c.args.work.now in
    let i = c.in-InsertCode.insertion in
    let of : _ → Loaded = λ ts. record { files = c.args.work.now.files; parsed = ts } in
    let e = c.in_err-steps-in-InsertCode.field-0.0 in
    let why = subst (λ ts. code_steps (of ts) i.place.now i.code.now i.blank ≡ Err e) c.as_slice-in-InsertCode.ensures.value (c.in_err-steps-in-InsertCode.ensures.refused other) in
    (code_steps old i.place.now i.code.now i.blank, code_means old c.args.command.now i.place.now i.code.now i.blank c.in-InsertCode.ensures, unmeant e why))

-- ---- a statement is removed

removal_means : (l : Loaded) (c : Command) (s : Search) (unused : Bool) → c ≡ command.CodeRemove s unused → Means l c (code_removed l s unused)
removal_means l c s unused is = subst (λ k. Means l k (code_removed l s unused)) (sym is) refl

pub returns-in-RemoveCode-clause-done : goal.returns-in-RemoveCode-clause-done
returns-in-RemoveCode-clause-done c =
    let old = so_far c.args.work.now in
    let r = c.in-RemoveCode.removal in
    on_ok_weaker c.remove_code.result (λ out. (code_removed old r.statement.now r.unused, removal_means old c.args.command.now r.statement.now r.unused c.in-RemoveCode.ensures, out)) c.remove_code.ensures.done

pub returns-in-RemoveCode-clause-refused : goal.returns-in-RemoveCode-clause-refused
returns-in-RemoveCode-clause-refused c =
    let old = so_far c.args.work.now in
    let r = c.in-RemoveCode.removal in
    IfErr-weaker c.remove_code.result _ _ (λ e why other. (code_removed old r.statement.now r.unused, removal_means old c.args.command.now r.statement.now r.unused c.in-RemoveCode.ensures, why other)) c.remove_code.ensures.refused
