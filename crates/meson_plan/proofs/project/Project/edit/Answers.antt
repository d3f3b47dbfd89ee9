-- The project becomes what is done of a command, and stays as it is where the command is refused.
use Rattle.std.proofs.Common.{◌≡◌, List, refl, sym, ap, ap₂, ◌∙◌, subst}
use Rattle.meson_splice.specs.declared.file_set.File.{File}
use Rattle.meson_splice.specs.Saved.{bytes_put_back}
use Rattle.meson_syntax.specs.declared.tree.Parsed.{Parsed}
use Rattle.meson_steps.specs.declared.command.Done.{Done}
use Rattle.meson_steps.specs.declared.work.Work.{Work}
use Rattle.meson_steps.specs.Journal.{put_back}
use Rattle.meson_steps.specs.Working.{Restores, so_far}
use Rattle.meson_calls.specs.Loading.{IsProject, Loaded}
use Rattle.meson_calls.specs.Setters.{AreKept}
use Rattle.meson_plan.specs.Performing.{MayRefuse, Performs}
use Rattle.meson_plan.specs.inside.Kept.{StayKept}
use Rattle.meson_plan.proofs.KeptAfter.{kept_done}
use Rattle.meson_plan.proofs.Performed.{may_refuse, performed}
use Rattle.meson_plan.proofs.project.Project.edit.Goals as goal

abbrev loaded : List File → List Parsed → Loaded
loaded files trees = record { files = files; parsed = trees }

-- what is put back is there again
all_back : (w : Work) (first : Loaded) → Restores w first → (files : List File) (trees : List Parsed) → files ≡ bytes_put_back w.saved_bytes.items w.files → trees ≡ put_back w.saved.items w.trees.items
    → loaded files trees ≡ first
all_back w first r files trees files_are trees_are = ap₂ loaded (files_are ∙ r.files) (trees_are ∙ r.trees.gives)

pub returns-in-Err-clause-refused : goal.returns-in-Err-clause-refused
returns-in-Err-clause-refused c = λ other.
    let is = c.start-work.ensures.is ∙ ap₂ loaded c.replace-files.ensures.value (ap (λ v. v.items) c.replace-trees.ensures.value) ∙ c.self.view_is in
    let k = c.args.command.now in
    let e = c.in-Err.refusal in
    subst (λ l. MayRefuse l k e) is (may_refuse (so_far c.start-work.result) k e (c.in-Err.ensures.refused other))

pub returns-in-Ok-clause-done : goal.returns-in-Ok-clause-done
returns-in-Ok-clause-done c =
    let is = c.start-work.ensures.is ∙ ap₂ loaded c.replace-files.ensures.value (ap (λ v. v.items) c.replace-trees.ensures.value) ∙ c.self.view_is in
    let k = c.args.command.now in
    let work = c.performed-ended.new.work in
    let done : Done = record { change = c.untitled.result; relexed = work.relexed } in
    subst (λ l. Performs l k done (so_far work)) is
    (performed (so_far c.start-work.result) k work c.in-Ok.ensures.done done (ap (λ x. x.splices) c.untitled.ensures ∙ c.of.ensures) (ap (λ x. x.title) c.untitled.ensures) refl)

pub put_back-requires : goal.put_back-requires
put_back-requires c = (c.performed-ended.ensures.restores _ c.start-work.ensures.restores).trees.may

pub invariant_of-self : goal.invariant_of-self
invariant_of-self c =
    let w = c.performed-ended.new.work in
    let before = c.performed-ended.new.kept.items in
    let after = c.forget_changed.new.kept.items in
    let stay = subst (StayKept before after w.files) c.as_slice.ensures.value c.forget_changed.ensures in
    (c.in-Ok.ensures.done.2.project, kept_done (so_far c.start-work.result) c.in-Ok.ensures.done.0 w c.start-work.ensures.fresh.project c.in-Ok.ensures.done.2 before after c.performed-ended.ensures.kept stay)

pub invariant_of-self-in-Err-1 : goal.invariant_of-self-in-Err-1
invariant_of-self-in-Err-1 c =
    let first = loaded c.replace-files.result c.replace-trees.result.items in
    let restored = c.performed-ended.ensures.restores first c.start-work.ensures.restores in
    let back = all_back c.performed-ended.new.work first restored c.put_bytes_back.new.files c.put_back.new.trees.items c.put_bytes_back.ensures c.put_back.ensures in (
      subst IsProject (sym (back ∙ ap₂ loaded c.replace-files.ensures.value (ap (λ v. v.items) c.replace-trees.ensures.value))) c.self.invariant.0,
      subst (λ (l : Loaded). AreKept c.performed-ended.new.kept.items l.files l.parsed) (c.start-work.ensures.is ∙ sym back) c.performed-ended.ensures.kept,
    )

pub returns-in-Err-clause-kept : goal.returns-in-Err-clause-kept
returns-in-Err-clause-kept c =
    let first = loaded c.replace-files.result c.replace-trees.result.items in
    let restored = c.performed-ended.ensures.restores first c.start-work.ensures.restores in
    let back = all_back c.performed-ended.new.work first restored c.put_bytes_back.new.files c.put_back.new.trees.items c.put_bytes_back.ensures c.put_back.ensures in
    back ∙ ap₂ loaded c.replace-files.ensures.value (ap (λ v. v.items) c.replace-trees.ensures.value) ∙ c.self.view_is

pub returns-in-Err-clause-project : goal.returns-in-Err-clause-project
returns-in-Err-clause-project c =
    let first = loaded c.replace-files.result c.replace-trees.result.items in
    let restored = c.performed-ended.ensures.restores first c.start-work.ensures.restores in
    let back = all_back c.performed-ended.new.work first restored c.put_bytes_back.new.files c.put_back.new.trees.items c.put_bytes_back.ensures c.put_back.ensures in
    subst IsProject (sym (back ∙ ap₂ loaded c.replace-files.ensures.value (ap (λ v. v.items) c.replace-trees.ensures.value))) c.self.invariant.0
