use Rattle.std.proofs.Common.{◌≡◌, Some, ◌∙◌, ap, ap₂, subst, sym}
use Rattle.std.specs.Prelude.{Ok, Err, IfOk}
use Rattle.meson_syntax.specs.View.{list_view, name_at, text_at}
use Rattle.meson_calls.specs.Loading.{IsProject, loaded_from, project}
use Rattle.meson_variables.specs.CodeVariables.{project_of}
use Rattle.meson_calls.specs.ChosenNotes.{call_with}
use Rattle.meson_calls.specs.Project.{placed}
use Rattle.meson_calls.specs.Refusals.{IfRefused}
use Rattle.meson_calls.specs.Setters.{AreKept}
use Rattle.meson_sources.specs.Extras.{extra_files, extra_of_call}
use Rattle.meson_plan.proofs.DetailsThere.{extra_there, found_there, refused_there}
use Rattle.meson_plan.proofs.project.Project.extra_files.Goals as goal

pub near-requires : goal.near-requires
near-requires c =
    let files = c.self.inside.files in
    let here = sym c.as_slice.ensures.value in
    record {
      whole = subst (λ ts. IsProject (loaded_from files ts)) here c.self.invariant.0;
      kept = subst (λ ts. AreKept c.as_slice-2.result.now files ts) here (subst (λ ks. AreKept ks files c.self.inside.trees.items) (sym c.as_slice-2.ensures.value) c.self.invariant.1);
    }

pub call_at-called-requires-clause-parsed : goal.call_at-called-requires-clause-parsed
call_at-called-requires-clause-parsed c = c.in_ok-variables.ensures.holds.whole.parsed

pub returns-clause-found : goal.returns-clause-found
returns-clause-found c =
    let v = c.in_ok-variables.variables in
    let here = ap (loaded_from c.self.inside.files) c.as_slice.ensures.value ∙ c.self.view_is in
    let is = ap project (ap₂ loaded_from c.in_ok-variables.ensures.files c.in_ok-variables.ensures.trees ∙ here) in
    let call = c.args.call.now in
    let called = c.call_at-called.result in
    let text = text_at called.source.now called.name in
    let list = list_view called.source.now called.arguments.now in
    let there = extra_there call called.span (name_at called.source.now called.name) list (project_of v) c.call_at-called.ensures.at in
    let r = c.extra_files_of.result in
    let found = found_there (extra_files (project_of v) call) (extra_of_call (project_of v) (placed call (call_with text list))) there r (c.extra_files_of.ensures.found text) in
    subst (λ q. IfOk r (λ s. extra_files q call ≡ Some (Ok s))) is found

pub returns-clause-refused : goal.returns-clause-refused
returns-clause-refused c =
    let v = c.in_ok-variables.variables in
    let here = ap (loaded_from c.self.inside.files) c.as_slice.ensures.value ∙ c.self.view_is in
    let is = ap project (ap₂ loaded_from c.in_ok-variables.ensures.files c.in_ok-variables.ensures.trees ∙ here) in
    let call = c.args.call.now in
    let called = c.call_at-called.result in
    let text = text_at called.source.now called.name in
    let list = list_view called.source.now called.arguments.now in
    let there = extra_there call called.span (name_at called.source.now called.name) list (project_of v) c.call_at-called.ensures.at in
    let r = c.extra_files_of.result in
    let refused = refused_there (extra_files (project_of v) call) (extra_of_call (project_of v) (placed call (call_with text list))) there r (c.extra_files_of.ensures.refused text) in
    subst (λ q. IfRefused r (λ e. extra_files q call ≡ Some (Err e))) is refused
