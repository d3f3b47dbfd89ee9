use Rattle.std.proofs.Common.{◌≡◌, Some, ◌∙◌, sym, ap, ap₂, subst}
use Rattle.std.specs.Prelude.{Ok, Err, IfOk, IsTrue}
use Rattle.meson_calls.specs.Loading.{IsProject, loaded_from, project}
use Rattle.meson_calls.specs.Roles.{is_target}
use Rattle.meson_variables.specs.TargetSources.{sources}
use Rattle.meson_calls.specs.Refusals.{IfRefused}
use Rattle.meson_calls.specs.Setters.{AreKept}
use Rattle.meson_plan.proofs.project.Project.sources.Goals as goal

pub near-requires : goal.near-requires
near-requires c =
    let files = c.self.inside.files in
    let here = sym c.as_slice.ensures.value in
    record {
      whole = subst (λ ts. IsProject (loaded_from files ts)) here c.self.invariant.0;
      kept = subst (λ ts. AreKept c.as_slice-2.result.now files ts) here (subst (λ ks. AreKept ks files c.self.inside.trees.items) (sym c.as_slice-2.ensures.value) c.self.invariant.1);
    }

pub sources_at-requires-clause-parsed : goal.sources_at-requires-clause-parsed
sources_at-requires-clause-parsed c = c.in_ok-variables.ensures.holds.whole.parsed

pub sources_at-requires-clause-target : goal.sources_at-requires-clause-target
sources_at-requires-clause-target c =
    let v = c.in_ok-variables.variables in
    let here = ap (loaded_from c.self.inside.files) c.as_slice.ensures.value ∙ c.self.view_is in
    let is = ap project (ap₂ loaded_from c.in_ok-variables.ensures.files c.in_ok-variables.ensures.trees ∙ here) in
    subst (λ q. IsTrue (is_target q c.args.call.now)) (sym is) c.requires

pub returns-clause-found : goal.returns-clause-found
returns-clause-found c =
    let v = c.in_ok-variables.variables in
    let here = ap (loaded_from c.self.inside.files) c.as_slice.ensures.value ∙ c.self.view_is in
    let is = ap project (ap₂ loaded_from c.in_ok-variables.ensures.files c.in_ok-variables.ensures.trees ∙ here) in
    subst (λ q. IfOk c.sources_at.result (λ s. sources q c.args.call.now ≡ Some (Ok s))) is c.sources_at.ensures.found

pub returns-clause-refused : goal.returns-clause-refused
returns-clause-refused c =
    let v = c.in_ok-variables.variables in
    let here = ap (loaded_from c.self.inside.files) c.as_slice.ensures.value ∙ c.self.view_is in
    let is = ap project (ap₂ loaded_from c.in_ok-variables.ensures.files c.in_ok-variables.ensures.trees ∙ here) in
    subst (λ q. IfRefused c.sources_at.result (λ e. sources q c.args.call.now ≡ Some (Err e))) is c.sources_at.ensures.refused
