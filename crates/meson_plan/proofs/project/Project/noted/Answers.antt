use Rattle.std.proofs.Common.{◌∙◌, sym, ap, subst}
use Rattle.meson_calls.specs.Loading.{IsProject, Loaded, loaded_from}
use Rattle.meson_calls.specs.Notes.{note_views}
use Rattle.meson_calls.specs.Setters.{AreKept}
use Rattle.meson_calls.specs.Spelling.{AreNotesWith, sought_words}
use Rattle.meson_plan.proofs.project.Project.noted.Goals as goal

pub returns-clause-noted : goal.returns-clause-noted
returns-clause-noted c = λ role id are.
    let files = c.self.inside.files in
    let here = sym c.as_slice.ensures.value in
    record {
      whole = subst (λ ts. IsProject (loaded_from files ts)) here c.self.invariant.0;
      taken = subst (λ (l : Loaded). AreNotesWith (sought_words role id) 0 l.files l.parsed (note_views c.args.all.now))
          (sym c.self.view_is ∙ ap (loaded_from files) here) are;
      kept = subst (λ ts. AreKept c.as_slice-2.result.now files ts) here (subst (λ ks. AreKept ks files c.self.inside.trees.items) (sym c.as_slice-2.ensures.value) c.self.invariant.1);
    }

pub returns-clause-same : goal.returns-clause-same
returns-clause-same c = ap (loaded_from c.self.inside.files) c.as_slice.ensures.value ∙ c.self.view_is
