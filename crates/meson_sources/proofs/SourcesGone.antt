-- The sources and the extra files that are named are gone from all lists that held them, and nothing else is.
use Rattle.meson_calls.specs.Calls as calls
use Rattle.meson_sources.proofs.Words.{Ok, Result, ap, List, Some, ℕ, ◌∙◌, ◌≡◌, then_ok, Span, Plain, IsProject, Loaded, project, once, sources_key, Refusal}
use Rattle.meson_sources.proofs.Words.{Mark, source_marks, checked_names, distinct, plain_trees, all_stepped, Step, trees_stand, once_was, then_was}
use Rattle.meson_sources.proofs.Words.{ExtraIsRemoved, NamesGo, SourcesAreRemoved, checked_extra, extra_marks, removal_steps, removed_at, spots_named}
use Rattle.meson_sources.proofs.added.Homes.{checked_marks}
use Rattle.meson_sources.proofs.gone.Named.{named_spots, spots_apart}
use Rattle.meson_sources.proofs.gone.Trees.{trees_left, named_stand, all_in}
use Rattle.meson_sources.proofs.met.Standing.{AllStand}
use Rattle.meson_sources.proofs.met.Targets.{files_stand}

module _ (old : Loaded) (is : IsProject old) (marks : List (Mark Span)) (stand : AllStand (project old) marks) where
  abbrev spots_steps : List (List ℕ) → List (Mark Span) → Result (List Step) Refusal
  spots_steps names ms = removed_at (spots_named ms (distinct names))

  names_go : (names : List (List ℕ)) (steps : List Step) (after : List Plain) → spots_steps names marks ≡ Ok steps → all_stepped steps (plain_trees old) ≡ Some after → NamesGo marks names (plain_trees old) after
  names_go names steps after made done =
      let found = then_was (spots_named marks (distinct names)) (λ spots. Ok (removal_steps spots)) steps made in
      let there = found.0 in
      let same : removal_steps there ≡ steps = let r = found.2 in cc in
      let stepped : all_stepped (removal_steps there) (plain_trees old) ≡ Some after = ap (λ s. all_stepped s (plain_trees old)) same ∙ done in
      let stands = trees_stand old.files old.parsed is.parsed in
      let are = all_in old found.0 (named_stand (project old) marks stand.stand (distinct names) found.0 found.1) in
      record {
        spots = found.0;
        are_spots = found.1;
        of_names = named_spots marks (distinct names) found.0 found.1;
        left = trees_left there (plain_trees old) after stands are (spots_apart (project old) marks stand names there found.1) stepped;
      }

pub sources-are-removed : SourcesAreRemoved
sources-are-removed old is id c found names steps after made done =
    let p = project old in
    let marks = source_marks p c in
    let stand = (files_stand old is.parsed id c found).sources in
    let keys = calls.keyword sources_key c.it in
    let a = then_was (checked_names names) (λ _. then_ok (once sources_key keys marks) (spots_steps old is marks stand names)) steps made in
    let b = then_was (once sources_key keys marks) (spots_steps old is marks stand names) steps a.2 in
    let same = once_was sources_key keys marks b.0 b.1 in
    names_go old is marks stand names steps after (ap (spots_steps old is marks stand names) same ∙ b.2) done

pub extra-is-removed : ExtraIsRemoved
extra-is-removed old is id c found names steps after made done =
    let p = project old in
    let marks = extra_marks p c in
    let stand = (files_stand old is.parsed id c found).extras in
    let a = then_was (checked_extra p c names) (spots_steps old is marks stand names) steps made in
    let same = checked_marks p c names a.0 a.1 in
    names_go old is marks stand names steps after (ap (spots_steps old is marks stand names) same ∙ a.2) done
