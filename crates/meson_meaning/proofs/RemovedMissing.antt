-- Where sources of a target are removed, nothing else changes.
use Rattle.std.proofs.Common.{◌≡◌, List, [], ◌∷◌, refl, ap, ◌∙◌, ℕ}
use Rattle.std.specs.Prelude.{map}
use Rattle.meson_lex.specs.declared.kinds.Span.{Span}
use Rattle.meson_splice.specs.declared.file_set.File.{File}
use Rattle.meson_syntax.specs.Tree.{Plain, erase}
use Rattle.meson_syntax.specs.View.{view}
use Rattle.meson_syntax.specs.declared.tree.Parsed.{Parsed}
use Rattle.meson_syntax.proofs.paths.Every.{Every}
use Rattle.meson_calls.specs.Loading.{IsProject, Loaded, named_trees, project, views}
use Rattle.meson_variables.specs.Expansion.{Item, Mark}
use Rattle.meson_variables.specs.TargetSources.{items, source_marks}
use Rattle.meson_steps.specs.Names.{distinct}
use Rattle.meson_steps.specs.ResultLimits.{plain_trees}
use Rattle.meson_sources.specs.Effects.{NamesGo, trees_without}
use Rattle.meson_sources.specs.SourceEdits.{extra_marks}
use Rattle.meson_sources.proofs.SourcesGone.{extra-is-removed, sources-are-removed}
use Rattle.meson_sources.proofs.trees.Elements.{parsed_level}
use Rattle.meson_meaning.specs.Laws.{bare_trees}
use Rattle.meson_meaning.specs.Removals.{OnlyExtraGoes, OnlyItemsGo, OnlyRemovedGo}
use Rattle.meson_meaning.proofs.MarksMayGo.{SlotMayGo, extras_may, sources_may, spots_may}
use Rattle.meson_meaning.proofs.OnlyNames.{only_names_go}

pub trees_are : (files : List File) (parsed : List Parsed) → map erase (views files parsed) ≡ bare_trees (named_trees files (views files parsed))
trees_are [] parsed = refl
trees_are (f ∷ files) [] = refl
trees_are (f ∷ files) (t ∷ parsed) = ap (λ ts. erase (view f.bytes t) ∷ ts) (trees_are files parsed)

module _ (old : Loaded) (is : IsProject old) (marks : List (Mark Span))
    (may : Every (λ (i : Item Span). SlotMayGo (project old) (parsed_level old.files old.parsed is.parsed) i.slot) (items marks)) where
  only_items : (removed : List (List ℕ)) (after : List Plain) → NamesGo marks (removed) (plain_trees old) after → OnlyItemsGo (project old) (items marks) (distinct removed) after
  only_items removed after gone =
      let p = project old in
      let levels = parsed_level old.files old.parsed is.parsed in
      let literals = spots_may p levels (distinct removed) (items marks) may gone.spots gone.of_names.only in
      record {
        spots = gone.spots;
        of_names = gone.of_names;
        missing = λ folders new same_trees same_names ch.
            only_names_go p gone.spots literals folders new (same_trees ∙ gone.left ∙ ap (trees_without gone.spots) (trees_are old.files old.parsed)) same_names ch;
      }

pub only_removed_go : OnlyRemovedGo
only_removed_go old is id c found removed steps after made done =
    only_items old is (source_marks (project old) c) (sources_may old is id c found) removed after (sources-are-removed old is id c found removed steps after made done)

pub only_extra_goes : OnlyExtraGoes
only_extra_goes old is id c found removed steps after made done =
    only_items old is (extra_marks (project old) c) (extras_may old is id c found) removed after (extra-is-removed old is id c found removed steps after made done)
