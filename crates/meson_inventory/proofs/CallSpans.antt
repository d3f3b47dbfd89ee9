-- The call at a place of a project, as code reads it.
use Rattle.std.proofs.Common.{◌≡◌, ◌∙◌, List, Some, sym, ap₂}
use Rattle.meson_splice.specs.declared.file_set.File.{File}
use Rattle.meson_syntax.specs.declared.tree.Parsed.{Parsed}
use Rattle.meson_calls.specs.declared.call.CallRef.{CallRef}
use Rattle.meson_calls.specs.Loading.{Loaded, named_trees, project, views}
use Rattle.meson_calls.specs.Project.{expression_at}
use Rattle.meson_details.specs.Called.{called_view}
use Rattle.meson_details.specs.declared.called.Called.{Called}

pub call_read : (l : Loaded) (files : List File) (trees : List Parsed) (place : CallRef) (called : Called) → files ≡ l.files → trees ≡ l.parsed
    → expression_at (named_trees files (views files trees)) place ≡ Some (called_view called) → expression_at (project l) place ≡ Some (called_view called)
call_read l files trees place called same trees-same at = ap₂ (λ fs ts. expression_at (named_trees fs (views fs ts)) place) (sym same) (sym trees-same) ∙ at
