-- The build file of a number, as the code reads it from its project.
use Rattle.std.proofs.Common.{◌≡◌, ◌∙◌, ℕ, ◌<◌, List, [], length, get_or, Some, sym, ap, ap₂, subst, arith}
use Rattle.std.specs.Prelude.{Option}
use Rattle.std.proofs.lemmas.List.Elements.{All-get_or}
use Rattle.meson_lex.specs.declared.kinds.Span.{Span}
use Rattle.meson_splice.specs.declared.file_set.File.{File}
use Rattle.meson_splice.specs.Files.{bytes_at}
use Rattle.meson_syntax.specs.declared.tree.Parsed.{Parsed}
use Rattle.meson_syntax.specs.Reads.{IsSpanned}
use Rattle.meson_syntax.specs.View.{view}
use Rattle.meson_calls.specs.Folders.{IsFileName}
use Rattle.meson_calls.specs.Loading.{HasFileName, IsProject, Loaded, name_of_file, project}
use Rattle.meson_calls.specs.Project.{BuildFile, nth_file}
use Rattle.meson_calls.proofs.CallsAt.{spanned_at}
use Rattle.meson_calls.proofs.Loads.{as_many}
use Rattle.meson_calls.proofs.Standing.{nth_there}
use Rattle.meson_listing.proofs.Names.{name_there}

pub nobody : File
nobody = record { name = []; bytes = [] }

abbrev file_from : List ℕ → List ℕ → Parsed → Option (BuildFile Span)
file_from name bytes tree = Some (record { name = name; tree = view bytes tree })

module _ (l : Loaded) (is : IsProject l) (i : ℕ) (within : i < length l.parsed) where
  pub below : i < length l.files
  below = let many = as_many l.files l.parsed is.parsed in omega (arith, many, within)

  module _ (name bytes : List ℕ) (tree : Parsed) (named : name ≡ name_of_file i l.files) (held : bytes ≡ bytes_at i l.files) (stands : tree ≡ get_or l.parsed i tree) where
    pub file_there : nth_file (project l) i ≡ file_from name bytes tree
    file_there =
        nth_there l.files l.parsed i tree (as_many l.files l.parsed is.parsed) within
        ∙ sym (ap (λ n. file_from n bytes tree) named ∙ ap₂ (file_from (name_of_file i l.files)) held stands)

    pub file_good : IsFileName name × IsSpanned bytes (view bytes tree)
    file_good = (
      subst IsFileName (name_there l.files i nobody below ∙ sym named) (All-get_or HasFileName l.files i nobody below is.named),
      subst (λ b. IsSpanned b (view b tree)) (sym held)
          (subst (λ t. IsSpanned (bytes_at i l.files) (view (bytes_at i l.files) t)) (sym stands) (spanned_at l.files l.parsed i tree within is.parsed)),
    )
