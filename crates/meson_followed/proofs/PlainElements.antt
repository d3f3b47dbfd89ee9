-- The elements without a name in the list at a place, counted.
use Rattle.std.proofs.Common.{◌≡◌, ℕ, ◌<◌, ◌≤◌, List, [], length, get_or, refl, sym, ap, ◌∙◌}
use Rattle.std.specs.Prelude.{filter, Option, Some, None, option_map, option_and_then}
use Rattle.std.specs.Option.{option_map_or}
use Rattle.meson_lex.specs.declared.kinds.Span.{Span}
use Rattle.meson_splice.specs.Files.{bytes_at}
use Rattle.meson_splice.specs.declared.file_set.File as files
use Rattle.meson_syntax.specs.declared.tree.List as rust
use Rattle.meson_syntax.specs.declared.tree.Parsed.{Parsed}
use Rattle.meson_syntax.specs.Paths.{ListAt, ListIn, expression_on_path, list_at, list_in}
use Rattle.meson_syntax.specs.Tree.{Argument, Expression, File, Listing}
use Rattle.meson_syntax.specs.View.{args_view, list_view, view}
use Rattle.meson_syntax.proofs.PathNodes.{list-reached}
use Rattle.meson_edit.specs.Edits.{elements}
use Rattle.meson_edit.proofs.lists.CodeElements.{list_elements}
use Rattle.meson_calls.specs.declared.call.CallRef.{CallRef}
use Rattle.meson_calls.specs.Loading.{loaded_from, project}
use Rattle.meson_calls.specs.Project.{BuildFile, Project}
use Rattle.meson_calls.proofs.Standing.{nth_past, nth_there}
use Rattle.meson_sources.specs.SourceEdits.{is_plain, plain_len}

abbrev elements_or_none : Option (Listing Span) → List (Argument Span)
elements_or_none l = option_map_or elements l []

abbrev elements_of : Option (ListIn Span) → List (Argument Span)
elements_of o = option_map_or (λ (l : ListIn Span). elements l.list) o []

by_list : (o : Option (ListIn Span)) → elements_of o ≡ elements_or_none (option_map (λ (l : ListIn Span). l.list) o)
by_list None = refl
by_list (Some l) = refl

by_expression : (o : Option (Expression Span))
    → elements_of (option_and_then list_in o) ≡ elements_or_none (option_and_then (λ e. option_map (λ (l : ListIn Span). l.list) (list_in e)) o)
by_expression None = refl
by_expression (Some e) = by_list (list_in e)

on_path : (f : File Span) (path : List ℕ)
    → elements_of (option_and_then list_in (expression_on_path f path)) ≡ elements_or_none (option_map (λ (q : ListAt Span). q.list) (list_at f path))
on_path f path = by_expression (expression_on_path f path) ∙ sym (ap elements_or_none (list-reached Span f path))

module _ (fs : List files.File) (trees : List Parsed) (c : CallRef) where
  abbrev p : Project Span
  p = project (loaded_from fs trees)

  abbrev count_of : Option (BuildFile Span) → ℕ
  count_of f = length (filter is_plain (elements_of (option_and_then list_in (option_and_then (λ g. expression_on_path g.tree c.path.steps) f))))

  pub none_plain : length trees ≤ c.file → 0 ≡ plain_len p c
  none_plain past = sym (ap count_of (nth_past fs trees c.file past))

  module _ (d : Parsed) (many : length trees ≡ length fs) (within : c.file < length trees) where
    abbrev source : List ℕ
    source = bytes_at c.file fs

    abbrev there : Option (Listing Span)
    there = option_map (λ (q : ListAt Span). q.list) (list_at (view source (get_or trees c.file d)) c.path.steps)

    pub plain_in : (o : Option (Listing Span)) → o ≡ there → length (filter is_plain (elements_or_none o)) ≡ plain_len p c
    plain_in o is =
        ap (λ l. length (filter is_plain (elements_or_none l))) is
        ∙ ap (λ es. length (filter is_plain es)) (sym (on_path (view source (get_or trees c.file d)) c.path.steps))
        ∙ sym (ap count_of (nth_there fs trees c.file d many within))

    pub plain_in_list : (l : rust.List) → Some (list_view source l) ≡ there
        → length (filter is_plain (args_view source (rust.out-List l).items)) ≡ plain_len p c
    plain_in_list l is = ap (λ es. length (filter is_plain es)) (sym (list_elements source l)) ∙ plain_in (Some (list_view source l)) is
