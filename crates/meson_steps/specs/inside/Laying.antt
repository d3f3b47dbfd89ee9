-- The splices of one step.
use Rattle.std.specs.Prelude.{◌≡◌, List, Some}
use Rattle.meson_lex.specs.Items.{Lexeme, IsItemList}
use Rattle.meson_layout.specs.declared.primitive.Primitive.{Primitive}
use Rattle.meson_layout.specs.Layout.{layout_of}
use Rattle.meson_splice.specs.declared.file_set.File.{File}
use Rattle.meson_splice.specs.declared.splice.Splice.{Splice}
use Rattle.meson_splice.specs.Files.{bytes_at}
use Rattle.meson_syntax.specs.declared.tree.Parsed.{Parsed}
use Rattle.meson_syntax.specs.View.{view}
use Rattle.meson_calls.specs.Loading.{name_of_file}
use Rattle.meson_steps.specs.declared.step.ListStep.{ListStep}
use Rattle.meson_steps.specs.Steps.{effective}
use Rattle.meson_steps.specs.inside.Working.{placed_edit}

-- Splices lay out the edit of a step in the tree `t` of its file, but for those that change nothing.
pub record AreLaid (files : List File) (t : Parsed) (step : ListStep) (splices : List Splice) : Type 0 where
  pub primitive : Primitive
  pub is_primitive : Some primitive ≡ placed_edit (view (bytes_at step.list.file files) t) step.list.path.steps step.edit
  pub are : (items : List Lexeme) → IsItemList (bytes_at step.list.file files) items
      → splices ≡ effective (layout_of (name_of_file step.list.file files) items primitive)
