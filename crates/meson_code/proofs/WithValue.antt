-- The statement that is an expression, or assigns it.
use Rattle.std.proofs.Common.{◌≡◌, ◌<◌, ◌≤◌, List, Option, Some, None, get_or, length, sym, ap, ◌∙◌}
use Rattle.std.specs.Prelude.{true, false, if◌then◌else◌, option_and_then}
use Rattle.meson_lex.specs.declared.kinds.Span.{Span}
use Rattle.meson_splice.specs.Files.{bytes_at}
use Rattle.meson_splice.specs.declared.file_set.File.{File}
use Rattle.meson_syntax.specs.Tree.{Statement}
use Rattle.meson_syntax.specs.View.{view}
use Rattle.meson_syntax.specs.declared.tree.Parsed.{Parsed}
use Rattle.meson_edit.specs.Blocks.{block_at, statement_in}
use Rattle.meson_calls.specs.declared.call.CallRef.{CallRef}
use Rattle.meson_calls.specs.Loading.{named_trees, views}
use Rattle.meson_calls.specs.Project.{Project}
use Rattle.meson_calls.proofs.Standing.{nth_past, nth_there}
use Rattle.meson_targets.specs.TargetEdits.{StatementPlace, statement_of, statement_there}
use Rattle.meson_code.specs.Anchors.{holds_value, if_holds_value, statement_with}
use Rattle.meson_code.proofs.Placed.{at_file}

-- ---- the statement there

module _ (files : List File) (trees : List Parsed) (a : StatementPlace) where
  pub none_there : length trees ≤ a.block.file → statement_there (named_trees files (views files trees)) a ≡ None
  none_there past = ap (option_and_then (at_file a)) (nth_past files trees a.block.file past)

  pub found_there : (d : Parsed) → length trees ≡ length files → a.block.file < length trees
      → statement_there (named_trees files (views files trees)) a
      ≡ option_and_then (λ b. statement_in b.inside a.number) (block_at (view (bytes_at a.block.file files) (get_or trees a.block.file d)) a.block.path.steps)
  found_there d many within = ap (option_and_then (at_file a)) (nth_there files trees a.block.file d many within)

-- ---- whether it holds a value

module _ (p : Project Span) (c : CallRef) (a : StatementPlace) (of : Some a ≡ statement_of c) where
  holder : (o : Option (Statement Span)) → statement_there p a ≡ o → if_holds_value a o ≡ statement_with p c
  holder o is = ap (if_holds_value a) (sym is) ∙ ap (option_and_then (λ b. if_holds_value b (statement_there p b))) of

  pub no_statement : statement_there p a ≡ None → None ≡ statement_with p c
  no_statement is = holder None is

  pub with_value : (x : Statement Span) → statement_there p a ≡ Some x → holds_value x ≡ true → Some a ≡ statement_with p c
  with_value x is holds = sym (ap (λ t. if t then Some a else None) holds) ∙ holder (Some x) is

  pub without_value : (x : Statement Span) → statement_there p a ≡ Some x → holds_value x ≡ false → None ≡ statement_with p c
  without_value x is holds = sym (ap (λ t. if t then Some a else None) holds) ∙ holder (Some x) is
