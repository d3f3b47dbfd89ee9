-- The words of other modules that most proofs of this crate use.
pub use Rattle.std.specs.List.{cons_option, filter_map, list_all, list_any, position_or_len}
pub use Rattle.std.specs.Prelude.{All, Bool, bytes_eq, cond, Err, IfOk, if◌then◌else◌, nat_eq, nat_lt, not, Ok, ok_or, OnOk, option_and_then, option_map}
pub use Rattle.std.specs.Prelude.{position, Result, string_bytes, ◌&&◌, ◌||◌, ◌⊎◌}
pub use Rattle.std.specs.Str.{IsUtf8}
pub use Rattle.std.proofs.Common.{[], ap, append-nil, append_assoc, ap₂, arith, codes, drop, false, get_or, inl, inr, length, List, map, None, Option, refl}
pub use Rattle.std.proofs.Common.{Some, subst, suc, sym, take, true, zero, ℕ, ◌++◌, ◌+◌, ◌-◌, ◌<◌, ◌∙◌, ◌∷◌, ◌≡◌, ◌≤◌}
pub use Rattle.std.proofs.lemmas.Bool.{eqb-false, eqb-true}
pub use Rattle.std.proofs.lemmas.List.Elements.{All-cons, All-head, All-set, All-tail, filter_map-append}
pub use Rattle.std.proofs.lemmas.Result.{err_from_is_err_and}
pub use Rattle.std.proofs.lemmas.Slice.Eq.{bytes_eq-Decides}
pub use Rattle.meson_splice.specs.Files.{bytes_at, position_of_file}
pub use Rattle.meson_splice.specs.Patch.{then_ok}
pub use Rattle.meson_splice.specs.declared.file_set.File.{File}
pub use Rattle.meson_lex.specs.Kinds.{IsIdentifier, IsNoneOf, IsWord, reserved}
pub use Rattle.meson_lex.specs.Literals.{literal}
pub use Rattle.meson_lex.specs.Significant.{new_line, Word}
pub use Rattle.meson_lex.specs.declared.kinds.Span.{Span}
pub use Rattle.meson_lex.proofs.Written.{literal_return, literal_string, literal_value}
pub use Rattle.meson_syntax.specs.Children.{a_block, a_statement, an_expression, Any}
pub use Rattle.meson_syntax.specs.Grammar.{block_depth, block_words, file_depth, file_words, LevelArguments, LevelBlock, LevelFile, LevelStatement}
pub use Rattle.meson_syntax.specs.Grammar.{statement_depth, statement_words, statements_depth, statements_words}
pub use Rattle.meson_syntax.specs.Paths.{around, block_of, Hole, Node, node_words, nth, of_block, of_expression, of_statement, reach, Sort}
pub use Rattle.meson_syntax.specs.Tree.{arguments_of, assign, Block, block, Branches, breaks, call, continues, erase, erase_block, erase_expression}
pub use Rattle.meson_syntax.specs.Tree.{erase_listing, erase_statement, erase_statements, evaluate, Expression, file, identifier, iteration, Name}
pub use Rattle.meson_syntax.specs.Tree.{no_statements, Nowhere, Otherwise, Plain, plain, selection, Statement, statement, statement_list, Statements}
pub use Rattle.meson_syntax.specs.View.{list_view, stmt_view, text_at, view}
pub use Rattle.meson_syntax.specs.declared.tree.Parsed.{Parsed}
pub use Rattle.meson_syntax.specs.inside.Children.{any_of, block_parts, child_nodes, expression_any, node_at, statement_parts, statements_parts}
pub use Rattle.meson_syntax.proofs.parsing.Steps.{some-injective}
pub use Rattle.meson_syntax.proofs.paths.Every.{Every, every-nth}
pub use Rattle.meson_syntax.proofs.paths.Reaching.{and-then-some, map-some, reach-fits, Reaches}
pub use Rattle.meson_layout.specs.declared.primitive.BlankLines.{BlankLines}
pub use Rattle.meson_layout.specs.declared.primitive.BlankLines.TheVariants.{Stay}
pub use Rattle.meson_edit.specs.Blocks.{all_but, and_last, block_at, block_of_node, block_without, BlockAt, file_and_last, statement_in}
pub use Rattle.meson_edit.specs.Edits.{Append, Edit, edited, RemoveStatement, Written}
pub use Rattle.meson_edit.specs.Places.{IsWrittenStatement, Writes}
pub use Rattle.meson_edit.proofs.paths.Erased.{blocks-erase}
pub use Rattle.meson_calls.specs.Calls.{all_chosen, Call, call_of, chosen, first_literal, is, part_call}
pub use Rattle.meson_calls.specs.Finding.{only_one}
pub use Rattle.meson_calls.specs.Loading.{AreParsed, IsProject, Loaded, named_trees, project, views}
pub use Rattle.meson_calls.specs.Naming.{assigned_values, or_else, part_set_to, value_of_assignment, values_among, with_name}
pub use Rattle.meson_calls.specs.NotedProjects.{project_in}
pub use Rattle.meson_calls.specs.Notes.{Note, note_of, note_view, note_views, noted, notes}
pub use Rattle.meson_calls.specs.Parts.{Part, parts, parts_from, parts_of_arguments, parts_of_expression, parts_of_file, parts_of_listing, parts_of_statement}
pub use Rattle.meson_calls.specs.Parts.{parts_of_statements}
pub use Rattle.meson_calls.specs.Project.{BuildFile, child, nth_file, place, Placed, placed, Project}
pub use Rattle.meson_calls.specs.Roles.{has_role, one_of, places, role_calls, role_calls_among, target_functions, with_role}
pub use Rattle.meson_calls.specs.Strings.{AreGood, note_words}
pub use Rattle.meson_calls.specs.Walks.{keeper_view, part_reads, read_in, reads_kept, with_parts}
pub use Rattle.meson_calls.specs.declared.call.CallRef.{CallRef}
pub use Rattle.meson_calls.specs.declared.refusal.Refusal.{Refusal}
pub use Rattle.meson_calls.specs.declared.refusal.Refusal.TheVariants.{NameTaken, NoFile, NotStatement, WrongKind}
pub use Rattle.meson_calls.proofs.CallsReached.{every_chosen, every_part, InProject}
pub use Rattle.meson_calls.proofs.GoodNotes.{good_at, taken_good}
pub use Rattle.meson_calls.proofs.Loads.{as_many}
pub use Rattle.meson_calls.proofs.NotedCalls.{none_noted, noted_good, same_place}
pub use Rattle.meson_calls.proofs.nodes.PartsBelow.{any, itself, parts_are, parts_below, parts_of}
pub use Rattle.meson_calls.proofs.nodes.Sorts.{IsExpression, IsOther, may_stand}
pub use Rattle.meson_steps.specs.ListSteps.{AreDoable, MayStandBetween, none, one}
pub use Rattle.meson_steps.specs.Meanings.{AreMeant}
pub use Rattle.meson_steps.specs.Names.{checked_names, distinct}
pub use Rattle.meson_steps.specs.ResultLimits.{plain_trees}
pub use Rattle.meson_steps.specs.Steps.{all_stepped, changed_at, Step}
pub use Rattle.meson_steps.specs.WrittenTexts.{comma_between, string_of}
pub use Rattle.meson_steps.specs.declared.step.ListStep.{ListStep}
pub use Rattle.meson_steps.specs.inside.Layers.{block_any}
pub use Rattle.meson_steps.proofs.BlockNodes.{block_reached, no_block_reached}
pub use Rattle.meson_steps.proofs.ErasedParts.{bare_call, bare_part, bare_placed, name_alike, named_alike, named_among, parts_erased, role_alike}
pub use Rattle.meson_steps.proofs.PlainTrees.{tree_there, trees_stand}
pub use Rattle.meson_steps.proofs.SetLiterals.{all_texts, behind, flagged, inner, inner_items, inner_joined, inner_words, more_between, strings, strings_flat}
pub use Rattle.meson_steps.proofs.SetLiterals.{Texts, texts_text}
pub use Rattle.meson_steps.proofs.WentWell.{then_was}
pub use Rattle.meson_steps.proofs.WithOne.{all_nth, change_made, change_there, ChangeMade}
pub use Rattle.meson_targets.specs.Effects.{AddedTargetsAreNamed, block_statements, call_with_texts, CallsGone, RemovedTargetsAreGone, StatementGone}
pub use Rattle.meson_targets.specs.TargetEdits.{append_steps, call_removed, call_uses, checked_kind, file_number, file_of_folder, goes_through, Held, held_by}
pub use Rattle.meson_targets.specs.TargetEdits.{Holder, holder, is_target_kind, is_used_outside, kind_key, name_set, named_removed, not_in_use, not_taken}
pub use Rattle.meson_targets.specs.TargetEdits.{number_in, part_uses, set_to, statement_of, statement_path, statement_removal, statement_there, StatementPlace}
pub use Rattle.meson_targets.specs.TargetEdits.{target_added, target_removed, target_statement, targets_among, targets_named, variable_functions, variable_of, written_target}
pub use Rattle.meson_targets.specs.inside.TargetViews.{held_view, holder_view, IsNamed, place_view}
pub use Rattle.meson_targets.specs.inside.Uses.{is_noted_outside, is_outside, is_read_outside, note_uses}
