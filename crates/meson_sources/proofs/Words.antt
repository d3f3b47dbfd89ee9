-- The words of the crates below that the proofs of this crate use.
pub use Rattle.std.specs.List.{cons_option, Contains, count_by, filter, filter_map, list_any}
pub use Rattle.std.specs.Prelude.{All, AllPairs, bytes_eq, codes, cond, Err, IfErr, IfOk, if◌then◌else◌, is_none, is_some, nat_eq, nat_lt, not, Ok, ok_or, OnOk}
pub use Rattle.std.specs.Prelude.{option_and_then, option_map, Result, reverse, slice_index_or, slice_set, ⊤, ◌&&◌, ◌||◌, ◌⊎◌}
pub use Rattle.std.proofs.Common.{[], add-one, ap, append-nil, append_assoc, ap₂, arith, Bool, drop, false, get_or, inl, inr, IsUtf8, length, length-append}
pub use Rattle.std.proofs.Common.{List, map, None, Option, refl, rules, Some, subst, suc, sym, take, true, zero, zero-add, ℕ, ◌++◌, ◌+◌, ◌-◌, ◌<◌, ◌∙◌, ◌∷◌}
pub use Rattle.std.proofs.Common.{◌≡◌, ◌≢◌, ◌≤◌}
pub use Rattle.std.proofs.Math.Seq.{drop-cons, take-suc}
pub use Rattle.std.proofs.lemmas.Bool.{eq-eqb, eqb-true, ltb-false, ltb-true, ne_eqb, or_left, or_right}
pub use Rattle.std.proofs.lemmas.List.{append_cancel_left, at_drop_all, at_drop_more, length-drop, length-map, map-append, reverse-append, take_all}
pub use Rattle.std.proofs.lemmas.List.Elements.{All-cons, All-filter, All-head, All-nil, All-set, All-tail, filter_map-append}
pub use Rattle.std.proofs.lemmas.Result.{err_from_is_err_and}
pub use Rattle.std.proofs.lemmas.Slice.Eq.{bytes_eq-Decides}
pub use Rattle.meson_lex.specs.Literals.{literal, value}
pub use Rattle.meson_lex.specs.Significant.{new_line, Word}
pub use Rattle.meson_lex.specs.declared.kinds.Span.{Span}
pub use Rattle.meson_splice.specs.Files.{bytes_at}
pub use Rattle.meson_splice.specs.Patch.{then_ok}
pub use Rattle.meson_splice.specs.declared.file_set.File.{File}
pub use Rattle.meson_syntax.specs.Children.{a_block, a_statement, an_expression, Any, argument_parts, arguments_parts, branches_parts, listing_parts}
pub use Rattle.meson_syntax.specs.Children.{tail_parts}
pub use Rattle.meson_syntax.specs.Grammar.{argument_words, arguments_words, block_words, branches_words, comma_words, expression_words, file_depth, Flagged}
pub use Rattle.meson_syntax.specs.Grammar.{LevelArguments, LevelBlock, LevelBranches, LevelExpression, LevelFile, LevelListing, LevelOperands, LevelOtherwise}
pub use Rattle.meson_syntax.specs.Grammar.{LevelStatement, LevelStatements, LevelTail, LevelTails, mark, operator_words, otherwise_words, statement_words}
pub use Rattle.meson_syntax.specs.Grammar.{tail_words, tails_words}
pub use Rattle.meson_syntax.specs.Operators.{closes, holds_names, holds_pairs, holds_values, opens, string_kind}
pub use Rattle.meson_syntax.specs.Paths.{all_around, argument_children, arguments_children, around, block_children, block_of, branches_children, children}
pub use Rattle.meson_syntax.specs.Paths.{expression_children, expression_of, expression_on_path, Hole, list_at, list_in, list_of_node, list_within, ListAt}
pub use Rattle.meson_syntax.specs.Paths.{ListIn, listing_children, Node, nth, nth_hole, of_block, of_expression, of_statement, operands_children}
pub use Rattle.meson_syntax.specs.Paths.{otherwise_children, reach, Sort, statement_children, statements_children, tail_children, tails_children, value_of}
pub use Rattle.meson_syntax.specs.Tree.{Argument, argument, argument_list, Arguments, arguments_of, array, assign, bare_name, Block, block, boolean, branch}
pub use Rattle.meson_syntax.specs.Tree.{Branches, call, conditional, dictionary, erase, erase_argument, erase_arguments, erase_expression, erase_listing}
pub use Rattle.meson_syntax.specs.Tree.{erase_name, erase_names, erase_operands, erase_statement, evaluate, Expression, file, identifier, index, is_named}
pub use Rattle.meson_syntax.specs.Tree.{iteration, Listing, listing, method, Name, named, no_arguments, no_branches, no_operands, no_statements, no_tails}
pub use Rattle.meson_syntax.specs.Tree.{nothing_else, Nowhere, operand, Operands, Otherwise, otherwise, pair, paren, Plain, plain, postfix, row, selection}
pub use Rattle.meson_syntax.specs.Tree.{Statement, statement, Statements, string, Tail, tail, Tails, unary}
pub use Rattle.meson_syntax.specs.View.{arg_view, args_view, expr_view, list_view, view}
pub use Rattle.meson_syntax.specs.declared.operator.Assignment.{Assignment}
pub use Rattle.meson_syntax.specs.declared.operator.Bracket.{Bracket}
pub use Rattle.meson_syntax.specs.declared.operator.StringKind.{StringKind}
pub use Rattle.meson_syntax.specs.declared.tree.Parsed.{Parsed}
pub use Rattle.meson_syntax.specs.inside.Children.{any_of, child_nodes, expression_any, expression_parts, node_at, operands_parts, otherwise_parts}
pub use Rattle.meson_syntax.specs.inside.Children.{statements_parts, tails_parts}
pub use Rattle.meson_syntax.proofs.PathNodes.{expression-reached, list-reached}
pub use Rattle.meson_syntax.proofs.parsing.Complete.{list-of-arguments}
pub use Rattle.meson_syntax.proofs.parsing.Steps.{some-injective}
pub use Rattle.meson_syntax.proofs.paths.Every.{Every, every-append, every-around, every-nth}
pub use Rattle.meson_syntax.proofs.paths.Reaching.{and-then-some, list-fits, map-some, reach-fits}
pub use Rattle.meson_edit.specs.Edits.{After, array_of, Edit, edited, edited_elements, edited_list, element_added, element_removed, elements, exchanged, First}
pub use Rattle.meson_edit.specs.Edits.{first_element, is_empty, Remove, with_elements, with_value, Wrap, Written}
pub use Rattle.meson_edit.proofs.paths.Positions.{every-at-append, every-at-nth, EveryAt, length-around}
pub use Rattle.meson_edit.proofs.paths.PutThere.{lists-stay}
pub use Rattle.meson_edit.proofs.sequences.Levelled.{insertions-keep-levels, removals-keep-levels, wraps-keep-levels}
pub use Rattle.meson_calls.specs.CallPlaces.{CallIn, CallThere, ListThere}
pub use Rattle.meson_calls.specs.Calls.{all_chosen, Call, call_of, first_argument, first_literal, first_of, is, kept_number, keyword, literal_of, Numbered}
pub use Rattle.meson_calls.specs.Calls.{numbered, numbered_arguments, part_call, positional, value_with_name, value_without_name}
pub use Rattle.meson_calls.specs.ChosenNotes.{call_with, placed_call}
pub use Rattle.meson_calls.specs.Finding.{only_one, the_call}
pub use Rattle.meson_calls.specs.Loading.{AreParsed, IsProject, Loaded, named_trees, project, trees, views}
pub use Rattle.meson_calls.specs.NamedArguments.{IsFirstNamed, kept_args, kwargs_key, not_hidden, once, rest, sources_key}
pub use Rattle.meson_calls.specs.NotedProjects.{IsNotedFor, loaded_in, project_in}
pub use Rattle.meson_calls.specs.Notes.{is_set, note_views}
pub use Rattle.meson_calls.specs.Parts.{Part, parts, parts_from, parts_of_file}
pub use Rattle.meson_calls.specs.Project.{BuildFile, child, expression_at, nth_file, place, place_at, Placed, placed, Project}
pub use Rattle.meson_calls.specs.Roles.{has_role, is_target_call, one_of, target_functions, with_role}
pub use Rattle.meson_calls.specs.declared.call.CallRef.{CallRef}
pub use Rattle.meson_calls.specs.declared.refusal.Refusal.{Refusal}
pub use Rattle.meson_calls.specs.declared.refusal.Refusal.TheVariants.{DuplicateKeyword, NotRemovable, OutOfMemory}
pub use Rattle.meson_calls.proofs.AtMostOnce.{once_few, once_twice}
pub use Rattle.meson_calls.proofs.CallsFound.{CallAt, calls_stand, role_found, RoleAt}
pub use Rattle.meson_calls.proofs.ExpressionsAt.{assigned_stands, child_stands, list_here}
pub use Rattle.meson_calls.proofs.KeywordArguments.{keyword_is}
pub use Rattle.meson_calls.proofs.ListNodes.{list_node, list_of, plain_holds, value_below, values_no_pairs}
pub use Rattle.meson_calls.proofs.nodes.Erased.{children_erased, erase_any}
pub use Rattle.meson_calls.proofs.nodes.Induction.{by_children, by_each_child, Each}
pub use Rattle.meson_calls.proofs.nodes.PartsBelow.{any, itself, parts_are, parts_below, parts_of}
pub use Rattle.meson_variables.specs.CodeVariables.{project_of}
pub use Rattle.meson_variables.specs.ExpandedArguments.{all_gathered, arguments_by}
pub use Rattle.meson_variables.specs.Expansion.{are_plus, both_expanded, element, empty, expand, expand_argument, expand_by, expand_each, expand_listing}
pub use Rattle.meson_variables.specs.Expansion.{expand_operands, Expansion, fixed, follow_single, has_names, in_list, is_files, is_list_operand}
pub use Rattle.meson_variables.specs.Expansion.{is_list_variable, is_operand_by, is_plus, is_single_by, is_value_by, Item, known, literal_item, Mark}
pub use Rattle.meson_variables.specs.Expansion.{max_followed, met, nothing_met, of_variable, opaque, operand_at, or_empty, Slot, Stand, then_expand, within}
pub use Rattle.meson_variables.specs.Tallies.{all_marked, expanded, gathered, no_marks, number_of_slot, Tally}
pub use Rattle.meson_variables.specs.TargetSources.{expand_arguments, first_empty, first_list, hidden, home, items, list_of_slot, opaque_count, or_call}
pub use Rattle.meson_variables.specs.TargetSources.{or_option, source_item, source_marks, sources, sources_of_call, sources_of_marks}
pub use Rattle.meson_variables.specs.Variables.{all_known, Assigned, assigned_by, assignments, is_iterated, is_outermost, is_set_otherwise, one_of_names}
pub use Rattle.meson_variables.specs.Variables.{only_value, part_assigned, sets_unknown, sets_variable, single}
pub use Rattle.meson_variables.specs.declared.source.SourceItem.{SourceItem}
pub use Rattle.meson_variables.proofs.Answered.{arguments_are, gathered_marks, tally_is}
pub use Rattle.meson_steps.specs.ListSteps.{AreDoable, bare, MayStandBetween, none, one}
pub use Rattle.meson_steps.specs.Meanings.{AreBehind, AreMeant}
pub use Rattle.meson_steps.specs.Names.{checked_names, distinct, distinct_by}
pub use Rattle.meson_steps.specs.ResultLimits.{plain_trees}
pub use Rattle.meson_steps.specs.Steps.{all_stepped, Step, step_in, stepped}
pub use Rattle.meson_steps.specs.WrittenTexts.{string_of, written_texts}
pub use Rattle.meson_steps.specs.declared.step.ListStep.{ListStep}
pub use Rattle.meson_steps.proofs.Insertable.{edited_there, elements_back, elements_with, grown_behind, grown_first, nth_inserted, Room, there_again}
pub use Rattle.meson_steps.proofs.PartsPut.{branches_count, children_put, Differ, differ_new, differ_old, differ_other, here, PutsAmong, tail_count, there}
pub use Rattle.meson_steps.proofs.PlainTrees.{element_erased, empty_erased, parsed_shallow, plain_place, PlainPlace, tree_is, tree_there, trees_stand}
pub use Rattle.meson_steps.proofs.PlainTrees.{value_erased}
pub use Rattle.meson_steps.proofs.WentWell.{once_was, then_was}
pub use Rattle.meson_steps.proofs.WithOne.{all_nth, change_made, change_there, changed_there}
pub use Rattle.meson_sources.specs.Effects.{AreSpotsOf, ArgumentComes, ArgumentGrows, ArgumentHolds, array_holding, element_spot, elements_found}
pub use Rattle.meson_sources.specs.Effects.{extra_argument, ExtraComes, ExtraIsAdded, ExtraIsRemoved, goes, has_one_of, is_at, ListGets, NamesGo, not_plain}
pub use Rattle.meson_sources.specs.Effects.{OnlyList, same_spot, SourcesAreAdded, SourcesAreRemoved, strings, trees_without}
pub use Rattle.meson_sources.specs.Extras.{extra_files, extra_of_call}
pub use Rattle.meson_sources.specs.SourceEdits.{array_with, behind_value, checked_extra, elements_there, extra_added, extra_inserted, extra_key, extra_marks}
pub use Rattle.meson_sources.specs.SourceEdits.{extra_removed, has_text, inserted_in, insertion_steps, into_new_list, is_before, is_known, is_path, is_plain}
pub use Rattle.meson_sources.specs.SourceEdits.{items_of, new_names, number_without, path_without, plain_len, removal, removal_steps, removals_after}
pub use Rattle.meson_sources.specs.SourceEdits.{removed_at, sources_added, sources_removed, Spot, spot_of, spot_without, spots_by, spots_named, spots_of}
pub use Rattle.meson_sources.specs.SourceEdits.{without_home, written_keyword, written_source}
pub use Rattle.meson_sources.specs.Targeted.{change_steps, target_steps}
pub use Rattle.meson_sources.specs.WholeSources.{AllSourcesGrow, AllSourcesShrink, file_names, FilesGrow, FilesShrink, Reading, source_texts, TextsCome}
pub use Rattle.meson_sources.specs.Without.{arguments_without, block_without, branches_without, but, each_without, expression_without, from_child, Gone}
pub use Rattle.meson_sources.specs.Without.{listing_without, operands_without, otherwise_without, statement_without, statements_without, tail_without}
pub use Rattle.meson_sources.specs.Without.{tails_without, tree_without}
pub use Rattle.meson_sources.specs.inside.CodeSpots.{all_spots_in, all_there, before_all, is_some_there, joined_spots, spot_if_there, spot_view, spots_at}
pub use Rattle.meson_sources.specs.inside.CodeSpots.{spots_from, spots_in, spots_of_names}
pub use Rattle.meson_sources.specs.inside.Naming.{has_value, new_among}
pub use Rattle.meson_sources.specs.inside.Targeted.{extra_gathered, lone_or_new, new_list_steps}
