-- The words of other modules that most proofs of this crate use.
pub use Rattle.std.specs.List.{AllByRecursion, cons_option, filter, filter_map, list_all, list_any}
pub use Rattle.std.specs.Prelude.{All, Bool, bytes_eq, cond, Err, IfOk, if◌then◌else◌, is_none, is_some, IsTrue, max, not, Ok, ok_or, OnOk, option_and_then}
pub use Rattle.std.specs.Prelude.{option_map, Result, reverse, slice_set, Some, unwrap_or, ◌&&◌, ◌==◌, ◌||◌, ◌↔◌, ◌≢◌}
pub use Rattle.std.specs.Str.{IsUtf8}
pub use Rattle.std.specs.Vec.Iter.{into_iter_items}
pub use Rattle.std.proofs.Common.{[], add-one, ap, append_assoc, ap₂, arith, codes, drop, false, get_or, length, length-append, List, map, None, Option, refl}
pub use Rattle.std.proofs.Common.{rules, subst, subst₂, suc, sym, take, true, zero, ℕ, ◌++◌, ◌+◌, ◌-◌, ◌<◌, ◌∙◌, ◌∷◌, ◌≡◌, ◌≤◌}
pub use Rattle.std.proofs.Math.Seq.{drop-cons, take-append_seam}
pub use Rattle.std.proofs.lemmas.Bool.{and_from, and_parts, or_left}
pub use Rattle.std.proofs.lemmas.Grind.{common_steps}
pub use Rattle.std.proofs.lemmas.List.{append-nil, drop_all, get_or-map, length-map, map-append, nil_from_length, reverse-append, take_all}
pub use Rattle.std.proofs.lemmas.List.Elements.{All-cons, All-head, All-nil, All-set, All-tail, filter-append, filter_map-append}
pub use Rattle.std.proofs.lemmas.Result.{err_from_is_err_and, IfOk-weaker}
pub use Rattle.std.proofs.lemmas.Slice.Eq.{bytes_eq-Decides}
pub use Rattle.std.proofs.lemmas.Str.{IsUtf8-append}
pub use Rattle.meson_splice.specs.Files.{bytes_at}
pub use Rattle.meson_splice.specs.Patch.{then_ok}
pub use Rattle.meson_splice.specs.declared.file_set.File.{File}
pub use Rattle.meson_lex.specs.Bytes.{begins, first_bare_return, is_blank, is_quote, is_word_byte}
pub use Rattle.meson_lex.specs.Items.{AreItems, IsItem, joined, Lexeme}
pub use Rattle.meson_lex.specs.Kinds.{IsIdentifier, IsNoneOf, IsWord, reserved, spelling}
pub use Rattle.meson_lex.specs.Literals.{literal}
pub use Rattle.meson_lex.specs.Significant.{role, Word}
pub use Rattle.meson_lex.specs.Words.{IsTight, speaks, spoken}
pub use Rattle.meson_lex.specs.declared.kinds.Kind.{Kind}
pub use Rattle.meson_lex.specs.declared.kinds.Span.{Span}
pub use Rattle.meson_lex.proofs.Written.{literal_return, literal_string, literal_text, literal_value}
pub use Rattle.meson_layout.specs.Pieces.{close_square, comma, open_square, space}
pub use Rattle.meson_layout.specs.Words.{remarks}
pub use Rattle.meson_layout.proofs.FirstBytes.{no_blank_first, some_text}
pub use Rattle.meson_syntax.specs.Grammar.{argument_depth, argument_words, arguments_depth, arguments_words, expression_depth, expression_words, file_depth}
pub use Rattle.meson_syntax.specs.Grammar.{file_words, Flagged, LevelArgument, LevelArguments, LevelExpression, LevelFile, listing_depth, listing_words, mark}
pub use Rattle.meson_syntax.specs.Operators.{boolean_kind, holds_pairs}
pub use Rattle.meson_syntax.specs.Paths.{list_at, ListAt, nth, value_of}
pub use Rattle.meson_syntax.specs.Tree.{Argument, Arguments, arguments_of, array, bare_name, dictionary, erase, erase_argument, erase_expression, erase_listing}
pub use Rattle.meson_syntax.specs.Tree.{Expression, identifier, Listing, listing, Name, named, Nowhere, pair, Plain, plain, string}
pub use Rattle.meson_syntax.specs.View.{arg_view, args_view, expr_view, list_view, view}
pub use Rattle.meson_syntax.specs.declared.tree.Arg.{Arg}
pub use Rattle.meson_syntax.specs.declared.tree.Parsed.{Parsed}
pub use Rattle.meson_syntax.proofs.parsing.Complete.{list-of-arguments}
pub use Rattle.meson_syntax.proofs.parsing.Steps.{some-injective}
pub use Rattle.meson_edit.specs.Edits.{After, array_of, Edit, edited, element_added, element_removed, elements, exchanged, First, Remove, Replace}
pub use Rattle.meson_edit.specs.Edits.{with_elements, with_value, Wrap, Written}
pub use Rattle.meson_edit.specs.Places.{IsWritten, Writes}
pub use Rattle.meson_edit.specs.Sequences.{MayFollow}
pub use Rattle.meson_edit.proofs.lists.CodeElements.{list_elements}
pub use Rattle.meson_edit.proofs.sequences.Levelled.{firsts-keep-levels, insertions-keep-levels, removals-keep-levels, replacements-keep-levels}
pub use Rattle.meson_edit.proofs.sequences.Levelled.{wraps-keep-levels}
pub use Rattle.meson_calls.specs.CallPlaces.{CallIn, CallThere}
pub use Rattle.meson_calls.specs.Calls.{Call, kept_number, keyword, literal_of, Numbered, numbered, value_with_name}
pub use Rattle.meson_calls.specs.ChosenNotes.{call_with, Source}
pub use Rattle.meson_calls.specs.GoodLists.{GoodArgs, GoodListing}
pub use Rattle.meson_calls.specs.Keys.{identifier_list_keys, switch_keys, text_keys, text_list_keys}
pub use Rattle.meson_calls.specs.Loading.{AreParsed, IsProject, Loaded, named_trees, project, views}
pub use Rattle.meson_calls.specs.NamedArguments.{IsFirstNamed, kept_args, kwargs_key, not_hidden}
pub use Rattle.meson_calls.specs.Project.{child, Placed, Project}
pub use Rattle.meson_calls.specs.Refusals.{IfRefused, RefusedAs}
pub use Rattle.meson_calls.specs.Roles.{one_of}
pub use Rattle.meson_calls.specs.Strings.{AreGood}
pub use Rattle.meson_calls.specs.declared.call.CallRef.{CallRef}
pub use Rattle.meson_calls.specs.declared.call.Role.{Role}
pub use Rattle.meson_calls.specs.declared.refusal.Refusal.{Refusal}
pub use Rattle.meson_calls.specs.declared.refusal.Refusal.TheVariants.{BadName, NotLiteral, OutOfMemory, UnknownKey, WrongKind}
pub use Rattle.meson_calls.proofs.ArgumentViews.{named_view, plain_view}
pub use Rattle.meson_calls.proofs.CallsFound.{calls_stand}
pub use Rattle.meson_calls.proofs.GoodParts.{good_left, good_right}
pub use Rattle.meson_calls.proofs.Loads.{all_more, as_many, take_more}
pub use Rattle.meson_calls.proofs.Nested.{array_view, good_arg, good_args, good_listing}
pub use Rattle.meson_calls.proofs.OneCall.{call_refused, call_there, if_refused, place_is, placed_at}
pub use Rattle.meson_steps.specs.Done.{IsDone, MayNotBeDone, unmeant}
pub use Rattle.meson_steps.specs.ListSteps.{AreBare, AreDoable, bare, MayStandBetween, none, one, wide_depth}
pub use Rattle.meson_steps.specs.Meanings.{AreBehind, AreMeant}
pub use Rattle.meson_steps.specs.Names.{distinct_by}
pub use Rattle.meson_steps.specs.ResultLimits.{plain_trees}
pub use Rattle.meson_steps.specs.Steps.{all_stepped, Step, step_in, stepped}
pub use Rattle.meson_steps.specs.Working.{AreKnown, IsFresh, IsUnderWay, Reached, Restores, so_far}
pub use Rattle.meson_steps.specs.WrittenTexts.{comma_between, string_of, written_text}
pub use Rattle.meson_steps.specs.declared.command.Setting.{Setting}
pub use Rattle.meson_steps.specs.declared.step.ListStep.{ListStep}
pub use Rattle.meson_steps.specs.declared.work.Work.{Work}
pub use Rattle.meson_steps.specs.inside.WrittenValues.{IsSet, value_written, WrittenFor}
pub use Rattle.meson_steps.proofs.InnerPlaces.{array_container, Container, dictionary_container, exchanged_at, inner_place, InnerPlace}
pub use Rattle.meson_steps.proofs.Insertable.{edited_there, elements_back, elements_with, first_there, there_again}
pub use Rattle.meson_steps.proofs.PlainTrees.{erased_elements, parsed_shallow, plain_place, tree_is, tree_there}
pub use Rattle.meson_steps.proofs.StepsDoable.{step_doable, text_written}
pub use Rattle.meson_steps.proofs.UnderWay.{first_reached, refused_anyway}
pub use Rattle.meson_steps.proofs.WentWell.{then_was}
pub use Rattle.meson_steps.proofs.WithOne.{all_nth, change_there, changed_there}
pub use Rattle.meson_keywords.specs.Changing.{Between, CallStands, IsNextTask, request_steps, steps_of_task, TaskDone}
pub use Rattle.meson_keywords.specs.Effects.{after_equals, AreAskedTexts, coming, held_elements, held_in, Holds, holds, is_of, is_other, IsPairText}
pub use Rattle.meson_keywords.specs.Effects.{IsSettingText, OptionIs, others, put_behind, RequestsLeave, StepsLeave, TaskLeaves, TasksLeave, value_of_option}
pub use Rattle.meson_keywords.specs.Effects.{values_of}
pub use Rattle.meson_keywords.specs.KeywordEdits.{add_by_shape, add_there, add_to_lone, all_behind, all_of_kind, an_array, behind_all, delete_there}
pub use Rattle.meson_keywords.specs.KeywordEdits.{element_text, keyword_in, new_elements, no_array, one_at_most, passing, remove_by_shape, remove_equal}
pub use Rattle.meson_keywords.specs.KeywordEdits.{remove_lone, remove_there, removed_from, says, set_there, text_in, value_shape, ValueShape}
pub use Rattle.meson_keywords.specs.Options.{delete_by_shape, delete_by_value, delete_lone, delete_option_there, entries, has_key, is_entry, is_entry_element}
pub use Rattle.meson_keywords.specs.Options.{key_text, keys_known, of_list, of_lone, option_text, options_key, set_by_shape, set_by_value, set_in_dictionary}
pub use Rattle.meson_keywords.specs.Options.{set_in_list, set_in_lone, set_option_there, written_pair}
pub use Rattle.meson_keywords.specs.TaskSteps.{call_changed, elements_in, task_steps, tasks_steps, trees_after, trees_of}
pub use Rattle.meson_keywords.specs.Tasking.{AreElements, Asked, asked, asked_tasks, IsElement, IsKey, IsValue, MayBeWritten, TaskIs, to_add, to_delete}
pub use Rattle.meson_keywords.specs.Tasking.{to_delete_options, to_remove, to_set, to_set_options}
pub use Rattle.meson_keywords.specs.Tasks.{add, add_entry, before_equals, checked_option, delete, delete_entry, delete_option, delete_option_entry, each_made}
pub use Rattle.meson_keywords.specs.Tasks.{once, remove, remove_entry, set, set_entry, set_option, set_option_entry, Task}
pub use Rattle.meson_keywords.specs.ValueKinds.{are_elements, checked_values, element_bytes, element_node, is_identifier, is_word, key_kind, list_kind}
pub use Rattle.meson_keywords.specs.ValueKinds.{list_values, setting_text, setting_texts, truth_of, truth_text, written_element, written_list, written_named}
pub use Rattle.meson_keywords.specs.ValueKinds.{written_switch, written_value}
pub use Rattle.meson_keywords.specs.declared.value_kinds.ElementKind.{ElementKind}
pub use Rattle.meson_keywords.specs.declared.value_kinds.ValueKind.{ValueKind}
pub use Rattle.meson_keywords.specs.inside.Leaving.{LeavesCall}
pub use Rattle.meson_keywords.specs.inside.Making.{TasksSoFar}
pub use Rattle.meson_keywords.specs.inside.Tasking.{AreTasksBehind, found_argument, TasksAre, test_of}
