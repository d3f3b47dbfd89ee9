-- The words of other modules that most proofs of this crate use.
pub use Rattle.std.specs.Cmp.Lexicographic.{bytes_decides, nat_list_eq_equiv}
pub use Rattle.std.specs.HashMap.{get_by, HashMap}
pub use Rattle.std.specs.List.{cons_option, list_any}
pub use Rattle.std.specs.Option.{option_copied, option_flatten}
pub use Rattle.std.specs.Prelude.{Bool, bytes_eq, codes, cond, Err, false, IfErr, IfOk, IfSome, if◌then◌else◌, is_none, is_some, max, None, not, Ok, OnOk}
pub use Rattle.std.specs.Prelude.{Option, option_and_then, option_map, Result, reverse, Some, string_bytes, true, ◌&&◌, ◌==◌, ◌||◌}
pub use Rattle.std.proofs.Common.{[], ap, ap₂, arith, Bor, drop, get_or, length, List, map, refl, rules, subst, suc, suc-mul, sym, take, take_all, zero}
pub use Rattle.std.proofs.Common.{zero-add, ℕ, ◌*◌, ◌++◌, ◌+◌, ◌-◌, ◌<◌, ◌∙◌, ◌∷◌, ◌≡◌, ◌≢◌, ◌≤◌}
pub use Rattle.std.proofs.lemmas.List.{append-nil, append_assoc, at_drop_all, at_drop_more, map-append, reverse-append}
pub use Rattle.std.proofs.lemmas.Map.Text.{hash_map_updates_str}
pub use Rattle.std.proofs.lemmas.Result.{IfOk-weaker, on_ok_weaker}
pub use Rattle.std.proofs.lemmas.Slice.Eq.{bytes_eq-Decides}
pub use Rattle.meson_splice.specs.Files.{bytes_at}
pub use Rattle.meson_splice.specs.declared.file_set.File.{File}
pub use Rattle.meson_lex.specs.declared.kinds.Span.{Span}
pub use Rattle.meson_syntax.specs.Grammar.{argument_words, expression_words, operands_words}
pub use Rattle.meson_syntax.specs.Tree.{Argument, argument, Arguments, arguments_of, array, assign, boolean, breaks, call, conditional, continues, dictionary}
pub use Rattle.meson_syntax.specs.Tree.{evaluate, Expression, identifier, integer, is_named, iteration, Listing, listing, named, no_arguments, no_operands}
pub use Rattle.meson_syntax.specs.Tree.{operand, Operands, operands_of, pair, paren, plain, postfix, row, selection, string, unary}
pub use Rattle.meson_syntax.specs.View.{arg_view, args_view, expr_view, list_view, name_at, names_at, operand_view, operands_view, text_at, view}
pub use Rattle.meson_syntax.specs.declared.tree.Arg.{Arg}
pub use Rattle.meson_syntax.specs.declared.tree.Operand.{Operand}
pub use Rattle.meson_syntax.specs.declared.tree.Parsed.{Parsed}
pub use Rattle.meson_calls.specs.Calls.{all_chosen, Call, call_of, calls_function, chosen, first_literal, is, keyword, Numbered, part_call, positional}
pub use Rattle.meson_calls.specs.Calls.{value_with_name, value_without_name}
pub use Rattle.meson_calls.specs.ChosenNotes.{call_with, is_role_call}
pub use Rattle.meson_calls.specs.FileNames.{is_entered, is_file, meant_in}
pub use Rattle.meson_calls.specs.GoodLists.{GoodArgs, GoodListing}
pub use Rattle.meson_calls.specs.Loading.{AreParsed, named_trees, views}
pub use Rattle.meson_calls.specs.NamedArguments.{kept_arg, kept_args, kwargs_key, once, rest, sources_key}
pub use Rattle.meson_calls.specs.NotedProjects.{project_in}
pub use Rattle.meson_calls.specs.Notes.{a_call, a_loop, an_assignment, Note, note_of, note_view, note_views, noted, notes, what_view}
pub use Rattle.meson_calls.specs.Parts.{a_statement, an_expression, Part, parts, parts_of_file}
pub use Rattle.meson_calls.specs.Project.{child, nth_file, place, place_at, Placed, placed, Project}
pub use Rattle.meson_calls.specs.Roles.{one_of}
pub use Rattle.meson_calls.specs.Setters.{AreSetters, is_among, is_setter, sets_by_call}
pub use Rattle.meson_calls.specs.Spelling.{AreNotesOf, AreNotesWith, passed, sought_words, whole}
pub use Rattle.meson_calls.specs.Strings.{AreGood, note_words, NotesGood}
pub use Rattle.meson_calls.specs.declared.call.CallRef.{CallRef}
pub use Rattle.meson_calls.specs.declared.refusal.Refusal.TheVariants.{OutOfMemory}
pub use Rattle.meson_calls.proofs.GoodNotes.{good_at, project_good}
pub use Rattle.meson_calls.proofs.Listed.{list_is}
pub use Rattle.meson_calls.proofs.Loads.{as_many}
pub use Rattle.meson_calls.proofs.Nested.{array_view, call_view, good_arg, good_args, good_listing, good_operand, name_view, plain_view}
pub use Rattle.meson_calls.proofs.NoteReadings.{any_gathers, chosen_gathers, none_chosen, none_passes, Notes, notes_after}
pub use Rattle.meson_calls.proofs.Parted.{operand_operator, operand_value, row_is}
pub use Rattle.meson_calls.proofs.SetterReadings.{neither, setters_good, setters_read}
pub use Rattle.meson_calls.proofs.Standing.{no_expression, no_file, nth_there}
pub use Rattle.meson_variables.specs.CodeValues.{looked_up, met_in, taken, value_in, value_view}
pub use Rattle.meson_variables.specs.CodeVariables.{project_of}
pub use Rattle.meson_variables.specs.ExpandedArguments.{all_gathered, arguments_by, expansion_step, one_by, with_hidden}
pub use Rattle.meson_variables.specs.Expansion.{are_named, are_plus, element, empty, expand, expand_by, expand_listing, expand_operands, Expansion, fixed}
pub use Rattle.meson_variables.specs.Expansion.{follow_single, has_names, in_list, is_files, is_list_operand, is_list_variable, is_operand_by, is_plus}
pub use Rattle.meson_variables.specs.Expansion.{is_single_by, is_value_by, known, literal_item, Mark, max_followed, met, of_variable, opaque, operand_at}
pub use Rattle.meson_variables.specs.Expansion.{or_empty, Slot, Stand, then_expand, within}
pub use Rattle.meson_variables.specs.Noted.{assigned_notes, is_set_by, note_assigned, note_sets}
pub use Rattle.meson_variables.specs.Tallies.{all_marked, expand_left, expanded, follow_of, Gathered, gathered, no_marks, number_of_slot, stand_at, Tally}
pub use Rattle.meson_variables.specs.Tallies.{tally_and, with_mark}
pub use Rattle.meson_variables.specs.TargetSources.{expand_arguments, first_empty, first_list, hidden, items, list_of_slot, opaque_count, or_call, or_option}
pub use Rattle.meson_variables.specs.TargetSources.{source_item, source_marks, sources, sources_of_call, sources_of_marks}
pub use Rattle.meson_variables.specs.UnknownSetters.{enters_none, has_unknown, is_unknown_in}
pub use Rattle.meson_variables.specs.Variables.{all_known, Assigned, assignments, is_iterated, is_outermost, one_of_names, only_value, part_assigned}
pub use Rattle.meson_variables.specs.Variables.{sets_unknown, sets_variable, single}
pub use Rattle.meson_variables.specs.declared.variables.Variables.{Variables}
pub use Rattle.meson_variables.specs.inside.CodeValues.{assignment, has_any, merged, with_assigned}
pub use Rattle.meson_variables.specs.inside.Noted.{argument_rank, arguments_rank, by_notes, listing_rank, note_rank, notes_rank, operands_rank, rank}
pub use Rattle.meson_variables.specs.inside.Tallies.{argument_left, each_left, listing_left, operands_left, row_left, sum_left}
