-- The words of other modules that most proofs of this crate use.
pub use Rattle.std.specs.Borrow.{Bor}
pub use Rattle.std.specs.List.{AllByRecursion, cons_option, Contains, filter_map, list_all, list_any}
pub use Rattle.std.specs.Prelude.{All, bytes_eq, codes, cond, Err, false, filter, IfOk, if◌then◌else◌, is_some, IsTrue, MatchOption, Ok, OnOk, option_and_then}
pub use Rattle.std.specs.Prelude.{option_map, Result, set, slice_index_or, slice_range, string_bytes, ⊤, ◌&&◌, ◌==◌, ◌||◌}
pub use Rattle.std.specs.Str.{chars, is_utf8, IsAscii, IsUtf8, NonePass}
pub use Rattle.std.proofs.Common.{[], ap, ap₂, arith, Bool, drop, encode_utf8, encode_utf8_all, eqb, Equal, get_or, get_or-take, Greater, inl, inr, length}
pub use Rattle.std.proofs.Common.{length-append, length-drop, length-take, Less, List, lit<, map, min, nat_cmp, None, Option, Ordering, refl, rules, Some}
pub use Rattle.std.proofs.Common.{subst, suc, sym, take, take-append-drop, true, true≢false, zero, ℕ, ◌*◌, ◌++◌, ◌+◌, ◌-◌, ◌<◌, ◌^◌, ◌∙◌, ◌∷◌, ◌≡◌, ◌≤◌}
pub use Rattle.std.proofs.Math.Seq.{take-append_seam, take-suc}
pub use Rattle.std.proofs.lemmas.Bool.{and_parts, cases_eq, cond-false, eqb-true, false_from_ne_true}
pub use Rattle.std.proofs.lemmas.Bool.Decides.{Decides-eqb, eqb_tells, nat_tests, not_from_Decides}
pub use Rattle.std.proofs.lemmas.List.{append-nil, append_assoc, append_cancel_right, at_drop_all, at_drop_more, drop-append-le, drop_at, get_or-drop}
pub use Rattle.std.proofs.lemmas.List.{get_or-set_other, get_or-set_same, get_or_default, length-set, map-append, take-append-le, take_all, take_at, take_more}
pub use Rattle.std.proofs.lemmas.List.Elements.{All-append, All-cons, All-get_or, All-head, All-nil, All-tail, Contains-append_left, Contains-append_right}
pub use Rattle.std.proofs.lemmas.List.Elements.{filter-append, filter_map-append}
pub use Rattle.std.proofs.lemmas.List.Folds.{list_any-append, list_any_more}
pub use Rattle.std.proofs.lemmas.List.Sums.{fold-append}
pub use Rattle.std.proofs.lemmas.Slice.Eq.{bytes_eq-Decides, strip_suffix_is}
pub use Rattle.std.proofs.lemmas.Str.{encode_ascii, encodes-append, encodes-chars, IsUtf8-from_ascii, IsUtf8-from_is_utf8}
pub use Rattle.memchr.specs.Find.{FindsNeedle, OccursAt}
pub use Rattle.meson_splice.specs.Files.{bytes_at}
pub use Rattle.meson_splice.specs.Patch.{then_ok}
pub use Rattle.meson_splice.specs.declared.file_set.File.{File}
pub use Rattle.meson_lex.specs.Items.{AreItems, joined, Lexeme}
pub use Rattle.meson_lex.specs.Kinds.{IsIdentifier, IsString, IsWord, OfKind}
pub use Rattle.meson_lex.specs.Literals.{between, unescaped, value, value_of_characters}
pub use Rattle.meson_lex.specs.Significant.{after, Closes, closing, emit, emit_by, emitted, Ends, ends_line, Gap, kept, new_line, only_if, Opens, Other, role}
pub use Rattle.meson_lex.specs.Significant.{start, State, step, Word}
pub use Rattle.meson_lex.specs.declared.kinds.Kind.{Kind}
pub use Rattle.meson_lex.specs.declared.kinds.Kind.TheVariants.{FormatMultilineString, FormatString, Identifier, MultilineString, PlainString}
pub use Rattle.meson_lex.specs.declared.kinds.Span.{Span}
pub use Rattle.meson_syntax.specs.Children.{a_block, a_statement, an_expression, Any, argument_parts, arguments_parts, branches_parts, listing_parts}
pub use Rattle.meson_syntax.specs.Children.{tail_parts}
pub use Rattle.meson_syntax.specs.Grammar.{argument_words, arguments_words, block_words, branches_words, comma_words, expression_words, file_words}
pub use Rattle.meson_syntax.specs.Grammar.{LevelArguments, listing_words, mark, names_words, operands_words, operator_words, otherwise_words, statement_words}
pub use Rattle.meson_syntax.specs.Grammar.{statements_words, tail_words, tails_words}
pub use Rattle.meson_syntax.specs.Operators.{closes, holds_pairs, holds_values, string_kind}
pub use Rattle.meson_syntax.specs.Paths.{block_of, expression_of, expression_on_path, Hole, list_at, list_in, list_of_node, list_within, ListAt, ListIn, Node}
pub use Rattle.meson_syntax.specs.Paths.{node_words, nth, of_block, of_expression, of_statement, reach, Sort}
pub use Rattle.meson_syntax.specs.Reads.{IsSpanned, MayNotRead, of_files, Spells}
pub use Rattle.meson_syntax.specs.Texts.{texts_of, texts_of_argument, texts_of_arguments, texts_of_block, texts_of_branches, texts_of_expression}
pub use Rattle.meson_syntax.specs.Texts.{texts_of_listing, texts_of_name, texts_of_operands, texts_of_otherwise, texts_of_statement, texts_of_statements}
pub use Rattle.meson_syntax.specs.Texts.{texts_of_tail, texts_of_tails}
pub use Rattle.meson_syntax.specs.Tree.{Argument, argument, argument_list, Arguments, arguments_of, array, assign, Block, block, boolean, branch, Branches}
pub use Rattle.meson_syntax.specs.Tree.{branches_of, breaks, call, conditional, continues, dictionary, erase, erase_arguments, erase_block, erase_branches}
pub use Rattle.meson_syntax.specs.Tree.{erase_expression, erase_operands, erase_statement, erase_statements, erase_tails, evaluate, Expression, file}
pub use Rattle.meson_syntax.specs.Tree.{identifier, index, integer, is_named, iteration, Listing, listing, method, Name, named, no_arguments, no_branches}
pub use Rattle.meson_syntax.specs.Tree.{no_operands, no_statements, no_tails, nothing_else, Nowhere, operand, Operands, operands_of, Otherwise, otherwise, pair}
pub use Rattle.meson_syntax.specs.Tree.{paren, Plain, plain, postfix, row, selection, Statement, statement, Statements, statements_of, string, Tail, tail}
pub use Rattle.meson_syntax.specs.Tree.{Tails, tails_of, unary}
pub use Rattle.meson_syntax.specs.View.{arg_view, args_view, block_view, branch_view, branches_view, expr_view, list_view, name_at, names_at, operand_view}
pub use Rattle.meson_syntax.specs.View.{operands_view, stmt_view, stmts_view, tail_view, tails_view, text_at, view}
pub use Rattle.meson_syntax.specs.declared.operator.Assignment.{Assignment}
pub use Rattle.meson_syntax.specs.declared.operator.Bracket.{Bracket}
pub use Rattle.meson_syntax.specs.declared.operator.StringKind.{StringKind}
pub use Rattle.meson_syntax.specs.declared.tree.Arg.{Arg}
pub use Rattle.meson_syntax.specs.declared.tree.Branch.{Branch}
pub use Rattle.meson_syntax.specs.declared.tree.Expr.{Expr}
pub use Rattle.meson_syntax.specs.declared.tree.Operand.{Operand}
pub use Rattle.meson_syntax.specs.declared.tree.Parsed.{Parsed}
pub use Rattle.meson_syntax.specs.declared.tree.Stmt.{Stmt}
pub use Rattle.meson_syntax.specs.inside.Children.{any_of, child_nodes, expression_any, expression_parts, node_at, operands_parts, otherwise_parts}
pub use Rattle.meson_syntax.specs.inside.Children.{statement_parts, statements_parts, tails_parts}
pub use Rattle.meson_syntax.proofs.PathNodes.{expression-reached, reached}
pub use Rattle.meson_syntax.proofs.parsing.FileErased.{file-words-erased}
pub use Rattle.meson_syntax.proofs.parsing.Steps.{some-injective}
pub use Rattle.meson_syntax.proofs.paths.Every.{Every, every-append, every-nth}
pub use Rattle.meson_syntax.proofs.paths.Reaching.{and-then-some, map-some, reach-fits}
pub use Rattle.meson_calls.specs.AllParts.{address, PartsAreAll, PartsInOrder, PlacesRise}
pub use Rattle.meson_calls.specs.CallPlaces.{CallIn, CallsStand, CallThere, ListThere}
pub use Rattle.meson_calls.specs.Calls.{all_chosen, Call, call_of, calls, calls_function, chosen, first_argument, first_literal, first_of, is, kept_number}
pub use Rattle.meson_calls.specs.Calls.{keyword, literal_of, numbered, part_call, value_with_name, value_without_name}
pub use Rattle.meson_calls.specs.ChosenNotes.{assigned_places, call_with, found_places, is_role_call, named_places, note_has_name}
pub use Rattle.meson_calls.specs.ChosenNotes.{note_has_role, note_sets_call, places_that, places_with_role}
pub use Rattle.meson_calls.specs.FileNames.{is_entered, is_file, meant_in}
pub use Rattle.meson_calls.specs.Finding.{any_project, only_one}
pub use Rattle.meson_calls.specs.Folders.{build_file, file_in, folder_of, folder_parts, goes_nowhere, in_folder, is_plain_folder, IsFileName, parts_after}
pub use Rattle.meson_calls.specs.Folders.{slash_parts}
pub use Rattle.meson_calls.specs.GoodLists.{GoodArgs, GoodArguments, GoodListing}
pub use Rattle.meson_calls.specs.Loading.{AreParsed, HasFileName, HasTree, IsFirstUnread, name_of_file, named_trees, views}
pub use Rattle.meson_calls.specs.NamedArguments.{IsFirstNamed, kept_arg, kept_args, number_behind, once, rest}
pub use Rattle.meson_calls.specs.Naming.{assigned_values, found, found_among, named_or_assigned, named_or_set, or_else, part_set_to, project_ids, set_to, value_of_assignment}
pub use Rattle.meson_calls.specs.Naming.{values_among, with_name}
pub use Rattle.meson_calls.specs.Searching.{names_of, places_within, position_of_name, project_names, searched_file, within}
pub use Rattle.meson_calls.specs.Notes.{a_call, a_loop, an_assignment, is_set, Note, note_of, note_view, note_views, noted, notes, ranged_view, taken_view}
pub use Rattle.meson_calls.specs.Notes.{what_view}
pub use Rattle.meson_calls.specs.OnePlace.{any_place}
pub use Rattle.meson_calls.specs.Parts.{argument_child_count, arguments_child_count, branches_child_count, Part, parts, parts_from, parts_of_argument}
pub use Rattle.meson_calls.specs.Parts.{parts_of_arguments, parts_of_block, parts_of_branches, parts_of_expression, parts_of_file, parts_of_listing}
pub use Rattle.meson_calls.specs.Parts.{parts_of_operands, parts_of_otherwise, parts_of_statement, parts_of_statements, parts_of_tail, parts_of_tails}
pub use Rattle.meson_calls.specs.Parts.{tail_child_count}
pub use Rattle.meson_calls.specs.Project.{BuildFile, child, expression_at, nth_file, place, place_at, Placed, placed, Project}
pub use Rattle.meson_calls.specs.Roles.{has_role, is_target, is_target_call, one_of, places, role_calls, role_calls_among, with_role}
pub use Rattle.meson_calls.specs.Setters.{any_sets_by_call, AreAssignments, AreKept, AreSetters, assignment_at, assignments_in, BeginWithSetters, has_loop}
pub use Rattle.meson_calls.specs.Setters.{is_among, is_known, is_loop, is_setter, IsKept, NoCallSets, notes_asked, sets_by_call, setters_in}
pub use Rattle.meson_calls.specs.Spelling.{AreNotesOf, AreNotesWith, HasNone, HasNoneOf, passed, setter_words, sought_words, whole}
pub use Rattle.meson_calls.specs.Strings.{AreGood, IsGood, note_words, NotesGood, part_words, PartsGood}
pub use Rattle.meson_calls.specs.Walks.{assignments_kept, keeper_view, kept_so_far, KeptParts, notes_kept, notes_of_kept, part_view, read_at, read_in}
pub use Rattle.meson_calls.specs.Walks.{reads_kept, reads_of_kept, setters_kept, with_part, with_parts}
pub use Rattle.meson_calls.specs.declared.call.CallRef.{CallRef}
pub use Rattle.meson_calls.specs.declared.call.Role.{Role}
pub use Rattle.meson_calls.specs.declared.kept.Kept.TheVariants.{Unknown}
pub use Rattle.meson_calls.specs.declared.kept.KeptAssignment.{KeptAssignment}
pub use Rattle.meson_calls.specs.declared.note.Ranged.{Ranged}
pub use Rattle.meson_calls.specs.declared.refusal.Refusal.{Refusal}
pub use Rattle.meson_calls.specs.inside.Setters.{ComeBehind, kept_note, without_last}
pub use Rattle.meson_calls.specs.inside.Walks.{else_view, parts_inside, parts_of_branch}
