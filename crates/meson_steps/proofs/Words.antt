-- The words of other modules that most proofs of this crate use.
pub use Rattle.std.specs.List.{AllByRecursion, cons_option, filter, filter_map, list_all, list_any, slice_range}
pub use Rattle.std.specs.Prelude.{All, Bool, bytes_eq, Err, false, IfErr, IfOk, if◌then◌else◌, is_some, nat_le, not, Ok, OnOk, option_and_then, option_map}
pub use Rattle.std.specs.Prelude.{Result, reverse, slice_index_or, slice_set, ⊤, ◌&&◌, ◌==◌, ◌^◌, ◌||◌}
pub use Rattle.std.specs.Str.{is_utf8, IsUtf8}
pub use Rattle.std.specs.Vec.Iter.{into_iter_items}
pub use Rattle.std.proofs.Common.{[], add-one, ap, ap₂, arith, codes, cond, drop, get_or, inl, inr, length, length-append, List, map, None, Option, refl, rules}
pub use Rattle.std.proofs.Common.{Some, subst, suc, sym, take, true, zero, ℕ, ◌++◌, ◌+◌, ◌-◌, ◌<◌, ◌∙◌, ◌∷◌, ◌≡◌, ◌≢◌, ◌≤◌}
pub use Rattle.std.proofs.lemmas.Bool.{cases_eq, eq-eqb, eqb-true, false_from_ne_true}
pub use Rattle.std.proofs.lemmas.Bool.Decides.{eqb_tells, nat_tests}
pub use Rattle.std.proofs.lemmas.Iterator.Adapters.{YieldsList-from_vec}
pub use Rattle.std.proofs.lemmas.Iterator.Consumers.{YieldsList-end}
pub use Rattle.std.proofs.lemmas.List.{append-nil, append_assoc, append_cancel_left, append_cancel_right, at_drop_all, at_drop_more, get_or-set_other}
pub use Rattle.std.proofs.lemmas.List.{get_or-set_same, length-set, map-append, map-id, reverse-append, reverse-reverse, set-get_or, set-set, take_all}
pub use Rattle.std.proofs.lemmas.List.Elements.{All-cons, All-head, All-nil, All-set, All-tail, filter_map-append}
pub use Rattle.std.proofs.lemmas.Slice.Eq.{bytes_eq-Decides}
pub use Rattle.std.proofs.lemmas.Str.{is_utf8-from_IsUtf8, IsUtf8-append, IsUtf8-from_is_utf8}
pub use Rattle.meson_splice.specs.Files.{bytes_at, IsDistinct, with_bytes}
pub use Rattle.meson_splice.specs.Patch.{patched, patched_all, patched_in, then_ok}
pub use Rattle.meson_splice.specs.declared.fault.SpliceFault.{SpliceFault}
pub use Rattle.meson_splice.specs.declared.file_set.File.{File}
pub use Rattle.meson_splice.specs.declared.splice.Splice.{Splice}
pub use Rattle.meson_lex.specs.Items.{AreItems, IsItem, IsItemList, joined, Lexeme}
pub use Rattle.meson_lex.specs.Kinds.{IsNoneOf, OfKind, spelling}
pub use Rattle.meson_lex.specs.Lexed.{faulty, IsLexed, whole, with_spans}
pub use Rattle.meson_lex.specs.Literals.{literal}
pub use Rattle.meson_lex.specs.Located.{located, spots, Token, word_of, words}
pub use Rattle.meson_lex.specs.Significant.{after, closing, emitted, new_line, role, start, Word}
pub use Rattle.meson_lex.specs.Words.{IsTight, speaks, spoken}
pub use Rattle.meson_lex.specs.declared.fault.LexFault.{LexFault}
pub use Rattle.meson_lex.specs.declared.kinds.Item.{Item}
pub use Rattle.meson_lex.specs.declared.kinds.Kind.{Kind}
pub use Rattle.meson_lex.specs.declared.kinds.Span.{Span}
pub use Rattle.meson_lex.proofs.OneList.{one_list}
pub use Rattle.meson_lex.proofs.Seams.{AreItems-append, AreItems-split, joined-append}
pub use Rattle.meson_layout.specs.Edited.{patched_by}
pub use Rattle.meson_layout.specs.Laws.{AreTexts}
pub use Rattle.meson_layout.specs.Layout.{IsPlaced, IsReady, layout_of, pieces}
pub use Rattle.meson_layout.specs.Local.{IsReadyIn}
pub use Rattle.meson_layout.specs.Pieces.{Change, close_square, comma, Keep, open_square, Piece, space, splices}
pub use Rattle.meson_layout.specs.Words.{is_remark, remarks}
pub use Rattle.meson_layout.specs.declared.primitive.Primitive.{Primitive}
pub use Rattle.meson_layout.proofs.ReadItems.{read, read-all, read_one}
pub use Rattle.meson_syntax.specs.Children.{a_block, a_statement, an_expression, Any, argument_parts, arguments_parts, branches_parts, listing_parts}
pub use Rattle.meson_syntax.specs.Children.{tail_parts}
pub use Rattle.meson_syntax.specs.Furthest.{furthest_list}
pub use Rattle.meson_syntax.specs.Grammar.{argument_depth, argument_words, arguments_depth, arguments_words, block_words, branches_words, comma_words}
pub use Rattle.meson_syntax.specs.Grammar.{expression_depth, expression_words, file_depth, Flagged, LevelArgument, LevelArguments, LevelExpression, LevelFile}
pub use Rattle.meson_syntax.specs.Grammar.{LevelListing, listing_depth, mark, operator_words, otherwise_words, statement_words, tail_words, tails_words}
pub use Rattle.meson_syntax.specs.ListPut.{list_exchanged, with_list}
pub use Rattle.meson_syntax.specs.MovedCode.{moved_list, moved_parsed}
pub use Rattle.meson_syntax.specs.Moving.{moved, span_by}
pub use Rattle.meson_syntax.specs.Operators.{closes, holds_pairs, holds_values, opens}
pub use Rattle.meson_syntax.specs.Paths.{all_around, argument_children, arguments_children, around, block_children, block_of, branches_children, children}
pub use Rattle.meson_syntax.specs.Paths.{expression_children, expression_in, expression_of, expression_on_path, Hole, inner_words, list_at, list_in}
pub use Rattle.meson_syntax.specs.Paths.{list_of_node, list_span, list_within, ListAt, ListIn, listing_children, Node, nth, nth_hole, of_block, of_expression}
pub use Rattle.meson_syntax.specs.Paths.{of_statement, operands_children, otherwise_children, reach, Sort, statement_children, statements_children}
pub use Rattle.meson_syntax.specs.Paths.{tail_children, tails_children, value_of, with_block}
pub use Rattle.meson_syntax.specs.Reads.{IsSourceWithin, IsSpanned, IsSpannedWithin, max_depth, max_len, of_files, ReadsWithin, Spells, wide}
pub use Rattle.meson_syntax.specs.ReadsList.{IsListText, IsSpannedListWithin, list_items, ReadsListWithin}
pub use Rattle.meson_syntax.specs.Spelling.{SpellsFile, SpellsListing}
pub use Rattle.meson_syntax.specs.Tree.{Argument, argument, argument_list, Arguments, arguments_of, array, assign, Block, block, boolean, branch, Branches}
pub use Rattle.meson_syntax.specs.Tree.{breaks, call, conditional, continues, dictionary, erase, erase_argument, erase_arguments, erase_expression}
pub use Rattle.meson_syntax.specs.Tree.{erase_listing, erase_statement, evaluate, Expression, file, identifier, index, integer, is_named, iteration, Listing}
pub use Rattle.meson_syntax.specs.Tree.{listing, method, named, no_arguments, no_branches, no_operands, no_statements, no_tails, nothing_else, Nowhere, operand}
pub use Rattle.meson_syntax.specs.Tree.{Operands, Otherwise, otherwise, pair, paren, Plain, plain, postfix, row, selection, Statement, statement}
pub use Rattle.meson_syntax.specs.Tree.{statement_list, Statements, statements_of, string, Tail, tail, Tails, unary}
pub use Rattle.meson_syntax.specs.View.{arg_view, args_view, block_view, expr_view, list_view, otherwise_view, stmt_view, stmts_view, view}
pub use Rattle.meson_syntax.specs.declared.operator.Bracket.{Bracket}
pub use Rattle.meson_syntax.specs.declared.source.Limits.{Limits}
pub use Rattle.meson_syntax.specs.declared.tree.Arg.{Arg}
pub use Rattle.meson_syntax.specs.declared.tree.Expr.{Expr}
pub use Rattle.meson_syntax.specs.declared.tree.Parsed.{Parsed}
pub use Rattle.meson_syntax.specs.inside.Children.{any_of, block_parts, child_nodes, expression_parts, node_at, operands_parts, otherwise_parts}
pub use Rattle.meson_syntax.specs.inside.Children.{rust_branches_parts, statement_parts, statements_parts, tails_parts}
pub use Rattle.meson_syntax.proofs.parsing.CompleteFiles.{whole-complete}
pub use Rattle.meson_syntax.proofs.parsing.Steps.{some-injective}
pub use Rattle.meson_syntax.proofs.parsing.WithinFiles.{other_limits}
pub use Rattle.meson_syntax.proofs.paths.Every.{Every}
pub use Rattle.meson_syntax.proofs.paths.Reaching.{and-then-some, list-fits, map-some}
pub use Rattle.meson_edit.specs.Blocks.{block_at, block_of_node, BlockAt, statement_in}
pub use Rattle.meson_edit.specs.Edits.{After, Append, Assign, Edit, edited, edited_elements, edited_list, element_added, elements, First, first_element, is_empty, Lines}
pub use Rattle.meson_edit.specs.Edits.{Remove, RemoveStatement, Replace, with_elements, with_value, Wrap, Written}
pub use Rattle.meson_edit.specs.ExchangedTrees.{IsExchange, tree_with}
pub use Rattle.meson_edit.specs.Laws.{IsEditOf, MakesText, Spelled, WritesList}
pub use Rattle.meson_edit.specs.Places.{element_there, IsWritten, primitive_of, Writes}
pub use Rattle.meson_edit.specs.Sequences.{MayFollow, StaysThere}
pub use Rattle.meson_edit.specs.Standing.{argument_span, expression_span, ListStands, statement_span}
pub use Rattle.meson_edit.proofs.kept.Tokens.{exchanged, moved-on, moved-still, open-long}
pub use Rattle.meson_edit.proofs.lists.CodeElements.{list_elements}
pub use Rattle.meson_edit.proofs.paths.ExchangedTrees.{FoundNew, new-list-found, new-tree-bare, old-lists-look, trees-exchange, trees-exchange-back}
pub use Rattle.meson_edit.proofs.paths.Mapped.{nth_map}
pub use Rattle.meson_edit.proofs.paths.PutThere.{lists-stay, lists-there}
pub use Rattle.meson_calls.specs.Calls.{all_chosen, Call, first_argument, first_literal, first_of, is, kept_number, literal_of, Numbered, numbered, part_call}
pub use Rattle.meson_calls.specs.Calls.{value_with_name, value_without_name}
pub use Rattle.meson_calls.specs.Loading.{AreParsed, HasFileName, Loaded, max_files, name_of_file, named_trees, project, views}
pub use Rattle.meson_calls.specs.Parts.{Part, parts_from, parts_of_file}
pub use Rattle.meson_calls.specs.Project.{BuildFile, child, nth_file, place, Placed, placed}
pub use Rattle.meson_calls.specs.Roles.{has_role, one_of, target_functions, with_role}
pub use Rattle.meson_calls.specs.declared.call.CallRef.{CallRef}
pub use Rattle.meson_calls.specs.declared.refusal.Refusal.{Refusal}
pub use Rattle.meson_calls.specs.declared.refusal.Refusal.TheVariants.{OutOfMemory, TooDeep, TooLarge}
pub use Rattle.meson_calls.proofs.ArgumentViews.{named_view, nth_past, nth_there, pair_view, plain_view}
pub use Rattle.meson_calls.proofs.Listed.{list_is}
pub use Rattle.meson_calls.proofs.Loads.{all_more, as_many, nth_bytes, nth_name}
pub use Rattle.meson_calls.proofs.nodes.Induction.{by_children, Each, each_of_nth}
pub use Rattle.meson_calls.proofs.nodes.PartsBelow.{any, itself, parts_are, parts_below, parts_of}
pub use Rattle.meson_steps.specs.Code.{all_fine, code_of, CodeIsExpression, given_items, in_brackets, is_lone_list, is_one, IsExpression}
pub use Rattle.meson_steps.specs.Done.{deep, IsDone, large, MayNotBeDone, Meaning}
pub use Rattle.meson_steps.specs.Journal.{changed_tree, is_saved, MayPut, MayPutBack, MayShift, MayTake, put_back, put_one, PutsBack, saved_file}
pub use Rattle.meson_steps.specs.ListSteps.{AreBare, AreDoable, bare, bare_edit, MayStandBetween, one, path_of, wide_depth}
pub use Rattle.meson_steps.specs.Names.{checked_names, distinct, distinct_by}
pub use Rattle.meson_steps.specs.ResultLimits.{AreShallow, AreSmall, plain_trees, saturated}
pub use Rattle.meson_steps.specs.Steps.{all_stepped, bytes_again, changed_at, effective, Laid, list_of, ListsAreReadAgain, none, read_again, Step, step}
pub use Rattle.meson_steps.specs.Steps.{stepped, StepsMake}
pub use Rattle.meson_steps.specs.Working.{AreKnown, AreUnderWay, HasDeep, HasLarge, HasReached, IsFresh, IsUnderWay, limits_of, MayChangeList, MayReadList}
pub use Rattle.meson_steps.specs.Working.{Reached, Restores, so_far, spot_at, Standing, standing, stood}
pub use Rattle.meson_steps.specs.WrittenTexts.{array_of_values, comma_between, string_of, written_text, written_texts}
pub use Rattle.meson_steps.specs.declared.held.HeldList.{HeldList}
pub use Rattle.meson_steps.specs.declared.journal.Saved.{Saved}
pub use Rattle.meson_steps.specs.declared.journal.SavedList.{SavedList}
pub use Rattle.meson_steps.specs.declared.spans.ListSpot.{ListSpot}
pub use Rattle.meson_steps.specs.declared.step.ListEdit.{ListEdit}
pub use Rattle.meson_steps.specs.declared.step.ListStep.{ListStep}
pub use Rattle.meson_steps.specs.declared.work.Work.{Work}
pub use Rattle.meson_steps.specs.inside.Bare.{has_trailing, is_bare, is_lone, is_plain, one_plain, speaks_first}
pub use Rattle.meson_steps.specs.inside.Held.{IsHeld, IsHeldOf, IsReadAgain, IsSettled, MayHold, settled}
pub use Rattle.meson_steps.specs.inside.Journal.{IsPutBackFor, IsSavedToo, MayTakeMoved, settled_tree}
pub use Rattle.meson_steps.specs.inside.Layers.{assigned_any, block_any, layer_any, layer_view, next_layer}
pub use Rattle.meson_steps.specs.inside.Laying.{AreLaid}
pub use Rattle.meson_steps.specs.inside.ListSteps.{edits_list}
pub use Rattle.meson_steps.specs.inside.Working.{AreShallowSoFar, IsChanged, IsNext, IsShallow, list_again, looked_at, MayBeLaid, MayChange, placed_edit}
pub use Rattle.meson_steps.specs.inside.Working.{placed_in}
pub use Rattle.meson_steps.specs.inside.WrittenValues.{IsSet, WrittenFor}
