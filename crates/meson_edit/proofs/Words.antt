-- The words of other modules that most proofs of this crate use.
pub use Rattle.std.specs.Prelude.{Err, get_or, if◌then◌else◌, max, option_and_then, option_map, ⊤, ◌==◌}
pub use Rattle.std.specs.Str.{IsUtf8}
pub use Rattle.std.proofs.Common.{[], ap, append_assoc, ap₂, arith, Bool, drop, eqb-true, false, inl, inr, leb, length, length-append, List, lit<, map, nat_le}
pub use Rattle.std.proofs.Common.{None, not, Ok, Option, pred, refl, Result, rules, Some, subst, suc, sym, take, true, zero, ℕ, ⊎_elim, ◌&&◌, ◌++◌, ◌+◌, ◌-◌}
pub use Rattle.std.proofs.Common.{◌<◌, ◌∙◌, ◌∷◌, ◌≡◌, ◌≢◌, ◌≤◌, ◌⊎◌}
pub use Rattle.std.proofs.Math.Nat.{eq-or-lt_of_le, max-le}
pub use Rattle.std.proofs.Math.Seq.{drop-append-add, get_or-append_seam, take-append_seam}
pub use Rattle.std.proofs.lemmas.Bool.{and_parts, le-leb, leb-false, leb-true, lt-leb, or_cases, or_from}
pub use Rattle.std.proofs.lemmas.List.{append-nil, append_cancel_left, append_cancel_right, at_drop_all, at_drop_more, map-append}
pub use Rattle.std.proofs.lemmas.Str.{IsCharBoundary-after_ascii, IsCharBoundary-before_ascii, IsUtf8-append, IsUtf8-drop, IsUtf8-from_ascii, IsUtf8-nil}
pub use Rattle.std.proofs.lemmas.Str.{IsUtf8-take}
pub use Rattle.meson_lex.specs.Bytes.{begins, begins_bare_return, first_bare_return, is_blank, is_digit, is_equals, is_line_byte, is_line_feed, is_quote}
pub use Rattle.meson_lex.specs.Bytes.{is_word_byte, is_word_start}
pub use Rattle.meson_lex.specs.Faults.{HasItemsThenFault, other}
pub use Rattle.meson_lex.specs.Items.{AreItems, IsItem, IsItemList, joined, Lexeme}
pub use Rattle.meson_lex.specs.Kinds.{IsLineEnd, OfKind, spelling}
pub use Rattle.meson_lex.specs.Lexed.{faulty, with_spans}
pub use Rattle.meson_lex.specs.Located.{closing_at, end_after, end_by, line_end_at, located, spot_by, spots, Token, token_at, word_of, words}
pub use Rattle.meson_lex.specs.Neighbours.{blanks, closed, extendable, format_quoted, MayStand, name, note, quoted, Shape, shape, StandsBefore}
pub use Rattle.meson_lex.specs.Significant.{after, Closes, closing, emit, emit_by, emitted, Ends, ends_line, fresh_after, Gap, kept, new_line, only_if, Opens}
pub use Rattle.meson_lex.specs.Significant.{Other, Role, role, significant, start, State, step, step_by, Word}
pub use Rattle.meson_lex.specs.Words.{IsTight, speaks, spoken, spoken_by, word}
pub use Rattle.meson_lex.specs.declared.kinds.Kind.{Kind}
pub use Rattle.meson_lex.specs.declared.kinds.Kind.TheVariants.{Blank, Comment, Continuation, FormatMultilineString, FormatString, Identifier, Integer, LineEnd}
pub use Rattle.meson_lex.specs.declared.kinds.Kind.TheVariants.{MultilineString, PlainString}
pub use Rattle.meson_lex.specs.declared.kinds.Span.{Span}
pub use Rattle.meson_lex.proofs.OneList.{one_list}
pub use Rattle.meson_lex.proofs.Seams.{AreItems-append, AreItems-split, joined-append}
pub use Rattle.meson_lex.proofs.TokenWords.{words-append, words-spots}
pub use Rattle.meson_layout.specs.Edited.{Edited, ListOfItems, PartIn, patched_by}
pub use Rattle.meson_layout.specs.Laws.{AreTexts, AreUtf8, IsWithout, WritesUtf8}
pub use Rattle.meson_layout.specs.Layout.{IsBracketOf, IsPlaced, IsSpanOf, layout_of}
pub use Rattle.meson_layout.specs.Words.{comma_word, IsBeforeElement, IsBeforeValue, IsBehindElement, IsCommaAtMost, remarks}
pub use Rattle.meson_layout.specs.declared.primitive.Primitive.{Primitive}
pub use Rattle.meson_layout.proofs.AppendLaws.{append-law}
pub use Rattle.meson_layout.proofs.LineLaws.{lines-law}
pub use Rattle.meson_layout.proofs.StatementLaws.{statement-removal-law}
pub use Rattle.meson_layout.proofs.ValueLaws.{first-law, replacement-law, wrap-keeps, wrap-law}
pub use Rattle.meson_syntax.specs.Codes.{code_argument, code_arguments, code_block, code_branches, code_expression, code_file, code_listing, code_operands}
pub use Rattle.meson_syntax.specs.Codes.{code_otherwise, code_statement, code_statements, code_tail, code_tails, places_of_names}
pub use Rattle.meson_syntax.specs.Furthest.{furthest, furthest_arg, furthest_args, furthest_block, furthest_branches, furthest_expr, furthest_list}
pub use Rattle.meson_syntax.specs.Furthest.{furthest_operands, furthest_span, furthest_spans, furthest_stmt, furthest_stmts, furthest_tail, furthest_tails}
pub use Rattle.meson_syntax.specs.Grammar.{argument_depth, argument_words, arguments_depth, arguments_words, block_depth, block_words, branches_depth}
pub use Rattle.meson_syntax.specs.Grammar.{branches_words, comma_words, expression_depth, expression_words, file_depth, file_words, Flagged, HasBranch}
pub use Rattle.meson_syntax.specs.Grammar.{HasOperand, HasTail, LevelArgument, LevelArguments, LevelBlock, LevelExpression, LevelFile, LevelListing}
pub use Rattle.meson_syntax.specs.Grammar.{LevelStatement, LevelStatements, listing_depth, listing_words, looseness, mark, more_names_words, names_words}
pub use Rattle.meson_syntax.specs.Grammar.{operands_depth, operands_words, operator_words, otherwise_depth, otherwise_words, row_level, statement_depth}
pub use Rattle.meson_syntax.specs.Grammar.{statement_words, statements_depth, statements_words, tail_depth, tail_words, tails_depth, tails_words}
pub use Rattle.meson_syntax.specs.ListPut.{put_there, with_list}
pub use Rattle.meson_syntax.specs.MovedCode.{moved_arg, moved_block, moved_branch, moved_expr, moved_list, moved_operand, moved_parsed, moved_stmt, moved_tail}
pub use Rattle.meson_syntax.specs.Moving.{moved, span_by}
pub use Rattle.meson_syntax.specs.Operators.{assignment_kind, boolean_kind, closes, holds_names, opens, operator_kind, operator_rest, string_kind, unary_kind}
pub use Rattle.meson_syntax.specs.Paths.{all_around, argument_children, arguments_children, around, block_children, block_in, block_of, branches_children}
pub use Rattle.meson_syntax.specs.Paths.{children, element_at, ElementAt, elements_at, expression_children, expression_in, expression_on_path, Hole}
pub use Rattle.meson_syntax.specs.Paths.{inner_words, list_at, list_in, list_of_node, list_span, list_within, ListAt, ListIn, listing_children, Node}
pub use Rattle.meson_syntax.specs.Paths.{node_words, nth, nth_hole, of_block, of_expression, of_statement, operands_children, otherwise_children, reach, Sort}
pub use Rattle.meson_syntax.specs.Paths.{statement_children, statements_children, tail_children, tails_children, value_of, with_block, words_ahead}
pub use Rattle.meson_syntax.specs.Reads.{Fits, IsSpannedWithin, mark_bytes, max_depth, ReadsWithin, Spells}
pub use Rattle.meson_syntax.specs.ReadsList.{IsListText, IsSpannedListWithin, list_items, ReadsListWithin}
pub use Rattle.meson_syntax.specs.Spelling.{Comma, Covers, CoversBlock, Deeper, Each, end_of, IsOneToken, NewLine, Nothing, One, SaysMoreNames, SaysName}
pub use Rattle.meson_syntax.specs.Spelling.{SaysNames, SpellsArgument, SpellsArguments, SpellsBlock, SpellsBranches, SpellsExpression, SpellsFile}
pub use Rattle.meson_syntax.specs.Spelling.{SpellsListing, SpellsOperands, SpellsOtherwise, SpellsStatement, SpellsStatements, SpellsTail, SpellsTails, Then}
pub use Rattle.meson_syntax.specs.Texts.{texts_of, texts_of_argument, texts_of_arguments, texts_of_block, texts_of_branches, texts_of_expression}
pub use Rattle.meson_syntax.specs.Texts.{texts_of_listing, texts_of_name, texts_of_operands, texts_of_otherwise, texts_of_statement, texts_of_statements}
pub use Rattle.meson_syntax.specs.Texts.{texts_of_tail, texts_of_tails}
pub use Rattle.meson_syntax.specs.Tree.{Argument, argument, argument_list, Arguments, arguments_of, array, assign, bare_name, Block, block, boolean, branch}
pub use Rattle.meson_syntax.specs.Tree.{Branches, branches_of, breaks, call, conditional, continues, dictionary, erase, erase_argument, erase_arguments}
pub use Rattle.meson_syntax.specs.Tree.{erase_block, erase_branches, erase_expression, erase_listing, erase_name, erase_names, erase_operands, erase_otherwise}
pub use Rattle.meson_syntax.specs.Tree.{erase_statement, erase_statements, erase_tail, erase_tails, evaluate, Expression, File, file, identifier, index}
pub use Rattle.meson_syntax.specs.Tree.{integer, is_named, iteration, Listing, listing, method, Name, named, no_arguments, no_branches, no_operands}
pub use Rattle.meson_syntax.specs.Tree.{no_statements, no_tails, nothing_else, Nowhere, operand, Operands, operands_of, Otherwise, otherwise, pair, paren}
pub use Rattle.meson_syntax.specs.Tree.{Plain, plain, postfix, row, selection, Statement, statement, statement_list, Statements, statements_of, string, Tail}
pub use Rattle.meson_syntax.specs.Tree.{tail, Tails, tails_of, unary}
pub use Rattle.meson_syntax.specs.View.{arg_view, args_view, block_view, branch_view, branches_view, expr_view, list_view, names_at, operand_view}
pub use Rattle.meson_syntax.specs.View.{operands_view, otherwise_view, stmt_view, stmts_view, tail_view, tails_view, view}
pub use Rattle.meson_syntax.specs.declared.operator.Assignment.{Assignment}
pub use Rattle.meson_syntax.specs.declared.operator.Bracket.{Bracket}
pub use Rattle.meson_syntax.specs.declared.operator.Operator.{Operator}
pub use Rattle.meson_syntax.specs.declared.source.Limits.{Limits}
pub use Rattle.meson_syntax.specs.declared.tree.Arg.{Arg}
pub use Rattle.meson_syntax.specs.declared.tree.Arg.TheFolds.{fold-roll-Arg, fold-roll-Expr, fold-roll-List, fold-roll-Operand, fold-roll-Tail}
pub use Rattle.meson_syntax.specs.declared.tree.Arg.TheOpen.{Arg-F, Expr-F, Tail-F}
pub use Rattle.meson_syntax.specs.declared.tree.Expr.{Expr}
pub use Rattle.meson_syntax.specs.declared.tree.Parsed.{Parsed}
pub use Rattle.meson_syntax.specs.declared.tree.Stmt.{Stmt}
pub use Rattle.meson_syntax.specs.declared.tree.Stmt.TheFolds.{fold-roll-Block, fold-roll-Branch, fold-roll-Stmt}
pub use Rattle.meson_syntax.specs.declared.tree.Stmt.TheOpen.{Stmt-F}
pub use Rattle.meson_syntax.proofs.Told.{list_told}
pub use Rattle.meson_syntax.proofs.ToldFiles.{file_told}
pub use Rattle.meson_syntax.proofs.lists.Brackets.{close-bracket, IsBracket, open-bracket}
pub use Rattle.meson_syntax.proofs.lists.Complete.{last-end, whole-span}
pub use Rattle.meson_syntax.proofs.lists.Cuts.{listing-inner, same-cut}
pub use Rattle.meson_syntax.proofs.lists.Items.{behind, bracket-text, exchanged-items, list-after, list-significant, listed}
pub use Rattle.meson_syntax.proofs.lists.Nesting.{expression-flat, Flat, flat-append, flat-word, inner-flat, nest, quiet-line}
pub use Rattle.meson_syntax.proofs.parsing.Complete.{list-of-arguments}
pub use Rattle.meson_syntax.proofs.parsing.Erased.{argument-words-erased, arguments-words-erased, comma-erased, expression-words-erased, listing-depth-erased}
pub use Rattle.meson_syntax.proofs.parsing.Erased.{listing-level-erased, operands-words-erased, tail-words-erased, tails-words-erased}
pub use Rattle.meson_syntax.proofs.parsing.FileErased.{block-words-erased, branches-words-erased, file-depth-erased, file-level-erased, file-words-erased}
pub use Rattle.meson_syntax.proofs.parsing.FileErased.{names-words-erased, otherwise-words-erased, statement-words-erased, statements-words-erased}
pub use Rattle.meson_syntax.proofs.parsing.FileWords.{block-words, branches-words, names-words, new-line-words, otherwise-words, statement-words}
pub use Rattle.meson_syntax.proofs.parsing.FileWords.{statements-words}
pub use Rattle.meson_syntax.proofs.parsing.Marks.{assignment-drops, closes-drops, opens-drops, operator-drops, rest-drops, unary-drops}
pub use Rattle.meson_syntax.proofs.parsing.OneSpanned.{one-spanned-list, one-spanned-within, one-spelled-list}
pub use Rattle.meson_syntax.proofs.parsing.Steps.{end_of-append, some-injective}
pub use Rattle.meson_syntax.proofs.parsing.WithinExpressions.{listing_in}
pub use Rattle.meson_syntax.proofs.parsing.Words.{argument-words, arguments-words, comma-words, each-words, expression-words, name-words, one-words}
pub use Rattle.meson_syntax.proofs.parsing.Words.{operands-words, tail-words, tails-words, then-words}
pub use Rattle.meson_syntax.proofs.paths.Every.{Every, every-append, every-around, every-nth}
pub use Rattle.meson_syntax.proofs.paths.Reaching.{and-then-some, list-fits, ListFits, map-some, of-level, reach-fits, Reaches, with-level, with-words}
pub use Rattle.meson_syntax.proofs.places.Covers.{boolean-own, closes-own, covers-from, covers-to, IsOwnKind, listing-covers, opens-own, string-own, unary-own}
pub use Rattle.meson_syntax.proofs.places.Elements.{ElementSpelled, list-spelled, push-group}
pub use Rattle.meson_syntax.proofs.places.Pairs.{cut-pair, join-words, joined-lengths, silent-closing, silent-nothing}
pub use Rattle.meson_syntax.proofs.places.Spoken.{argument-no-line, back-no-line, expression-no-line, front-no-line, inner-no-line, no-line-append, NoLine}
pub use Rattle.meson_syntax.proofs.places.Spoken.{spoken-is}
pub use Rattle.meson_syntax.proofs.places.Spots.{after-append, cut-item, emitted-append, IsOwn, IsSilent, speaks-emit}
pub use Rattle.meson_edit.specs.Blocks.{all_but, and_last, BeginsInNoBlank, block_at, block_of_node, block_without, BlockAt, EndsInNoBlank, EndsItsLine}
pub use Rattle.meson_edit.specs.Blocks.{file_and_last, IsBreak, IsLineRest, IsStatementText, IsTrimmed, statement_in}
pub use Rattle.meson_edit.specs.Assigned.{assigned_at, assigned_in, assigned_of_node, assigned_within, AssignedAt, AssignedIn}
pub use Rattle.meson_edit.specs.Edits.{After, Append, Assign, array_of, Edit, edited, edited_elements, edited_list, element_added, element_removed, elements, exchanged}
pub use Rattle.meson_edit.specs.Edits.{First, first_element, is_empty, Remove, RemoveStatement, Replace, with_elements, with_value, without_statement, Wrap}
pub use Rattle.meson_edit.specs.Edits.{Written, LinePlace, above, below, at_end, Lines, with_lines, with_more}
pub use Rattle.meson_edit.specs.Exchange.{ListsExchange, ListsReadAgain}
pub use Rattle.meson_edit.specs.ExchangedTokens.{list_tokens, TokensExchanged, TokensMove}
pub use Rattle.meson_edit.specs.Holes.{BlocksErase, erase_front, erase_list_front, erase_node, list_front, ListFront, ListsErase, NodesErase, words_around}
pub use Rattle.meson_edit.specs.Holes.{WordsAround}
pub use Rattle.meson_edit.specs.Kept.{EditKeeps, EditsKeep, IsBefore, IsBehind, KeepsIn, KeepsList, ReplacesAssigned, InsertsLines, SameFrom, SameUpTo, Touches, WrapsValue}
pub use Rattle.meson_edit.specs.KeptLists.{ListsAlone, ListsKept, ListsPutErase}
pub use Rattle.meson_edit.specs.Laws.{AppendedSpell, AssignmentsSpell, FirstsSpell, InsertionsSpell, IsEditOf, ListEditsLook, ListEditsWrite, MakesText, RemovalsSpell}
pub use Rattle.meson_edit.specs.Laws.{LinesSpell, ReplacementsSpell, Spelled, StatementRemovalsSpell, WrapsSpell, WritesList, WrittenListsRead}
pub use Rattle.meson_edit.specs.Lines.{HasNoLineEnd, in_line, LineStands}
pub use Rattle.meson_edit.specs.MappedPaths.{both, each_node, InBoth, maps, MapsHole, MapsList, neither}
pub use Rattle.meson_edit.specs.MovedTrees.{FilesMove, ListsMove, ListViewsMove, ListViewsTell, ListViewsText, ViewsMove, ViewsTell, ViewsText}
pub use Rattle.meson_edit.specs.Moves.{each_argument, each_arguments, each_block, each_branches, each_expression, each_file, each_listing, each_name}
pub use Rattle.meson_edit.specs.Moves.{each_operands, each_otherwise, each_statement, each_statements, each_tail, each_tails, token_by, tokens_by}
pub use Rattle.meson_edit.specs.Places.{assigned_span, element_span, IsWritten, line_spot, primitive_of, span_of_statement, value_span, Writes}
pub use Rattle.meson_edit.specs.PutLists.{ElementsStay, FoundListsLook, PutListsLook, with_span}
pub use Rattle.meson_edit.specs.Sequences.{AssignmentsDeepen, AssignmentsKeepLevels, DepthsGrow, EditsDeepen, EditsDeepenByOne, FirstsKeepLevels, FirstsStayWithin, InsertionsKeepLevels}
pub use Rattle.meson_edit.specs.Sequences.{InsertionsStayWithin, LineEditsDeepen, LinesKeepLevels, ListsAreShallow, ListsStay, MayFollow, new_depth, RemovalsKeepLevels, RemovalsStayWithin}
pub use Rattle.meson_edit.specs.Sequences.{ReplacementsKeepLevels, StaysThere, WrapsKeepLevels}
pub use Rattle.meson_edit.specs.Standing.{argument_span, ElementStands, expression_span, ListPlaces, ListStands, NodeStands, PartStands, StandsAmongItems}
pub use Rattle.meson_edit.specs.Standing.{statement_span, ValueStands}
