-- One name to unfold where a proof computes with code that is written out.
use Rattle.std.specs.Str.{chars, is_utf8}
use Rattle.meson_lex.specs.Scan.{word_front, number_front, comment_front, continuation_front, string_front, mark_front, line_front, plain, front}
use Rattle.meson_syntax.specs.inside.Input.{same_kind, kind, text_ahead, from, next, left, sees, sees_two, span_from, name_next, after_kind, expect}
use Rattle.meson_syntax.specs.inside.Reading.{operator, with_tails, with_operands, named_argument, without_name, paired, listed_element, elements_from, listed_elements, listed, identified, truth, number, quoted, parenthesized, primary, method_call, indexed, tails_from, tails, postfixed, unaried, operands_from, row_at, answered, choice, expression}
use Rattle.meson_syntax.specs.inside.ReadingFiles.{name, names_from, names, assigned, evaluated, simple, bodied, branched, branches_from, branches, otherwised, selected, iterated, broken, continued, stmt, statement_line, lines_from, statement_lines, blocked, block_within, whole}
use Rattle.meson_statements.specs.CodeTexts.{tree_of}

-- what an answer unfolds to find out whether a text is statements
unfoldable pub on_code : Unit {0}
unfolding chars is_utf8 word_front number_front comment_front continuation_front string_front mark_front line_front plain front same_kind kind text_ahead from next left sees sees_two span_from name_next after_kind expect operator with_tails with_operands named_argument without_name paired listed_element elements_from listed_elements listed identified truth number quoted parenthesized primary method_call indexed tails_from tails postfixed unaried operands_from row_at answered choice expression name names_from names assigned evaluated simple bodied branched branches_from branches otherwised selected iterated broken continued stmt statement_line lines_from statement_lines blocked block_within whole tree_of
on_code = tt
