-- One name to unfold where a proof computes with a build file that is written out.
use Rattle.std.specs.Fmt.{digits}
use Rattle.std.specs.Str.{chars, is_utf8}
use Rattle.serde_json.proofs.OnLiterals.{serde_json_on_literals}
use Rattle.meson_lex.specs.Scan.{word_front, number_front, comment_front, continuation_front, string_front, mark_front, line_front, plain, front}
use Rattle.meson_syntax.specs.inside.Input.{same_kind, kind, text_ahead, from, next, left, sees, sees_two, span_from, name_next, after_kind, expect}
use Rattle.meson_syntax.specs.inside.Reading.{operator, with_tails, with_operands, named_argument, without_name, paired, listed_element, elements_from, listed_elements, listed, identified, truth, number, quoted, parenthesized, primary, method_call, indexed, tails_from, tails, postfixed, unaried, operands_from, row_at, answered, choice, expression}
use Rattle.meson_syntax.specs.inside.ReadingFiles.{name, names_from, names, assigned, evaluated, simple, bodied, branched, branches_from, branches, otherwised, selected, iterated, broken, continued, stmt, statement_line, lines_from, statement_lines, blocked, block_within, whole}
use Rattle.meson_listing.specs.Entries.{call_data, target_data}

-- what an answer unfolds to read a text, list a call of it and write the listing
unfoldable pub on_texts : Unit {0}
unfolding serde_json_on_literals digits chars is_utf8 word_front number_front comment_front continuation_front string_front mark_front line_front plain front same_kind kind text_ahead from next left sees sees_two span_from name_next after_kind expect operator with_tails with_operands named_argument without_name paired listed_element elements_from listed_elements listed identified truth number quoted parenthesized primary method_call indexed tails_from tails postfixed unaried operands_from row_at answered choice expression name names_from names assigned evaluated simple bodied branched branches_from branches otherwised selected iterated broken continued stmt statement_line lines_from statement_lines blocked block_within whole call_data target_data
on_texts = tt
