use Rattle.std.proofs.Common.{◌∙◌, List, ap, subst, length}
use Rattle.std.proofs.lemmas.Result.{err_from_is_err_and}
use Rattle.meson_lex.specs.Located.{Token, located}
use Rattle.meson_syntax.specs.inside.Input.{GivesAll}
use Rattle.meson_syntax.specs.inside.ReadingLists.{whole_list}
use Rattle.meson_syntax.specs.inside.Tokens.{tokens_of}
use Rattle.meson_syntax.specs.View.{list_view}
use Rattle.meson_syntax.specs.ReadsList.{of_lists_within}
use Rattle.meson_syntax.proofs.parsing.Refusals.{Stopped, stopped-from}
use Rattle.meson_syntax.proofs.lists.Answers.{refused-finds, refused-unreadable, stopped-finds, stopped-unreadable, stopped-says, gives-reads, gives-finds, gives-unreadable, gives-says}
use Rattle.meson_syntax.proofs.list_text.parse_list_within.Goals as goal
use Rattle.meson_syntax.proofs.list_text.parse_list_within.Goals.{After-drop-tokens, After-from_residual-in_err-tokens}

-- ---- refused before its items are asked

pub returns-in_err-check_source-clause-finds : goal.returns-in_err-check_source-clause-finds
returns-in_err-check_source-clause-finds c =
    let error = err_from_is_err_and c.from_residual.result c.from_residual.ensures.1 in
    rw (error.1, error.2) (refused-finds c.args.depth c.args.source.now c.args.bracket c.in_err-check_source.field-0.0 c.in_err-check_source.ensures.err)

pub returns-in_err-check_source-clause-unreadable : goal.returns-in_err-check_source-clause-unreadable
returns-in_err-check_source-clause-unreadable c =
    let error = err_from_is_err_and c.from_residual.result c.from_residual.ensures.1 in
    rw (error.1, error.2) (λ e h. refused-unreadable c.args.depth c.args.source.now c.args.bracket c.in_err-check_source.field-0.0 e c.in_err-check_source.ensures.err h)

-- ---- refused by a lexical fault

stopped : (c : After-from_residual-in_err-tokens) → Stopped (of_lists_within c.args.depth) c.args.source.now c.in_err-tokens.field-0.0
stopped c = stopped-from (of_lists_within c.args.depth) c.args.source.now c.in_err-tokens.field-0.0 c.in_ok-check_source.ensures.ok c.in_err-tokens.ensures.faulty

pub returns-in_err-tokens-clause-finds : goal.returns-in_err-tokens-clause-finds
returns-in_err-tokens-clause-finds c =
    let error = err_from_is_err_and c.from_residual-in_err-tokens.result c.from_residual-in_err-tokens.ensures.1 in
    rw (error.1, error.2) (stopped-finds c.args.depth c.args.source.now c.args.bracket c.in_err-tokens.field-0.0 (stopped c))

pub returns-in_err-tokens-clause-unreadable : goal.returns-in_err-tokens-clause-unreadable
returns-in_err-tokens-clause-unreadable c =
    let error = err_from_is_err_and c.from_residual-in_err-tokens.result c.from_residual-in_err-tokens.ensures.1 in
    rw (error.1, error.2) (λ e h. stopped-unreadable c.args.depth c.args.source.now c.args.bracket c.in_err-tokens.field-0.0 e (stopped c) h)

pub returns-in_err-tokens-clause-refused : goal.returns-in_err-tokens-clause-refused
returns-in_err-tokens-clause-refused c =
    let error = err_from_is_err_and c.from_residual-in_err-tokens.result c.from_residual-in_err-tokens.ensures.1 in
    rw (error.1, error.2) (stopped-says c.args.depth c.args.source.now c.args.bracket c.in_err-tokens.field-0.0 (stopped c))

-- ---- the tokens read

gives : (c : After-drop-tokens) → GivesAll (list_view c.args.source.now) (whole_list c.args.depth c.args.bracket (length c.args.source.now) (located c.in_ok-tokens.ensures.whole.items)) c.read_list.result
gives c =
    let source = c.args.source.now in
    let are = ap (tokens_of source) c.as_slice.ensures.value ∙ c.in_ok-tokens.ensures.whole.are_located in
    let Gives : List Token → Type 0 = λ ts. GivesAll (list_view source) (whole_list c.args.depth c.args.bracket (length source) ts) c.read_list.result in
    subst Gives are c.read_list.ensures.gives

pub returns-clause-reads : goal.returns-clause-reads
returns-clause-reads c = gives-reads c.args.depth c.args.source.now c.args.bracket c.in_ok-tokens.ensures.whole.items c.in_ok-check_source.ensures.ok c.in_ok-tokens.ensures.whole.are_items c.read_list.result (gives c)

pub returns-clause-finds : goal.returns-clause-finds
returns-clause-finds c = gives-finds c.args.depth c.args.source.now c.args.bracket c.in_ok-tokens.ensures.whole.items c.in_ok-check_source.ensures.ok c.in_ok-tokens.ensures.whole.are_items c.read_list.result (gives c)

pub returns-clause-unreadable : goal.returns-clause-unreadable
returns-clause-unreadable c = gives-unreadable c.args.depth c.args.source.now c.args.bracket c.in_ok-tokens.ensures.whole.items c.in_ok-check_source.ensures.ok c.in_ok-tokens.ensures.whole.are_items c.read_list.result

pub returns-clause-refused : goal.returns-clause-refused
returns-clause-refused c =
    gives-says c.args.depth c.args.source.now c.args.bracket c.in_ok-tokens.ensures.whole.items c.in_ok-check_source.ensures.ok c.in_ok-tokens.ensures.whole.are_items c.read_list.result (gives c) c.read_list.ensures.refused
