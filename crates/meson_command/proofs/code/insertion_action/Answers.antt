use Rattle.std.proofs.Common.{◌∙◌, Ok, Option, option_map, codes, sym, ap}
use Rattle.std.proofs.lemmas.Result.{IfOk-weaker, err_from_is_err_and}
use Rattle.clap.specs.Words.{Text, found_of, rows_of}
use Rattle.clap.proofs.WalkLemmas.{first_value-rows}
use Rattle.meson_json.specs.Operations.{code_operation}
use Rattle.meson_command.specs.Codes.{blank_in}
use Rattle.meson_command.specs.declared.asked.Action.{Action}
use Rattle.meson_command.proofs.CodeRequests.{inserts, no-number, not-code}
use Rattle.meson_command.proofs.code.insertion_action.Goals as goal

pub returns-in_err-blank-clause-refused : goal.returns-in_err-blank-clause-refused
returns-in_err-blank-clause-refused c =
    let found = found_of c.args.matches.now in
    let folder : Option Text = option_map (λ w. w.now) c.args.folder in
    let named = ap code_operation (sym c.word_or.ensures) ∙ sym c.find_code_operation.ensures ∙ c.in-Some.is in
    let has = sym c.code_word.ensures ∙ ap (option_map (λ w. w.now)) c.in-Some-code_word.is in
    let given = c.get_str.ensures ∙ first_value-rows found (codes "N") in
    let p = err_from_is_err_and c.from_residual-in_err-blank.result c.from_residual-in_err-blank.ensures.1 in
    rw (p.1, p.2) (λ n. no-number folder (rows_of found) _ _ _ _ named has (sym c.in_ok-place.ensures ∙ c.in-Some-2.is) (sym (c.in_err-blank.ensures ∙ ap blank_in given)))

pub returns-in_default-3-clause-refused : goal.returns-in_default-3-clause-refused
returns-in_default-3-clause-refused c = λ n.
    let found = found_of c.args.matches.now in
    let folder : Option Text = option_map (λ w. w.now) c.args.folder in
    let named = ap code_operation (sym c.word_or.ensures) ∙ sym c.find_code_operation.ensures ∙ c.in-Some.is in
    let has = sym c.code_word.ensures ∙ ap (option_map (λ w. w.now)) c.in-Some-code_word.is in
    let given = c.get_str.ensures ∙ first_value-rows found (codes "N") in
    not-code folder (rows_of found) _ _ _ _ named has (sym c.in_ok-place.ensures ∙ c.in-Some-2.is) (sym (c.in_ok-blank.ensures ∙ ap blank_in given))
    (sym c.in_ok-code.ensures.code ∙ c.in_default-3.is)

pub returns-clause-ok : goal.returns-clause-ok
returns-clause-ok c =
    let found = found_of c.args.matches.now in
    let folder : Option Text = option_map (λ w. w.now) c.args.folder in
    let named = ap code_operation (sym c.word_or.ensures) ∙ sym c.find_code_operation.ensures ∙ c.in-Some.is in
    let has = sym c.code_word.ensures ∙ ap (option_map (λ w. w.now)) c.in-Some-code_word.is in
    let given = c.get_str.ensures ∙ first_value-rows found (codes "N") in
    let all = inserts folder (rows_of found) _ _ _ _ _ named has (sym c.in_ok-place.ensures ∙ c.in-Some-2.is) (sym (c.in_ok-blank.ensures ∙ ap blank_in given))
    (sym c.in_ok-code.ensures.code ∙ c.in-Some-3.is) in
    IfOk-weaker c.run.result _ _ (λ a is. all ∙ ap (λ (x : Action). Ok x) (sym is)) c.run.ensures.ok
