use Rattle.std.proofs.Common.{◌≡◌, ◌∙◌, Bool, List, None, Option, Some, ap, ap₂, sym, codes}
use Rattle.std.specs.Prelude.{option_map}
use Rattle.std.proofs.lemmas.Result.{IfErr-weaker, IfOk-weaker}
use Rattle.clap.specs.Words.{Row, Text, first_of, found_of, rows_of}
use Rattle.clap.proofs.WalkLemmas.{first_value-rows}
use Rattle.meson_command.specs.Actions.{has_flag, list_action, list_with}
use Rattle.meson_command.specs.declared.fault.UsageFault.TheVariants.{OutOfMemory}
use Rattle.meson_command.proofs.Reading.{answered, refused}
use Rattle.meson_command.proofs.history.list_action.Goals as goal

asks : (rows : List Row) (function : Option Text) (json sums : Bool) → first_of (codes "FUNCTION") rows ≡ function → json ≡ has_flag (codes "json") rows → sums ≡ has_flag (codes "sums") rows
    → list_with function json sums ≡ list_action rows
asks rows function json sums word j s = ap₂ (list_with function) j s ∙ ap (λ o. list_with o (has_flag (codes "json") rows) (has_flag (codes "sums") rows)) (sym word)

pub returns-in-Some-clause-ok : goal.returns-in-Some-clause-ok
returns-in-Some-clause-ok c =
    let found = found_of c.args.matches.now in
    let word = sym (c.get_str.ensures ∙ first_value-rows found (codes "FUNCTION")) ∙ ap (option_map (λ w. w.now)) c.in-Some.is in
    let all = asks (rows_of found) (Some c.in-Some.function.now) c.is_set-json.result c.is_set-sums.result word c.is_set-json.ensures c.is_set-sums.ensures in
    IfOk-weaker c.list_of.result _ _ (λ a is. sym all ∙ is) c.list_of.ensures.ok

pub returns-in-Some-clause-refused : goal.returns-in-Some-clause-refused
returns-in-Some-clause-refused c =
    let found = found_of c.args.matches.now in
    let word = sym (c.get_str.ensures ∙ first_value-rows found (codes "FUNCTION")) ∙ ap (option_map (λ w. w.now)) c.in-Some.is in
    let all = asks (rows_of found) (Some c.in-Some.function.now) c.is_set-json.result c.is_set-sums.result word c.is_set-json.ensures c.is_set-sums.ensures in
    IfErr-weaker c.list_of.result _ _ (λ e is some. sym all ∙ is some) c.list_of.ensures.refused

pub returns-in-None-clause-ok : goal.returns-in-None-clause-ok
returns-in-None-clause-ok c =
    let found = found_of c.args.matches.now in
    let word = sym (c.get_str.ensures ∙ first_value-rows found (codes "FUNCTION")) ∙ ap (option_map (λ w. w.now)) c.in-None.is in
    answered _ _ (c.list_by.ensures ∙ asks (rows_of found) None c.is_set-json.result c.is_set-sums.result word c.is_set-json.ensures c.is_set-sums.ensures)

pub returns-in-None-clause-refused : goal.returns-in-None-clause-refused
returns-in-None-clause-refused c =
    let found = found_of c.args.matches.now in
    let word = sym (c.get_str.ensures ∙ first_value-rows found (codes "FUNCTION")) ∙ ap (option_map (λ w. w.now)) c.in-None.is in
    refused OutOfMemory _ _ (c.list_by.ensures ∙ asks (rows_of found) None c.is_set-json.result c.is_set-sums.result word c.is_set-json.ensures c.is_set-sums.ensures)
