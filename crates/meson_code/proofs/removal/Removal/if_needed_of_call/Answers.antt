use Rattle.std.proofs.Common.{◌≡◌, ◌∷◌, [], ◌∙◌, sym, ap}
use Rattle.std.specs.Prelude.{bytes_eq, codes, if◌then◌else◌, option_map, string_bytes, true}
use Rattle.std.specs.List.{find}
use Rattle.std.specs.Option.{option_to_list}
use Rattle.std.proofs.lemmas.Result.{IfOk-weaker}
use Rattle.meson_syntax.specs.View.{list_view, text_at}
use Rattle.meson_calls.specs.Calls.{first_literal}
use Rattle.meson_calls.specs.ChosenNotes.{call_with}
use Rattle.meson_targets.specs.inside.TargetViews.{place_view}
use Rattle.meson_places.specs.Names.{loaded_in}
use Rattle.meson_code.specs.Removal.{is_needed}
use Rattle.meson_code.proofs.removal.Removal.if_needed_of_call.Goals as goal

pub returns-in-Some : goal.returns-in-Some
returns-in-Some c =
    let needed = is_needed (loaded_in c.args.self.now.sources) (place_view c.args.self.now.statement.now) in
    let f = text_at c.args.source.now c.args.function in
    let call = call_with f (list_view c.args.source.now c.args.arguments.now) in
    let sets : bytes_eq f (codes "set_variable") ≡ true = ap (λ t. bytes_eq t (codes "set_variable")) (sym c.text_of.ensures) ∙ sym c.sets_variable.ensures ∙ c.if-not-sets_variable.false in
    let same =
    ap (λ x. find needed (x ∷ [])) c.as_str.ensures.value
    ∙ ap (λ o. find needed (option_to_list o)) (ap (option_map string_bytes) (sym c.in-Some.is) ∙ c.in_ok-text.ensures f)
    ∙ ap (λ b. find needed (if b then option_to_list (first_literal call) else [])) (sym sets) in
    IfOk-weaker c.if_needed.result _ _ (λ found is. is ∙ same) c.if_needed.ensures

pub returns-in-None : goal.returns-in-None
returns-in-None c =
    let needed = is_needed (loaded_in c.args.self.now.sources) (place_view c.args.self.now.statement.now) in
    let f = text_at c.args.source.now c.args.function in
    let call = call_with f (list_view c.args.source.now c.args.arguments.now) in
    let sets : bytes_eq f (codes "set_variable") ≡ true = ap (λ t. bytes_eq t (codes "set_variable")) (sym c.text_of.ensures) ∙ sym c.sets_variable.ensures ∙ c.if-not-sets_variable.false in
    ap (λ o. find needed (option_to_list o)) (ap (option_map string_bytes) (sym c.in-None.is) ∙ c.in_ok-text.ensures f)
    ∙ ap (λ b. find needed (if b then option_to_list (first_literal call) else [])) (sym sets)
