use Rattle.meson_variables.proofs.Words.{◌≡◌, ◌∙◌, sym, ap, Bool, ◌&&◌, not, is_some, true, false, Option, Some, None, option_map, is_none, string_bytes}
use Rattle.meson_variables.proofs.Words.{bytes_eq, codes, refl, text_at, list_view, first_literal, call_with}
use Rattle.meson_variables.proofs.unknown_setters.sets_unknown.Goals as goal

none_alike : {A B : Type 0} (f : A → B) (o : Option A) → is_none o ≡ is_none (option_map f o)
none_alike f None = refl
none_alike f (Some x) = refl

turned : {A : Type 0} (o : Option A) (b : Bool) → is_some o ≡ not b → b ≡ is_none o
turned None true is = refl
turned None false is = cc
turned (Some x) true is = cc
turned (Some x) false is = refl

pub returns-in_ok-name : goal.returns-in_ok-name
returns-in_ok-name c =
    let call = call_with (text_at c.args.source.now c.args.function) (list_view c.args.source.now c.args.arguments.now) in
    let is_it : bytes_eq call.function (codes "set_variable") ≡ true =
    ap (λ t. bytes_eq t (codes "set_variable")) (sym c.text_of.ensures) ∙ ap (bytes_eq c.text_of.result.now) (sym c.as_slice.ensures) ∙ sym c.eq.ensures ∙ c.if-eq.true in
    turned c.in_ok-name.name c.is_none.result c.is_none.ensures ∙ none_alike string_bytes c.in_ok-name.name ∙ ap is_none (c.in_ok-name.ensures call.function)
    ∙ ap (λ b. b && is_none (first_literal call)) (sym is_it)
