use Rattle.std.proofs.Common.{rules, ◌≡◌, ◌++◌, [], sym, ap, ◌∙◌, append-nil}
use Rattle.std.specs.Prelude.{None}
use Rattle.std.specs.List.{cons_option}
use Rattle.meson_following.proofs.Entering.{number_is}
use Rattle.meson_following.proofs.walk.Question.add_number.Goals as goal

pub returns-in_default : goal.returns-in_default
returns-in_default c =
    let q = c.args.self.now in
    let items = c.args.numbers.now.items in
    let none : c.find.result ≡ None = search rules in
    let number = number_is q.files.now q.trees.now c.args.name.now c.requires.parsed ∙ sym c.find.ensures ∙ none in
    sym (append-nil items) ∙ ap (λ o. items ++ cons_option o []) (sym number)

pub returns : goal.returns
returns c =
    let q = c.args.self.now in
    let items = c.args.numbers.now.items in
    let number = number_is q.files.now q.trees.now c.args.name.now c.requires.parsed ∙ sym c.find.ensures ∙ c.in-Some.is in
    c.in_ok-push.ensures.items ∙ ap (λ o. items ++ cons_option o []) (sym number)
