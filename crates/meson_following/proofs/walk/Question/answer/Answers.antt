use Rattle.std.proofs.Common.{rules, ◌≡◌, length, sym, ap, ◌∙◌}
use Rattle.std.specs.Prelude.{None, Some}
use Rattle.meson_following.specs.Walks.{file_flow, met_among, nothing_found}
use Rattle.meson_following.proofs.ReadFiles.{from_root, root_flow}
use Rattle.meson_following.proofs.walk.Question.answer.Goals as goal

pub returns-in_default : goal.returns-in_default
returns-in_default c =
    let q = c.args.self.now in
    let none : c.find.result ≡ None = search rules in
    c.nothing-found.ensures ∙ ap (λ f. met_among q nothing_found f.arrivals) (root_flow q None c.requires (sym c.find.ensures ∙ none))

pub returns : goal.returns
returns c =
    let q = c.args.self.now in
    let root = c.in-Some.root in
    c.in_ok-in_file.ensures.found
    ∙ ap (λ found. met_among q found (file_flow q (length q.trees.now) root None).arrivals) c.nothing-found.ensures
    ∙ ap (λ f. met_among q nothing_found f.arrivals) (from_root q root c.requires ∙ root_flow q (Some root) c.requires (sym c.find.ensures ∙ c.in-Some.is))
