use Rattle.meson_targets.proofs.Words.{Some, None, sym, ap, ◌∙◌, option_map, string_bytes, eqb-true, eqb-false, position_of_file, as_many}
use Rattle.meson_targets.proofs.NewTargets.{root_number, folder_number}
use Rattle.meson_targets.proofs.target_adding.number_in.Goals as goal

pub returns-in-Some-clause-found : goal.returns-in-Some-clause-found
returns-in-Some-clause-found c =
    let n = c.args.noted.now in
    root_number n.files.now n.trees.now (as_many n.files.now n.trees.now c.requires.parsed) c.args.folder.now (eqb-true _ _ (sym c.is_empty.ensures ∙ c.if-is_empty.true)) (Some c.in-Some.number) c.in-Some.ensures

pub returns-in-None-clause-refused : goal.returns-in-None-clause-refused
returns-in-None-clause-refused c = λ other.
    let n = c.args.noted.now in
    root_number n.files.now n.trees.now (as_many n.files.now n.trees.now c.requires.parsed) c.args.folder.now (eqb-true _ _ (sym c.is_empty.ensures ∙ c.if-is_empty.true)) None c.in-None.ensures

pub returns-in-Some-find-clause-found : goal.returns-in-Some-find-clause-found
returns-in-Some-find-clause-found c =
    let n = c.args.noted.now in
    folder_number n.files.now n.trees.now (as_many n.files.now n.trees.now c.requires.parsed) c.args.folder.now (eqb-false _ _ (sym c.is_empty.ensures ∙ c.if-is_empty.false)) (string_bytes c.in-Some-2.name)
    (sym c.in_ok-name.ensures ∙ ap (option_map string_bytes) c.in-Some-2.is) (Some c.in-Some-find.number) (c.in-Some-find.ensures ∙ ap (λ x. position_of_file x n.files.now) c.as_str.ensures.value)

pub returns-clause-refused : goal.returns-clause-refused
returns-clause-refused c = λ other.
    let n = c.args.noted.now in
    folder_number n.files.now n.trees.now (as_many n.files.now n.trees.now c.requires.parsed) c.args.folder.now (eqb-false _ _ (sym c.is_empty.ensures ∙ c.if-is_empty.false)) (string_bytes c.in-Some-2.name)
    (sym c.in_ok-name.ensures ∙ ap (option_map string_bytes) c.in-Some-2.is) None (c.in-None-find.ensures ∙ ap (λ x. position_of_file x n.files.now) c.as_str.ensures.value)
