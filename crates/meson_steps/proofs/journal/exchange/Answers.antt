use Rattle.meson_steps.proofs.Words.{◌≡◌, ◌∙◌, ◌∷◌, ◌++◌, [], ap, get_or, subst, sym, slice_set, PutsBack}
use Rattle.meson_steps.specs.declared.journal.Saved.TheVariants as saved
use Rattle.meson_steps.proofs.Restoring.{put_tree, puts_back_more}
use Rattle.meson_steps.proofs.journal.exchange.Goals as goal

pub returns-clause-restores : goal.returns-clause-restores
returns-clause-restores c = λ first p.
    let file = c.args.file in
    let trees = c.args.trees.now.items in
    let more = c.args.saved.now.items in
    let d = c.index_mut.result.now in
    let after = slice_set trees file c.replace-tree.new.dest in
    let are : c.push_reserved.new.self.items ≡ more ++ saved.Tree file (get_or trees file d) ∷ [] =
    c.push_reserved.ensures.items ∙ ap (λ l. l ++ saved.Tree file c.replace-tree.result ∷ []) c.in_ok-reserve.ensures.items
    ∙ ap (λ t. more ++ saved.Tree file t ∷ []) (c.replace-tree.ensures.value ∙ c.index_mut.ensures.value) in
    subst (λ l. PutsBack l after first) (sym are) (puts_back_more more (saved.Tree file (get_or trees file d)) trees after first tt (put_tree trees file d c.replace-tree.new.dest) p)
