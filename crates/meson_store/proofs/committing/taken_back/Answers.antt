use Rattle.std.proofs.Common.{◌∙◌, ◌++◌, map, take, reverse, ap, subst}
use Rattle.std.proofs.lemmas.List.{take-map}
use Rattle.meson_store.specs.Commit.{GoBack, fault_of}
use Rattle.meson_store.specs.inside.Commit.{names_of}
use Rattle.meson_store.specs.inside.Planned.{put_of}
use Rattle.meson_store.specs.Seen.{seen}
use Rattle.meson_store.proofs.Returns.{failed-name, gone-back}
use Rattle.meson_store.proofs.committing.taken_back.Goals as goal

pub put_back-requires-clause-named : goal.put_back-requires-clause-named
put_back-requires-clause-named g c =
    let tried = c.count_tried-tried.result in
    c.truncate.ensures.items
    ∙ ap (take tried) (c.requires.same ∙ c.requires.named)
    ∙ take-map (λ p. p.name) tried (map put_of c.args.files.now)
    ∙ ap names_of (take-map put_of tried c.args.files.now)

pub returns-clause-gone_back : goal.returns-clause-gone_back
returns-clause-gone_back g c done rest failed split many =
    let before = seen (g.S.Store.content c.args.store.now) (g.S.Store.failures c.args.store.now) (g.S.Store.replaces c.args.store.now) in
    let after = seen (g.S.Store.content c.put_back.new.store) (g.S.Store.failures c.put_back.new.store) (g.S.Store.replaces c.put_back.new.store) in
    let still = c.put_back.ensures.gone_back.0 in
    let why = c.args.halt.error in (
      still,
      subst (λ fs. GoBack fs before after still)
          (ap (λ k. reverse (map put_of (take k c.args.files.now))) c.count_tried-tried.ensures ∙ gone-back c.args.files.now c.args.halt.done done rest failed split many why) c.put_back.ensures.gone_back.1,
      c.fault_of.ensures
          ∙ ap (λ n. fault_of n why c.put_back.new.lost.items)
          (c.swap_remove.ensures.value ∙ failed-name c.args.files.now c.args.halt.done done rest failed split many c.args.names.items c.requires.named c.swap_remove.result)
          ∙ ap (fault_of failed.name why) (c.put_back.ensures.gone_back.2 ∙ ap (λ l. l ++ still) c.requires.none),
    )
