use Rattle.std.proofs.Common.{◌++◌, ap, ◌∙◌}
use Rattle.std.proofs.lemmas.Result.{on_ok_weaker}
use Rattle.meson_calls.specs.Project.{place}
use Rattle.meson_calls.proofs.WalkedWords.{method_fits}
use Rattle.meson_sharing.proofs.UseTurns.{method_uses}
use Rattle.meson_sharing.proofs.ways.Ways.in_tail.Goals as goal

pub in_all_given-requires : goal.in_all_given-requires
in_all_given-requires c = method_fits c.args.self.now.source.now _ _ _ _ _ _ _ c.in-Method.is c.get.ensures c.requires

pub returns-in-Method-clause-all : goal.returns-in-Method-clause-all
returns-in-Method-clause-all c =
    let source = c.args.self.now.source.now in
    let q = place c.args.self.now.file c.args.path.now.items in
    let it = c.in-Method in
    on_ok_weaker c.in_all_given.result
    (λ taken. taken ∙ ap (λ us. c.args.found.now.items ++ us) (method_uses source q c.args.tail.now it.span it.name it.arguments c.get.result.now c.args.number it.is c.get.ensures))
    c.in_all_given.ensures.all
