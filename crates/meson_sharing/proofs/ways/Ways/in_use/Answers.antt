use Rattle.std.proofs.Common.{◌++◌, refl, ap, ◌∙◌, arith}
use Rattle.std.proofs.lemmas.Result.{on_ok_weaker}
use Rattle.meson_calls.specs.Project.{place}
use Rattle.meson_calls.proofs.WalkedWords.{args_width, call_fits, tails_fit}
use Rattle.meson_sharing.specs.Sharing.{passes_on}
use Rattle.meson_sharing.proofs.UseTurns.{call_taken, passed_on, postfix_uses}
use Rattle.meson_sharing.proofs.ways.Ways.in_use.Goals as goal

pub in_all_given-requires : goal.in_all_given-requires
in_all_given-requires c =
    let source = c.args.self.now.source.now in
    let fits = call_fits source _ _ _ _ _ c.in-Call.is c.requires in
    omega (arith, fits, ap (args_width source) c.get.ensures)

pub in_tails-requires : goal.in_tails-requires
in_tails-requires c = tails_fit c.args.self.now.source.now _ _ _ _ _ _ c.in-Postfix.is c.get-in-Postfix.ensures c.requires

pub returns-then-passes_on : goal.returns-then-passes_on
returns-then-passes_on c =
    let source = c.args.self.now.source.now in
    let it = c.in-Call in
    passed_on source (place c.args.self.now.file c.args.path.now.items) c.args.expr.now it.span it.name it.arguments it.arguments.items it.is refl c.passes_on.result
    (c.passes_on.ensures ∙ ap passes_on c.text_of.ensures) c.if-passes_on.true c.args.found.now.items

pub returns-in_ok-in_all_given-in-Call : goal.returns-in_ok-in_all_given-in-Call
returns-in_ok-in_all_given-in-Call c =
    let source = c.args.self.now.source.now in
    let it = c.in-Call in
    call_taken source (place c.args.self.now.file c.args.path.now.items) c.args.expr.now it.span it.name it.arguments c.get.result.now it.is c.get.ensures c.passes_on.result
    (c.passes_on.ensures ∙ ap passes_on c.text_of.ensures) c.if-passes_on.false c.args.found.now.items c.in_all_given.new.found.items c.in_ok-in_all_given-in-Call.ensures.all

pub returns-in-Postfix : goal.returns-in-Postfix
returns-in-Postfix c =
    let source = c.args.self.now.source.now in
    let it = c.in-Postfix in
    on_ok_weaker c.in_tails.result
    (λ taken. taken ∙ ap (λ us. c.args.found.now.items ++ us) (postfix_uses source (place c.args.self.now.file c.args.path.now.items) c.args.expr.now it.span it.base it.tails
    c.get-in-Postfix.result.now it.is c.get-in-Postfix.ensures))
    c.in_tails.ensures.all
