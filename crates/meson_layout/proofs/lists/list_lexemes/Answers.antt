use Rattle.std.proofs.Common.{◌-◌, ◌<◌, ◌^◌, [], ◌∷◌, ◌++◌, arith, length, take, ap, ap₂, ◌∙◌}
use Rattle.meson_lex.specs.declared.kinds.Kind.TheVariants.{Identifier}
use Rattle.meson_lex.specs.Items.{Lexeme, joined}
use Rattle.meson_layout.proofs.Fronts.{slice-length, up_to-all}
use Rattle.meson_layout.proofs.lists.list_lexemes.Goals as goal

pub returns-clause-done : goal.returns-clause-done
returns-clause-done c = λ xs list.
    let size = ap length list.joins ∙ slice-length c.args.src.now c.args.list.from c.args.list.to c.requires.ordered c.requires.within in
    let within = c.requires.within in
    let short : length (joined xs) < 2 ^ 64 - 1 = omega arith in
    let front : Lexeme = record { kind = Identifier; text = take c.args.list.from c.args.src.now } in
    c.in_ok-append.ensures.items
    ∙ ap₂ (λ ys zs. ys ++ zs) (c.push_reserved.ensures.items ∙ ap (λ ys. ys ++ front ∷ []) c.in_ok-all.ensures.items) (c.in_ok-items.ensures.done xs list ∙ up_to-all (2 ^ 64 - 1) xs short)
