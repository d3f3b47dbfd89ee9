use Rattle.std.proofs.Common.{◌≡◌, rules, ◌∷◌, Ok, Err, ap, sym, ◌∙◌, refl}
use Rattle.meson_lex.specs.declared.kinds.Item.{Item}
use Rattle.meson_syntax.specs.inside.Gathering.{gathered_tokens, no_tokens, gathered_with}
use Rattle.meson_syntax.specs.inside.Tokens.{tokens_of}
use Rattle.meson_syntax.proofs.Gathered.{within_step, folded_step, stepped_source, whole_from, faulty_from}
use Rattle.meson_syntax.proofs.significant.tokens.Goals as goal

pub loop-item-preserved : goal.loop-item-preserved
loop-item-preserved c =
    let x : Item = c.in-Ok.item in
    let are : c.loop-item.item-iterator ≡ Ok x ∷ c.next.new.self = c.in-Some.ensures.steps ∙ ap (λ i. i ∷ c.next.new.self) c.in-Ok.is in
    let is : c.take.new.self ≡ gathered_with c.loop-item.gathered x = search rules in
    record {
      source = stepped_source _ _ x _ is c.loop-item.invariant.source;
      folded = c.loop-item.invariant.folded ∙ folded_step x _ _ _ _ are is;
      within = within_step _ x _ _ _ _ are is c.loop-item.invariant.within;
    }

-- what the lexer gave, and what was left of it
given : (c : goal.After-drop-gathered-inside-in-Err) → c.loop-item.item-iterator ≡ Err c.in-Err.fault ∷ c.next.new.self
given c = c.in-Some.ensures.steps ∙ ap (λ i. i ∷ c.next.new.self) c.in-Err.is

pub returns-in-Err-clause-faulty : goal.returns-in-Err-clause-faulty
returns-in-Err-clause-faulty c = λ some.
    let results = c.items-item-items.result in
    let all : gathered_tokens (no_tokens c.args.source.now) results ≡ Err c.in-Err.fault =
    ap (λ g. gathered_tokens g results) (sym c.in_ok-gathered.ensures)
    ∙ ap (gathered_tokens c.in_ok-gathered.gathered) (sym c.into_iter-item-iterator.ensures.into_iter_gives)
    ∙ c.loop-item.invariant.folded
    ∙ ap (gathered_tokens c.loop-item.gathered) (given c) in
    (c.in-Err.fault, refl, faulty_from c.args.source.now results c.in-Err.fault c.items-item-items.ensures.lexed all)

pub returns-clause-whole : goal.returns-clause-whole
returns-clause-whole c =
    let results = c.items-item-items.result in
    let ts = tokens_of c.args.source.now c.in_ok-close.field-0.items in
    let all : gathered_tokens (no_tokens c.args.source.now) results ≡ Ok ts =
    ap (λ g. gathered_tokens g results) (sym c.in_ok-gathered.ensures)
    ∙ ap (gathered_tokens c.in_ok-gathered.gathered) (sym c.into_iter-item-iterator.ensures.into_iter_gives)
    ∙ c.loop-item.invariant.folded
    ∙ ap (gathered_tokens c.loop-item.gathered) c.in-None.ensures.steps.0
    ∙ ap Ok (sym c.in_ok-close.ensures)
    ∙ ap (λ s. Ok (tokens_of s c.in_ok-close.field-0.items)) c.loop-item.invariant.source in
    whole_from c.args.source.now results ts c.items-item-items.ensures.lexed all
