use Rattle.meson_steps.proofs.Words.{ap, ◌∙◌, sym, option_map, a_block, a_statement, layer_view, next_layer}
use Rattle.meson_steps.proofs.statements.Layer.child.Goals as goal

pub returns-in-Some : goal.returns-in-Some
returns-in-Some c = λ source. ap (option_map a_statement) (c.in-Some.ensures source) ∙ sym (ap (λ x. next_layer (layer_view source x) c.args.n) c.in-Block.is)

pub returns-in-None : goal.returns-in-None
returns-in-None c = λ source. ap (option_map a_statement) (c.in-None.ensures source) ∙ sym (ap (λ x. next_layer (layer_view source x) c.args.n) c.in-Block.is)

pub returns-in-Some-block_of : goal.returns-in-Some-block_of
returns-in-Some-block_of c = λ source. ap (option_map a_block) (c.in-Some-block_of.ensures source) ∙ sym (ap (λ x. next_layer (layer_view source x) c.args.n) c.in-Stmt.is)

pub returns-in-None-block_of : goal.returns-in-None-block_of
returns-in-None-block_of c = λ source. ap (option_map a_block) (c.in-None-block_of.ensures source) ∙ sym (ap (λ x. next_layer (layer_view source x) c.args.n) c.in-Stmt.is)
